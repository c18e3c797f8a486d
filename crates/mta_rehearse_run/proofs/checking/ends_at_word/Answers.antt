-- The walk goes round where the name goes back to one of its agents.
use Rattle.std.proofs.Common.{◌↔◌, sym, subst}
use Rattle.std.specs.Prelude.{IsTrue}
use Rattle.mta_rehearse_run.specs.declared.walked.WalkEnd.{WalkEnd}
use Rattle.mta_rehearse_run.specs.Turns.{to_word}
use Rattle.mta_rehearse_run.specs.Walks.{EndsBy}
use Rattle.mta_rehearse_run.proofs.Ends.{loop_ends}
use Rattle.mta_rehearse_run.proofs.checking.ends_at_word.Goals as goal

pub returns-in-Loop : goal.returns-in-Loop
returns-in-Loop c =
    let agents = c.args.agents.now in
    let word = c.args.word.now in
    let walked = c.args.walked.now in
    subst (λ (e : WalkEnd). IsTrue c.goes_back.result ↔ EndsBy (to_word agents word) walked e) (sym c.in-Loop.is)
    (loop_ends agents word walked c.in-Loop.place c.goes_back.result c.goes_back.ensures)
