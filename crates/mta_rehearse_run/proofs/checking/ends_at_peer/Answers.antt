-- The walk ends as the peer's name says.
use Rattle.std.proofs.Common.{ℕ, List, ◌↔◌, subst}
use Rattle.std.specs.Prelude.{IsTrue, Option}
use Rattle.mta_tables.specs.declared.entry.Peer.{Peer}
use Rattle.mta_rehearse_run.specs.Turns.{to_known, to_word}
use Rattle.mta_rehearse_run.specs.Walks.{EndsBy}
use Rattle.mta_rehearse_run.proofs.checking.ends_at_peer.Goals as goal

pub returns-in-Some : goal.returns-in-Some
returns-in-Some c =
    let agents = c.args.agents.now in
    let walked = c.args.walked.now in
    let end = c.args.end.now in
    let r = c.ends_at_word.result in
    subst (λ (o : Option Peer). IsTrue r ↔ EndsBy (to_known agents o) walked end) c.in-Some.ensures
    (subst (λ (w : List ℕ). IsTrue r ↔ EndsBy (to_word agents w) walked end) c.as_slice.ensures.exact
    c.ends_at_word.ensures)
