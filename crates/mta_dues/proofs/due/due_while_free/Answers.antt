use Rattle.std.proofs.Common.{List, Option, Some, sym, ap, subst, ◌∙◌}
use Rattle.mta_records.specs.declared.step.Step.{Step}
use Rattle.mta_procedures.specs.declared.verdict.Verdict.{Verdict}
use Rattle.mta_machine.specs.Items.{ItemValue}
use Rattle.mta_machine.specs.Machine.{verdict_on}
use Rattle.mta_state.specs.Kept.{state_of}
use Rattle.mta_dues.specs.Answers.{IsDueOf, step_by}
use Rattle.mta_dues.proofs.Recipients.{by_verdict}
use Rattle.mta_dues.proofs.due.due_while_free.Goals as goal

pub returns : goal.returns
returns g c =
    subst
    (λ (d : Option Step). IsDueOf (state_of c.args.kept.now) c.args.number c.args.recipient c.args.moment d)
    (sym
    (c.step_by.ensures
    ∙ ap (λ (v : Option Verdict). step_by v c.args.number c.args.recipient c.args.moment)
    (c.in_ok-verdict.ensures.exact
    ∙ ap
    (λ (items : List ItemValue).
    verdict_on (g.R.Rules.format c.args.rules.now) items (Some (g.R.Rules.text c.args.rules.now)) (Some c.args.item.now)
    c.args.recipient
    c.args.moment)
    c.as_slice-items.ensures.value)))
    (by_verdict (state_of c.args.kept.now) c.args.number c.args.recipient c.args.moment
    (g.R.Rules.format c.args.rules.now) (g.R.Rules.text c.args.rules.now) c.args.item.now c.requires.text
    c.requires.format c.requires.item c.requires.pending
    c.requires.free)
