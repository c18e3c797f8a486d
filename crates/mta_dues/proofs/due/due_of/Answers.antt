use Rattle.std.proofs.Common.{sym, ◌∙◌}
use Rattle.mta_state.specs.Kept.{state_of}
use Rattle.mta_dues.proofs.Recipients.{not_pending}
use Rattle.mta_dues.proofs.due.due_of.Goals as goal

pub returns-then-not-pending : goal.returns-then-not-pending
returns-then-not-pending g c =
    not_pending (state_of c.args.kept.now) c.args.number c.args.recipient c.args.moment c.requires.kept
    (sym c.is_pending-pending.ensures ∙ c.if-not-pending.true)
