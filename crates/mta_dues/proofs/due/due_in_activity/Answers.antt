use Rattle.mta_state.specs.Kept.{state_of}
use Rattle.mta_dues.proofs.Recipients.{none_sending}
use Rattle.mta_dues.proofs.due.due_in_activity.Goals as goal

pub returns-in-None : goal.returns-in-None
returns-in-None g c =
    none_sending (state_of c.args.kept.now) c.args.number c.args.recipient c.args.moment c.requires.busy
    c.in-None.ensures
