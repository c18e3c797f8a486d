use Rattle.mta_state.specs.Parts.{machine_of}
use Rattle.mta_replay.proofs.Made.{delivery_is}
use Rattle.mta_replay.proofs.deliver.made_of_affirmation.Goals as goal

pub returns : goal.returns
returns g c =
    delivery_is (machine_of c.args.kept.now.parts) (g.R.Rules.text c.args.rules.now) c.args.item.now
    c.args.recipient c.args.moment c.in_ok-first.first c.next_number.result c.next_number.ensures
    c.in_ok-first.ensures
