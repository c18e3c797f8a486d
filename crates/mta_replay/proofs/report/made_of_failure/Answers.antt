use Rattle.mta_state.specs.Parts.{machine_of}
use Rattle.mta_replay.proofs.Made.{failure_is}
use Rattle.mta_replay.proofs.report.made_of_failure.Goals as goal

pub returns : goal.returns
returns g c =
    failure_is (machine_of c.args.kept.now.parts) (g.R.Rules.text c.args.rules.now) c.args.item.now
    c.args.recipient c.args.moment c.in_ok-first.first c.next_number-number.result c.next_number-number.ensures
    c.args.reason c.args.diagnostic c.in_ok-first.ensures
