use Rattle.mta_ber.specs.Seen.{view}
use Rattle.mta_ber.proofs.Steps.{required_so}
use Rattle.mta_rtse.proofs.IdentifierLaws.{parts_fit}
use Rattle.mta_rtse.proofs.identifier.reference_from.Goals as goal

pub new-requires : goal.new-requires
new-requires c =
    let calling = required_so _ _ _ c.in_ok-calling.ensures in
    let common = required_so _ _ _ c.in_ok-common.ensures in
    parts_fit (view c.args.whole.now) _ _ _ c.in_ok-take_parts.ensures calling common
