use Rattle.std.proofs.Common.{sym}
use Rattle.mta_ber.specs.Seen.{view}
use Rattle.mta_names.proofs.ExtensionLaws.{number_sound, number_small}
use Rattle.mta_names.proofs.bounded.read_code.Goals as goal

pub invariant_of-result : goal.invariant_of-result
invariant_of-result c =
    let v = c.args.part.now in
    number_small 0 32767 c.in_ok-number.number v.tag.constructed v.content.now
    (number_sound 0 32767 c.in_ok-number.number (view v) (sym c.in_ok-number.ensures))
