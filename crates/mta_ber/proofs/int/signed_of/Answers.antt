use Rattle.std.proofs.Common.{arith}
use Rattle.std.proofs.lemmas.Int.{ints}
use Rattle.mta_ber.proofs.Numbers.{below_half, complement_below_half, signed_low, signed_high}
use Rattle.mta_ber.proofs.int.signed_of.Goals as goal

pub overflow_cast-result : goal.overflow_cast-result
overflow_cast-result c =
    let lt = complement_below_half c.args.octets.now c.requires c.if-is_negative.ensures in
    omega (arith, ints, lt, c.complement_number.ensures)

pub overflow_cast-result-else-is_negative : goal.overflow_cast-result-else-is_negative
overflow_cast-result-else-is_negative c =
    let lt = below_half c.args.octets.now c.requires c.if-is_negative.ensures in
    omega (arith, ints, lt, c.length_number.ensures)

pub returns-then-is_negative : goal.returns-then-is_negative
returns-then-is_negative c =
    let lt = complement_below_half c.args.octets.now c.requires c.if-is_negative.ensures in
    signed_high c.args.octets.now c.complement_number.result c.if-is_negative.ensures c.complement_number.ensures
    (omega (arith, lt, c.complement_number.ensures))

pub returns-else-is_negative : goal.returns-else-is_negative
returns-else-is_negative c =
    let lt = below_half c.args.octets.now c.requires c.if-is_negative.ensures in
    signed_low c.args.octets.now c.length_number.result c.if-is_negative.ensures c.length_number.ensures
    (omega (arith, lt, c.length_number.ensures))
