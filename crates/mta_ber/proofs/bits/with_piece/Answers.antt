use Rattle.std.proofs.Common.{arith}
use Rattle.mta_ber.proofs.BitLaws.{joined_below, fits_64}
use Rattle.mta_ber.proofs.bits.with_piece.Goals as goal

pub overflow_add-result-2 : goal.overflow_add-result-2
overflow_add-result-2 c =
    let below = joined_below c.before-2.inside.count c.shifted.result c.length_number.result c.args.unused
    c.args.octets.now c.requires.within c.length_number.ensures c.shifted.ensures.room in
    let fits = fits_64 _ _ below c.if-before-more-gt64.false in
    omega (arith, fits)

pub invariant_of-result-2 : goal.invariant_of-result-2
invariant_of-result-2 c = (
  omega arith,
  joined_below c.before-2.inside.count c.shifted.result c.length_number.result c.args.unused
      c.args.octets.now c.requires.within c.length_number.ensures c.shifted.ensures.room,
)
