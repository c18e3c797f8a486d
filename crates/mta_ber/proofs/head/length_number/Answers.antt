use Rattle.std.proofs.Common.{arith}
use Rattle.mta_ber.proofs.Numbers.{room_8}
use Rattle.mta_ber.proofs.head.length_number.Goals as goal

pub overflow_mul-n : goal.overflow_mul-n
overflow_mul-n c = omega (
  arith,
  room_8 c.loop-octet.octet-index c.loop-octet.n (omega arith) c.loop-octet.invariant.below,
)

pub overflow_add-n : goal.overflow_add-n
overflow_add-n c = omega (
  arith,
  room_8 c.loop-octet.octet-index c.loop-octet.n (omega arith) c.loop-octet.invariant.below,
  c.type_inv.octets c.loop-octet.octet-index,
)
