use Rattle.std.proofs.Common.{arith}
use Rattle.mta_ber.proofs.Numbers.{room_7}
use Rattle.mta_ber.proofs.head.tag_number.Goals as goal

pub overflow_mul-n : goal.overflow_mul-n
overflow_mul-n c = omega (
  arith,
  room_7 c.loop-octet.octet-index c.loop-octet.n (omega arith) c.loop-octet.invariant.below,
)
