use Rattle.mta_apdu_text.proofs.Bits.{BitsLeft}
use Rattle.mta_apdu_text.proofs.pieces.put_bits.Given as goal

abbrev pub invariant-loop-place : goal.invariant-loop-place
invariant-loop-place l = BitsLeft l.bits l.count l.fn.out l.place l.out
