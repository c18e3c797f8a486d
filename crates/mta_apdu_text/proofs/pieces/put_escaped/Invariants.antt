use Rattle.std.proofs.Common.{◌≡◌, ◌++◌, take}
use Rattle.mta_apdu_text.specs.Pieces.{escaped_text}
use Rattle.mta_apdu_text.proofs.pieces.put_escaped.Given as goal

abbrev pub invariant-loop-octet : goal.invariant-loop-octet
invariant-loop-octet l = l.out ≡ l.fn.out ++ escaped_text (take l.octet-index l.octets)
