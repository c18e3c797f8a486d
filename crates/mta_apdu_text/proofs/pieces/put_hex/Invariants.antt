use Rattle.std.proofs.Common.{◌≡◌, ◌++◌, take}
use Rattle.mta_apdu_text.specs.Pieces.{hex_text}
use Rattle.mta_apdu_text.proofs.pieces.put_hex.Given as goal

abbrev pub invariant-loop-octet : goal.invariant-loop-octet
invariant-loop-octet l = l.out ≡ l.fn.out ++ hex_text (take l.octet-index l.octets)
