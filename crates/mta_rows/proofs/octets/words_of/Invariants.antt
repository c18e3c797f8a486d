use Rattle.std.proofs.Common.{◌≡◌, map, take, string_bytes}
use Rattle.mta_rows.proofs.octets.words_of.Given as goal

abbrev pub invariant-loop-part : goal.invariant-loop-part
invariant-loop-part l = map string_bytes l.words.items ≡ map (λ x. x.now) (take l.part-index l.part-items)
