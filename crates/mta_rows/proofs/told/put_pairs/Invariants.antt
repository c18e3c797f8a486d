use Rattle.std.proofs.Common.{◌≡◌, ◌++◌, take, string_bytes}
use Rattle.mta_rows.specs.Texts.{spaced_pairs}
use Rattle.mta_rows.proofs.told.put_pairs.Given as goal

abbrev pub invariant-loop-octet : goal.invariant-loop-octet
invariant-loop-octet l = string_bytes l.text ≡ string_bytes l.initial.text ++ spaced_pairs (take l.octet-index l.octets)
