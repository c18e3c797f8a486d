use Rattle.std.proofs.Common.{◌≡◌, take, string_bytes}
use Rattle.mta_rows.specs.Texts.{shown_text}
use Rattle.mta_rows.proofs.told.shown.Given as goal

abbrev pub invariant-loop-octet : goal.invariant-loop-octet
invariant-loop-octet l = string_bytes l.text ≡ shown_text (take l.octet-index l.octets)
