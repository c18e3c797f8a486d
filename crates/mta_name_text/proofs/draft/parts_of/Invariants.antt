use Rattle.std.proofs.Common.{◌≡◌, drop}
use Rattle.mta_name_text.specs.Reading.{read_on, nothing_read}
use Rattle.mta_name_text.proofs.draft.parts_of.Given as goal

abbrev pub invariant-loop-i : goal.invariant-loop-i
invariant-loop-i l = read_on l.grammar l.i l.draft (drop l.i l.text) ≡ read_on l.grammar 0 nothing_read l.text
