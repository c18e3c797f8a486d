-- When patterns are the same, and when lists differ in their words.
use Rattle.std.specs.Prelude.{◌≡◌, ℕ, List, map}
use Rattle.mta_names.specs.Normal.{normal_text}
use Rattle.mta_tables.specs.declared.entry.MailList.{MailList}

-- their parts have equal normal texts, place by place
abbrev pub IsSamePattern : List (List ℕ) → List (List ℕ) → Type 0
IsSamePattern p q = map normal_text p ≡ map normal_text q

abbrev pub DifferInWord : MailList → MailList → Type 0
DifferInWord earlier later = earlier.word ≡ later.word → ⊥
