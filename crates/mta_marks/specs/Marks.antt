-- Marks of entries, their bodies, and what becomes of an entry by the marks before.
use Rattle.std.specs.Prelude.{◌≤◌, ◌<◌, ◌^◌, ◌==◌, ◌&&◌, ℕ, Bool, List, [], ◌∷◌, ◌++◌, IsTrue, nat_le, if◌then◌else◌}
use Rattle.std.specs.Str.{bytes_eq}
use Rattle.mta_records.specs.Fields.{a_number, a_word}
use Rattle.mta_records.specs.Form.{Form, both, narrowed}
use Rattle.mta_records.specs.Words.{is_word}
use Rattle.mta_marks.specs.declared.mark.Mark.{Mark}
use Rattle.mta_marks.specs.declared.mark.MarkKind.{MarkKind}
use Rattle.mta_marks.specs.declared.mark.MarkKind.TheVariants as Kinds
use Rattle.mta_marks.specs.declared.mark.Standing.{Standing}
use Rattle.mta_marks.specs.declared.mark.Standing.TheVariants as Stand

-- ---- as octets

-- an entry has a number from 1 to 4,294,967,295
abbrev pub a_place : Form ℕ
a_place = narrowed a_number (λ n. nat_le 1 n) (λ n. (1 ≤ n) × (n < 2 ^ 32))

-- a mailbox, which is a word behind its length, and the number of one of its entries
abbrev pub an_entry : Form (List ℕ × ℕ)
an_entry = both a_word a_place

unfoldable pub entry_octets : (mailbox : List ℕ) → (number : ℕ) → List ℕ
entry_octets mailbox number = an_entry.spelled (mailbox, number)

abbrev pub octet_of : MarkKind → ℕ
octet_of Kinds.Fetched = 1
octet_of Kinds.Deleted = 2

-- the body of a mark: an octet that says which, and the entry
abbrev pub body_of : Mark → List ℕ
body_of m = octet_of m.kind ∷ entry_octets m.mailbox m.number

-- the mailbox is a word of 1 to 32 letters, digits or -, and the number is one from 1
abbrev pub IsEntry : List ℕ → ℕ → Type 0
IsEntry mailbox number = IsTrue (is_word mailbox) × ((1 ≤ number) × (number < 2 ^ 32))

abbrev pub IsMark : Mark → Type 0
IsMark m = IsEntry m.mailbox m.number

-- ---- what becomes of an entry

-- by a mark of this kind
abbrev pub standing_by : MarkKind → Standing
standing_by Kinds.Fetched = Stand.Fetched
standing_by Kinds.Deleted = Stand.Deleted

-- the mark is one of this entry
abbrev pub is_of : (mailbox : List ℕ) → (number : ℕ) → Mark → Bool
is_of mailbox number m = bytes_eq m.mailbox mailbox && (m.number == number)

-- what becomes by these marks of an entry that stands so before them
abbrev pub standing_from : Standing → List Mark → (mailbox : List ℕ) → (number : ℕ) → Standing
standing_from s [] mailbox number = s
standing_from s (m ∷ marks) mailbox number =
    standing_from (if is_of mailbox number m then standing_by m.kind else s) marks mailbox number

-- what became of an entry by all marks: it is new where none is of it
abbrev pub standing : List Mark → (mailbox : List ℕ) → (number : ℕ) → Standing
standing marks mailbox number = standing_from Stand.New marks mailbox number

-- ---- which marks are possible

-- what is new may be fetched, and what was fetched deleted, once
abbrev pub Allows : Standing → MarkKind → Type 0
Allows Stand.New Kinds.Fetched = Unit {0}
Allows Stand.Fetched Kinds.Deleted = Unit {0}
Allows Stand.New Kinds.Deleted = ⊥
Allows Stand.Fetched Kinds.Fetched = ⊥
Allows Stand.Deleted Kinds.Fetched = ⊥
Allows Stand.Deleted Kinds.Deleted = ⊥

-- the mark is possible behind these
abbrev pub IsPossible : List Mark → Mark → Type 0
IsPossible marks m = Allows (standing marks m.mailbox m.number) m.kind

-- each of these marks is one, and possible behind those before it
abbrev pub AreMarksBehind : (before : List Mark) → List Mark → Type 0
AreMarksBehind before [] = Unit {0}
AreMarksBehind before (m ∷ marks) = IsMark m × (IsPossible before m × AreMarksBehind (before ++ m ∷ []) marks)

abbrev pub AreMarks : List Mark → Type 0
AreMarks marks = AreMarksBehind [] marks
