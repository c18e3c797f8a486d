-- What is kept of each entry by the octets that name it.
use Rattle.std.specs.Prelude.{◌≡◌, ◌<◌, ◌^◌, ℕ, List, Option, Some, None, if◌then◌else◌, nat_lt}
use Rattle.std.specs.Map.{lookup}
use Rattle.std.specs.Str.{bytes_eq}
use Rattle.mta_marks.specs.declared.mark.Mark.{Mark}
use Rattle.mta_marks.specs.declared.mark.Standing.{Standing}
use Rattle.mta_marks.specs.declared.mark.Standing.TheVariants as Stand
use Rattle.mta_marks.specs.Marks.{IsEntry, entry_octets, standing, standing_by}

-- what is kept of an entry; it is new where nothing is
abbrev pub kept : Option Standing → Standing
kept None = Stand.New
kept (Some s) = s

-- what these entries have of the one that the octets name
abbrev pub look : List (List ℕ × Standing) → List ℕ → Standing
look entries octets = kept (lookup (bytes_eq octets) entries)

-- and of the one of a mark
abbrev pub look_at : List (List ℕ × Standing) → Mark → Standing
look_at entries m = look entries (entry_octets m.mailbox m.number)

-- and of one of a mailbox: above 4,294,967,295 all are new
abbrev pub look_in : List (List ℕ × Standing) → (mailbox : List ℕ) → (number : ℕ) → Standing
look_in entries mailbox number =
    if nat_lt number 4294967296 then look entries (entry_octets mailbox number) else Stand.New

-- the mark changes what is kept of its entry, and of no other
abbrev pub Changes : Mark → (old new : List (List ℕ × Standing)) → Type 0
Changes m old new =
    (octets : List ℕ) → look new octets
    ≡ (if bytes_eq (entry_octets m.mailbox m.number) octets then standing_by m.kind else look old octets)

-- of each entry they have what became of it by the marks
abbrev pub Knows : List (List ℕ × Standing) → List Mark → Type 0
Knows entries marks =
    (mailbox : List ℕ) (number : ℕ) → IsEntry mailbox number
    → look entries (entry_octets mailbox number) ≡ standing marks mailbox number
