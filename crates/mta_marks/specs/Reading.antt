-- Reading the body of a mark from its front.
use Rattle.std.specs.Prelude.{◌≡◌, ◌==◌, ℕ, Bool, List, [], ◌∷◌, Option, Some, None, Result, Ok, Err, IsErr}
use Rattle.std.specs.Prelude.{if◌then◌else◌}
use Rattle.mta_records.specs.Fields.{is_nothing}
use Rattle.mta_marks.specs.declared.mark.Mark.{Mark}
use Rattle.mta_marks.specs.declared.mark.MarkKind.{MarkKind}
use Rattle.mta_marks.specs.declared.mark.MarkKind.TheVariants as Kinds
use Rattle.mta_marks.specs.Marks.{an_entry}

-- what is answered, seen by `view`, is what is read; nothing where that is none
abbrev pub Gives : {X Y : Type 0} → (X → Y) → Option X → Result Y ℕ → Type 0
Gives view (Some x) read = read ≡ Ok (view x)
Gives view None read = IsErr read

-- nothing follows what is read
abbrev pub alone : {Y : Type 0} → Result (Y × List ℕ) ℕ → Option Y
alone (Ok x) = if is_nothing x.1 then Some x.0 else None
alone (Err left) = None

unfoldable pub entry_in : List ℕ → Option (List ℕ × ℕ)
entry_in octets = alone (an_entry.at octets)

abbrev pub kind_of : ℕ → Option MarkKind
kind_of octet = if octet == 1 then Some Kinds.Fetched else if octet == 2 then Some Kinds.Deleted else None

abbrev pub mark_with : Option MarkKind → Option (List ℕ × ℕ) → Option Mark
mark_with (Some kind) (Some entry) = Some (record { kind = kind; mailbox = entry.0; number = entry.1 })
mark_with (Some kind) None = None
mark_with None entry = None

-- the mark of a body
abbrev pub mark_of : List ℕ → Option Mark
mark_of [] = None
mark_of (octet ∷ octets) = mark_with (kind_of octet) (entry_in octets)
