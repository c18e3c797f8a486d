-- The names by which an agent is known to its peers.
use Rattle.std.specs.Prelude.{ℕ, List, length, Bool, ◌&&◌, nat_le, if◌then◌else◌}
use Rattle.std.specs.List.{list_all}
use Rattle.mta_ber.specs.declared.text.TextClass.TheVariants.{Ia5}
use Rattle.mta_ber.specs.Strings.{IsText, in_class}
use Rattle.mta_records.specs.Reference.{Identifier}

-- 1 to 32 characters of IA5String
abbrev pub IsName : List ℕ → Type 0
IsName w = IsText Ia5 1 32 w

abbrev pub is_name : List ℕ → Bool
is_name w = list_all (in_class Ia5) w && nat_le 1 (length w) && nat_le (length w) 32

-- the name by which a lane was opened is its calling reference; the own name where that is no name
abbrev pub name_shown : (own : List ℕ) → Identifier → List ℕ
name_shown own r = if is_name r.calling then r.calling else own
