-- The unit at the front of a stream, as it is read.
use Rattle.std.specs.Prelude.{◌≡◌, ℕ, zero, suc, Bool, false, List, [], ◌∷◌, length, take, ◌==◌, ◌&&◌, ◌||◌, nat_le}
use Rattle.std.specs.Prelude.{nat_lt, if◌then◌else◌}
use Rattle.std.specs.Int.{w32, w64, from_be_bytes}
use Rattle.mta_journal.specs.Bodies.{longest_body, longest_first}
use Rattle.mta_follow_units.specs.declared.due.Due.{Due}
use Rattle.mta_follow_units.specs.declared.due.Due.TheVariants as due
use Rattle.mta_follow_units.specs.declared.look.Look.{Look as Found}
use Rattle.mta_follow_units.specs.declared.look.Look.TheVariants as found
use Rattle.mta_follow_units.specs.Units.{record_kind, kept_kind, done_kind, most}

-- too few octets to tell, a unit that is not due, or one that is
pub data Look : Type 0 where
  Cut : Look
  Bad : Look
  Record : List ℕ → Look
  Done : Look
  Kept : Look

-- the body of a unit that is due may have so many octets
abbrev pub fits : Due → ℕ → Bool
fits (due.Record got) size = nat_le size (most got)
fits (due.Kept number) size = size == 8

-- a unit of this kind is due
abbrev pub is_of : Due → (kind size : ℕ) → Bool
is_of (due.Record got) kind size = kind == record_kind || (kind == done_kind && size == 8)
is_of (due.Kept number) kind size = kind == kept_kind

-- a body of eight octets is this number
abbrev pub has_number : List ℕ → ℕ → Bool
has_number body number = length body == 8 && from_be_bytes w64 body == number

-- what a whole body of a kind that is due comes to
abbrev pub whole : Due → ℕ → List ℕ → Look
whole (due.Record got) kind body =
    if kind == record_kind then Record body else (if has_number body got then Done else Bad)
whole (due.Kept number) kind body = if has_number body number then Kept else Bad

-- behind the octet of the kind
abbrev pub bodied : Due → (size kind : ℕ) → List ℕ → Look
bodied d size kind octets =
    if is_of d kind size
    then (if nat_lt (length octets) size then Cut else whole d kind (take size octets))
    else Bad

-- behind the octets of the length
abbrev pub kinded : Due → ℕ → List ℕ → Look
kinded d size [] = Cut
kinded d size (kind ∷ octets) = bodied d size kind octets

abbrev pub sized : Due → ℕ → List ℕ → Look
sized d size octets = if fits d size then kinded d size octets else Bad

unfoldable pub look : Due → List ℕ → Look
look d [] = Cut
look d (a ∷ []) = Cut
look d (a ∷ b ∷ []) = Cut
look d (a ∷ b ∷ c ∷ []) = Cut
look d (a ∷ b ∷ c ∷ e ∷ octets) = sized d (from_be_bytes w32 (a ∷ b ∷ c ∷ e ∷ [])) octets

-- what a function answered, with the body lent
abbrev pub IsLook : Found → Look → Type 0
IsLook found.Cut seen = seen ≡ Cut
IsLook found.Bad seen = seen ≡ Bad
IsLook (found.Record body) seen = seen ≡ Record body.now
IsLook found.Done seen = seen ≡ Done
IsLook found.Kept seen = seen ≡ Kept
