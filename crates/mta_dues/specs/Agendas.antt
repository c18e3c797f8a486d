-- What is to be looked at now, and until when the rest need not be.
use Rattle.std.specs.Prelude.{◌≡◌, ◌≢◌, ℕ, ◌≤◌, ◌<◌, Bool, true, false, List, ◌∷◌, Option, Some, None}
use Rattle.std.specs.Ordering.{nat_cmp, ordering_then}
use Rattle.std.specs.declared.cmp.Ordering.{Ordering}
use Rattle.std.specs.BTreeSet.{BTreeSet, contains}

-- the numbers to be looked at, the moments until which others rest, the last moment at which one was put off, and up to
-- which number all are known
pub record AgendaValue : Type 0 where
  pub active : BTreeSet ℕ
  pub later : BTreeSet (ℕ × ℕ)
  pub since : ℕ
  pub known : ℕ

-- by moments, and then by numbers
abbrev pub pair_cmp : ℕ × ℕ → ℕ × ℕ → Ordering
pair_cmp x y = ordering_then (nat_cmp x.0 y.0) (nat_cmp x.1 y.1)

abbrev pub is_active : AgendaValue → ℕ → Bool
is_active a i = contains nat_cmp a.active i

-- the number becomes active at this moment
abbrev pub is_later : AgendaValue → (until i : ℕ) → Bool
is_later a until i = contains pair_cmp a.later (until, i)

-- the number is known, and is not to be looked at now
pub record IsAside (a : AgendaValue) (i : ℕ) : Type 0 where
  pub from : 1 ≤ i
  pub known : i ≤ a.known
  pub inactive : is_active a i ≡ false

-- and it need not be looked at at this moment
pub record Rests (a : AgendaValue) (i moment : ℕ) : Type 0 where
  pub aside : IsAside a i
  pub since : a.since ≤ moment
  pub later : (until : ℕ) → is_later a until i ≡ true → moment < until

-- no moment has come by this one
abbrev pub AllLater : AgendaValue → ℕ → Type 0
AllLater a moment = (until i : ℕ) → is_later a until i ≡ true → moment < until

-- numbers up to a count are known, and each of them is active or rests at the moment
pub record IsAllCalled (a : AgendaValue) (count moment : ℕ) : Type 0 where
  pub known : count ≤ a.known
  pub since : a.since ≤ moment
  pub later : AllLater a moment

-- no other becomes active before this number does
pub record IsFirst (a : AgendaValue) (i : ℕ) : Type 0 where
  pub until : ℕ
  pub rest : List (ℕ × ℕ)
  pub are : a.later.keys ≡ (until, i) ∷ rest

-- the number of the first whose moment has come, or none
abbrev pub IsFirstCome : AgendaValue → ℕ → Option ℕ → Type 0
IsFirstCome a moment None = AllLater a moment
IsFirstCome a moment (Some i) = IsFirst a i

-- what is aside was so before, and what rests at a moment did so
pub record KeepsAll (old new : AgendaValue) : Type 0 where
  pub aside : (i : ℕ) → IsAside new i → IsAside old i
  pub rests : (i moment : ℕ) → Rests new i moment → Rests old i moment

-- the same but for one number
pub record KeepsOthers (old new : AgendaValue) (number : ℕ) : Type 0 where
  pub aside : (i : ℕ) → i ≢ number → IsAside new i → IsAside old i
  pub rests : (i moment : ℕ) → i ≢ number → Rests new i moment → Rests old i moment

-- this number rests from a moment on until another, or is active as before, and what was called is so
pub record IsPutOff (old new : AgendaValue) (number moment until : ℕ) : Type 0 where
  pub others : KeepsOthers old new number
  pub within : (n : ℕ) → Rests new number n → (moment ≤ n) × (n < until)
  pub called : (count : ℕ) → IsAllCalled old count moment → IsAllCalled new count moment

-- this number rests for good, and what was called is so
pub record IsLetGo (old new : AgendaValue) (number : ℕ) : Type 0 where
  pub others : KeepsOthers old new number
  pub called : (count moment : ℕ) → IsAllCalled old count moment → IsAllCalled new count moment
