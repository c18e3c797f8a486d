-- The rule of the lock. Word 0 is the ticket that is served, word 1 the next ticket; the slot has the value.
use Rattle.std.specs.Prelude.{◌≡◌, ◌≢◌, ◌⊎◌, ℕ, ◌+◌, ◌-◌, ◌%◌, ◌^◌, ◌<◌, ◌≤◌, List, [], ◌∷◌, ◌++◌, length}
use Rattle.std.specs.Prelude.{slice_index, true, false, Option, Some, nat_le, if◌then◌else◌}
use mathlib.Core.Option.{some}
use mathlib.Core.Option as maybe
use mathlib.Core.List.{IsPrefix}
use lib.ListN.{get_elem?}
use Rattle.atomic_table.specs.Table.{State, Me, Step}
use Rattle.mta_shared.specs.declared.history.Base.{Base}
use Rattle.mta_shared.specs.declared.history.View.{View}
use Rattle.mta_shared.specs.Counts.{total, times, row, OwnsPlaces}

abbrev pub all_parts : ℕ
all_parts = 4294967296

abbrev pub no_base : Base
no_base = record { numbers = []; lists = []; octets = [] }

-- the longer of two histories, of which one begins the other
abbrev pub longer : {E : Type 0} → List E → List E → List E
longer xs ys = if nat_le (length xs) (length ys) then ys else xs

module _ {E : Type 0} where
  -- the history at the end of a turn is the one at its beginning, or that and one entry more
  abbrev pub Grows : List E → List E → Type 0
  Grows xs ys = (ys ≡ xs) ⊎ ((e : E) × (ys ≡ xs ++ e ∷ []))

  -- the pass of a lock that was just made
  abbrev pub opened : ℕ → Base → List E → View E
  opened from base xs = record {
    seen = xs;
    met = [];
    own = row 0 (length xs);
    parts = all_parts;
    from = from;
    base =
        base;
    ticket = [];
    turn = false;
  }

  abbrev pub spent : View E
  spent = record { seen = []; met = []; own = []; parts = 0; from = 0; base = no_base; ticket = []; turn = false }

  abbrev pub less_one : View E → View E
  less_one v = record v { parts = v.parts - 1 }

  abbrev pub one_part : View E → View E
  one_part v = record v { own = []; parts = 1 }

  abbrev pub both : View E → View E → View E
  both v w = record v { met = w.seen; own = v.own ++ w.own; parts = v.parts + w.parts }

  abbrev pub settled : View E → View E
  settled v = record v { seen = longer v.seen v.met; met = [] }

  abbrev pub with_ticket : ℕ → View E → View E
  with_ticket t v = record v { ticket = t ∷ [] }

  abbrev pub with_turn : List E → View E → View E
  with_turn xs v = record v { seen = xs; turn = true }

  -- after a turn that left the history xs
  abbrev pub after_turn : List E → View E → View E
  after_turn xs v = record v {
    seen = xs;
    own = v.own ++ row (length v.seen) (length xs - length v.seen);
    ticket = [];
    turn = false;
  }

  -- between turns
  pub record IsFree (v : View E) : Type 0 where
    pub no_ticket : v.ticket ≡ []
    pub no_turn : v.turn ≡ false
    pub no_met : v.met ≡ []
    pub alive : 0 < v.parts

  abbrev pub IsSound : View E → Type 0
  IsSound v = OwnsPlaces v.seen v.own

  -- what the rule says of one view
  pub record Fits (from : ℕ) (base : Base) (longest : List E) (u : View E) : Type 0 where
    pub seen : IsPrefix u.seen longest
    pub met : IsPrefix u.met longest
    pub within : (p : ℕ) → length u.seen ≤ p → length u.met ≤ p → times p u.own ≡ 0
    pub alike : 0 < u.parts → (u.from ≡ from) × (u.base ≡ base)
    pub unowned : u.parts ≡ 0 → u.own ≡ []
    pub one : (length u.ticket ≤ 1) × (length u.ticket ≤ u.parts)

  -- both histories begin the longer one, and no position is owned twice
  pub record Agrees (v : View E) : Type 0 where
    pub seen : IsPrefix v.seen (settled v).seen
    pub met : IsPrefix v.met (settled v).seen
    pub once : (p : ℕ) → times p v.own ≤ 1

module _ {E V : Type 0} (first : V → ℕ) (entries : V → List E) (meets : V → Base → Type 0) where
  -- the value is at home, and no view has the turn
  pub record Home (from : ℕ) (base : Base) (longest : List E) (s : State (Option V) (View E)) : Type 0 where
    pub value : V
    pub there : s.homes ≡ some (Some value) ∷ []
    pub history : entries value ≡ longest
    pub number : first value ≡ from
    pub fact : meets value base
    pub nobody : (j : ℕ) (u : View E) → get_elem? s.views j ≡ some u → u.turn ≡ false

  -- one view has the turn, and the ticket that is served
  pub record Away (longest : List E) (served : ℕ) (s : State (Option V) (View E)) : Type 0 where
    pub by : ℕ
    pub view : View E
    pub at : get_elem? s.views by ≡ some view
    pub turn : view.turn ≡ true
    pub ticket : view.ticket ≡ served ∷ []
    pub history : view.seen ≡ longest
    pub away : s.homes ≡ maybe.none ∷ []
    pub only : (j : ℕ) (u : View E) → get_elem? s.views j ≡ some u → u.turn ≡ true → j ≡ by

  pub record Kept (s : State (Option V) (View E)) : Type 0 where
    pub longest : List E
    pub from : ℕ
    pub base : Base
    pub served : ℕ
    pub words : s.words ≡ (served % 2 ^ 64) ∷ ((served + total (λ u. length u.ticket) s.views) % 2 ^ 64) ∷ []
    pub each : (j : ℕ) (u : View E) → get_elem? s.views j ≡ some u → Fits from base longest u
    pub tickets : (n : ℕ) → total (λ u. times n u.ticket) s.views ≡ times n
        (row served (total (λ u. length u.ticket) s.views))
    pub parts : total (λ u. u.parts) s.views ≡ all_parts
    pub owns : (p : ℕ) → total (λ u. times p u.own) s.views ≡ times p (row 0 (length longest))
    pub place : Home from base longest s ⊎ Away longest served s

  -- it has the turn, with the value
  pub record Took (m n : Me (Option V) (View E)) : Type 0 where
    pub value : V
    pub held : n.1 ≡ (0, Some value) ∷ []
    pub view : n.0 ≡ with_turn (entries value) m.0
    pub seen : IsPrefix m.0.seen (entries value)
    pub number : first value ≡ m.0.from
    pub fact : meets value m.0.base

  abbrev pub looked : Step (Option V) → Me (Option V) (View E) → ℕ → Me (Option V) (View E) → Type 0
  looked st m r n = (r ≡ slice_index m.0.ticket 0 % 2 ^ 64 → Took m n)
      × (r ≢ slice_index m.0.ticket 0 % 2 ^ 64 → n ≡ m)

module _ {E V : Type 0} where
  abbrev pub drawn : Step (Option V) → Me (Option V) (View E) → ℕ → Me (Option V) (View E) → Type 0
  drawn st m r n = (t : ℕ) × (n ≡ (with_ticket t m.0, m.1)) × (r ≡ t % 2 ^ 64)

  abbrev pub served : (V → List E) → Step (Option V) → Me (Option V) (View E) → ℕ → Me (Option V) (View E)
      → Type 0
  served entries st m r n = (x : V) → m.1 ≡ (0, Some x) ∷ [] → n ≡ (after_turn (entries x) m.0, [])

  abbrev pub compared : Step (Option V) → Me (Option V) (View E) → ℕ → Me (Option V) (View E) → Type 0
  compared st m r n = (n ≡ (settled m.0, m.1)) × Agrees m.0
