-- The pieces of the other end's activity in a history: while a session has the lane in one generation, they are those
-- that its own steps leave.
use Rattle.std.proofs.Common.{◌≡◌, ◌⊎◌, inl, inr, ℕ, ◌+◌, ◌<◌, ◌≤◌, Bool, Some, slice_get}
use Rattle.std.proofs.Common.{List, [], ◌∷◌, length, sym, ap, ◌∙◌, arith}
use Rattle.mta_transfer_rules.specs.Lanes as h
use Rattle.mta_transfer_rules.specs.Lanes.{Halves, SeenStep, Seen, On, Unopened, Open, Closed, Allows, IsHeld}
use Rattle.mta_transfer_rules.specs.Lanes.{halves_after}
use Rattle.mta_transfer_laws.specs.History.{IsOfLanes}
use Rattle.mta_transfer_laws.specs.Sessions as x
use Rattle.mta_transfer_laws.specs.Sessions.{SessionEvent, Made, Looked, Got, Refused, Put, receiving_step_of}
use Rattle.mta_units.specs.declared.unit.Unit.{Unit as AnyUnit}
use Rattle.mta_session_list_laws.specs.Laws.{IsPiece, IsIn}
use Rattle.mta_session_list_laws.proofs.Lanes.{lane_at, step_allowed, between_keeps}

-- ---- one lane

-- it goes on in this generation with these pieces, or is in a later one
abbrev pub Tracks : (gen : ℕ) → List (List ℕ) → Halves → Type 0
Tracks gen pieces l =
    (l.phase ≡ Unopened → ⊥) × ((gen < l.generation) ⊎ ((l.generation ≡ gen) × (l.pieces ≡ pieces)))

closed_not : Closed ≡ Unopened → ⊥
closed_not e = cc

open_not : (l : Halves) → l.phase ≡ Open → l.phase ≡ Unopened → ⊥
open_not l o u = let c : Open ≡ Unopened = sym o ∙ u in cc

bound : (gen g : ℕ) (pieces : List (List ℕ)) (l : Halves) → g ≡ l.generation + 1
    → (gen < l.generation) ⊎ ((l.generation ≡ gen) × (l.pieces ≡ pieces)) → gen < g
bound gen g pieces l e (inl lt) = omega (arith, e, lt)
bound gen g pieces l e (inr k) = let same = k.0 in omega (arith, e, same)

later_only : (gen j : ℕ) (pieces : List (List ℕ)) (l : Halves) → j ≡ l.generation → (j ≡ gen → ⊥)
    → (gen < l.generation) ⊎ ((l.generation ≡ gen) × (l.pieces ≡ pieces)) → gen < l.generation
later_only gen j pieces l e none (inl lt) = lt
later_only gen j pieces l e none (inr k) = absurd (none (e ∙ k.0))

pub step_tracks : (spells : List ℕ → Bool) (gen : ℕ) (pieces : List (List ℕ)) (l : Halves) (step : SeenStep)
    → Allows spells l step → (IsPiece gen step → ⊥) → Tracks gen pieces l → Tracks gen pieces (halves_after l step)
step_tracks spells gen pieces l (h.LaneOpen a s w) may none k = absurd (k.0 may)
step_tracks spells gen pieces l (h.Bind g) may none k = (k.0, inl (bound gen g pieces l may.1 k.1))
step_tracks spells gen pieces l (h.Secure g j n o) may none k =
    (k.0, inl (later_only gen g pieces l may.0.1 none k.1))
step_tracks spells gen pieces l (h.Complete g j n o) may none k =
    (k.0, inl (later_only gen g pieces l may.0.1 none k.1))
step_tracks spells gen pieces l (h.Drop g j) may none k = (k.0, inl (later_only gen g pieces l may.0.1 none k.1))
step_tracks spells gen pieces l (h.CloseLane g) may none k = (closed_not, k.1)
step_tracks spells gen pieces l any4 may none k = k

-- where the lane is of that generation still
pub held_pieces : (gen : ℕ) (pieces : List (List ℕ)) (l : Halves) → gen ≡ l.generation → Tracks gen pieces l
    → l.pieces ≡ pieces
held_pieces gen pieces l e k = by_generation k.1
  where
    by_generation : (gen < l.generation) ⊎ ((l.generation ≡ gen) × (l.pieces ≡ pieces)) → l.pieces ≡ pieces
    by_generation (inl lt) = absurd (omega (arith, lt, e))
    by_generation (inr k) = k.1

module _ (spells : List ℕ → Bool) (history : List Seen) (lane : ℕ) (allow : IsOfLanes spells history) (gen : ℕ) where
  -- from one length up to another no such step is made
  abbrev pub NonePiece : (from upto : ℕ) → Type 0
  NonePiece from upto = (q : ℕ) (step : SeenStep) → from ≤ q → q < upto
      → slice_get history q ≡ Some (On lane step) → IsPiece gen step → ⊥

  pub tracks_between : (pieces : List (List ℕ)) (from upto : ℕ) → from ≤ upto → upto ≤ length history
      → NonePiece from upto → Tracks gen pieces (lane_at spells history lane allow.allowed from)
      → Tracks gen pieces (lane_at spells history lane allow.allowed upto)
  tracks_between pieces from upto a b none k =
      between_keeps spells history lane allow.allowed (Tracks gen pieces) from upto a b
      (λ q i j step e p. step_tracks spells gen pieces (lane_at spells history lane allow.allowed q) step
      (step_allowed spells history lane allow.allowed q step e) (none q step i j e) p) k

  -- ---- in a list

  -- each such step from here on stands in what is left of the list
  abbrev pub Owned : (from : ℕ) → List SessionEvent → Type 0
  Owned from ys = (q : ℕ) (step : SeenStep) → from ≤ q → slice_get history q ≡ Some (On lane step)
      → IsPiece gen step → IsIn (Made q lane step) ys

  -- an event that is no such step
  abbrev pub IsElse : SessionEvent → Type 0
  IsElse y = (q : ℕ) (step : SeenStep) → IsPiece gen step → Made q lane step ≡ y → ⊥

  behind_else : (y : SessionEvent) (q : ℕ) (step : SeenStep) (ys : List SessionEvent) → IsElse y → IsPiece gen step
      → IsIn (Made q lane step) (y ∷ ys) → IsIn (Made q lane step) ys
  behind_else y q step ys other piece (inl e) = absurd (other q step piece e)
  behind_else y q step ys other piece (inr k) = k

  pub owned_behind : (from : ℕ) (y : SessionEvent) (ys : List SessionEvent) → IsElse y → Owned from (y ∷ ys)
      → Owned from ys
  owned_behind from y ys other k = λ q step a e piece. behind_else y q step ys other piece (k q step a e piece)

  pub put_else : (u : AnyUnit) → IsElse (Put u)
  put_else u q step piece e = cc

  pub looked_else : (n : ℕ) (look : x.Look) → IsElse (Looked n look)
  looked_else n look q step piece e = cc

  pub got_else : (u : AnyUnit) → IsElse (Got u)
  got_else u q step piece e = cc

  pub refused_else : (u : AnyUnit) → IsElse (Refused u)
  refused_else u q step piece e = cc

  piece_steps : (step : SeenStep) → IsPiece gen step → receiving_step_of step ≡ [] → ⊥
  piece_steps (h.Secure g k n o) p e = cc
  piece_steps (h.Complete g k n o) p e = cc
  piece_steps (h.Drop g k) p e = cc
  piece_steps step p e = absurd p

  made_is : (p q i j : ℕ) (a b : SeenStep) → Made p i a ≡ Made q j b → (p ≡ q) × (a ≡ b)
  made_is p q i j a b e = (cc, cc)

  -- a step that says nothing of the receiving half
  pub made_else : (p j : ℕ) (step : SeenStep) → receiving_step_of step ≡ [] → IsElse (Made p j step)
  made_else p j step none q z piece e =
      piece_steps z piece (ap receiving_step_of (made_is q p lane j z step e).1 ∙ none)

  -- behind a step at this position
  behind_step : (p q j : ℕ) (own step : SeenStep) (ys : List SessionEvent) → p + 1 ≤ q
      → IsIn (Made q lane step) (Made p j own ∷ ys) → IsIn (Made q lane step) ys
  behind_step p q j own step ys lt (inl e) =
      let same = (made_is q p lane j step own e).0 in absurd (omega (arith, lt, same))
  behind_step p q j own step ys lt (inr k) = k

  pub owned_step : (from p j : ℕ) (own : SeenStep) (ys : List SessionEvent) → from ≤ p
      → Owned from (Made p j own ∷ ys) → Owned (p + 1) ys
  owned_step from p j own ys le k =
      λ q step a e piece. behind_step p q j own step ys a (k q step (omega (arith, le, a)) e piece)

  -- where the rest of the list stands behind this length, none is made before it
  abbrev pub StandBehind : (seen : ℕ) → List SessionEvent → Type 0
  StandBehind seen ys = (q j : ℕ) (step : SeenStep) → IsIn (Made q j step) ys → seen ≤ q

  before_step : (p q j : ℕ) (own step : SeenStep) (ys : List SessionEvent) → q < p → StandBehind (p + 1) ys
      → IsIn (Made q lane step) (Made p j own ∷ ys) → ⊥
  before_step p q j own step ys lt behind (inl e) =
      let same = (made_is q p lane j step own e).0 in omega (arith, lt, same)
  before_step p q j own step ys lt behind (inr k) =
      let le = behind q lane step k in omega (arith, lt, le)

  pub none_before_step : (from p j : ℕ) (own : SeenStep) (ys : List SessionEvent) → Owned from (Made p j own ∷ ys)
      → StandBehind (p + 1) ys → NonePiece from p
  none_before_step from p j own ys k behind =
      λ q step a b e piece. before_step p q j own step ys b behind (k q step a e piece)

  before_look : (n q : ℕ) (look : x.Look) (step : SeenStep) (ys : List SessionEvent) → q < n → StandBehind n ys
      → IsPiece gen step → IsIn (Made q lane step) (Looked n look ∷ ys) → ⊥
  before_look n q look step ys lt behind piece (inl e) = looked_else n look q step piece e
  before_look n q look step ys lt behind piece (inr k) =
      let le = behind q lane step k in omega (arith, lt, le)

  pub none_before_look : (from n : ℕ) (look : x.Look) (ys : List SessionEvent) → Owned from (Looked n look ∷ ys)
      → StandBehind n ys → NonePiece from n
  none_before_look from n look ys k behind =
      λ q step a b e piece. before_look n q look step ys b behind piece (k q step a e piece)
