-- The steps of a sending half that a history has are those of the session lists of one station, and what was given up
-- outside them.
use Rattle.std.specs.Prelude.{Bool, ◌≡◌, ◌⊎◌, ◌<◌, ◌≤◌, ℕ, ◌+◌, Option, Some, None}
use Rattle.std.specs.Prelude.{slice_get, List, [], ◌∷◌, ◌++◌, map, length}
use Rattle.mta_transfer_rules.specs.Sending as s
use Rattle.mta_transfer_rules.specs.Sending.{SendEvent}
use Rattle.mta_transfer_rules.specs.Lanes.{Seen, LanesAllow}
use Rattle.mta_transfer_laws.specs.History.{half_of, half_steps}
use Rattle.mta_transfer_laws.specs.Sendings.{HalfStep, Binds, Makes, sending_step, StepsInOrder}
use Rattle.mta_transfer_laws.specs.Sessions.{SessionList, SessionEvent, Made, sending_event, sending_list}
use Rattle.mta_transfer_laws.specs.Run.{EachGood}

-- a step of the half with its position in the history
pub record Placed : Type 0 where
  pub position : ℕ
  pub step : HalfStep

abbrev pub placed_at : (position : ℕ) → List SendEvent → List Placed
placed_at p [] = []
placed_at p (s.Made step ∷ es) = record { position = p; step = Makes step } ∷ placed_at p es
placed_at p (e ∷ es) = placed_at p es

abbrev pub placed_event : (lane : ℕ) → SessionEvent → List Placed
placed_event lane (Made p j step) = placed_at p (sending_event lane (Made p j step))
placed_event lane e = []

abbrev pub placed_events : (lane : ℕ) → List SessionEvent → List Placed
placed_events lane [] = []
placed_events lane (e ∷ es) = placed_event lane e ++ placed_events lane es

-- of all lists, one after another
abbrev pub placed_lists : (lane : ℕ) → List SessionList → List Placed
placed_lists lane [] = []
placed_lists lane (l ∷ ls) =
    record { position = l.at; step = Binds l.at } ∷ (placed_events lane l.events ++ placed_lists lane ls)

-- what the history has at a position for this half
abbrev pub step_here : (lane position : ℕ) → Option Seen → List HalfStep
step_here lane p None = []
step_here lane p (Some step) = half_of sending_step lane p step

abbrev pub step_at : (history : List Seen) → (lane position : ℕ) → List HalfStep
step_at history lane p = step_here lane p (slice_get history p)

abbrev pub EachStands : (history : List Seen) → (lane : ℕ) → List Placed → Type 0
EachStands history lane [] = Unit {0}
EachStands history lane (x ∷ xs) = (step_at history lane x.position ≡ x.step ∷ []) × EachStands history lane xs

-- positions rise, from here on
abbrev pub Rises : (from : ℕ) → List Placed → Type 0
Rises from [] = Unit {0}
Rises from (x ∷ xs) = (from ≤ x.position) × Rises (x.position + 1) xs

abbrev pub HasPosition : (position : ℕ) → List Placed → Type 0
HasPosition p [] = ⊥
HasPosition p (x ∷ xs) = (p ≡ x.position) ⊎ HasPosition p xs

abbrev pub IsBinds : HalfStep → Type 0
IsBinds (Binds at) = Unit {0}
IsBinds (Makes step) = ⊥

-- behind this position no list goes on: a new one begins, or none
abbrev pub NoneGoesOn : (position : ℕ) → List Placed → Type 0
NoneGoesOn p [] = Unit {0}
NoneGoesOn p (x ∷ xs) = (x.position < p → NoneGoesOn p xs) × (p ≤ x.position → IsBinds x.step)

-- Each step of the lists stands at its position, and these rise. Each step of the half that was added stands in a list,
-- or it gives an activity up while no list goes on: an Abandon that a list's session could see stands in that list.
pub record Covers (history : List Seen) (from : ℕ) (lane : ℕ) (lists : List SessionList) : Type 0 where
  pub stand : EachStands history lane (placed_lists lane lists)
  pub rise : Rises from (placed_lists lane lists)
  pub each : (p : ℕ) (y : HalfStep) → from ≤ p → step_at history lane p ≡ y ∷ []
      → HasPosition p (placed_lists lane lists)
      ⊎ ((y ≡ Makes s.Abandon) × NoneGoesOn p (placed_lists lane lists))

abbrev pub CoveringKeepsOrder : Type 0
CoveringKeepsOrder =
    (before added : List Seen) (lane : ℕ) (lists : List SessionList)
    → Covers (before ++ added) (length before) lane lists
    → StepsInOrder (map (sending_list lane) lists) (half_steps sending_step lane (length before) added)

-- Each list begins with a LaneOpen or Bind step of the lane.
abbrev pub EachBinds : (history : List Seen) → (lane : ℕ) → List SessionList → Type 0
EachBinds history lane [] = Unit {0}
EachBinds history lane (l ∷ ls) = (step_at history lane l.at ≡ Binds l.at ∷ []) × EachBinds history lane ls

-- One station had all sessions of the lane: positions rise from one list to the next, and each step of the half that
-- was added stands in one of them or is an Abandon.
pub record Owns (history : List Seen) (from : ℕ) (lane : ℕ) (lists : List SessionList) : Type 0 where
  pub binds : EachBinds history lane lists
  pub rise : Rises from (placed_lists lane lists)
  pub owned : (p : ℕ) (y : HalfStep) → from ≤ p → step_at history lane p ≡ y ∷ []
      → HasPosition p (placed_lists lane lists) ⊎ (y ≡ Makes s.Abandon)

abbrev pub OwningKeepsOrder : Type 0
OwningKeepsOrder =
    (spells : List ℕ → Bool) (before added : List Seen) (lane size window : ℕ) (initiator : Bool)
    (lists : List SessionList)
    → LanesAllow spells (before ++ added) → EachGood spells (before ++ added) lane size window initiator lists
    → Owns (before ++ added) (length before) lane lists
    → StepsInOrder (map (sending_list lane) lists) (half_steps sending_step lane (length before) added)
