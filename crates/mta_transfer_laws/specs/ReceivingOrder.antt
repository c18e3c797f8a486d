-- The steps of a receiving half that a history has are those of the session lists of one station.
use Rattle.std.specs.Prelude.{◌≡◌, ◌⊎◌, ◌≤◌, ℕ, ◌+◌, Option, Some, None, slice_get, List, []}
use Rattle.std.specs.Prelude.{◌∷◌, ◌++◌, map, length}
use Rattle.mta_transfer_rules.specs.Receiving as r
use Rattle.mta_transfer_rules.specs.Receiving.{RecvEvent}
use Rattle.mta_transfer_rules.specs.Lanes.{Seen}
use Rattle.mta_transfer_laws.specs.History.{half_of, half_steps}
use Rattle.mta_transfer_laws.specs.Receivings.{HalfStep, Binds, Makes, receiving_step, StepsInOrder}
use Rattle.mta_transfer_laws.specs.Sessions.{SessionList, SessionEvent, Made, StepsStand}
use Rattle.mta_transfer_laws.specs.Sessions.{receiving_event, receiving_list}

-- a step of the half with its position in the history
pub record Placed : Type 0 where
  pub position : ℕ
  pub step : HalfStep

abbrev pub placed_at : (position : ℕ) → List RecvEvent → List Placed
placed_at p [] = []
placed_at p (r.Made step ∷ es) = record { position = p; step = Makes step } ∷ placed_at p es
placed_at p (e ∷ es) = placed_at p es

abbrev pub placed_event : (lane : ℕ) → SessionEvent → List Placed
placed_event lane (Made p j step) = placed_at p (receiving_event lane (Made p j step))
placed_event lane e = []

abbrev pub placed_events : (lane : ℕ) → List SessionEvent → List Placed
placed_events lane [] = []
placed_events lane (e ∷ es) = placed_event lane e ++ placed_events lane es

abbrev pub placed_lists : (lane : ℕ) → List SessionList → List Placed
placed_lists lane [] = []
placed_lists lane (l ∷ ls) =
    record { position = l.at; step = Binds l.at } ∷ (placed_events lane l.events ++ placed_lists lane ls)

abbrev pub step_here : (lane position : ℕ) → Option Seen → List HalfStep
step_here lane p None = []
step_here lane p (Some step) = half_of receiving_step lane p step

abbrev pub step_at : (history : List Seen) → (lane position : ℕ) → List HalfStep
step_at history lane p = step_here lane p (slice_get history p)

abbrev pub Rises : (from : ℕ) → List Placed → Type 0
Rises from [] = Unit {0}
Rises from (x ∷ xs) = (from ≤ x.position) × Rises (x.position + 1) xs

abbrev pub HasPosition : (position : ℕ) → List Placed → Type 0
HasPosition p [] = ⊥
HasPosition p (x ∷ xs) = (p ≡ x.position) ⊎ HasPosition p xs

abbrev pub EachBinds : (history : List Seen) → (lane : ℕ) → List SessionList → Type 0
EachBinds history lane [] = Unit {0}
EachBinds history lane (l ∷ ls) = (step_at history lane l.at ≡ Binds l.at ∷ []) × StepsStand history l.events
    × EachBinds history lane ls

-- One station had all sessions of the lane: each step of the half that was added stands in one of their lists.
pub record Owns (history : List Seen) (from : ℕ) (lane : ℕ) (lists : List SessionList) : Type 0 where
  pub binds : EachBinds history lane lists
  pub rise : Rises from (placed_lists lane lists)
  pub owned : (p : ℕ) (y : HalfStep) → from ≤ p → step_at history lane p ≡ y ∷ []
      → HasPosition p (placed_lists lane lists)

abbrev pub OwningKeepsReceivingOrder : Type 0
OwningKeepsReceivingOrder =
    (before added : List Seen) (lane : ℕ) (lists : List SessionList)
    → Owns (before ++ added) (length before) lane lists
    → StepsInOrder (map (receiving_list lane) lists) (half_steps receiving_step lane (length before) added)
