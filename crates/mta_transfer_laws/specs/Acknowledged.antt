-- What was acknowledged is durable: an EndAck that a session put has its Complete step in the history, or in what a
-- snapshot stands for.
use Rattle.std.specs.Prelude.{◌≡◌, ◌⊎◌, ℕ, Bool, Some, slice_get, List, [], ◌∷◌}
use Rattle.mta_lane_recv.specs.declared.state.Last.TheVariants.{Done}
use Rattle.mta_transfer_rules.specs.Lanes.{Seen, On, Complete, lane_at_first}
use Rattle.mta_units.specs.declared.unit.Unit.{Unit as AnyUnit}
use Rattle.mta_units.specs.declared.unit.Unit.TheVariants.{EndAck}
use Rattle.mta_transfer_laws.specs.Sessions.{SessionEvent, SessionList, IsGoodSession, Put}

-- the session put this unit
abbrev pub HasPut : AnyUnit → List SessionEvent → Type 0
HasPut x [] = ⊥
HasPut x (e ∷ es) = (e ≡ Put x) ⊎ HasPut x es

abbrev pub IsCompleteIn : (history : List Seen) → (lane activity : ℕ) → Type 0
IsCompleteIn history lane k = (p g n : ℕ) × (piece : List ℕ)
    × (slice_get history p ≡ Some (On lane (Complete g k n piece)))

-- The history begins with a snapshot in which the activity is the last one that the half completed: its EndAck may be
-- put again, and that of no other that was completed before.
abbrev pub IsDoneAtFirst : (history : List Seen) → (lane activity : ℕ) → Type 0
IsDoneAtFirst history lane k = (lane_at_first lane history).last ≡ Done k

-- the activity was completed in the history, or before the snapshot with which it begins
abbrev pub IsCompleted : (history : List Seen) → (lane activity : ℕ) → Type 0
IsCompleted history lane k = IsCompleteIn history lane k ⊎ IsDoneAtFirst history lane k

abbrev pub EndAcksAreKept : Type 0
EndAcksAreKept =
    (spells : List ℕ → Bool) (history : List Seen) (lane size window : ℕ) (initiator : Bool) (l : SessionList)
    → IsGoodSession spells history lane size window initiator l → (k : ℕ) → HasPut (EndAck k) l.events
    → IsCompleted history lane k
