-- What the sessions of a lane did with its receiving half, one after another.
use Rattle.std.specs.Prelude.{◌≡◌, ℕ, ◌+◌, Bool, List, [], ◌∷◌, ◌++◌, map, length, take}
use Rattle.mta_transfer_rules.specs.Receiving as r
use Rattle.mta_transfer_rules.specs.Receiving.{RecvEnd, RecvEvent, RecvStep}
use Rattle.mta_world.specs.World.{World}
use Rattle.mta_transfer_rules.specs.Pieces.{octets_with}
use Rattle.mta_world.specs.Steps.{pieces_after, IsFaulty}
use Rattle.mta_transfer_laws.specs.Events.{WorldEvent}
use Rattle.mta_transfer_laws.specs.Events as x
use Rattle.mta_transfer_rules.specs.Lanes.{Halves, SeenStep, Seen, lane_in}
use Rattle.mta_transfer_laws.specs.History.{half_steps, lane_upto}
use Rattle.mta_transfer_rules.specs.Lanes as h

-- The part of one session list that concerns the receiving half: the position of its LaneOpen or Bind step in the
-- history, and behind that step the units of this half, its steps, and what it found of octets.
pub record ReceivingList : Type 0 where
  pub at : ℕ
  pub events : List RecvEvent

-- The half as a link finds it
abbrev pub end_on_link : Halves → RecvEnd
end_on_link l = record { high = l.high; last = l.last; stage = r.Free; from = 0; acked = 0 }

abbrev pub IsPlain : RecvEvent → Type 0
IsPlain r.New_link = ⊥
IsPlain _ = Unit {0}

abbrev pub ArePlain : List RecvEvent → Type 0
ArePlain [] = Unit {0}
ArePlain (e ∷ es) = IsPlain e × ArePlain es

-- the pieces that stand after an event
abbrev pub pieces_behind : List (List ℕ) → RecvEvent → List (List ℕ)
pieces_behind pieces (r.Made step) = pieces_after pieces step
pieces_behind pieces _ = pieces

-- what is found of octets is so
abbrev pub IsTrue : (List ℕ → Bool) → RecvEnd → List (List ℕ) → RecvEvent → Type 0
IsTrue spells e pieces (r.Finds k n piece) = IsFaulty spells e.stage (octets_with pieces n piece)
IsTrue spells e pieces _ = Unit {0}

abbrev pub AreTrue : (List ℕ → Bool) → RecvEnd → List (List ℕ) → List RecvEvent → Type 0
AreTrue spells e pieces [] = Unit {0}
AreTrue spells e pieces (y ∷ ys) = IsTrue spells e pieces y
    × AreTrue spells (r.recv_after e y) (pieces_behind pieces y) ys

-- The list keeps the rules of a receiving end, from the half as it stands right after that step.
pub record IsGoodReceiving (spells : List ℕ → Bool) (history : List Seen) (lane : ℕ)
    (l : ReceivingList) : Type 0 where
  pub plain : ArePlain l.events
  pub last_end : RecvEnd
  pub allowed : r.IsReceivingEnd (end_on_link (lane_in lane (take (l.at + 1) history))) l.events last_end
  pub findings : AreTrue spells (end_on_link (lane_in lane (take (l.at + 1) history)))
      (lane_in lane (take (l.at + 1) history)).pieces l.events

abbrev pub EachGood : (List ℕ → Bool) → (history : List Seen) → (lane : ℕ) → List ReceivingList → Type 0
EachGood spells history lane [] = Unit {0}
EachGood spells history lane (l ∷ ls) = IsGoodReceiving spells history lane l × EachGood spells history lane ls

-- The steps of the half in the history, with the places where the lane was opened or bound ----------------------

pub data HalfStep : Type 0 where
  Binds : (at : ℕ) → HalfStep
  Makes : RecvStep → HalfStep

abbrev pub receiving_step : (at : ℕ) → SeenStep → List HalfStep
receiving_step at (h.LaneOpen agreed size window) = Binds at ∷ []
receiving_step at (h.Bind g) = Binds at ∷ []
receiving_step at (h.Secure g k n piece) = Makes (r.Secure k n piece) ∷ []
receiving_step at (h.Complete g k n piece) = Makes (r.Complete k n piece) ∷ []
receiving_step at (h.Drop g k) = Makes (r.Drop k) ∷ []
receiving_step at _ = []

-- In a list of world events ---------------------------------------------------------------------------------------

pub data OwnEvent : Type 0 where
  Joins : (link : ℕ) → OwnEvent
  Does : (link : ℕ) → RecvEvent → OwnEvent

abbrev pub own_event : WorldEvent → List OwnEvent
own_event (x.Receiver_opens i) = Joins i ∷ []
own_event (x.Receiver_joins i) = Joins i ∷ []
own_event (x.Receiver_takes i u) = Does i (r.Took u) ∷ []
own_event (x.Receiver_puts i u) = Does i (r.Put u) ∷ []
own_event (x.Receiver_makes i step) = Does i (r.Made step) ∷ []
own_event (x.Receiver_finds i k n piece) = Does i (r.Finds k n piece) ∷ []
own_event _ = []

abbrev pub own_events : List WorldEvent → List OwnEvent
own_events [] = []
own_events (e ∷ es) = own_event e ++ own_events es

abbrev pub step_in : RecvEvent → List HalfStep
step_in (r.Made step) = Makes step ∷ []
step_in _ = []

abbrev pub steps_in : List RecvEvent → List HalfStep
steps_in [] = []
steps_in (e ∷ es) = step_in e ++ steps_in es

-- The lists stand one after another, each on a link of its own.
pub data InOrder : List ReceivingList → List OwnEvent → List HalfStep → Type 0 where
  Ends : InOrder [] [] []
  Stands : {ls : List ReceivingList} {own : List OwnEvent} {steps : List HalfStep} (link : ℕ) (l : ReceivingList)
      → InOrder ls own steps
      → InOrder (l ∷ ls) (Joins link ∷ (map (λ (e : RecvEvent). Does link e) l.events ++ own))
      (Binds l.at ∷ (steps_in l.events ++ steps))

-- The same of the steps alone, as a history has them
pub data StepsInOrder : List ReceivingList → List HalfStep → Type 0 where
  Ends_here : StepsInOrder [] []
  Then : {ls : List ReceivingList} {steps : List HalfStep} (l : ReceivingList) → StepsInOrder ls steps
      → StepsInOrder (l ∷ ls) (Binds l.at ∷ (steps_in l.events ++ steps))

-- where the links of the lists are named, there are own events that have them
abbrev pub OwnEventsStand : Type 0
OwnEventsStand = (link : ℕ → ℕ) (lists : List ReceivingList) (steps : List HalfStep)
    → StepsInOrder lists steps → (own : List OwnEvent) × InOrder lists own steps

-- The half of this world is the one that the lane has.
pub record IsReceivingOf (w : World) (l : Halves) : Type 0 where
  pub high : w.high ≡ l.high
  pub last : w.last ≡ l.last
  pub pieces : w.pieces ≡ l.pieces

-- The world events in which this agent's receiving end did what its sessions did, in the history's order: their
-- premises are those on the links and on the other end alone.
pub record ReceivesOnRun (spells : List ℕ → Bool) (before added : List Seen) (lane : ℕ)
    (lists : List ReceivingList) (w : World) (events : List WorldEvent) : Type 0 where
  pub begins : IsReceivingOf w (lane_upto (before ++ added) lane before)
  pub order : InOrder lists (own_events events) (half_steps receiving_step lane (length before) added)
  pub fits : x.AllFit w events
  pub other : x.SenderKeepsRules w events
  pub good : EachGood spells (before ++ added) lane lists
  pub possible : h.LanesAllow spells (before ++ added)

-- Such events keep the rules of the receiving end.
abbrev pub ReceivingsKeepRules : Type 0
ReceivingsKeepRules =
    (spells : List ℕ → Bool) (before added : List Seen) (lane : ℕ) (lists : List ReceivingList) (w : World)
    (events : List WorldEvent)
    → ReceivesOnRun spells before added lane lists w events → x.ReceiverKeepsRules spells w events
