-- What the sessions of a lane did with its sending half, one after another.
use Rattle.std.specs.Prelude.{◌≡◌, ℕ, ◌+◌, Bool, false, not, None, List, [], ◌∷◌, ◌++◌, map}
use Rattle.std.specs.Prelude.{length, take}
use Rattle.mta_lane_send.specs.Half.{last_of, is_idle}
use Rattle.mta_transfer_rules.specs.Sending as s
use Rattle.mta_transfer_rules.specs.Sending.{SendEnd, SendEvent, SendStep}
use Rattle.mta_world.specs.World.{World}
use Rattle.mta_transfer_laws.specs.Events.{WorldEvent}
use Rattle.mta_transfer_laws.specs.Events as x
use Rattle.mta_transfer_rules.specs.Lanes.{Halves, SeenStep, Seen, lane_in}
use Rattle.mta_transfer_laws.specs.History.{half_steps, lane_upto}
use Rattle.mta_transfer_rules.specs.Lanes as h

-- The part of one session list that concerns the sending half: the position of its LaneOpen or Bind step in the
-- history, and behind that step the units of this half and its steps.
pub record SendingList : Type 0 where
  pub at : ℕ
  pub events : List SendEvent

-- The half as a link finds it
abbrev pub end_on_link : Halves → (size window : ℕ) → (accepted : Bool) → SendEnd
end_on_link l size window accepted =
    record {
      state = l.state;
      octets = l.octets;
      size = size;
      window = window;
      accepted = accepted;
      stage =
          s.stage_on_link l.state;
      heard = None;
    }

-- units and steps alone
abbrev pub IsPlain : SendEvent → Type 0
IsPlain (s.New_link accepted) = ⊥
IsPlain _ = Unit {0}

abbrev pub ArePlain : List SendEvent → Type 0
ArePlain [] = Unit {0}
ArePlain (e ∷ es) = IsPlain e × ArePlain es

-- The list keeps the rules of a sending end, from the half as it stands right after that step.
pub record IsGoodSending (history : List Seen) (lane size window : ℕ) (accepted : Bool)
    (l : SendingList) : Type 0 where
  pub plain : ArePlain l.events
  pub last_end : SendEnd
  pub allowed : s.IsSendingEnd
      (end_on_link (lane_in lane (take (l.at + 1) history)) size window accepted) l.events last_end

abbrev pub EachGood : (history : List Seen) (lane size window : ℕ) (accepted : Bool) → List SendingList → Type 0
EachGood history lane size window accepted [] = Unit {0}
EachGood history lane size window accepted (l ∷ ls) = IsGoodSending history lane size window accepted l
    × EachGood history lane size window accepted ls

-- The steps of the half in the history ------------------------------------------------------------

-- with the places where the lane was opened or bound
pub data HalfStep : Type 0 where
  Binds : (at : ℕ) → HalfStep
  Makes : SendStep → HalfStep

abbrev pub sending_step : (at : ℕ) → SeenStep → List HalfStep
sending_step at (h.LaneOpen agreed size window) = Binds at ∷ []
sending_step at (h.LaneAgree size window) = []
sending_step at (h.Bind g) = Binds at ∷ []
sending_step at (h.Start g k octets) = Makes (s.Start octets) ∷ []
sending_step at (h.Confirm g k n) = Makes (s.Confirm n) ∷ []
sending_step at (h.To_end g k) = Makes s.To_end ∷ []
sending_step at (h.Sent g k) = Makes s.Sent ∷ []
sending_step at (h.Refused g k) = Makes s.Refused ∷ []
sending_step at (h.Denied g k) = Makes s.Denied ∷ []
sending_step at (h.Dropped g k) = Makes s.Dropped ∷ []
sending_step at (h.Abandon k) = Makes s.Abandon ∷ []
sending_step at (h.Secure g k n piece) = []
sending_step at (h.Complete g k n piece) = []
sending_step at (h.Drop g k) = []
sending_step at (h.CloseLane g) = []

-- In a list of world events ---------------------------------------------------------------------------

-- What this agent's end does: it joins a link, does something there, or the activity is given up.
pub data OwnEvent : Type 0 where
  Joins : (link : ℕ) → OwnEvent
  Does : (link : ℕ) → SendEvent → OwnEvent
  Gives_up : OwnEvent

abbrev pub own_event : WorldEvent → List OwnEvent
own_event (x.Sender_opens i) = Joins i ∷ []
own_event (x.Sender_joins i) = Joins i ∷ []
own_event (x.Sender_puts i u) = Does i (s.Put u) ∷ []
own_event (x.Sender_gets i u) = Does i (s.Got u) ∷ []
own_event (x.Sender_makes i step) = Does i (s.Made step) ∷ []
own_event x.Sender_gives_up = Gives_up ∷ []
own_event _ = []

abbrev pub own_events : List WorldEvent → List OwnEvent
own_events [] = []
own_events (e ∷ es) = own_event e ++ own_events es

-- an Abandon names no link, because any pass may make it
abbrev pub on : (link : ℕ) → SendEvent → OwnEvent
on i (s.Made s.Abandon) = Gives_up
on i e = Does i e

abbrev pub step_in : SendEvent → List HalfStep
step_in (s.Made step) = Makes step ∷ []
step_in _ = []

abbrev pub steps_in : List SendEvent → List HalfStep
steps_in [] = []
steps_in (e ∷ es) = step_in e ++ steps_in es

-- The lists stand one after another, each on a link of its own, and what is given up in none of them stands outside
-- them all.
pub data InOrder : List SendingList → List OwnEvent → List HalfStep → Type 0 where
  Ends : InOrder [] [] []
  Outside : {ls : List SendingList} {own : List OwnEvent} {steps : List HalfStep} → InOrder ls own steps
      → InOrder ls (Gives_up ∷ own) (Makes s.Abandon ∷ steps)
  Stands : {ls : List SendingList} {own : List OwnEvent} {steps : List HalfStep} (link : ℕ) (l : SendingList)
      → InOrder ls own steps
      → InOrder (l ∷ ls) (Joins link ∷ (map (on link) l.events ++ own))
      (Binds l.at ∷ (steps_in l.events ++ steps))

-- The same of the steps alone, as a history has them
pub data StepsInOrder : List SendingList → List HalfStep → Type 0 where
  Ends_here : StepsInOrder [] []
  Given_up : {ls : List SendingList} {steps : List HalfStep} → StepsInOrder ls steps
      → StepsInOrder ls (Makes s.Abandon ∷ steps)
  Then : {ls : List SendingList} {steps : List HalfStep} (l : SendingList) → StepsInOrder ls steps
      → StepsInOrder (l ∷ ls) (Binds l.at ∷ (steps_in l.events ++ steps))

-- where the links of the lists are named, there are own events that have them
abbrev pub OwnEventsStand : Type 0
OwnEventsStand = (link : ℕ → ℕ) (lists : List SendingList) (steps : List HalfStep) → StepsInOrder lists steps
    → (own : List OwnEvent) × InOrder lists own steps

-- The half of this world is the one that the lane has.
pub record IsSendingOf (w : World) (l : Halves) : Type 0 where
  pub state : w.state ≡ l.state
  pub octets : is_idle l.state ≡ false → w.octets (last_of w.state) ≡ l.octets

-- The world events in which this agent's sending end did what its sessions did, in the history's order: their premises
-- are those on the links and on the other end alone.
pub record SendsOnRun (spells : List ℕ → Bool) (before added : List Seen) (lane : ℕ) (lists : List SendingList)
    (w : World) (events : List WorldEvent) : Type 0 where
  pub begins : IsSendingOf w (lane_upto (before ++ added) lane before)
  pub order : InOrder lists (own_events events) (half_steps sending_step lane (length before) added)
  pub fits : x.AllFit w events
  pub other : x.ReceiverKeepsRules spells w events
  pub good : EachGood (before ++ added) lane w.size w.window (not w.sender_opens) lists
  pub possible : h.LanesAllow spells (before ++ added)

-- Such events keep the rules of the sending end.
abbrev pub SendingsKeepRules : Type 0
SendingsKeepRules =
    (spells : List ℕ → Bool) (before added : List Seen) (lane : ℕ) (lists : List SendingList) (w : World)
    (events : List WorldEvent)
    → SendsOnRun spells before added lane lists w events → x.SenderKeepsRules w events
