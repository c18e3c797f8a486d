-- What two ends of a lane agree on, whatever became of the links, where the sessions of one station had the lane.
use Rattle.std.specs.Prelude.{◌≡◌, ℕ, Bool, List, [], ◌∷◌, ◌++◌, map, length}
use Rattle.mta_world.specs.World.{World}
use Rattle.mta_world.specs.Steps.{IsWorldRun}
use Rattle.mta_world.specs.Agrees.{Agrees}
use Rattle.mta_transfer_laws.specs.Events.{WorldEvent, after_all, AllFit, SenderKeepsRules, ReceiverKeepsRules}
use Rattle.mta_transfer_rules.specs.Lanes.{Seen, LanesAllow}
use Rattle.mta_transfer_laws.specs.History.{half_steps, lane_upto}
use Rattle.mta_transfer_laws.specs.Sessions.{SessionList, IsGoodSession, sending_list, receiving_list}
use Rattle.mta_transfer_laws.specs.Sendings as sending
use Rattle.mta_transfer_laws.specs.Receivings as receiving

-- each of the station's sessions of this lane has a good list
abbrev pub EachGood : (List ℕ → Bool) → (history : List Seen) → (lane size window : ℕ)
    → (initiator : Bool) → List SessionList → Type 0
EachGood spells history lane size window initiator [] = Unit {0}
EachGood spells history lane size window initiator (l ∷ ls) =
    IsGoodSession spells history lane size window initiator l × EachGood spells history lane size window initiator ls

-- This agent's end is the sending end. The world had come to its half before the call, as the
-- history has it there, or the snapshot with which it begins; in these events its steps are
-- those that were added, in order, and its units those of the session lists, at their places; the other end keeps its
-- rules, and units are queued, taken and lost as links allow.
pub record SendsIn (spells : List ℕ → Bool) (before added : List Seen) (lane size window : ℕ) (initiator : Bool)
    (sessions : List SessionList) (w : World) (events : List WorldEvent) : Type 0 where
  pub run : IsWorldRun spells w
  pub begins : sending.IsSendingOf w (lane_upto (before ++ added) lane before)
  pub size_agreed : w.size ≡ size
  pub window_agreed : w.window ≡ window
  pub role : w.sender_opens ≡ initiator
  pub order : sending.InOrder (map (sending_list lane) sessions) (sending.own_events events)
      (half_steps sending.sending_step lane (length before) added)
  pub fits : AllFit w events
  pub other : ReceiverKeepsRules spells w events

-- The same where it is the receiving end.
pub record ReceivesIn (spells : List ℕ → Bool) (before added : List Seen) (lane : ℕ)
    (sessions : List SessionList) (w : World) (events : List WorldEvent) : Type 0 where
  pub run : IsWorldRun spells w
  pub begins : receiving.IsReceivingOf w (lane_upto (before ++ added) lane before)
  pub order : receiving.InOrder (map (receiving_list lane) sessions) (receiving.own_events events)
      (half_steps receiving.receiving_step lane (length before) added)
  pub fits : AllFit w events
  pub other : SenderKeepsRules w events

-- the events go on from that world as a world run, and the ends agree
abbrev pub RunsAndAgrees : (List ℕ → Bool) → World → List WorldEvent → Type 0
RunsAndAgrees spells w events = IsWorldRun spells (after_all w events) × Agrees spells (after_all w events)

pub record EndsAgreeOnRun (spells : List ℕ → Bool) (before added : List Seen) (lane size window : ℕ)
    (initiator : Bool) (sessions : List SessionList) : Type 0 where
  pub sends : (w : World) (events : List WorldEvent)
      → SendsIn spells before added lane size window initiator sessions w events → RunsAndAgrees spells w events
  pub receives : (w : World) (events : List WorldEvent) → ReceivesIn spells before added lane sessions w events
      → RunsAndAgrees spells w events

-- Good session lists of one station over a possible history: the ends agree.
abbrev pub SessionsAgree : Type 0
SessionsAgree =
    (spells : List ℕ → Bool) (before added : List Seen) (lane size window : ℕ) (initiator : Bool)
    (sessions : List SessionList)
    → LanesAllow spells (before ++ added) → EachGood spells (before ++ added) lane size window initiator sessions
    → EndsAgreeOnRun spells before added lane size window initiator sessions
