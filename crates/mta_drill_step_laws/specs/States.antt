-- What the steps of a drill leave of the states of both agents.
use Rattle.std.specs.Prelude.{◌≡◌, ◌<◌, ℕ, ◌+◌, Bool, true, false, List, [], ◌∷◌, Some}
use Rattle.std.specs.List.{concat}
use Rattle.mta_lane_send.specs.Half.{is_idle}
use Rattle.mta_records.specs.declared.step.Step.{Step}
use Rattle.mta_records.specs.declared.step.Step.TheVariants as step
use Rattle.mta_machine.specs.Items.{Machine}
use Rattle.mta_histories.specs.Classes.{Class, LaneStep, agree, bind, close, confirm}
use Rattle.mta_histories.specs.Classes.{drop_pieces, on_lane, opens, secure, start, to_end, class_of}
use Rattle.mta_histories.specs.History.{after_step, transfer_of, with_piece}
use Rattle.mta_histories.specs.Lanes.{Lane, State, Transfer, lane_at}
use Rattle.mta_drill_laws.specs.Messages.{copy_of, message_of}
use Rattle.mta_drill_laws.specs.Tables.{east, first_text, second_text}
use Rattle.mta_drill_step_laws.specs.First.{AllAreFree, HasAccepted}
use Rattle.mta_drill_step_laws.specs.Second.{HasGot}

-- ---- steps that the items do not see

abbrev pub is_still_on_lane : LaneStep → Bool
is_still_on_lane (agree checkpoint window) = true
is_still_on_lane bind = true
is_still_on_lane (start k i rs) = true
is_still_on_lane (confirm k n) = true
is_still_on_lane (to_end k) = true
is_still_on_lane (secure k n piece) = true
is_still_on_lane (drop_pieces k) = true
is_still_on_lane close = true
is_still_on_lane _ = false

-- a lane is opened, agreed, bound or closed, and a piece of an activity goes or comes
abbrev pub is_still : Class → Bool
is_still (opens role peer reference twa checkpoint window) = true
is_still (on_lane n g ls) = is_still_on_lane ls
is_still _ = false

abbrev pub StillStepsLeaveItems : Type 0
StillStepsLeaveItems = (s : State) (made : Step) → is_still (class_of made) ≡ true
    → (after_step s made).machine ≡ s.machine

-- ---- before the first message

-- nothing but the format is set
abbrev pub fresh : Machine
fresh = record { format = 2; tables = []; items = []; mailboxes = []; moment = 0 }

abbrev pub FirstBegins : Type 0
FirstBegins = (before : ℕ) (s : State) → s.machine ≡ fresh
    → HasAccepted before 0 0 (after_step s (step.Tables first_text)).machine

abbrev pub SecondBegins : Type 0
SecondBegins = (before : ℕ) (s : State) → s.machine ≡ fresh
    → HasGot before 0 0 (after_step s (step.Tables second_text)).machine

-- ---- a message

abbrev pub AcceptedIsOneMore : Type 0
AcceptedIsOneMore = (before count : ℕ) (s : State) → HasAccepted before count 0 s.machine
    → HasAccepted before (count + 1) 0 (after_step s (step.Accept 0 (message_of (before + (count + 1))))).machine

-- what is transferred of the next message is its copy
abbrev pub TransferIsCopy : Type 0
TransferIsCopy = (before count done : ℕ) (s : State) → HasAccepted before count done s.machine → done < count
    → (transfer_of s.machine (done + 1) (1 ∷ []) 0).octets ≡ copy_of (before + (done + 1))

-- the lane transfers the next message to the second agent
pub record Transfers (done : ℕ) (lane : Lane) : Type 0 where
  pub peer : lane.peer ≡ east
  pub transfer : Transfer
  pub transfer_is : lane.transfer ≡ Some transfer
  pub item : transfer.item ≡ done + 1
  pub recipients : transfer.recipients ≡ 1 ∷ []

abbrev pub SentIsOneMore : Type 0
SentIsOneMore =
    (before count done n g k : ℕ) (s : State) (lane : Lane) → HasAccepted before count done s.machine
    → done < count → lane_at n s.lanes.open_lanes ≡ Some lane → Transfers done lane
    → HasAccepted before count (done + 1) (after_step s (step.Sent n g k 0)).machine

-- the pieces that stand are the copy of the next message with this one
abbrev pub CompleteIsOneMore : Type 0
CompleteIsOneMore =
    (before count done n g k m : ℕ) (piece : List ℕ) (s : State) (lane : Lane)
    → HasGot before count done s.machine → lane_at n s.lanes.open_lanes ≡ Some lane
    → concat (with_piece lane.pieces m piece) ≡ copy_of (before + (count + 1))
    → HasGot before (count + 1) done (after_step s (step.Complete n g k m piece 0)).machine

abbrev pub DeliveredIsOneMore : Type 0
DeliveredIsOneMore = (before count done : ℕ) (s : State) → HasGot before count done s.machine → done < count
    → HasGot before count (done + 1) (after_step s (step.Deliver (done + 1) 1 0)).machine

-- ---- lanes

-- with one lane, whose sending half is idle, all recipients are free, and with none
abbrev pub IdleLanesLeaveAllFree : Type 0
IdleLanesLeaveAllFree = (s : State) (lane : Lane) → s.lanes.open_lanes ≡ lane ∷ []
    → is_idle lane.sending ≡ true → AllAreFree s

abbrev pub NoLanesLeaveAllFree : Type 0
NoLanesLeaveAllFree = (s : State) → s.lanes.open_lanes ≡ [] → AllAreFree s
