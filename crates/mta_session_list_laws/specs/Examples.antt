-- Worked rows: calls, and the lists that they make.
use Rattle.std.specs.Prelude.{◌≡◌, ℕ, Bool, true, false, Some, None, Ok, Err, List, [], ◌∷◌}
use Rattle.mta_lane_send.specs.declared.state.SendState.{SendState}
use Rattle.mta_lane_send.specs.declared.state.SendState.TheVariants as state
use Rattle.mta_lane_recv.specs.declared.state.Last.TheVariants as last
use Rattle.mta_rtse.specs.declared.types.Answer.TheVariants as answer
use Rattle.mta_units.specs.declared.unit.Unit.{Unit as AnyUnit}
use Rattle.mta_units.specs.declared.unit.Unit.TheVariants as unit
use Rattle.mta_transfer_rules.specs.Lanes as h
use Rattle.mta_transfer_rules.specs.Lanes.{Seen, On}
use Rattle.mta_transfer_rules.specs.Sending as s
use Rattle.mta_transfer_rules.specs.Sending.{SendEnd, SendStage}
use Rattle.mta_transfer_rules.specs.Receiving as r
use Rattle.mta_transfer_rules.specs.Receiving.{RecvEnd}
use Rattle.mta_records.specs.declared.fault.StepFault.TheVariants as fault
use Rattle.mta_session.specs.declared.ask.Ask.TheVariants as ask
use Rattle.mta_session.specs.declared.ask.Reply.TheVariants as reply
use Rattle.mta_session.specs.declared.event.Action.{Action}
use Rattle.mta_session.specs.declared.event.Action.TheVariants as action
use Rattle.mta_session.specs.declared.event.Event.{Event}
use Rattle.mta_session.specs.declared.event.Event.TheVariants as event
use Rattle.mta_session.specs.declared.event.InitiatorPlan.{InitiatorPlan}
use Rattle.mta_session.specs.declared.event.SessionEnd.TheVariants as end
use Rattle.mta_session.specs.declared.phase.OwnStep.TheVariants as own
use Rattle.mta_session.specs.declared.phase.Phase.{Phase}
use Rattle.mta_session.specs.declared.phase.Phase.TheVariants as phase
use Rattle.mta_session.specs.State.{State}
use Rattle.mta_session.specs.Session.{new_initiator, new_responder}
use Rattle.mta_session.specs.Wanted.{open_unit}
use Rattle.mta_transfer_laws.specs.Sessions.{SessionEvent, Got, Put, Made, Looked, At_sending, Elsewhere}
use Rattle.mta_session_list_laws.specs.Calls.{Call, list_of}
use Rattle.mta_session_list_laws.specs.Abandons.{with_abandons}
use Rattle.mta_session_list_laws.specs.Standing.{AllComeTrue}
use Rattle.mta_session_list_laws.specs.Lists.{end_begun}

abbrev pub call : State → Event → Action → State → (seen : ℕ) → Call
call before e a after seen = record {
  turn = record { before = before; event = e; action = a; after = after };
  seen = seen;
}

abbrev pub two : List ℕ
two = 1 ∷ 2 ∷ []

-- ---- a responder takes a message in one piece, and the lane is closed

abbrev pub responder : Phase → RecvEnd → State
responder p recv = record (new_responder [] 100) {
  phase = p;
  lane = 1;
  generation = 1;
  checkpoint = 2;
  window = 1;
  agreed = true;
  recv = recv;
}

abbrev pub at : r.RecvStage → RecvEnd
at stage = record { high = 0; last = last.None; stage = stage; from = 0; acked = 0 }

abbrev pub done : RecvEnd
done = record { high = 1; last = last.Done 1; stage = r.Free; from = 0; acked = 0 }

abbrev pub accepted : AnyUnit
accepted = unit.Accept 2 1 (answer.Bind [] [])

abbrev pub taken_history : List Seen
taken_history =
    On 1 (h.LaneOpen true 2048 1) ∷ h.Elsewhere ∷ On 1 (h.Complete 1 1 1 two) ∷ On 1 (h.CloseLane 1) ∷ []

abbrev pub taken_calls : List Call
taken_calls =
    call (responder phase.PutsAccept (at r.Free)) event.Go action.Read (responder phase.Reads (at r.Free)) 1 ∷
    call (responder phase.Reads (at r.Free)) (event.Unit (unit.Start 1)) action.Read
    (responder phase.Reads (at (r.Next 1 0))) 1 ∷
    call (responder phase.Reads (at (r.Next 1 0))) (event.Unit (unit.Piece two)) action.Read
    (responder phase.Reads (at (r.Held 1 1 two))) 1 ∷
    call (responder phase.Reads (at (r.Held 1 1 two))) (event.Unit (unit.End 1))
    (action.Ask (ask.Complete 1 1 1 1 two)) (responder (phase.AsksComplete 1 1) (at (r.Ended 1 1 []))) 1 ∷
    call (responder (phase.AsksComplete 1 1) (at (r.Ended 1 1 []))) (event.Reply (reply.Complete (Ok 7)))
    (action.Put (unit.EndAck 1)) (responder phase.Puts done) 3 ∷
    call (responder phase.Puts done) event.Go action.Read (responder phase.Reads done) 3 ∷
    call (responder phase.Reads done) (event.Unit unit.Close) (action.Ask (ask.CloseLane 1 1))
    (responder phase.AsksClose done) 3 ∷
    call (responder phase.AsksClose done) (event.Reply (reply.CloseLane (Ok tt))) (action.Put unit.CloseAck)
    (responder (phase.PutsLast end.Closed) done) 4 ∷
    call (responder (phase.PutsLast end.Closed) done) event.Go (action.Finish end.Closed)
    (responder (phase.Ended end.Closed) done) 4 ∷ []

abbrev pub taken_list : List SessionEvent
taken_list =
    Put accepted ∷ Got (unit.Start 1) ∷ Got (unit.Piece two) ∷ Got (unit.End 1) ∷
    Made 2 1 (h.Complete 1 1 1 two) ∷ Put (unit.EndAck 1) ∷ Got unit.Close ∷ Made 3 1 (h.CloseLane 1) ∷
    Put unit.CloseAck ∷ []

-- The history has what the calls tell, and this is their list.
pub record TakesOne : Type 0 where
  pub true_ : AllComeTrue (λ o. true) taken_history 1 (action.Put accepted) taken_calls
  pub list : list_of (action.Put accepted) taken_calls ≡ taken_list

-- ---- another pass gives an initiator's activity up

abbrev pub plan : InitiatorPlan
plan = record {
  own = [];
  peer = [];
  lane = 1;
  generation = 1;
  recovering = false;
  reference = record { calling = []; common = 0; additional = None };
  checkpoint = 2;
  window = 1;
  twa = false;
  send_password = [];
  expected_password = [];
}

abbrev pub sender : Phase → (agreed ours : Bool) → SendEnd → State
sender p agreed ours send = record (new_initiator plan 100) { phase = p; agreed = agreed; ours = ours; send = send }

abbrev pub sending : SendState → List ℕ → (accepted : Bool) → SendStage → SendEnd
sending state octets accepted stage = record {
  state = state;
  octets = octets;
  size = 2048;
  window = 1;
  accepted = accepted;
  stage = stage;
  heard = None;
}

abbrev pub idle : SendEnd
idle = sending (state.Idle 0) [] true s.Quiet

abbrev pub given_up_history : List Seen
given_up_history =
    On 1 (h.LaneOpen false 2048 1) ∷ On 1 (h.LaneAgree 2048 1) ∷ On 1 (h.Start 1 1 two) ∷ On 1 (h.Abandon 1) ∷
    On 1 (h.Dropped 1 1) ∷ []

abbrev pub opened : AnyUnit
opened = unit.Open (open_unit plan (new_initiator plan 100))

abbrev pub given_up_calls : List Call
given_up_calls =
    call (new_initiator plan 100) event.Go (action.Put opened)
    (sender phase.PutsOpen false false (sending (state.Idle 0) [] false s.Quiet)) 1 ∷
    call (sender phase.PutsOpen false false (sending (state.Idle 0) [] false s.Quiet)) event.Go action.Read
    (sender phase.ReadsAnswer false false (sending (state.Idle 0) [] false s.Quiet)) 1 ∷
    call (sender phase.ReadsAnswer false false (sending (state.Idle 0) [] false s.Quiet)) (event.Unit accepted)
    (action.Ask (ask.LaneAgree 1 1 2 1))
    (sender phase.AsksAgree false false (sending (state.Idle 0) [] false s.Quiet)) 1 ∷
    call (sender phase.AsksAgree false false (sending (state.Idle 0) [] false s.Quiet))
    (event.Reply (reply.LaneAgree (Ok tt))) (action.Ask (ask.BatchFor [])) (sender phase.AsksBatch true true idle) 2 ∷
    call (sender phase.AsksBatch true true idle)
    (event.Reply (reply.BatchFor (Ok (Some (record { item = 1; recipients = 1 ∷ [] })))))
    (action.Ask (ask.Start 1 1 (record { item = 1; recipients = 1 ∷ [] })))
    (sender phase.AsksStart true true idle) 2 ∷
    call (sender phase.AsksStart true true idle)
    (event.Reply (reply.Start (Ok (record { activity = 1; octets = two })))) (action.Put (unit.Start 1))
    (sender phase.Puts true true (sending (state.Sending 1 0) two true (s.Next 1 0))) 3 ∷
    call (sender phase.Puts true true (sending (state.Sending 1 0) two true (s.Next 1 0))) event.Go
    (action.Put (unit.Piece two)) (sender phase.Puts true true
    (sending (state.Sending 1 0) two true (s.Last_put 1 1))) 3 ∷
    call (sender phase.Puts true true (sending (state.Sending 1 0) two true (s.Last_put 1 1))) event.Go
    (action.Ask (ask.Ending 1 1 1))
    (sender (phase.AsksStep own.Ending) true true (sending (state.Sending 1 0) two true (s.Last_put 1 1))) 3 ∷
    call (sender (phase.AsksStep own.Ending) true true (sending (state.Sending 1 0) two true (s.Last_put 1 1)))
    (event.Reply (reply.Ending (Err fault.Unexpected))) (action.Ask (ask.Recovery 1))
    (sender phase.AsksState true true (sending (state.Sending 1 0) two true (s.Last_put 1 1))) 4 ∷
    call (sender phase.AsksState true true (sending (state.Sending 1 0) two true (s.Last_put 1 1)))
    (event.Reply (reply.Recovery (Some (state.Dropping 1)))) (action.Put (unit.Discard 1))
    (sender phase.Puts true true (sending (state.Dropping 1) two true (s.Discard_put 1))) 4 ∷
    call (sender phase.Puts true true (sending (state.Dropping 1) two true (s.Discard_put 1))) event.Go action.Read
    (sender phase.Reads true true (sending (state.Dropping 1) two true (s.Discard_put 1))) 4 ∷
    call (sender phase.Reads true true (sending (state.Dropping 1) two true (s.Discard_put 1)))
    (event.Unit (unit.DiscardAck 1)) (action.Ask (ask.Dropped 1 1 1))
    (sender (phase.AsksStep own.Dropped) true true (sending (state.Dropping 1) two true (s.Discard_put 1))) 4 ∷
    call (sender (phase.AsksStep own.Dropped) true true (sending (state.Dropping 1) two true (s.Discard_put 1)))
    (event.Reply (reply.Dropped (Ok tt))) (action.Ask (ask.BatchFor []))
    (sender phase.AsksBatch true true (sending (state.Idle 1) [] true s.Quiet)) 5 ∷ []

-- the list of the calls, and with the Abandon that the first look at it has
abbrev pub given_up_list : List SessionEvent
given_up_list =
    Put opened ∷ Got accepted ∷ Made 1 1 (h.LaneAgree 2048 1) ∷ Looked 2 Elsewhere ∷
    Made 2 1 (h.Start 1 1 two) ∷ Put (unit.Start 1) ∷ Put (unit.Piece two) ∷ Looked 4 At_sending ∷
    Looked 4 At_sending ∷ Put (unit.Discard 1) ∷ Got (unit.DiscardAck 1) ∷ Made 4 1 (h.Dropped 1 1) ∷ []

abbrev pub completed_list : List SessionEvent
completed_list =
    Put opened ∷ Got accepted ∷ Made 1 1 (h.LaneAgree 2048 1) ∷ Looked 2 Elsewhere ∷
    Made 2 1 (h.Start 1 1 two) ∷ Put (unit.Start 1) ∷ Put (unit.Piece two) ∷ Made 3 1 (h.Abandon 1) ∷
    Looked 4 At_sending ∷ Looked 4 At_sending ∷ Put (unit.Discard 1) ∷ Got (unit.DiscardAck 1) ∷
    Made 4 1 (h.Dropped 1 1) ∷ []

pub record GivesUp : Type 0 where
  pub true_ : AllComeTrue (λ o. true) given_up_history 1 action.Read given_up_calls
  pub list : list_of action.Read given_up_calls ≡ given_up_list
  pub completed : with_abandons given_up_history 1 1 (end_begun given_up_history 1 2048 1 0 true) given_up_list
      ≡ completed_list

-- ---- an initiator's lane is recovered, with an activity of which one piece is confirmed

abbrev pub recovering : InitiatorPlan
recovering = record plan { generation = 2; recovering = true }

abbrev pub recovers : Phase → State
recovers p = record (new_initiator recovering 100) { phase = p }

abbrev pub resumed : SendEnd
resumed = sending (state.Sending 1 1) two false s.Opened

abbrev pub resumes : Phase → SendEnd → State
resumes p send = record (new_initiator recovering 100) { phase = p; agreed = true; send = send }

abbrev pub reopened : AnyUnit
reopened = unit.Open (open_unit recovering (recovers phase.AsksValues))

abbrev pub reaccepted : AnyUnit
reaccepted = unit.Accept 2 1 (answer.Recover recovering.reference)

abbrev pub resumed_calls : List Call
resumed_calls =
    call (new_initiator recovering 100) event.Go (action.Ask (ask.Values 1)) (recovers phase.AsksValues) 5 ∷
    call (recovers phase.AsksValues)
    (event.Reply (reply.Values (Some (record { checkpoint = 2; window = 1; twa = false; agreed = true }))))
    (action.Ask (ask.Recovery 1)) (recovers phase.AsksRecovery) 5 ∷
    call (recovers phase.AsksRecovery) (event.Reply (reply.Recovery (Some (state.Sending 1 1))))
    (action.Ask (ask.Receiving 1)) (recovers (phase.AsksReceiving (state.Sending 1 1))) 5 ∷
    call (recovers (phase.AsksReceiving (state.Sending 1 1))) (event.Reply (reply.Receiving (Some (0, last.None))))
    (action.Ask (ask.Resumed 1)) (recovers (phase.AsksResumed (state.Sending 1 1))) 5 ∷
    call (recovers (phase.AsksResumed (state.Sending 1 1)))
    (event.Reply (reply.Resumed (Ok (Some (record { activity = 1; octets = two }))))) (action.Put reopened)
    (resumes phase.PutsOpen resumed) 5 ∷
    call (resumes phase.PutsOpen resumed) event.Go action.Read (resumes phase.ReadsAnswer resumed) 5 ∷
    call (resumes phase.ReadsAnswer resumed) (event.Unit reaccepted) (action.Put (unit.Resume 1 1))
    (resumes phase.Puts resumed) 5 ∷
    call (resumes phase.Puts resumed) event.Over (action.Finish end.Broken) (resumes (phase.Ended end.Broken) resumed)
    5 ∷
    []

-- The looks of the turn of the Bind come first. A unit of which it is not known whether it was put wholly stands.
abbrev pub Resumes : Type 0
Resumes = list_of action.Read resumed_calls ≡
    Looked 5 Elsewhere ∷ Looked 5 At_sending ∷ Looked 5 Elsewhere ∷ Looked 5 At_sending ∷ Put reopened ∷
    Got reaccepted ∷ Put (unit.Resume 1 1) ∷ []
