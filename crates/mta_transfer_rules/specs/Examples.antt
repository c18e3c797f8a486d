-- A transfer of five octets in pieces of two that broke behind its first confirmation, on its next link.
use Rattle.std.specs.Prelude.{ℕ, true, None, List, [], ◌∷◌}
use Rattle.mta_lane_send.specs.declared.state.SendState.TheVariants as state
use Rattle.mta_lane_recv.specs.declared.state.Last.TheVariants as last
use Rattle.mta_transfer_rules.specs.Units.{Piece, Sync, End, Resume, SyncAck, EndAck, ResumeAck}
use Rattle.mta_transfer_rules.specs.Sending as s
use Rattle.mta_transfer_rules.specs.Receiving as r

abbrev pub five : List ℕ
five = 1 ∷ 2 ∷ 3 ∷ 4 ∷ 5 ∷ []

-- one piece is confirmed
abbrev pub broken_sender : s.SendEnd
broken_sender = record {
  state = state.Sending 1 1;
  octets = five;
  size = 2;
  window = 1;
  accepted = true;
  stage =
      s.Next 1 1;
  heard = None;
}

abbrev pub settled_sender : s.SendEnd
settled_sender = record {
  state = state.Idle 1;
  octets = five;
  size = 2;
  window = 1;
  accepted = true;
  stage =
      s.Quiet;
  heard = None;
}

abbrev pub sending_events : List s.SendEvent
sending_events =
    s.New_link true
    ∷ s.Put (Resume 1 1) ∷ s.Got (ResumeAck 1 1)
    ∷ s.Put (Piece (3 ∷ 4 ∷ [])) ∷ s.Put (Sync 2) ∷ s.Got (SyncAck 2) ∷ s.Made (s.Confirm 2)
    ∷ s.Put (Piece (5 ∷ [])) ∷ s.Made s.To_end ∷ s.Put (End 1) ∷ s.Got (EndAck 1) ∷ s.Made s.Sent ∷ []

abbrev pub SenderResumes : Type 0
SenderResumes = s.IsSendingEnd broken_sender sending_events settled_sender

-- one piece stands
abbrev pub broken_receiver : r.RecvEnd
broken_receiver = record { high = 1; last = last.Partial 1 1; stage = r.Next 1 1; from = 0; acked = 1 }

abbrev pub done_receiver : r.RecvEnd
done_receiver = record { high = 1; last = last.Done 1; stage = r.Free; from = 1; acked = 2 }

abbrev pub receiving_events : List r.RecvEvent
receiving_events =
    r.New_link
    ∷ r.Took (Resume 1 1) ∷ r.Put (ResumeAck 1 1)
    ∷ r.Took (Piece (3 ∷ 4 ∷ [])) ∷ r.Took (Sync 2) ∷ r.Made (r.Secure 1 2 (3 ∷ 4 ∷ [])) ∷ r.Put
    (SyncAck 2)
    ∷ r.Took (Piece (5 ∷ [])) ∷ r.Took (End 1) ∷ r.Made (r.Complete 1 3 (5 ∷ [])) ∷ r.Put (EndAck 1) ∷ []

abbrev pub ReceiverResumes : Type 0
ReceiverResumes = r.IsReceivingEnd broken_receiver receiving_events done_receiver
