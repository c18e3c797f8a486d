-- A message of three octets in pieces of two that an initiator sends in two sessions, as the first one breaks behind
-- End.
use Rattle.std.specs.Prelude.{◌≡◌, ℕ, true, false, List, [], ◌∷◌}
use Rattle.mta_rtse.specs.declared.types.Answer.{Answer}
use Rattle.mta_units.specs.declared.unit.OpenUnit.{OpenUnit}
use Rattle.mta_units.specs.declared.unit.Unit.{Unit as AnyUnit}
use Rattle.mta_units.specs.declared.unit.Unit.TheVariants.{Open, Accept, Start, Piece, Sync, SyncAck, End, EndAck}
use Rattle.mta_units.specs.declared.unit.Unit.TheVariants.{Resume, ResumeAck, Discard, DiscardAck, Please, Close}
use Rattle.mta_units.specs.declared.unit.Unit.TheVariants.{CloseAck, Give, Abort}
use Rattle.mta_transfer_rules.specs.Units as u
use Rattle.mta_transfer_rules.specs.Sending as s
use Rattle.mta_transfer_rules.specs.Receiving as r
use Rattle.mta_world.specs.World.{World, first_world}
use Rattle.mta_transfer_laws.specs.Events as x
use Rattle.mta_transfer_laws.specs.Events.{WorldEvent, after_all}
use Rattle.mta_transfer_rules.specs.Lanes as h
use Rattle.mta_transfer_rules.specs.Lanes.{Seen, On, Halves, LanesAllow}
use Rattle.mta_lane_recv.specs.declared.state.Last.TheVariants as last
use Rattle.mta_transfer_laws.specs.Covering as sent
use Rattle.mta_transfer_laws.specs.ReceivingOrder as received
use Rattle.mta_transfer_laws.specs.Sessions.{SessionList, Got, Put, Made, Looked, No_batch, At_sending, Elsewhere}
use Rattle.mta_transfer_laws.specs.Sessions.{IsGoodSession}
use Rattle.mta_transfer_laws.specs.History.{IsOfLanes}
use Rattle.mta_transfer_laws.specs.Acknowledged.{HasPut, IsCompleteIn}
use Rattle.mta_transfer_laws.specs.Run.{EachGood, SendsIn}

abbrev pub three : List ℕ
three = 1 ∷ 2 ∷ 3 ∷ []

abbrev pub steps : List Seen
steps =
    On 0 (h.LaneOpen false 0 0) ∷ On 0 (h.LaneAgree 2 1) ∷ On 0 (h.Start 1 1 three) ∷
    On 0 (h.Confirm 1 1 1) ∷ h.Elsewhere ∷ On 0 (h.To_end 1 1) ∷ On 0 (h.Bind 2) ∷ On 0 (h.Sent 2 1) ∷
    On 0 (h.CloseLane 2) ∷ []

-- the world of it, with the other end
abbrev pub happened : List WorldEvent
happened =
    x.Sender_opens 0 ∷ x.Receiver_joins 0 ∷ x.Receiver_puts 0 u.Accept ∷ x.Sender_gets 0 u.Accept ∷
    x.Sender_makes 0 (s.Start three) ∷ x.Sender_puts 0 (u.Start 1) ∷
    x.Sender_puts 0 (u.Piece (1 ∷ 2 ∷ [])) ∷ x.Sender_puts 0 (u.Sync 1) ∷ x.Receiver_takes 0 (u.Start 1) ∷
    x.Receiver_takes 0 (u.Piece (1 ∷ 2 ∷ [])) ∷ x.Receiver_takes 0 (u.Sync 1) ∷
    x.Receiver_makes 0 (r.Secure 1 1 (1 ∷ 2 ∷ [])) ∷ x.Receiver_puts 0 (u.SyncAck 1) ∷
    x.Sender_gets 0 (u.SyncAck 1) ∷ x.Sender_makes 0 (s.Confirm 1) ∷ x.Sender_puts 0 (u.Piece (3 ∷ [])) ∷
    x.Sender_makes 0 s.To_end ∷ x.Sender_puts 0 (u.End 1) ∷
    -- the last piece and End are lost
    x.Loses_up 0 0 ∷ x.Sender_opens 1 ∷ x.Receiver_joins 1 ∷ x.Receiver_puts 1 u.Accept ∷
    x.Sender_gets 1 u.Accept ∷ x.Sender_puts 1 (u.Resume 1 1) ∷ x.Receiver_takes 1 (u.Resume 1 1) ∷
    x.Receiver_puts 1 (u.ResumeAck 1 1) ∷ x.Sender_gets 1 (u.ResumeAck 1 1) ∷
    x.Sender_puts 1 (u.Piece (3 ∷ [])) ∷ x.Sender_puts 1 (u.End 1) ∷
    x.Receiver_takes 1 (u.Piece (3 ∷ [])) ∷ x.Receiver_takes 1 (u.End 1) ∷
    x.Receiver_makes 1 (r.Complete 1 2 (3 ∷ [])) ∷ x.Receiver_puts 1 (u.EndAck 1) ∷
    x.Sender_gets 1 (u.EndAck 1) ∷ x.Sender_makes 1 s.Sent ∷ []

abbrev pub at_first : World
at_first = first_world true 2 1

-- what another pass made of it
abbrev pub given_up : List Seen
given_up =
    On 0 (h.LaneOpen false 0 0) ∷ On 0 (h.LaneAgree 2 1) ∷ On 0 (h.Start 1 1 three) ∷ On 0 (h.Abandon 1) ∷
    On 0 (h.Dropped 1 1) ∷ []

-- an initiator's lane that is agreed
abbrev pub agreed_lane : List Seen
agreed_lane = On 0 (h.LaneOpen false 2 1) ∷ On 0 (h.LaneAgree 2 1) ∷ []

-- a responder's lane on which an activity is started
abbrev pub crossed_lane : List Seen
crossed_lane = On 0 (h.LaneOpen true 2 1) ∷ On 0 (h.Start 1 1 three) ∷ []

-- a responder's lane that has completed an activity
abbrev pub done_lane : Halves
done_lane = record h.unopened {
  phase = h.Open;
  generation = 1;
  agreed = true;
  size = 2;
  window = 1;
  high = 1;
  last = last.Done 1;
}

-- a snapshot that has it, and its next generation
abbrev pub done_before : List Seen
done_before = h.Begins 1 ((1, done_lane) ∷ []) ∷ On 1 (h.Bind 2) ∷ []

-- ---- the lists, whatever the Open proposes and the Accept agrees

module _ (proposal : OpenUnit) (size window : ℕ) (answer : Answer) where
  abbrev opened : AnyUnit
  opened = Open proposal

  abbrev accepted : AnyUnit
  accepted = Accept size window answer

  abbrev pub first_session : SessionList
  first_session = record {
    opening = [];
    at = 0;
    events =
        Put opened ∷ Got accepted ∷ Made 1 0 (h.LaneAgree 2 1) ∷ Made 2 0 (h.Start 1 1 three) ∷
        Put (Start 1) ∷ Put (Piece (1 ∷ 2 ∷ [])) ∷ Put (Sync 1) ∷ Got (SyncAck 1) ∷
        Made 3 0 (h.Confirm 1 1 1) ∷ Put (Piece (3 ∷ [])) ∷ Made 5 0 (h.To_end 1 1) ∷ Put (End 1) ∷
        [];
  }

  abbrev pub second_session : SessionList
  second_session = record {
    opening = [];
    at = 6;
    events =
        Put opened ∷ Got accepted ∷ Put (Resume 1 1) ∷ Got (ResumeAck 1 1) ∷ Put (Piece (3 ∷ [])) ∷
        Put (End 1) ∷ Got (EndAck 1) ∷ Made 7 0 (h.Sent 2 1) ∷ Looked 8 No_batch ∷ Put Close ∷
        Got CloseAck ∷ Made 8 0 (h.CloseLane 2) ∷ [];
  }

  abbrev pub both : List SessionList
  both = first_session ∷ second_session ∷ []

  -- Both lists are good, and the world has them: the message arrives once.
  pub record TwoSessionsSend : Type 0 where
    pub possible : LanesAllow (λ o. true) steps
    pub owns_sending : sent.Owns steps 0 0 both
    pub owns_receiving : received.Owns steps 0 0 both
    pub good : EachGood (λ o. true) steps 0 2 1 true both
    pub sends : SendsIn (λ o. true) [] steps 0 2 1 true both at_first happened
    pub once : (after_all at_first happened).completed ≡ record { activity = 1; octets = three } ∷ []
    pub sent : (after_all at_first happened).sent ≡ (after_all at_first happened).completed

  -- Another pass gives the activity up while the session waits for SyncAck; the refused Confirm shows it, and
  -- Discard follows.
  abbrev pub dropping_session : SessionList
  dropping_session = record {
    opening = [];
    at = 0;
    events =
        Put opened ∷ Got accepted ∷ Made 1 0 (h.LaneAgree 2 1) ∷ Made 2 0 (h.Start 1 1 three) ∷
        Put (Start 1) ∷ Put (Piece (1 ∷ 2 ∷ [])) ∷ Put (Sync 1) ∷ Got (SyncAck 1) ∷
        Made 3 0 (h.Abandon 1) ∷ Looked 4 At_sending ∷ Looked 4 At_sending ∷ Put (Discard 1) ∷
        Got (DiscardAck 1) ∷ Made 4 0 (h.Dropped 1 1) ∷ [];
  }

  abbrev pub ASessionDrops : Type 0
  ASessionDrops = IsGoodSession (λ o. true) given_up 0 2 1 true dropping_session

  -- With the Abandon behind the look that has it, or with a piece behind it, the list is not good.
  abbrev pub late_session : SessionList
  late_session = record {
    opening = [];
    at = 0;
    events =
        Put opened ∷ Got accepted ∷ Made 1 0 (h.LaneAgree 2 1) ∷ Made 2 0 (h.Start 1 1 three) ∷
        Put (Start 1) ∷ Put (Piece (1 ∷ 2 ∷ [])) ∷ Put (Sync 1) ∷ Got (SyncAck 1) ∷
        Looked 4 At_sending ∷ Made 3 0 (h.Abandon 1) ∷ [];
  }

  abbrev pub ALateAbandonIsNotGood : Type 0
  ALateAbandonIsNotGood = IsGoodSession (λ o. true) given_up 0 2 1 true late_session → ⊥

  -- A session that takes a unit without the step that the one before it calls for is not good.
  abbrev pub idle_session : SessionList
  idle_session = record {
    opening = [];
    at = 0;
    events =
        Put opened ∷ Got accepted ∷ Made 1 0 (h.LaneAgree 2 1) ∷ Made 2 0 (h.Start 1 1 three) ∷
        Put (Start 1) ∷ Put (Piece (1 ∷ 2 ∷ [])) ∷ Put (Sync 1) ∷ Got (SyncAck 1) ∷
        Got (Please 0) ∷ [];
  }

  abbrev pub AnUnconfirmedSyncIsNotGood : Type 0
  AnUnconfirmedSyncIsNotGood = IsGoodSession (λ o. true) given_up 0 2 1 true idle_session → ⊥

  -- Close crosses the responder's Please: Give comes behind it, and the responder sends.
  abbrev pub crossed_session : SessionList
  crossed_session = record {
    opening = [];
    at = 0;
    events =
        Put accepted ∷ Put (Please 0) ∷ Got Close ∷ Got Give ∷ Made 1 0 (h.Start 1 1 three) ∷
        Put (Start 1) ∷
        [];
  }

  abbrev pub ACrossedCloseIsGood : Type 0
  ACrossedCloseIsGood = IsGoodSession (λ o. true) crossed_lane 0 2 1 false crossed_session

  -- An initiator has CloseAck, and its lane cannot be closed: it puts an Abort.
  abbrev pub unclosed_session : SessionList
  unclosed_session = record {
    opening = [];
    at = 0;
    events =
        Put opened ∷ Got accepted ∷ Made 1 0 (h.LaneAgree 2 1) ∷ Looked 2 No_batch ∷ Put Close ∷
        Got CloseAck ∷
        Looked 2 Elsewhere ∷ Put (Abort 3) ∷ [];
  }

  abbrev pub AnUnclosedLaneIsGood : Type 0
  AnUnclosedLaneIsGood = IsGoodSession (λ o. true) agreed_lane 0 2 1 true unclosed_session

  -- The EndAck was lost. The activity is resumed behind a snapshot in which it is done, and its EndAck is put again.
  abbrev pub again_session : SessionList
  again_session = record {
    opening = [];
    at = 1;
    events =
        Put accepted ∷ Got (Resume 1 1) ∷ Put (ResumeAck 1 1) ∷ Got (Piece (3 ∷ [])) ∷ Got (End 1) ∷
        Put (EndAck 1) ∷
        [];
  }

  -- So an EndAck may have no Complete step in a history that begins with a snapshot.
  pub record AnEndAckIsPutAgain : Type 0 where
    pub possible : IsOfLanes (λ o. true) done_before
    pub good : IsGoodSession (λ o. true) done_before 1 2 1 false again_session
    pub put : HasPut (EndAck 1) again_session.events
    pub none : IsCompleteIn done_before 1 1 → ⊥
