-- What happens in a world: an end opens a link or takes its Open, an end does what its rules allow, a suffix
-- of a queue is lost, an end stops using a link, an end crashes and keeps its durable half.
use Rattle.std.specs.Prelude.{◌≡◌, ◌≤◌, ◌<◌, ℕ, ◌+◌, ◌-◌, Bool, true, false, Option, Some}
use Rattle.std.specs.Prelude.{None, List, [], ◌∷◌, ◌++◌, take}
use Rattle.mta_lane_send.specs.Half.{last_of, is_sending}
use Rattle.mta_transfer_rules.specs.Units.{LaneUnit}
use Rattle.mta_transfer_rules.specs.Units as u
use Rattle.mta_transfer_rules.specs.Pieces.{octets_with}
use Rattle.mta_transfer_rules.specs.Sending as s
use Rattle.mta_transfer_rules.specs.Receiving as r
use Rattle.mta_world.specs.World.{World, Link, Queue, Message, Outcome, Unsettled, Was_sent, Was_dropped, Was_refused}
use Rattle.mta_world.specs.World.{Was_denied, set_at, new_link, first_world, send_end, recv_end, send_part, recv_part}
use Rattle.mta_world.specs.World.{put_on, Takes}

-- Links --------------------------------------------------------------------------------------

abbrev pub with_link : World → ℕ → Link → World
with_link w i l = record w { links = set_at w.links i l }

-- the sending end opens its next link: the lane's initiator does
abbrev pub opened_by_sender : World → World
opened_by_sender w = record w {
  opened = w.opened + 1;
  send_link = Some w.opened;
  links =
      set_at w.links w.opened (new_link true false false w.state);
}

abbrev pub opened_by_receiver : World → World
opened_by_receiver w = record w {
  opened = w.opened + 1;
  recv_link = Some w.opened;
  links =
      set_at w.links w.opened (new_link false true false w.state);
}

-- an end takes the Open of link i, which is then its newest; a responder needs no Accept
abbrev pub joined_by_sender : World → ℕ → Link → World
joined_by_sender w i l =
    record w {
      send_link = Some i;
      links =
          set_at w.links i (record l {
            send_joined = true;
            send_stopped = false;
            send =
                record { accepted = true; stage = s.stage_on_link w.state; heard = None };
          });
    }

abbrev pub joined_by_receiver : World → ℕ → Link → World
joined_by_receiver w i l =
    record w {
      recv_link = Some i;
      links =
          set_at w.links i (record l {
            recv_joined = true;
            recv_stopped = false;
            recv =
                record { stage = r.Free; from = 0; acked = 0 };
          });
    }

-- a suffix of a queue is lost
abbrev pub lost : Queue → ℕ → Queue
lost q n = record q { reach = Some n }

-- no more than could be taken before
abbrev pub WithinReach : Option ℕ → ℕ → Type 0
WithinReach None n = Unit {0}
WithinReach (Some m) n = n ≤ m

-- an end uses a link that it joined and did not stop
abbrev pub SenderUses : Link → Type 0
SenderUses l = (l.send_joined ≡ true) × (l.send_stopped ≡ false)

abbrev pub ReceiverUses : Link → Type 0
ReceiverUses l = (l.recv_joined ≡ true) × (l.recv_stopped ≡ false)

-- a crash stops an end on every link
abbrev pub without_sender : World → World
without_sender w = record w { links = λ i. record (w.links i) { send_stopped = true } }

abbrev pub without_receiver : World → World
without_receiver w = record w { links = λ i. record (w.links i) { recv_stopped = true } }

-- The sending end --------------------------------------------------------------------------------

abbrev pub sender_did : World → ℕ → s.SendEnd → World
sender_did w i e = with_link w i (record (w.links i) { send = send_part e })

abbrev pub sender_put : World → ℕ → LaneUnit → World
sender_put w i x = with_link w i (record (w.links i) {
  up = put_on (w.links i).up x;
  send =
      send_part (s.put (send_end w (w.links i).send) x);
})

abbrev pub sender_got : World → ℕ → LaneUnit → Queue → World
sender_got w i x q = with_link w i (record (w.links i) {
  down = q;
  send =
      send_part (s.got (send_end w (w.links i).send) x);
})

abbrev pub outcome_of : s.SendStep → Outcome
outcome_of s.Sent = Was_sent
outcome_of s.Dropped = Was_dropped
outcome_of s.Refused = Was_refused
outcome_of s.Denied = Was_denied
outcome_of _ = Unsettled

abbrev pub sent_after : World → s.SendStep → List Message
sent_after w s.Sent = w.sent ++ record { activity = last_of w.state; octets = w.octets (last_of w.state) } ∷ []
sent_after w _ = w.sent

abbrev pub octets_after : World → s.SendStep → ℕ → List ℕ
octets_after w (s.Start octets) = set_at w.octets (last_of w.state + 1) octets
octets_after w _ = w.octets

abbrev pub outcome_after : World → s.SendStep → ℕ → Outcome
outcome_after w s.Sent = set_at w.outcome (last_of w.state) Was_sent
outcome_after w s.Dropped = set_at w.outcome (last_of w.state) Was_dropped
outcome_after w s.Refused = set_at w.outcome (last_of w.state) Was_refused
outcome_after w s.Denied = set_at w.outcome (last_of w.state) Was_denied
outcome_after w _ = w.outcome

abbrev pub sender_made : World → ℕ → s.SendStep → World
sender_made w i step =
    record (sender_did w i (s.made (send_end w (w.links i).send) step)) {
      state = s.state_after w.state step;
      octets = octets_after w step;
      outcome = outcome_after w step;
      sent = sent_after w step;
    }

-- any worker gives the activity up, so no link is named
abbrev pub given_up : World → World
given_up w = record w { state = s.state_after w.state s.Abandon; abandoned = set_at w.abandoned (last_of w.state) true }

abbrev pub IsOnNewest : s.SendStep → Type 0
IsOnNewest s.Abandon = ⊥
IsOnNewest _ = Unit {0}

-- The receiving end --------------------------------------------------------------------------------

-- an initiator's end confirms nothing on a link of an older generation
abbrev pub IsConfirming : LaneUnit → Type 0
IsConfirming (u.SyncAck n) = Unit {0}
IsConfirming (u.ResumeAck k n) = Unit {0}
IsConfirming (u.DiscardAck k) = Unit {0}
IsConfirming _ = ⊥

abbrev pub receiver_put : World → ℕ → LaneUnit → World
receiver_put w i x = with_link w i (record (w.links i) {
  down = put_on (w.links i).down x;
  recv =
      recv_part (r.put (recv_end w (w.links i).recv) x);
})

abbrev pub receiver_took : World → ℕ → Queue → r.RecvEnd → World
receiver_took w i q e = with_link w i (record (w.links i) { up = q; recv = recv_part e })

abbrev pub pieces_after : List (List ℕ) → r.RecvStep → List (List ℕ)
pieces_after pieces (r.Secure k n piece) = take (n - 1) pieces ++ piece ∷ []
pieces_after pieces (r.Complete k n piece) = []
pieces_after pieces (r.Drop k) = []

abbrev pub completed_after : World → r.RecvStep → List Message
completed_after w (r.Secure k n piece) = w.completed
completed_after w (r.Complete k n piece) =
    w.completed ++ record { activity = k; octets = octets_with w.pieces n piece } ∷ []
completed_after w (r.Drop k) = w.completed

abbrev pub receiver_made : World → ℕ → r.RecvStep → World
receiver_made w i step =
    let e : r.RecvEnd = r.made (recv_end w (w.links i).recv) step in
    record (with_link w i (record (w.links i) { recv = recv_part e })) {
      high = e.high;
      last = e.last;
      pieces = pieces_after w.pieces step;
      completed = completed_after w step;
    }

abbrev pub receiver_found : World → ℕ → (activity : ℕ) → World
receiver_found w i k = with_link w i (record (w.links i) { recv = recv_part (r.found (recv_end w (w.links i).recv) k) })

-- `spells` tells whether octets spell a message
abbrev pub Spells : (List ℕ → Bool) → World → r.RecvStep → Type 0
Spells spells w (r.Secure k n piece) = Unit {0}
Spells spells w (r.Complete k n piece) = spells (octets_with w.pieces n piece) ≡ true
Spells spells w (r.Drop k) = Unit {0}

-- no octets that begin so spell a message
abbrev pub SpellsNothing : (List ℕ → Bool) → List ℕ → Type 0
SpellsNothing spells octets = (more : List ℕ) → spells (octets ++ more) ≡ false

-- what is found at a Sync is so whatever follows, and at End of these octets
abbrev pub IsFaulty : (List ℕ → Bool) → r.RecvStage → List ℕ → Type 0
IsFaulty spells (r.Held k n piece) octets = SpellsNothing spells octets
IsFaulty spells (r.Synced k n piece) octets = SpellsNothing spells octets
IsFaulty spells (r.Ended k n piece) octets = spells octets ≡ false
IsFaulty spells _ octets = ⊥

-- Steps --------------------------------------------------------------------------------------------

pub data WorldStep (spells : List ℕ → Bool) : World → World → Type 0 where
  Sender_opens : {w : World} → w.sender_opens ≡ true → WorldStep spells w (opened_by_sender w)
  Receiver_opens : {w : World} → w.sender_opens ≡ false → WorldStep spells w (opened_by_receiver w)
  Sender_joins : {w : World} (i : ℕ) → w.sender_opens ≡ false → i < w.opened
      → (w.links i).send_joined ≡ false
      → WorldStep spells w (joined_by_sender w i (w.links i))
  Receiver_joins : {w : World} (i : ℕ) → w.sender_opens ≡ true → i < w.opened
      → (w.links i).recv_joined ≡ false
      → WorldStep spells w (joined_by_receiver w i (w.links i))
  -- units of a transfer are put on the newest link alone
  Sender_puts : {w : World} (i : ℕ) (x : LaneUnit) → SenderUses (w.links i)
      → (s.is_transfer x ≡ true → w.send_link ≡ Some i)
      → s.MayPut (send_end w (w.links i).send) x → WorldStep spells w (sender_put w i x)
  Sender_gets : {w : World} (i : ℕ) (x : LaneUnit) (q : Queue) → SenderUses (w.links i)
      → Takes (w.links i).down x q
      → WorldStep spells w (sender_got w i x q)
  Sender_makes : {w : World} (i : ℕ) (step : s.SendStep) → SenderUses (w.links i) → w.send_link ≡ Some i
      → IsOnNewest step
      → s.MayMake (send_end w (w.links i).send) step → WorldStep spells w (sender_made w i step)
  Sender_gives_up : {w : World} → is_sending w.state (last_of w.state) ≡ true → WorldStep spells w (given_up w)
  Receiver_takes : {w : World} (i : ℕ) (x : LaneUnit) (q : Queue) (e : r.RecvEnd) → ReceiverUses (w.links i)
      → Takes (w.links i).up x q
      → r.take (recv_end w (w.links i).recv) x ≡ Some e → WorldStep spells w (receiver_took w i q e)
  Receiver_puts : {w : World} (i : ℕ) (x : LaneUnit) → ReceiverUses (w.links i)
      → r.MayPut (recv_end w (w.links i).recv) x
      → (w.sender_opens ≡ false → IsConfirming x → w.recv_link ≡ Some i)
      → WorldStep spells w (receiver_put w i x)
  -- steps are made on the newest link alone
  Receiver_makes : {w : World} (i : ℕ) (step : r.RecvStep) → ReceiverUses (w.links i) → w.recv_link ≡ Some i
      → r.MayMake (recv_end w (w.links i).recv) step → Spells spells w step
      → WorldStep spells w (receiver_made w i step)
  Receiver_finds : {w : World} (i k n : ℕ) (piece : List ℕ) → ReceiverUses (w.links i)
      → r.MayFind (recv_end w (w.links i).recv) k n piece
      → IsFaulty spells (w.links i).recv.stage (octets_with w.pieces n piece)
      → WorldStep spells w (receiver_found w i k)
  Loses_up : {w : World} (i n : ℕ) → WithinReach (w.links i).up.reach n
      → WorldStep spells w (with_link w i (record (w.links i) { up = lost (w.links i).up n }))
  Loses_down : {w : World} (i n : ℕ) → WithinReach (w.links i).down.reach n
      → WorldStep spells w (with_link w i (record (w.links i) { down = lost (w.links i).down n }))
  Sender_stops : {w : World} (i : ℕ)
      → WorldStep spells w (with_link w i (record (w.links i) { send_stopped = true }))
  Receiver_stops : {w : World} (i : ℕ)
      → WorldStep spells w (with_link w i (record (w.links i) { recv_stopped = true }))
  Sender_crashes : {w : World} → WorldStep spells w (without_sender w)
  Receiver_crashes : {w : World} → WorldStep spells w (without_receiver w)

-- A world run: steps from the first world of a half lane
pub data IsWorldRun (spells : List ℕ → Bool) : World → Type 0 where
  Begins : (sender_opens : Bool) (size window : ℕ) → IsWorldRun spells (first_world sender_opens size window)
  Goes_on : {w v : World} → IsWorldRun spells w → WorldStep spells w v → IsWorldRun spells v
