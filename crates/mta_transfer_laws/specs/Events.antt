-- What happens in a world, as events: which are allowed there, and the world that each leaves. What an event asks of
-- the end that makes it stands apart from what it asks of the links, so that a list of events can be spoken of before
-- it is known to keep the rules of one of the ends.
use Rattle.std.specs.Prelude.{◌≡◌, ◌<◌, ℕ, zero, suc, Bool, true, false, Option, Some, None, unwrap_or}
use Rattle.std.specs.Prelude.{List, [], ◌∷◌}
use Rattle.mta_lane_send.specs.Half.{last_of, is_sending}
use Rattle.mta_transfer_rules.specs.Units.{LaneUnit}
use Rattle.mta_transfer_rules.specs.Sending as s
use Rattle.mta_transfer_rules.specs.Receiving as r
use Rattle.mta_world.specs.World.{World, Queue, send_end, recv_end, Takes}
use Rattle.mta_world.specs.Steps.{IsWorldRun, opened_by_sender, opened_by_receiver, joined_by_sender}
use Rattle.mta_world.specs.Steps.{joined_by_receiver, with_link, lost, WithinReach, SenderUses, ReceiverUses}
use Rattle.mta_world.specs.Steps.{without_sender, without_receiver, sender_put, sender_got, sender_made, given_up}
use Rattle.mta_world.specs.Steps.{IsOnNewest, IsConfirming, receiver_put, receiver_took, receiver_made, receiver_found}
use Rattle.mta_transfer_rules.specs.Pieces.{octets_with}
use Rattle.mta_world.specs.Steps.{Spells, IsFaulty}

pub data WorldEvent : Type 0 where
  Sender_opens : (link : ℕ) → WorldEvent
  Receiver_opens : (link : ℕ) → WorldEvent
  Sender_joins : (link : ℕ) → WorldEvent
  Receiver_joins : (link : ℕ) → WorldEvent
  Sender_puts : (link : ℕ) → LaneUnit → WorldEvent
  Sender_gets : (link : ℕ) → LaneUnit → WorldEvent
  Sender_makes : (link : ℕ) → s.SendStep → WorldEvent
  Sender_gives_up : WorldEvent
  Receiver_takes : (link : ℕ) → LaneUnit → WorldEvent
  Receiver_puts : (link : ℕ) → LaneUnit → WorldEvent
  Receiver_makes : (link : ℕ) → r.RecvStep → WorldEvent
  Receiver_finds : (link activity number : ℕ) (piece : List ℕ) → WorldEvent
  Loses_up : (link reach : ℕ) → WorldEvent
  Loses_down : (link reach : ℕ) → WorldEvent
  Sender_stops : (link : ℕ) → WorldEvent
  Receiver_stops : (link : ℕ) → WorldEvent
  Sender_crashes : WorldEvent
  Receiver_crashes : WorldEvent

-- The world after an event --------------------------------------------------------------------

abbrev pub behind_front : List LaneUnit → List LaneUnit
behind_front [] = []
behind_front (x ∷ xs) = xs

abbrev pub one_less : Option ℕ → Option ℕ
one_less None = None
one_less (Some zero) = Some zero
one_less (Some (suc n)) = Some n

-- the queue once its front was taken
abbrev pub behind : Queue → Queue
behind q = record { way = behind_front q.way; reach = one_less q.reach }

abbrev pub after : World → WorldEvent → World
after w (Sender_opens i) = opened_by_sender w
after w (Receiver_opens i) = opened_by_receiver w
after w (Sender_joins i) = joined_by_sender w i (w.links i)
after w (Receiver_joins i) = joined_by_receiver w i (w.links i)
after w (Sender_puts i x) = sender_put w i x
after w (Sender_gets i x) = sender_got w i x (behind (w.links i).down)
after w (Sender_makes i step) = sender_made w i step
after w Sender_gives_up = given_up w
after w (Receiver_takes i x) =
    receiver_took w i (behind (w.links i).up)
    (unwrap_or (r.take (recv_end w (w.links i).recv) x) (recv_end w (w.links i).recv))
after w (Receiver_puts i x) = receiver_put w i x
after w (Receiver_makes i step) = receiver_made w i step
after w (Receiver_finds i k n piece) = receiver_found w i k
after w (Loses_up i n) = with_link w i (record (w.links i) { up = lost (w.links i).up n })
after w (Loses_down i n) = with_link w i (record (w.links i) { down = lost (w.links i).down n })
after w (Sender_stops i) = with_link w i (record (w.links i) { send_stopped = true })
after w (Receiver_stops i) = with_link w i (record (w.links i) { recv_stopped = true })
after w Sender_crashes = without_sender w
after w Receiver_crashes = without_receiver w

abbrev pub after_all : World → List WorldEvent → World
after_all w [] = w
after_all w (x ∷ xs) = after_all (after w x) xs

-- What the links and the queues ask ----------------------------------------------------------------

abbrev pub FitsLinks : World → WorldEvent → Type 0
FitsLinks w (Sender_opens i) = (w.sender_opens ≡ true) × (i ≡ w.opened)
FitsLinks w (Receiver_opens i) = (w.sender_opens ≡ false) × (i ≡ w.opened)
FitsLinks w (Sender_joins i) = (w.sender_opens ≡ false) × (i < w.opened) × ((w.links i).send_joined ≡ false)
FitsLinks w (Receiver_joins i) = (w.sender_opens ≡ true) × (i < w.opened) × ((w.links i).recv_joined ≡ false)
FitsLinks w (Sender_puts i x) = SenderUses (w.links i)
FitsLinks w (Sender_gets i x) = SenderUses (w.links i) × Takes (w.links i).down x (behind (w.links i).down)
FitsLinks w (Sender_makes i step) = SenderUses (w.links i)
FitsLinks w Sender_gives_up = Unit {0}
FitsLinks w (Receiver_takes i x) = ReceiverUses (w.links i) × Takes (w.links i).up x (behind (w.links i).up)
FitsLinks w (Receiver_puts i x) = ReceiverUses (w.links i)
FitsLinks w (Receiver_makes i step) = ReceiverUses (w.links i)
FitsLinks w (Receiver_finds i k n piece) = ReceiverUses (w.links i)
FitsLinks w (Loses_up i n) = WithinReach (w.links i).up.reach n
FitsLinks w (Loses_down i n) = WithinReach (w.links i).down.reach n
FitsLinks w (Sender_stops i) = Unit {0}
FitsLinks w (Receiver_stops i) = Unit {0}
FitsLinks w Sender_crashes = Unit {0}
FitsLinks w Receiver_crashes = Unit {0}

-- What the rules of the sending end ask --------------------------------------------------------------

abbrev pub SenderAllows : World → WorldEvent → Type 0
SenderAllows w (Sender_puts i x) = (s.is_transfer x ≡ true → w.send_link ≡ Some i)
    × s.MayPut (send_end w (w.links i).send) x
SenderAllows w (Sender_makes i step) = (w.send_link ≡ Some i) × IsOnNewest step
    × s.MayMake (send_end w (w.links i).send) step
SenderAllows w Sender_gives_up = is_sending w.state (last_of w.state) ≡ true
SenderAllows w _ = Unit {0}

-- What the rules of the receiving end ask ------------------------------------------------------------

abbrev pub ReceiverAllows : (List ℕ → Bool) → World → WorldEvent → Type 0
ReceiverAllows spells w (Receiver_takes i x) = (e : r.RecvEnd) × (r.take (recv_end w (w.links i).recv) x ≡ Some e)
ReceiverAllows spells w (Receiver_puts i x) = r.MayPut (recv_end w (w.links i).recv) x
    × (w.sender_opens ≡ false → IsConfirming x → w.recv_link ≡ Some i)
ReceiverAllows spells w (Receiver_makes i step) = (w.recv_link ≡ Some i)
    × r.MayMake (recv_end w (w.links i).recv) step × Spells spells w step
ReceiverAllows spells w (Receiver_finds i k n piece) =
    r.MayFind (recv_end w (w.links i).recv) k n piece
    × IsFaulty spells (w.links i).recv.stage (octets_with w.pieces n piece)
ReceiverAllows spells w _ = Unit {0}

-- Lists of events --------------------------------------------------------------------------------------

abbrev pub AllFit : World → List WorldEvent → Type 0
AllFit w [] = Unit {0}
AllFit w (x ∷ xs) = FitsLinks w x × AllFit (after w x) xs

abbrev pub SenderKeepsRules : World → List WorldEvent → Type 0
SenderKeepsRules w [] = Unit {0}
SenderKeepsRules w (x ∷ xs) = SenderAllows w x × SenderKeepsRules (after w x) xs

abbrev pub ReceiverKeepsRules : (List ℕ → Bool) → World → List WorldEvent → Type 0
ReceiverKeepsRules spells w [] = Unit {0}
ReceiverKeepsRules spells w (x ∷ xs) = ReceiverAllows spells w x × ReceiverKeepsRules spells (after w x) xs

-- Where the links allow each event, and the rules of both ends do, the events go on from a run to a run.
abbrev pub EventsAreARun : Type 0
EventsAreARun =
    (spells : List ℕ → Bool) (w : World) (xs : List WorldEvent) → IsWorldRun spells w
    → AllFit w xs → SenderKeepsRules w xs → ReceiverKeepsRules spells w xs → IsWorldRun spells (after_all w xs)
