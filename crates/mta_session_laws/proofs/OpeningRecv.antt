-- Before a session is open: what it has of the receiving half, call by call.
use Rattle.std.proofs.Common.{◌≡◌, ℕ, Bool, true, false, Option}
use Rattle.std.proofs.Common.{Some, None, List, [], ◌∷◌, refl, rules, subst}
use Rattle.mta_units.specs.declared.unit.Unit.{Unit as AnyUnit}
use Rattle.mta_units.specs.declared.unit.Unit.TheVariants as unit
use Rattle.mta_units.specs.declared.unit.OpenUnit.{OpenUnit}
use Rattle.mta_lane_send.specs.declared.state.SendState.{SendState}
use Rattle.mta_lane_recv.specs.declared.state.Last.{Last}
use Rattle.mta_transfer_rules.specs.Receiving as r
use Rattle.mta_transfer_rules.specs.Receiving.{RecvEnd, RecvEvent}
use Rattle.mta_session.specs.declared.ask.Reply.TheVariants as reply
use Rattle.mta_session.specs.declared.event.Event.{Event}
use Rattle.mta_session.specs.declared.event.Event.TheVariants as event
use Rattle.mta_session.specs.declared.peer.Peer.{Peer}
use Rattle.mta_session.specs.declared.phase.Phase.{Phase}
use Rattle.mta_session.specs.declared.phase.Phase.TheVariants as phase
use Rattle.mta_session.specs.State.{State}
use Rattle.mta_session.specs.Wanted.{Wanted, Aborts, Rejects, Ends, Puts, Asks, Reads, Goes_on, Excepts, Never}
use Rattle.mta_session.specs.Wanted.{with_lane}
use Rattle.mta_session.specs.Follows.{Of_neither, part_of_abort, counted}
use Rattle.mta_session_laws.specs.TurningRecv.{with_unit}
use Rattle.mta_session_laws.proofs.Opening.{wanted_in}
use Rattle.mta_session_laws.proofs.Rows.{Row, row, aborted, lane_accepted}

-- What is left of the half before a session is open ---------------------------------------------

-- the receiving end before a link is new
abbrev pub receiver_of : ℕ × Last → RecvEnd
receiver_of x = record { high = x.0; last = x.1; stage = r.Free; from = 0; acked = 0 }

-- whether a unit makes the link new
abbrev pub links : Bool → AnyUnit → Bool
links b (unit.Open o) = true
links b (unit.Accept c w a) = true
links b x = b

abbrev pub link_of : Bool → List RecvEvent
link_of true = r.New_link ∷ []
link_of false = []

-- the half is as it was, and the link is new where it has to be
abbrev pub Leaf : RecvEnd → Bool → Phase → RecvEnd → Type 0
Leaf e b phase.PutsOpen f = (f ≡ e) × (b ≡ true)
Leaf e b phase.ReadsAnswer f = (f ≡ e) × (b ≡ true)
Leaf e b phase.AsksAgree f = (f ≡ e) × (b ≡ true)
Leaf e b phase.PutsAccept f = (f ≡ e) × (b ≡ true)
Leaf e b phase.Begin f = (f ≡ e) × (b ≡ false)
Leaf e b phase.ReadsOpen f = (f ≡ e) × (b ≡ false)
Leaf e b phase.AsksPeer f = (f ≡ e) × (b ≡ false)
Leaf e b phase.AsksStands f = (f ≡ e) × (b ≡ false)
Leaf e b (phase.AsksNewLane again) f = (f ≡ e) × (b ≡ false)
Leaf e b phase.AsksSpare f = (f ≡ e) × (b ≡ false)
Leaf e b phase.AsksRoom f = (f ≡ e) × (b ≡ false)
Leaf e b phase.AsksOldLane f = (f ≡ e) × (b ≡ false)
Leaf e b phase.AsksBind f = (f ≡ e) × (b ≡ false)
Leaf e b phase.AsksValues f = (f ≡ e) × (b ≡ false)
Leaf e b phase.AsksRecovery f = (f ≡ e) × (b ≡ false)
Leaf e b (phase.AsksReceiving st) f = (f ≡ e) × (b ≡ false)
Leaf e b (phase.AsksResumed st) f = (f ≡ e) × (b ≡ false)
Leaf e b phase.AsksDenied f = Unit {0}
Leaf e b phase.AsksClose f = Unit {0}
Leaf e b (phase.AsksLast y) f = Unit {0}
Leaf e b (phase.PutsLast y) f = Unit {0}
Leaf e b (phase.Ended y) f = Unit {0}
Leaf e b phase.AsksDue f = (f ≡ e) × (b ≡ true)
Leaf e b phase.Puts f = (f ≡ e) × (b ≡ true)
Leaf e b p f = ⊥

abbrev pub Leaves : RecvEnd → Bool → Wanted → Type 0
Leaves e b (Asks q v) = Leaf e b v.phase v.recv
Leaves e b (Reads v) = Leaf e b v.phase v.recv
Leaves e b (Puts x v) = Leaf e (links b x) v.phase v.recv × (with_unit (link_of b) x ≡ link_of (links b x))
Leaves e b (Goes_on v) = (v.recv ≡ e) × (b ≡ true)
Leaves e b (Excepts v f) = ⊥
Leaves e b (Aborts reason) = part_of_abort reason ≡ Of_neither
Leaves e b (Rejects reason) = Unit {0}
Leaves e b (Ends y) = Unit {0}
Leaves e b Never = Unit {0}

new_lane_recv : (t : State) (o : Option OpenUnit) (p : Option Peer) (lane : ℕ) → (with_lane t o p lane).recv ≡ t.recv
new_lane_recv t (Some o) (Some p) lane = refl
new_lane_recv t (Some o) None lane = refl
new_lane_recv t None p lane = refl

-- By phase and event -----------------------------------------------------------------------------

-- the phases before a session is open, and whether the link is new
pub data Stage : Phase → Bool → Type 0 where
  at_begin : Stage phase.Begin false
  at_open_read : Stage phase.ReadsOpen false
  at_peer : Stage phase.AsksPeer false
  at_stands : Stage phase.AsksStands false
  at_new_lane : (again : Bool) → Stage (phase.AsksNewLane again) false
  at_spare : Stage phase.AsksSpare false
  at_room : Stage phase.AsksRoom false
  at_old_lane : Stage phase.AsksOldLane false
  at_bind : Stage phase.AsksBind false
  at_values : Stage phase.AsksValues false
  at_recovery : Stage phase.AsksRecovery false
  at_receiving : (st : SendState) → Stage (phase.AsksReceiving st) false
  at_resumed : (st : SendState) → Stage (phase.AsksResumed st) false
  at_puts_open : Stage phase.PutsOpen true
  at_answer : Stage phase.ReadsAnswer true
  at_agree : Stage phase.AsksAgree true
  at_accept : Stage phase.PutsAccept true

abbrev linked : Phase → Bool
linked phase.PutsOpen = true
linked phase.ReadsAnswer = true
linked phase.AsksAgree = true
linked phase.PutsAccept = true
linked p = false

abbrev is_early : Phase → Bool
is_early phase.Begin = true
is_early phase.ReadsOpen = true
is_early phase.AsksPeer = true
is_early phase.AsksStands = true
is_early (phase.AsksNewLane again) = true
is_early phase.AsksSpare = true
is_early phase.AsksRoom = true
is_early phase.AsksOldLane = true
is_early phase.AsksBind = true
is_early phase.AsksValues = true
is_early phase.AsksRecovery = true
is_early (phase.AsksReceiving st) = true
is_early (phase.AsksResumed st) = true
is_early p = linked p

staged : (p : Phase) (b : Bool) → Stage p b → (is_early p ≡ true) × (linked p ≡ b)
staged p b at_begin = (refl, refl)
staged p b k = (refl, refl)

-- the half as an event tells it
abbrev pub told_end : Event → Phase → RecvEnd → RecvEnd
told_end (event.Reply (reply.Receiving (Some told))) (phase.AsksReceiving state) before = receiver_of told
told_end e p before = before

row_leaves : (t : State) (p : Phase) (e : Event) (w : Wanted) → Row t p e w → is_early p ≡ true
    → Leaves (told_end e p t.recv) (linked p) w
row_leaves t p e w (aborted reason q) i = q
row_leaves t p e w (lane_accepted again lane a) i = ((new_lane_recv t t.opened t.line lane, refl), refl)
row_leaves t p e w r i = search rules

counted_recv : (t : State) (e : Event) → (counted t e).recv ≡ t.recv
counted_recv t event.Go = refl
counted_recv t e = refl

-- What an event calls for before a session is open leaves the half as the event tells it.
pub opening_leaves : (p : Phase) (b : Bool) (t : State) (e : Event) → Stage p b
    → Leaves (told_end e p t.recv) b (wanted_in p (counted t e) e)
opening_leaves p b t e k =
    let c : State = counted t e in
    subst (λ z. Leaves (told_end e p z) b (wanted_in p c e)) (counted_recv t e)
    (subst (λ z. Leaves (told_end e p c.recv) z (wanted_in p c e)) (staged p b k).1
    (row_leaves c p e (wanted_in p c e) (row p c e) (staged p b k).0))
