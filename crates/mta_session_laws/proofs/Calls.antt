-- One call of an open session, as its sending end sees it.
use Rattle.std.proofs.Common.{◌≡◌, ℕ, Bool, true, false, List, [], ◌∷◌, ◌++◌, if◌then◌else◌, refl, sym, ap, subst, ◌==◌}
use Rattle.std.proofs.Common.{inl, inr}
use Rattle.mta_units.specs.declared.unit.Unit.{Unit as AnyUnit}
use Rattle.mta_units.specs.declared.unit.Unit.TheVariants as unit
use Rattle.mta_lane_send.specs.declared.state.SendState.{SendState}
use Rattle.mta_lane_send.specs.declared.state.SendState.TheVariants as state
use Rattle.mta_lane_send.specs.Half.{is_idle, goes_on, is_ending}
use Rattle.mta_transfer_rules.specs.Units.{LaneUnit}
use Rattle.mta_transfer_rules.specs.Units as u
use Rattle.mta_transfer_rules.specs.Sending as s
use Rattle.mta_transfer_rules.specs.Sending.{SendEnd, SendEvent}
use Rattle.mta_session.specs.declared.ask.Ask.{Ask}
use Rattle.mta_session.specs.declared.ask.Ask.TheVariants as ask
use Rattle.mta_session.specs.declared.event.Event.{Event}
use Rattle.mta_session.specs.declared.event.Action.{Action}
use Rattle.mta_session.specs.declared.event.Action.TheVariants as action
use Rattle.mta_session.specs.declared.phase.Phase.{Phase}
use Rattle.mta_session.specs.declared.phase.Phase.TheVariants as phase
use Rattle.mta_session.specs.declared.phase.Found.{Found}
use Rattle.mta_session.specs.State.{State}
use Rattle.mta_session.specs.Wanted.{Wanted, Puts, Asks, Reads, Goes_on, Excepts, Never, wanted}
use Rattle.mta_session.specs.Follows.{Of_sender, Of_receiver, Of_neither, part_of, part_of_abort, PutsFor, AsksFor}
use Rattle.mta_session.specs.Follows.{GoesOn, ExceptsFor, Does, FollowsAt, counted}
use Rattle.mta_session_laws.specs.Turning.{listed, Reaches, ReachesAt, SendGoes, EventsGo, CallsGo, with_put, with_unit}
use Rattle.mta_session_laws.specs.Turning.{with_action, told_by, is_open}
use Rattle.mta_session_laws.proofs.Turning.{put_then, sending_last}
use Rattle.mta_session_laws.proofs.Events.{never}

pub append_run : (e f g : SendEnd) (xs ys : List SendEvent) → s.IsSendingEnd e xs f → s.IsSendingEnd f ys g
    → s.IsSendingEnd e (xs ++ ys) g
append_run e f g [] ys r q = subst (λ z. s.IsSendingEnd z ys g) r q
append_run e f g (x ∷ xs) ys r q = (r.0, append_run (s.send_after e x) f g xs ys r.1 q)

going_live : (st : SendState) (k : ℕ) → goes_on st k ≡ true → is_idle st ≡ false
going_live (state.Idle last) k l = search l
going_live any0 k l = refl

ending_live : (st : SendState) (k : ℕ) → is_ending st k ≡ true → is_idle st ≡ false
ending_live (state.Idle last) k l = search l
ending_live any0 k l = refl

dropping_live : (st : SendState) (k : ℕ) → st ≡ state.Dropping k → is_idle st ≡ false
dropping_live st k l = rw l refl

-- a unit of the own activity
own_goes : (e : SendEnd) (events : List SendEvent) (t : State) (x : AnyUnit) (y : LaneUnit) (new : State)
    → is_idle t.send.state ≡ false → PutsFor t (Of_sender y) x new →
    Reaches e events phase.Puts t.send → Reaches e (events ++ (s.Put y ∷ [])) phase.Puts new.send
own_goes e events t x y new l g r =
    let next = put_then t r.0 r.1 x y new l g in (
      next.0,
      next.1,
      append_run e (listed t.send r.0 r.1) (listed new.send next.0 next.1) events
          (s.Put y ∷ []) r.2 next.2,
      tt,
    )

discard_live : (t : State) (k : ℕ) → s.PutsAt t.send (u.Discard k) → is_idle t.send.state ≡ false
discard_live t k (inl p) = going_live t.send.state k p.1
discard_live t k (inr p) = dropping_live t.send.state k p.0

abort_put : (e : SendEnd) (events : List SendEvent) (t : State) (z : ℕ) (new : State) (b : Bool) → (z == 7) ≡ b
    → (c : Bool) → (z == 2) ≡ c → PutsFor t (part_of_abort z) (unit.Abort z) new →
    ReachesAt e (with_put events (part_of_abort z)) new.phase new.send
abort_put e events t z new true q c p g =
    let first = subst (λ b. PutsFor t
    (if b then Of_receiver u.Completed else (if z == 2 then Of_receiver u.Unrecognized else Of_neither))
    (unit.Abort z) new) q g in
    subst (λ v. ReachesAt e (with_put events (part_of_abort z)) v.phase v.send) (sym first.1) tt
abort_put e events t z new false q true p g =
    let first = subst (λ b. PutsFor t
    (if b then Of_receiver u.Completed else (if z == 2 then Of_receiver u.Unrecognized else Of_neither))
    (unit.Abort z) new) q g in
    let second = subst (λ b. PutsFor t (if b then Of_receiver u.Unrecognized else Of_neither) (unit.Abort z) new) p
    first in
    subst (λ v. ReachesAt e (with_put events (part_of_abort z)) v.phase v.send) (sym second.1) tt
abort_put e events t z new false q false p g =
    let first = subst (λ b. PutsFor t
    (if b then Of_receiver u.Completed else (if z == 2 then Of_receiver u.Unrecognized else Of_neither))
    (unit.Abort z) new) q g in
    let second = subst (λ b. PutsFor t (if b then Of_receiver u.Unrecognized else Of_neither) (unit.Abort z) new) p
    first in
    elim second [ ]

puts_go : (e : SendEnd) (events : List SendEvent) (t : State) (x : AnyUnit) (new : State) → PutsFor t (part_of x) x new
    → Reaches e events phase.Puts t.send →
    ReachesAt e (with_unit events x) new.phase new.send
puts_go e events t (unit.Start z) new g r = subst (λ p. ReachesAt e (events ++ (s.Put (u.Start z) ∷ [])) p new.send)
    (sym (ap {A = State} (λ v. v.phase) g.2))
    (own_goes e events t (unit.Start z) (u.Start z) new (going_live t.send.state z g.1.1.1) g r)
puts_go e events t (unit.Piece z) new g r = subst (λ p. ReachesAt e (events ++ (s.Put (u.Piece z) ∷ [])) p new.send)
    (sym (ap {A = State} (λ v. v.phase) g.2))
    (own_goes e events t (unit.Piece z) (u.Piece z) new (going_live t.send.state g.1.1.0 g.1.1.3) g r)
puts_go e events t (unit.Sync z) new g r = subst (λ p. ReachesAt e (events ++ (s.Put (u.Sync z) ∷ [])) p new.send)
    (sym (ap {A = State} (λ v. v.phase) g.2))
    (own_goes e events t (unit.Sync z) (u.Sync z) new (going_live t.send.state g.1.1.0 g.1.1.2) g r)
puts_go e events t (unit.SyncAck z) new g r = subst (λ v. ReachesAt e events v.phase v.send) (sym g.1) r
puts_go e events t (unit.End z) new g r = subst (λ p. ReachesAt e (events ++ (s.Put (u.End z) ∷ [])) p new.send)
    (sym (ap {A = State} (λ v. v.phase) g.2))
    (own_goes e events t (unit.End z) (u.End z) new (ending_live t.send.state z g.1.1.2) g r)
puts_go e events t (unit.EndAck z) new g r = subst (λ v. ReachesAt e events v.phase v.send) (sym g.1) r
puts_go e events t (unit.Resume z1 z2) new g r =
    subst (λ p. ReachesAt e (events ++ (s.Put (u.Resume z1 z2) ∷ [])) p new.send)
    (sym (ap {A = State} (λ v. v.phase) g.2))
    (own_goes e events t (unit.Resume z1 z2) (u.Resume z1 z2) new (going_live t.send.state z1 g.1.1.1) g r)
puts_go e events t (unit.ResumeAck z1 z2) new g r = subst (λ v. ReachesAt e events v.phase v.send) (sym g.1) r
puts_go e events t (unit.Discard z) new g r = subst (λ p. ReachesAt e (events ++ (s.Put (u.Discard z) ∷ [])) p new.send)
    (sym (ap {A = State} (λ v. v.phase) g.2))
    (own_goes e events t (unit.Discard z) (u.Discard z) new (discard_live t z g.1.1) g r)
puts_go e events t (unit.DiscardAck z) new g r = subst (λ v. ReachesAt e events v.phase v.send) (sym g.1) r
puts_go e events t (unit.Abort z) new g r = abort_put e events t z new (z == 7) refl (z == 2) refl g
puts_go e events t any3 new g r = elim g [ ]

asks_go : (e : SendEnd) (events : List SendEvent) (t : State) (x : Ask) (new : State) → AsksFor t x new
    → Reaches e events phase.Puts t.send → ReachesAt e events new.phase new.send
asks_go e events t (ask.BatchFor z) new g r =
    subst (λ v. ReachesAt e events v.phase v.send) (sym g.3) (r.0, r.1, r.2, tt)
asks_go e events t (ask.Ending z1 z2 z3) new g r =
    subst (λ v. ReachesAt e events v.phase v.send) (sym g.6) (r.0, r.1, r.2, sending_last t.send.state z3 g.3)
asks_go e events t (ask.Secure z1 z2 z3 z4 z5) new g r =
    subst (λ v. ReachesAt e events v.phase v.send) (sym g.3) (r.0, r.1, r.2, tt)
asks_go e events t (ask.Complete z1 z2 z3 z4 z5) new g r =
    subst (λ v. ReachesAt e events v.phase v.send) (sym g.3) (r.0, r.1, r.2, tt)
asks_go e events t (ask.DropActivity z1 z2 z3) new g r =
    subst (λ v. ReachesAt e events v.phase v.send) (sym g.3) (r.0, r.1, r.2, tt)
asks_go e events t any3 new g r = elim g [ ]

on_goes : (e : SendEnd) (events : List SendEvent) (t : State) (a : Action) (new : State) → GoesOn t a new
    → Reaches e events phase.Puts t.send → ReachesAt e (with_action events a) new.phase new.send
on_goes e events t (action.Put x) new g r = puts_go e events t x new g r
on_goes e events t (action.Ask x) new g r = asks_go e events t x new g r
on_goes e events t action.Read new g r = subst (λ v. ReachesAt e events v.phase v.send) (sym g.1) (r.0, r.1, r.2, tt)
on_goes e events t (action.Finish x) new g r = elim g [ ]

except_goes : (e : SendEnd) (events : List SendEvent) (t : State) (f : Found) (a : Action) (new : State)
    → ExceptsFor t f a new → Reaches e events phase.Puts t.send → ReachesAt e (with_action events a) new.phase new.send
except_goes e events t f (action.Ask (ask.DropActivity z1 z2 z3)) new g r =
    subst (λ v. ReachesAt e events v.phase v.send) (sym g.3) (r.0, r.1, r.2, tt)
except_goes e events t f (action.Ask any) new g r = elim g [ ]
except_goes e events t f (action.Put (unit.Exception z1 z2)) new g r =
    subst (λ v. ReachesAt e events v.phase v.send) (sym g.3) (r.0, r.1, r.2, tt)
except_goes e events t f (action.Put any) new g r = elim g [ ]
except_goes e events t f any4 new g r = elim g [ ]

pub does_goes : (e : SendEnd) (events : List SendEvent) (t : State) (w : Wanted) (a : Action) (new : State)
    → SendGoes e events w → Does t w a new → ReachesAt e (with_action events a) new.phase new.send
does_goes e events t (Puts x then_) a new r d = subst (λ b. ReachesAt e (with_action events b) new.phase new.send)
    (sym d.0) (subst (λ v. ReachesAt e (with_unit events x) v.phase v.send) (sym d.1) r)
does_goes e events t (Asks x then_) a new r d = subst (λ b. ReachesAt e (with_action events b) new.phase new.send)
    (sym d.0) (subst (λ v. ReachesAt e events v.phase v.send) (sym d.1) r)
does_goes e events t (Reads then_) a new r d = subst (λ b. ReachesAt e (with_action events b) new.phase new.send)
    (sym d.0) (subst (λ v. ReachesAt e events v.phase v.send) (sym d.1) r)
does_goes e events t (Goes_on then_) a new r d = on_goes e events then_ a new d r
does_goes e events t (Excepts then_ f) a new r d = except_goes e events then_ f a new d r
does_goes e events t Never a new r d = elim d [ ]
does_goes e events t any3 a new r d = subst (λ v. ReachesAt e (with_action events a) v.phase v.send) (sym d.1) tt

-- a session that is not over follows the table
pub follows_does : (p : Phase) (t : State) (e : Event) (a : Action) (new : State) → is_open p ≡ true
    → FollowsAt p t e a new → Does (counted t e) (wanted (counted t e) e) a new
follows_does (phase.Ended x1) t e a new i f = absurd (never i)
follows_does any0 t e a new i f = f

pub calls_go : EventsGo → CallsGo
calls_go g t e a new h o i f n c m d = does_goes (listed t.send h o) (told_by t.phase t e) (counted t e)
    (wanted (counted t e) e) a new (g t e h o i f n c m) (follows_does t.phase t e a new i d)
