-- One call of an open session, as its receiving end sees it.
use Rattle.std.proofs.Common.{◌≡◌, ℕ, Bool, true, false, if◌then◌else◌, List, [], ◌∷◌, ◌++◌, refl, sym, subst, ◌==◌}
use Rattle.mta_units.specs.declared.unit.Unit.{Unit as AnyUnit}
use Rattle.mta_units.specs.declared.unit.Unit.TheVariants as unit
use Rattle.mta_lane_recv.specs.declared.state.Last.{Last}
use Rattle.mta_lane_recv.specs.Half.{is_done}
use Rattle.mta_transfer_rules.specs.Units.{LaneUnit}
use Rattle.mta_transfer_rules.specs.Units as u
use Rattle.mta_transfer_rules.specs.Receiving as r
use Rattle.mta_transfer_rules.specs.Receiving.{RecvEnd, RecvEvent, RecvStage, Syncs}
use Rattle.mta_session.specs.declared.ask.Ask.{Ask}
use Rattle.mta_session.specs.declared.ask.Ask.TheVariants as ask
use Rattle.mta_session.specs.declared.event.Action.{Action}
use Rattle.mta_session.specs.declared.event.Action.TheVariants as action
use Rattle.mta_session.specs.declared.phase.Phase.TheVariants as phase
use Rattle.mta_session.specs.declared.phase.Found.{Found}
use Rattle.mta_session.specs.State.{State}
use Rattle.mta_session.specs.Wanted.{Wanted, Puts, Asks, Reads, Goes_on, Excepts, Never, wanted}
use Rattle.mta_session.specs.Follows.{Of_receiver, Of_neither, part_of, part_of_abort, PutsFor, AsksFor, GoesOn}
use Rattle.mta_session.specs.Follows.{ExceptsFor, Does, counted}
use Rattle.mta_session.specs.Fits.{Fits, FitsAt}
use Rattle.mta_session_laws.specs.TurningRecv.{filled, whole, Reaches, ReachesAt, RecvGoes, EventsGo, CallsGo}
use Rattle.mta_session_laws.specs.TurningRecv.{with_unit, with_action, told_by}
use Rattle.mta_session_laws.proofs.Calls.{follows_does}

pub append_run : (e f g : RecvEnd) (xs ys : List RecvEvent) → r.IsReceivingEnd e xs f → r.IsReceivingEnd f ys g
    → r.IsReceivingEnd e (xs ++ ys) g
append_run e f g [] ys a b = subst (λ z. r.IsReceivingEnd z ys g) a b
append_run e f g (x ∷ xs) ys a b = (a.0, append_run (r.recv_after e x) f g xs ys a.1 b)

syncs_if : (b : Bool) (k n j m : ℕ) (x y : List ℕ) → Syncs (r.Ended k n y) j m
    → Syncs (if b then r.Ended k n x else r.Ended k n y) j m
syncs_if true k n j m x y s = s
syncs_if false k n j m x y s = s

syncs_filled : (l : Last) (s : RecvStage) (p : List ℕ) (j m : ℕ) → Syncs s j m → Syncs (filled l s p) j m
syncs_filled l (r.Ended k n held) p j m s = syncs_if (is_done l k) k n j m p held s
syncs_filled l any1 p j m s = s

-- at a stage of a constructor other than Ended
pub at : (e : RecvEnd) (s : RecvStage) (p : List ℕ) → e.stage ≡ s → filled e.last s p ≡ s → filled e.last e.stage p ≡ s
at e s p q l = rw q l

at_done : (e : RecvEnd) (k n : ℕ) (held p : List ℕ) → e.stage ≡ r.Ended k n held → is_done e.last k ≡ true
    → filled e.last e.stage p ≡ r.Ended k n p
at_done e k n held p q d = rw q (rw d refl)

at_open : (e : RecvEnd) (k n : ℕ) (held p : List ℕ) → e.stage ≡ r.Ended k n held → is_done e.last k ≡ false
    → filled e.last e.stage p ≡ r.Ended k n held
at_open e k n held p q d = rw q (rw d refl)

-- a unit is put
behind : (e : RecvEnd) (events : List RecvEvent) (f : RecvEnd) (y : LaneUnit) (g : RecvEnd)
    → r.IsReceivingEnd e events f → r.MayPut f y → g ≡ r.put f y → r.IsReceivingEnd e (events ++ (r.Put y ∷ [])) g
behind e events f y g a m q = append_run e f g events (r.Put y ∷ []) a (m, q)

abort_put : (e : RecvEnd) (events : List RecvEvent) (t : State) (z : ℕ) (new : State) (b : Bool) → (z == 7) ≡ b
    → (c : Bool) → (z == 2) ≡ c → PutsFor t (part_of_abort z) (unit.Abort z) new →
    ReachesAt e (with_unit events (unit.Abort z)) new.phase new.recv
abort_put e events t z new true q c p g =
    let first = subst (λ b. PutsFor t
    (if b then Of_receiver u.Completed else (if z == 2 then Of_receiver u.Unrecognized else Of_neither))
    (unit.Abort z) new) q g in
    subst (λ v. ReachesAt e (with_unit events (unit.Abort z)) v.phase v.recv) (sym first.1) tt
abort_put e events t z new false q true p g =
    let first = subst (λ b. PutsFor t
    (if b then Of_receiver u.Completed else (if z == 2 then Of_receiver u.Unrecognized else Of_neither))
    (unit.Abort z) new) q g in
    let second = subst (λ b. PutsFor t (if b then Of_receiver u.Unrecognized else Of_neither) (unit.Abort z) new) p
    first in
    subst (λ v. ReachesAt e (with_unit events (unit.Abort z)) v.phase v.recv) (sym second.1) tt
abort_put e events t z new false q false p g =
    let first = subst (λ b. PutsFor t
    (if b then Of_receiver u.Completed else (if z == 2 then Of_receiver u.Unrecognized else Of_neither))
    (unit.Abort z) new) q g in
    let second = subst (λ b. PutsFor t (if b then Of_receiver u.Unrecognized else Of_neither) (unit.Abort z) new) p
    first in
    elim second [ ]

pub puts_go : (e : RecvEnd) (events : List RecvEvent) (t : State) (x : AnyUnit) (new : State)
    → PutsFor t (part_of x) x new → Reaches e events phase.Puts t.recv
    → ReachesAt e (with_unit events x) new.phase new.recv
puts_go e events t (unit.Start z) new g a =
    (subst (λ v. ReachesAt e (with_unit events (unit.Start z)) v.phase v.recv) (sym g.2) (a))
puts_go e events t (unit.Piece z) new g a =
    (subst (λ v. ReachesAt e (with_unit events (unit.Piece z)) v.phase v.recv) (sym g.2) (a))
puts_go e events t (unit.Sync z) new g a =
    (subst (λ v. ReachesAt e (with_unit events (unit.Sync z)) v.phase v.recv) (sym g.2) (a))
puts_go e events t (unit.SyncAck z) new g a =
    (subst (λ v. ReachesAt e (with_unit events (unit.SyncAck z)) v.phase v.recv) (sym g.1) (
      a.0,
      behind e events (whole phase.Puts t.recv a.0) (u.SyncAck z) _ a.1
          (g.0.0, syncs_filled t.recv.last t.recv.stage a.0 g.0.0 z g.0.1, g.0.2, g.0.3) refl,
    ))
puts_go e events t (unit.End z) new g a =
    (subst (λ v. ReachesAt e (with_unit events (unit.End z)) v.phase v.recv) (sym g.2) (a))
puts_go e events t (unit.EndAck z) new g a =
    (subst (λ v. ReachesAt e (with_unit events (unit.EndAck z)) v.phase v.recv) (sym g.1) (
      a.0,
      behind e events (whole phase.Puts t.recv a.0) (u.EndAck z) _ a.1
          (g.0.0, a.0, at_done t.recv z g.0.0 g.0.1 a.0 g.0.2 g.0.3, g.0.3) refl,
    ))
puts_go e events t (unit.Resume z1 z2) new g a =
    (subst (λ v. ReachesAt e (with_unit events (unit.Resume z1 z2)) v.phase v.recv) (sym g.2) (a))
puts_go e events t (unit.ResumeAck z1 z2) new g a =
    (subst (λ v. ReachesAt e (with_unit events (unit.ResumeAck z1 z2)) v.phase v.recv) (sym g.1) (
      a.0,
      behind e events (whole phase.Puts t.recv a.0) (u.ResumeAck z1 z2) _ a.1
          (at t.recv (r.Asked z1 z2) a.0 g.0.0 refl, g.0.1, g.0.2) refl,
    ))
puts_go e events t (unit.Discard z) new g a =
    (subst (λ v. ReachesAt e (with_unit events (unit.Discard z)) v.phase v.recv) (sym g.2) (a))
puts_go e events t (unit.DiscardAck z) new g a =
    (subst (λ v. ReachesAt e (with_unit events (unit.DiscardAck z)) v.phase v.recv) (sym g.1) (
      a.0,
      behind e events (whole phase.Puts t.recv a.0) (u.DiscardAck z) _ a.1
          (at t.recv (r.Discards z) a.0 g.0.0 refl, g.0.1, g.0.2) refl,
    ))
puts_go e events t (unit.Abort z) new g a = abort_put e events t z new (z == 7) refl (z == 2) refl g
puts_go e events t any3 new g a = elim g [ ]

asks_go : (e : RecvEnd) (events : List RecvEvent) (t : State) (x : Ask) (new : State) → AsksFor t x new → Fits new
    → Reaches e events phase.Puts t.recv → ReachesAt e events new.phase new.recv
asks_go e events t (ask.BatchFor z) new g f a = subst (λ v. ReachesAt e events v.phase v.recv) (sym g.3) (a.0, a.1)
asks_go e events t (ask.Ending z1 z2 z3) new g f a = subst (λ v. ReachesAt e events v.phase v.recv) (sym g.6) (a.0, a.1)
asks_go e events t (ask.Secure z1 z2 z3 z4 z5) new g f a =
    subst (λ v. ReachesAt e events v.phase v.recv) (sym g.3) (
      z5,
      subst (λ s. r.IsReceivingEnd e events (record t.recv { stage = s }))
          (at t.recv (r.Synced z3 z4 z5) a.0 g.0.0 refl) a.1,
    )
asks_go e events t (ask.Complete z1 z2 z3 z4 z5) new g f a =
    subst (λ v. ReachesAt e events v.phase v.recv) (sym g.3) (
      z5,
      subst (λ s. r.IsReceivingEnd e events (record t.recv { stage = s }))
          (at_open t.recv z3 z4 z5 a.0 g.0.0 (subst (λ v. FitsAt v.phase v) g.3 f).3) a.1,
    )
asks_go e events t (ask.DropActivity z1 z2 z3) new g f a =
    subst (λ v. ReachesAt e events v.phase v.recv) (sym g.3) (a.0, a.1)
asks_go e events t any3 new g f a = elim g [ ]

pub on_goes : (e : RecvEnd) (events : List RecvEvent) (t : State) (x : Action) (new : State) → GoesOn t x new → Fits new
    → Reaches e events phase.Puts t.recv → ReachesAt e (with_action events x) new.phase new.recv
on_goes e events t (action.Put x) new g f a = puts_go e events t x new g a
on_goes e events t (action.Ask x) new g f a = asks_go e events t x new g f a
on_goes e events t action.Read new g f a = subst (λ v. ReachesAt e events v.phase v.recv) (sym g.1) (a.0, a.1)
on_goes e events t (action.Finish x) new g f a = elim g [ ]

exception_put : (e : RecvEnd) (events : List RecvEvent) (t : State) (kind at_ : ℕ) (new : State)
    → r.MayPut t.recv u.Exception → new ≡ record t { phase = phase.Puts; recv = r.put t.recv u.Exception } →
    Reaches e events phase.Puts t.recv → ReachesAt e (with_unit events (unit.Exception kind at_)) new.phase new.recv
exception_put e events t kind at_ new m q a =
    let there : filled t.recv.last t.recv.stage a.0 ≡ r.Found m.0 = at t.recv (r.Found m.0) a.0 m.1 refl in
    let leads : whole phase.Puts (r.put t.recv u.Exception) a.0 ≡ r.put (whole phase.Puts t.recv a.0) u.Exception =
    rw there (rw m.1 refl) in
    subst (λ v. ReachesAt e (with_unit events (unit.Exception kind at_)) v.phase v.recv) (sym q) (
      a.0,
      behind e events (whole phase.Puts t.recv a.0) u.Exception
          (whole phase.Puts (r.put t.recv u.Exception) a.0) a.1 (m.0, there, m.2) leads,
    )

pub except_goes : (e : RecvEnd) (events : List RecvEvent) (t : State) (f : Found) (x : Action) (new : State)
    → ExceptsFor t f x new → Reaches e events phase.Puts t.recv → ReachesAt e (with_action events x) new.phase new.recv
except_goes e events t f (action.Ask (ask.DropActivity z1 z2 z3)) new g a =
    subst (λ v. ReachesAt e events v.phase v.recv) (sym g.3) (a.0, a.1)
except_goes e events t f (action.Ask any) new g a = elim g [ ]
except_goes e events t f (action.Put (unit.Exception z1 z2)) new g a = exception_put e events t z1 z2 new g.0 g.3 a
except_goes e events t f (action.Put any) new g a = elim g [ ]
except_goes e events t f any4 new g a = elim g [ ]

pub does_goes : (e : RecvEnd) (events : List RecvEvent) (t : State) (w : Wanted) (x : Action) (new : State)
    → RecvGoes e events w → Does t w x new → Fits new → ReachesAt e (with_action events x) new.phase new.recv
does_goes e events t (Puts y n) x new a d f = subst (λ b. ReachesAt e (with_action events b) new.phase new.recv)
    (sym d.0) (subst (λ v. ReachesAt e (with_unit events y) v.phase v.recv) (sym d.1) a)
does_goes e events t (Asks y n) x new a d f = subst (λ b. ReachesAt e (with_action events b) new.phase new.recv)
    (sym d.0) (subst (λ v. ReachesAt e events v.phase v.recv) (sym d.1) a)
does_goes e events t (Reads n) x new a d f = subst (λ b. ReachesAt e (with_action events b) new.phase new.recv)
    (sym d.0) (subst (λ v. ReachesAt e events v.phase v.recv) (sym d.1) a)
does_goes e events t (Goes_on n) x new a d f = on_goes e events n x new d f a
does_goes e events t (Excepts n y) x new a d f = except_goes e events n y x new d a
does_goes e events t Never x new a d f = elim d [ ]
does_goes e events t any3 x new a d f = subst (λ v. ReachesAt e (with_action events x) v.phase v.recv) (sym d.1) tt

pub calls_go : EventsGo → CallsGo
calls_go g t e x new p i f n a d = does_goes (whole t.phase t.recv p) (told_by t.phase t p e) (counted t e)
    (wanted (counted t e) e) x new (g t e p i f a) (follows_does t.phase t e x new i d) n
