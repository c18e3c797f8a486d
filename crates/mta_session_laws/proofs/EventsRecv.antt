-- Each event of an open session is one of its receiving end.
use Rattle.std.proofs.Common.{◌≡◌, ℕ, Bool, true, false, if◌then◌else◌, Some, None, IsSome, unwrap_or}
use Rattle.std.proofs.Common.{List, [], ◌∷◌, refl, rules, sym, ap, subst, ◌==◌}
use Rattle.std.proofs.Common.{inl, inr}
use Rattle.mta_units.specs.declared.unit.Unit.{Unit as AnyUnit}
use Rattle.mta_units.specs.declared.unit.Unit.TheVariants as unit
use Rattle.mta_lane_recv.specs.declared.state.Last.{Last}
use Rattle.mta_lane_recv.specs.declared.state.Last.TheVariants as last
use Rattle.mta_lane_recv.specs.Half.{is_done}
use Rattle.mta_transfer_rules.specs.Units.{LaneUnit}
use Rattle.mta_transfer_rules.specs.Units as u
use Rattle.mta_transfer_rules.specs.Receiving as r
use Rattle.mta_transfer_rules.specs.Receiving.{RecvEnd, RecvEvent, RecvStage, StageOwesNothing}
use Rattle.mta_session.specs.declared.event.Event.{Event}
use Rattle.mta_session.specs.declared.event.Event.TheVariants as event
use Rattle.mta_session.specs.declared.phase.Phase.{Phase}
use Rattle.mta_session.specs.declared.phase.Phase.TheVariants as phase
use Rattle.mta_session.specs.Receiving.{admits, taken}
use Rattle.mta_session.specs.State.{State}
use Rattle.mta_session.specs.Wanted.{Wanted}
use Rattle.mta_session.specs.Follows.{counted}
use Rattle.mta_session.specs.Fits.{FitsAt}
use Rattle.mta_session_laws.specs.Turning.{is_open}
use Rattle.mta_session_laws.specs.TurningRecv.{filled, whole, Reaches, RecvGoes, told_by, taken_as, unless_refused}
use Rattle.mta_session_laws.specs.TurningRecv.{EventsGo}
use Rattle.mta_session_laws.proofs.Events.{never, wanted_same}
use Rattle.mta_session_laws.proofs.Opening.{wanted_in}
use Rattle.mta_session_laws.proofs.Rows.{Row, row, aborted, rejected, ended, nothing, put_whole, pleased, passed}
use Rattle.mta_session_laws.proofs.Rows.{step_called, turn_got, close_passed, please_passed, close_pleased}
use Rattle.mta_session_laws.proofs.Rows.{piece_taken, close_got, abort_denied, abort_sent, got_ack, gives_pleased}
use Rattle.mta_session_laws.proofs.Rows.{awaits_ack, none_due, one_due, batch_found, none_closes, none_gives}
use Rattle.mta_session_laws.proofs.Rows.{batch_started, batch_unstarted, tries_again, step_made, step_unmade, gave_up}
use Rattle.mta_session_laws.proofs.Rows.{secured, secured_bad, completed, completed_bad, dropped, dropped_bad}

same_if : (b : Bool) (x : RecvStage) → (if b then x else x) ≡ x
same_if true x = refl
same_if false x = refl

abbrev held_of : RecvStage → List ℕ
held_of (r.Ended k n held) = held
held_of s = []

filled_held : (l : Last) (s : RecvStage) → filled l s (held_of s) ≡ s
filled_held l (r.Ended k n held) = same_if (is_done l k) (r.Ended k n held)
filled_held l any1 = refl

filled_same : (l : Last) (s : RecvStage) (a : ℕ) (p : List ℕ) → StageOwesNothing s a → filled l s p ≡ s
filled_same l (r.Ended k n held) a p o = elim o [ ]
filled_same l any1 a p o = refl

whole_same : (e : RecvEnd) (p : List ℕ) → r.OwesNothing e → whole phase.Reads e p ≡ e
whole_same e p o = ap {A = RecvStage} (λ z. record e { stage = z }) (filled_same e.last e.stage e.acked p o)

whole_held : (f : RecvEnd) → whole phase.Puts f (held_of f.stage) ≡ f
whole_held f = ap {A = RecvStage} (λ z. record f { stage = z }) (filled_held f.last f.stage)

took : (e : RecvEnd) (p : List ℕ) (y : LaneUnit) (f : RecvEnd) → r.OwesNothing e → r.take e y ≡ Some f
    → Reaches (whole phase.Reads e p) (r.Took y ∷ []) phase.Puts f
took e p y f o q =
    let allowed : IsSome (r.take e y) = rw q refl in
    let leads : whole phase.Puts f (held_of f.stage) ≡ unwrap_or (r.take e y) e = rw q (whole_held f) in (
      held_of f.stage,
      subst (λ z. r.IsReceivingEnd z (r.Took y ∷ []) (whole phase.Puts f (held_of f.stage)))
          (sym (whole_same e p o)) (allowed, leads),
    )

none_some : (f : RecvEnd) → None ≡ Some f → ⊥
none_some f q = cc

piece_took : (e : RecvEnd) (p z : List ℕ) (b : Bool) (f : RecvEnd) → r.OwesNothing e
    → (if b then r.take e (u.Piece z) else None) ≡ Some f
    → Reaches (whole phase.Reads e p) (r.Took (u.Piece z) ∷ []) phase.Puts f
piece_took e p z true f o q = took e p (u.Piece z) f o q
piece_took e p z false f o q = absurd (none_some f q)

unit_took : (t : State) (p : List ℕ) (x : AnyUnit) (f : RecvEnd) → r.OwesNothing t.recv
    → taken t.checkpoint t.recv x ≡ Some f → Reaches (whole phase.Reads t.recv p) (taken_as x) phase.Puts f
unit_took t p (unit.Start z) f o q = took t.recv p (u.Start z) f o q
unit_took t p (unit.Piece z) f o q = piece_took t.recv p z (admits t.checkpoint t.recv.stage z) f o q
unit_took t p (unit.Sync z) f o q = took t.recv p (u.Sync z) f o q
unit_took t p (unit.End z) f o q = took t.recv p (u.End z) f o q
unit_took t p (unit.Resume k n) f o q = took t.recv p (u.Resume k n) f o q
unit_took t p (unit.Discard z) f o q = took t.recv p (u.Discard z) f o q
unit_took t p x f o q = absurd (none_some f q)

done_self : (k : ℕ) (x y : RecvStage) → (if k == k then x else y) ≡ x
done_self k x y = search rules

completed_is : (t : State) (k n : ℕ) (p : List ℕ) → t.recv.stage ≡ r.Ended k n [] →
    whole phase.Puts (r.made t.recv (r.Complete k n [])) p ≡ r.made (whole (phase.AsksComplete k n) t.recv p)
    (r.Complete k n p)
completed_is t k n p q = rw q (ap {A = RecvStage} (λ z. record t.recv { high = k; last = last.Done k; stage = z })
    (done_self k (r.Ended k n p) (r.Ended k n [])))

-- the events of a call that wants this
abbrev told_when : Phase → State → List ℕ → Event → Wanted → List RecvEvent
told_when phase.Reads t p (event.Unit x) w = unless_refused w (if t.ours then [] else taken_as x)
told_when ph t p e w = told_by ph t p e

told_same : (ph : Phase) (t : State) (p : List ℕ) (e : Event)
    → told_when ph t p e (wanted_in ph (counted t e) e) ≡ told_by ph t p e
told_same phase.Reads t p (event.Unit x) = refl
told_same ph t p e = refl

row_goes : (t : State) (p : List ℕ) (ph : Phase) (e : Event) (w : Wanted) → Row (counted t e) ph e w
    → is_open ph ≡ true → FitsAt ph t → RecvGoes (whole ph t.recv p) (told_when ph t p e w) w
row_goes t p ph e w (aborted reason q) i f = tt
row_goes t p ph e w (rejected reason q) i f = tt
row_goes t p ph e w (ended y) i f = tt
row_goes t p ph e w nothing i f = tt
row_goes t p ph e w put_whole i f = (p, refl)
row_goes t p ph e w (pleased n b z) i f = rw b (p, refl)
row_goes t p ph e w (passed x k b n q z) i f = rw b (p, refl)
row_goes t p ph e w (step_called x step b q z) i f = rw b (p, refl)
row_goes t p ph e w (turn_got b q) i f = rw b (p, refl)
row_goes t p ph e w (close_passed b q) i f = rw b (p, refl)
row_goes t p ph e w (please_passed n b) i f = rw b (p, refl)
row_goes t p ph e w (close_pleased b q) i f = rw b (p, refl)
row_goes t p ph e w (piece_taken x k b q z) i f = rw b (unit_took t p x k f.3 q)
row_goes t p ph e w (close_got b q z) i f = tt
row_goes t p ph e w (abort_denied reason q d z) i f = tt
row_goes t p ph e w (abort_sent reason q d z) i f = tt
row_goes t p ph e w got_ack i f = tt
row_goes t p ph e w (gives_pleased n q) i f = (p, refl)
row_goes t p ph e w awaits_ack i f = (p, refl)
row_goes t p ph e w none_due i f = (p, refl)
row_goes t p ph e w (one_due b) i f = (p, refl)
row_goes t p ph e w (batch_found b) i f = (p, refl)
row_goes t p ph e w (none_closes b) i f = (p, refl)
row_goes t p ph e w (none_gives b) i f = (p, refl)
row_goes t p ph e w (batch_started x) i f = (p, refl)
row_goes t p ph e w batch_unstarted i f = (p, refl)
row_goes t p ph e w (tries_again told b q) i f = (p, refl)
row_goes t p ph e w (step_made step v) i f = (p, refl)
row_goes t p ph e w (step_unmade step) i f = (p, refl)
row_goes t p ph e w (gave_up told q) i f = (p, refl)
row_goes t p ph e w (secured k n v) i f = (p, ((refl, f.4), refl))
row_goes t p ph e w (secured_bad k n q) i f = (p, ((inr (inl refl), f.4), refl))
row_goes t p ph e w (completed k n item) i f = (p, ((refl, f.4), completed_is t k n p f.2))
row_goes t p ph e w (completed_bad k n q) i f = (p, ((inr (inr refl), f.4), refl))
row_goes t p ph e w (dropped k v) i f = (p, ((inl (rw f.2 refl), f.3), rw f.2 refl))
row_goes t p ph e w (dropped_bad k q v) i f = (p, ((inr (rw f.2 refl), f.3), rw f.2 refl))
row_goes t p ph e w x i f = absurd (never i)

pub events_go : EventsGo
events_go t e p i f a =
    let w : Wanted = wanted_in t.phase (counted t e) e in
    subst (λ z. RecvGoes (whole t.phase t.recv p) (told_by t.phase t p e) z) (wanted_same t e)
    (subst (λ z. RecvGoes (whole t.phase t.recv p) z w) (told_same t.phase t p e)
    (row_goes t p t.phase e w (row t.phase (counted t e) e) i f))
