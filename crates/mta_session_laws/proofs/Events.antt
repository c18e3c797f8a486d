-- Each event of an open session is one of its sending end.
use Rattle.std.proofs.Common.{◌≡◌, ℕ, Bool, true, false, if◌then◌else◌, Option, Some, None, Result, Ok, Err, List, []}
use Rattle.std.proofs.Common.{◌∷◌, refl, rules, subst, sym}
use Rattle.mta_units.specs.declared.unit.Unit.{Unit as AnyUnit}
use Rattle.mta_units.specs.declared.unit.Unit.TheVariants as unit
use Rattle.mta_lane_send.specs.Half.{is_idle, last_of}
use Rattle.mta_transfer_rules.specs.Units.{LaneUnit}
use Rattle.mta_transfer_rules.specs.Units as u
use Rattle.mta_transfer_rules.specs.Sending as s
use Rattle.mta_transfer_rules.specs.Sending.{SendEvent}
use Rattle.mta_session.specs.declared.event.Event.{Event}
use Rattle.mta_session.specs.declared.event.Event.TheVariants as event
use Rattle.mta_records.specs.declared.fault.StepFault.{StepFault}
use Rattle.mta_records.specs.declared.fault.StepFault.TheVariants as fault
use Rattle.mta_session.specs.declared.phase.Phase.{Phase}
use Rattle.mta_session.specs.declared.phase.Phase.TheVariants as phase
use Rattle.mta_session.specs.declared.phase.OwnStep.{OwnStep}
use Rattle.mta_session.specs.declared.phase.OwnStep.TheVariants as own
use Rattle.mta_session_laws.specs.Called.{heard_as, StepsAreCalled, StepsNeedActivity, PassingIsGot}
use Rattle.mta_session.specs.Sending.{step_of}
use Rattle.mta_session.specs.State.{State}
use Rattle.mta_session.specs.Wanted.{Wanted}
use Rattle.mta_session.specs.Wanted.{wanted}
use Rattle.mta_session.specs.Follows.{counted}
use Rattle.mta_session.specs.Fits.{AnswersAt, FitsAt}
use Rattle.mta_session_laws.specs.Turning.{listed, MayFollow, SendGoes, got_as, unless_refused}
use Rattle.mta_session_laws.specs.Turning.{told_by, made_by, made_of, EventsGo, is_open}
use Rattle.mta_session_laws.proofs.Turning.{got_is, made_listed, other, step_goes, start_goes, kept_live, sending_live, given_up}
use Rattle.mta_session_laws.proofs.Opening.{wanted_in}
use Rattle.mta_session_laws.proofs.Rows.{Row, row, reply_to, is_abort, aborted, rejected, ended, nothing, put_whole, pleased}
use Rattle.mta_session_laws.proofs.Rows.{passed, step_called, turn_got, close_passed, please_passed, close_pleased, piece_taken}
use Rattle.mta_session_laws.proofs.Rows.{close_got, abort_denied, abort_sent, got_ack, gives_pleased, awaits_ack}
use Rattle.mta_session_laws.proofs.Rows.{none_due, one_due, batch_found, none_closes, none_gives, batch_started, batch_unstarted}
use Rattle.mta_session_laws.proofs.Rows.{tries_again, step_made, step_unmade, gave_up, secured, secured_bad, completed}
use Rattle.mta_session_laws.proofs.Rows.{completed_bad, dropped, dropped_bad}

abbrev is_no : Bool → Type 0
is_no false = Unit {0}
is_no true = ⊥

pub never : false ≡ true → ⊥
never i = subst (λ b. is_no b) i tt

-- the events of a call that wants this
abbrev told_when : Phase → State → Event → Wanted → List SendEvent
told_when phase.Reads t (event.Unit x) w = unless_refused w (got_as t.ours x)
told_when phase.ReadsCloseAck t (event.Unit x) w = unless_refused w (got_as true x)
told_when p t e w = told_by p t e

told_same : (p : Phase) (t : State) (e : Event) → told_when p t e (wanted_in p (counted t e) e) ≡ told_by p t e
told_same phase.Reads t (event.Unit x) = refl
told_same phase.ReadsCloseAck t (event.Unit x) = refl
told_same p t e = refl

pub wanted_same : (t : State) (e : Event) → wanted_in t.phase (counted t e) e ≡ wanted (counted t e) e
wanted_same t event.Go = refl
wanted_same t e = refl

got_at : (x : AnyUnit) (b : Bool) → is_abort x ≡ false
    → got_as b x ≡ (if b then (s.Got (heard_as x) ∷ []) else [])
got_at (unit.Abort reason) b n = absurd (never (sym n))
got_at x b n = refl

made_same : (step : OwnStep) (x : Result (Unit {0}) StepFault) → made_by step (reply_to step x) ≡ made_of step x
made_same (own.Confirm n) x = refl
made_same step x = refl

-- a half of which nothing is under way
idle_of : (t : State) → FitsAt phase.AsksStart t → is_idle t.send.state ≡ true
idle_of t f = search (rules, f)

row_goes : StepsAreCalled → StepsNeedActivity → PassingIsGot → (t : State) (p : Phase) (e : Event) (w : Wanted)
    → Row (counted t e) p e w → (h : Option LaneUnit) (o : List ℕ) → is_open p ≡ true → FitsAt p t → AnswersAt p t e
    → t.send.heard ≡ None → MayFollow p (listed t.send h o) → SendGoes (listed t.send h o) (told_when p t e w) w
row_goes m l g t p e w (aborted reason q) h o i f a c y = tt
row_goes m l g t p e w (rejected reason q) h o i f a c y = tt
row_goes m l g t p e w (ended z) h o i f a c y = tt
row_goes m l g t p e w nothing h o i f a c y = tt
row_goes m l g t p e w put_whole h o i f a c y = (h, o, refl, tt)
row_goes m l g t p e w (pleased n b z) h o i f a c y =
    rw b (Some u.Other, o, (tt, got_is t.send t.send h o u.Other (other t.send c)), tt)
row_goes m l g t p e w (passed x k b n q z) h o i f a c y = rw (got_at x t.ours z, b)
    (Some (heard_as x), o, (tt, got_is t.send k h o (heard_as x) (g t.send k x c n q).0), tt)
row_goes m l g t p e w (step_called x step b q z) h o i f a c y =
    let both = m t.send x step c q in
    rw (got_at x t.ours z, b) (
      Some (heard_as x),
      o,
      (tt, got_is t.send t.send h o (heard_as x) both.1),
      made_listed t.send o (heard_as x) (step_of step) (l t.send x step q) both.0 both.1,
    )
row_goes m l g t p e w (turn_got b q) h o i f a c y = rw b (h, o, refl, tt)
row_goes m l g t p e w (close_passed b q) h o i f a c y = rw b (h, o, refl, tt)
row_goes m l g t p e w (please_passed n b) h o i f a c y = rw b (h, o, refl, tt)
row_goes m l g t p e w (close_pleased b q) h o i f a c y = rw b (h, o, refl, tt)
row_goes m l g t p e w (piece_taken x k b q z) h o i f a c y = rw (got_at x t.ours z, b) (h, o, refl, tt)
row_goes m l g t p e w (close_got b q z) h o i f a c y = tt
row_goes m l g t p e w (abort_denied reason q d z) h o i f a c y = tt
row_goes m l g t p e w (abort_sent reason q d z) h o i f a c y = tt
row_goes m l g t p e w got_ack h o i f a c y = tt
row_goes m l g t p e w (gives_pleased n q) h o i f a c y =
    (Some u.Other, o, (tt, got_is t.send t.send h o u.Other (other t.send c)), tt)
row_goes m l g t p e w awaits_ack h o i f a c y = (h, o, refl, tt)
row_goes m l g t p e w none_due h o i f a c y = (h, o, refl, tt)
row_goes m l g t p e w (one_due b) h o i f a c y = (h, o, refl, tt)
row_goes m l g t p e w (batch_found b) h o i f a c y = (h, o, refl, tt)
row_goes m l g t p e w (none_closes b) h o i f a c y = (h, o, refl, tt)
row_goes m l g t p e w (none_gives b) h o i f a c y = (h, o, refl, tt)
row_goes m l g t p e w (batch_started x) h o i f a c y = start_goes t h o x c (idle_of t f) f.3 a.1
row_goes m l g t p e w batch_unstarted h o i f a c y = (h, o, refl, tt)
row_goes m l g t p e w (tries_again told b q) h o i f a c y = (h, o, refl, tt)
row_goes m l g t p e w (step_made step v) h o i f a c y = rw (made_same step (Ok v)) (step_goes t h o step c y)
row_goes m l g t p e w (step_unmade step) h o i f a c y = rw (made_same step (Err fault.Unexpected)) (h, o, refl, tt)
row_goes m l g t p e w (gave_up told q) h o i f a c y =
    let live = given_up t told q in
    rw q (
      h,
      [],
      (
        live,
        rw (kept_live t.send.state o t.send.octets (sending_live t.send.state (last_of t.send.state) live)) refl,
      ),
      tt,
    )
row_goes m l g t p e w (secured k n v) h o i f a c y = (h, o, refl, tt)
row_goes m l g t p e w (secured_bad k n q) h o i f a c y = (h, o, refl, tt)
row_goes m l g t p e w (completed k n item) h o i f a c y = (h, o, refl, tt)
row_goes m l g t p e w (completed_bad k n q) h o i f a c y = (h, o, refl, tt)
row_goes m l g t p e w (dropped k v) h o i f a c y = (h, o, refl, tt)
row_goes m l g t p e w (dropped_bad k q v) h o i f a c y = (h, o, refl, tt)
row_goes m l g t p e w x h o i f a c y = absurd (never i)

pub events_go : StepsAreCalled → StepsNeedActivity → PassingIsGot → EventsGo
events_go m l g t e h o i f a c y =
    let w : Wanted = wanted_in t.phase (counted t e) e in
    subst (λ z. SendGoes (listed t.send h o) (told_by t.phase t e) z) (wanted_same t e)
    (subst (λ z. SendGoes (listed t.send h o) z w) (told_same t.phase t e)
    (row_goes m l g t t.phase e w (row t.phase (counted t e) e) h o i f a c y))
