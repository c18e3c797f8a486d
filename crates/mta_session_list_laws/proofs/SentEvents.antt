-- What the events of a session's list are for its sending half: those that the rules speak of, without the units that
-- say nothing of a transfer.
use Rattle.std.proofs.Common.{◌≡◌, ℕ, ◌==◌, ◌-◌, if◌then◌else◌, Bool, true, false, Result, Ok}
use Rattle.std.proofs.Common.{Err, List}
use Rattle.std.proofs.Common.{[], ◌∷◌, refl, sym, ap, subst, ◌∙◌}
use Rattle.std.proofs.lemmas.Bool.{eq-eqb}
use Rattle.mta_lane_send.specs.Half.{last_of}
use Rattle.mta_units.specs.declared.unit.Unit.{Unit as AnyUnit}
use Rattle.mta_units.specs.declared.unit.Unit.TheVariants as unit
use Rattle.mta_transfer_rules.specs.Lanes as h
use Rattle.mta_transfer_rules.specs.Sending as s
use Rattle.mta_transfer_rules.specs.Sending.{SendEvent}
use Rattle.mta_records.specs.Outgoing.{Carried}
use Rattle.mta_records.specs.declared.fault.StepFault.{StepFault}
use Rattle.mta_session.specs.declared.ask.Ask.{Ask}
use Rattle.mta_session.specs.declared.ask.Ask.TheVariants as ask
use Rattle.mta_session.specs.declared.ask.Reply.{Reply}
use Rattle.mta_session.specs.declared.ask.Reply.TheVariants as reply
use Rattle.mta_session.specs.declared.event.Event.TheVariants as event
use Rattle.mta_session.specs.declared.phase.OwnStep.{OwnStep}
use Rattle.mta_session.specs.declared.phase.OwnStep.TheVariants as own
use Rattle.mta_session.specs.declared.phase.Phase.TheVariants as phase
use Rattle.mta_session.specs.State.{State}
use Rattle.mta_session.specs.Wanted.{Wanted, Aborts}
use Rattle.mta_session.specs.Wanted.{as_holder, as_listener, ask_of, within}
use Rattle.mta_session.specs.Fits.{AnswersStep}
use Rattle.mta_session.specs.Follows.{counted}
use Rattle.mta_session_laws.specs.Called.{heard_as}
use Rattle.mta_session_laws.specs.Turning as turning
use Rattle.mta_session_laws.specs.Turning.{called_for, unless_refused, started_by, made_by, with_unit}
use Rattle.mta_transfer_laws.specs.Sessions as x
use Rattle.mta_transfer_laws.specs.Sessions.{gots_of, puts_of, answer_unit, transfer_unit, sending_event}
use Rattle.mta_transfer_laws.specs.Sessions.{sending_step_of}
use Rattle.mta_lane_match_laws.specs.Asks.{IsStart}
use Rattle.mta_session_list_laws.specs.Calls.{step_told, look_told, told_as, got_as}
use Rattle.mta_session_list_laws.specs.Sent.{without_other}
use Rattle.mta_session_list_laws.proofs.Found.{never}
use Rattle.mta_session_list_laws.proofs.TurnsUnits.{is_abort}

-- ---- units

abort_heard : (reason : ℕ) (b c : Bool) → (reason == 7) ≡ b → (reason == 2) ≡ c
    → gots_of (x.abort_unit reason) ≡ without_other (s.Got (heard_as (unit.Abort reason)) ∷ [])
abort_heard reason true c p q = rw p refl
abort_heard reason false true p q = rw p (rw q refl)
abort_heard reason false false p q = rw p (rw q refl)

reject_heard : (reason : ℕ) (b : Bool) → (reason == 1) ≡ b
    → gots_of (answer_unit (unit.Reject reason)) ≡ without_other (s.Got (heard_as (unit.Reject reason)) ∷ [])
reject_heard reason true p = rw p refl
reject_heard reason false p = rw p refl

-- what a unit says to the sending end that gets it
pub heard_same : (y : AnyUnit) → gots_of (answer_unit y) ≡ without_other (s.Got (heard_as y) ∷ [])
heard_same (unit.Abort reason) = abort_heard reason (reason == 7) (reason == 2) refl refl
heard_same (unit.Reject reason) = reject_heard reason (reason == 1) refl
heard_same y = refl

abort_put : (reason : ℕ) (b c : Bool) → (reason == 7) ≡ b → (reason == 2) ≡ c
    → ◌≡◌ {A = List SendEvent} [] (with_unit [] (unit.Abort reason))
abort_put reason true c p q = rw p refl
abort_put reason false true p q = rw p (rw q refl)
abort_put reason false false p q = rw p (rw q refl)

abbrev pub links : AnyUnit → Bool
links (unit.Open o) = true
links (unit.Accept c w a) = true
links y = false

-- a unit that is put, but for those that make a link new
pub put_same : (y : AnyUnit) → links y ≡ false → puts_of (transfer_unit y) ≡ with_unit [] y
put_same (unit.Open o) i = absurd (never (sym i))
put_same (unit.Accept c w a) i = absurd (never (sym i))
put_same (unit.Abort reason) i = abort_put reason (reason == 7) (reason == 2) refl refl
put_same y i = refl

module _ (lane : ℕ) where
  -- with the turn each unit that is taken is heard
  pub holder_heard : (w : Wanted) (y : AnyUnit)
      → sending_event lane (got_as w y) ≡ without_other (unless_refused w (s.Got (heard_as y) ∷ []))
  holder_heard (Aborts reason) y = refl
  holder_heard any0 y = heard_same y

  nothing_heard : (w : Wanted) (y : AnyUnit) → gots_of (answer_unit y) ≡ [] → sending_event lane (got_as w y) ≡ []
  nothing_heard (Aborts reason) y e = refl
  nothing_heard any0 y e = e

  -- without it no unit is heard, but an Abort
  listener_heard : (t : State) (y : AnyUnit) → is_abort y ≡ false → sending_event lane (got_as (as_listener t y) y) ≡ []
  listener_heard t unit.Give i = nothing_heard (as_listener t unit.Give) unit.Give refl
  listener_heard t unit.Close i = nothing_heard (as_listener t unit.Close) unit.Close refl
  listener_heard t (unit.Please priority) i =
      nothing_heard (as_listener t (unit.Please priority)) (unit.Please priority) refl
  listener_heard t (unit.Start k) i = nothing_heard (as_listener t (unit.Start k)) (unit.Start k) refl
  listener_heard t (unit.Piece k) i = nothing_heard (as_listener t (unit.Piece k)) (unit.Piece k) refl
  listener_heard t (unit.Sync k) i = nothing_heard (as_listener t (unit.Sync k)) (unit.Sync k) refl
  listener_heard t (unit.End k) i = nothing_heard (as_listener t (unit.End k)) (unit.End k) refl
  listener_heard t (unit.Resume k n) i = nothing_heard (as_listener t (unit.Resume k n)) (unit.Resume k n) refl
  listener_heard t (unit.Discard k) i = nothing_heard (as_listener t (unit.Discard k)) (unit.Discard k) refl
  listener_heard t (unit.Abort reason) i = absurd (never (sym i))
  listener_heard t y i = refl

  none_refused : (w : Wanted) → without_other (unless_refused w []) ≡ []
  none_refused (Aborts reason) = refl
  none_refused any0 = refl

  if_heard : (b : Bool) (w : Wanted) (y : AnyUnit) → sending_event lane (got_as w y) ≡ []
      → sending_event lane (got_as (if b then Aborts 3 else w) y) ≡ []
  if_heard true w y e = refl
  if_heard false w y e = e

  -- the turn decides, in an open session
  turn_heard : (t : State) (y : AnyUnit) → is_abort y ≡ false → t.ours ≡ false
      → sending_event lane (got_as (if t.ours then as_holder t y else as_listener t y) y) ≡ []
  turn_heard t y i o =
      subst (λ b. sending_event lane (got_as (if b then as_holder t y else as_listener t y) y) ≡ []) (sym o)
      (listener_heard t y i)

  abbrev Heard : State → AnyUnit → Type 0
  Heard t y = sending_event lane (got_as (called_for phase.Reads t y) y)
      ≡ without_other (unless_refused (called_for phase.Reads t y) (turning.got_as t.ours y))

  abbrev Heard_none : State → AnyUnit → Type 0
  Heard_none t y = sending_event lane (got_as (called_for phase.Reads t y) y) ≡ []

  theirs : (t : State) (y : AnyUnit) → is_abort y ≡ false → t.ours ≡ false
      → sending_event lane
      (got_as (within (counted t (event.Unit y))
      (if (counted t (event.Unit y)).ours then as_holder (counted t (event.Unit y)) y else as_listener
      (counted t (event.Unit y)) y)) y)
      ≡ []
  theirs t y i o =
      let c : State = counted t (event.Unit y) in
      if_heard (c.left == 0) (if c.ours then as_holder c y else as_listener c y) y (turn_heard c y i o)

  by_turn : (t : State) (y : AnyUnit) (o : Bool) → is_abort y ≡ false → t.ours ≡ o
      → turning.got_as t.ours y ≡ (if t.ours then (s.Got (heard_as y) ∷ []) else []) → (t.ours ≡ false → Heard_none t y)
      → Heard t y
  by_turn t y true i o same none =
      holder_heard (called_for phase.Reads t y) y
      ∙ ap (λ (z : List SendEvent). without_other (unless_refused (called_for phase.Reads t y) z))
      (sym (same ∙ ap (λ (b : Bool). if b then (s.Got (heard_as y) ∷ []) else []) o))
  by_turn t y false i o same none =
      none o ∙ sym (none_refused (called_for phase.Reads t y))
      ∙ ap (λ (z : List SendEvent). without_other (unless_refused (called_for phase.Reads t y) z))
      (sym (same ∙ ap (λ (b : Bool). if b then (s.Got (heard_as y) ∷ []) else []) o))

  pub reads_heard : (t : State) (y : AnyUnit) → Heard t y
  reads_heard t (unit.Abort reason) = holder_heard (called_for phase.Reads t (unit.Abort reason)) (unit.Abort reason)
  reads_heard t y = by_turn t y t.ours refl refl refl (λ o. theirs t y refl o)

  -- ---- replies

  abbrev SentTold : (seen : ℕ) → Ask → Reply → List SendEvent
  SentTold seen a y = sending_event lane (told_as seen (step_told a y) (look_told a y))

  own_step : (ys : List SendEvent) → (if lane == lane then ys else []) ≡ ys
  own_step ys = ap (λ (b : Bool). if b then ys else []) (eq-eqb lane lane refl)

  -- an activity is started
  pub start_told : (seen : ℕ) (t : State) (a : Ask) (z : Result Carried StepFault) → IsStart t a → t.lane ≡ lane
      → SentTold seen a (reply.Start z) ≡ started_by (reply.Start z)
  start_told seen t (ask.Start n g batch) (Ok o) k e =
      subst (λ m. SentTold seen (ask.Start m g batch) (reply.Start (Ok o)) ≡ s.Made (s.Start o.octets) ∷ [])
      (sym (k.0 ∙ e)) (own_step (s.Made (s.Start o.octets) ∷ []))
  start_told seen t (ask.Start n g batch) (Err f) k e = refl
  start_told seen t a z k e = absurd k

  -- an own step is made
  abbrev StepTold : ℕ → State → OwnStep → Reply → Type 0
  StepTold seen t step y = SentTold seen (ask_of t step) y ≡ made_by step y

  pub step_told_is : (seen : ℕ) (t : State) (step : OwnStep) (y : Reply) → t.lane ≡ lane
      → AnswersStep step y → StepTold seen t step y
  step_told_is seen t (own.Confirm n) (reply.Confirm (Ok z)) e k =
      subst (λ m. sending_event lane (x.Made (seen - 1) m (h.Confirm t.generation (last_of t.send.state) n)) ≡ s.Made
      (s.Confirm n) ∷ [])
      (sym e) (own_step (s.Made (s.Confirm n) ∷ []))
  step_told_is seen t (own.Confirm n) (reply.Confirm (Err f)) e k = refl
  step_told_is seen t own.Ending (reply.Ending (Ok z)) e k =
      subst (λ m. sending_event lane (x.Made (seen - 1) m (h.To_end t.generation (last_of t.send.state))) ≡ s.Made
      s.To_end ∷ [])
      (sym e) (own_step (s.Made s.To_end ∷ []))
  step_told_is seen t own.Ending (reply.Ending (Err f)) e k = refl
  step_told_is seen t own.Sent (reply.Sent (Ok z)) e k =
      subst (λ m. sending_event lane (x.Made (seen - 1) m (h.Sent t.generation (last_of t.send.state))) ≡ s.Made
      s.Sent ∷ [])
      (sym e) (own_step (s.Made s.Sent ∷ []))
  step_told_is seen t own.Sent (reply.Sent (Err f)) e k = refl
  step_told_is seen t own.Dropped (reply.Dropped (Ok z)) e k =
      subst (λ m. sending_event lane (x.Made (seen - 1) m (h.Dropped t.generation (last_of t.send.state))) ≡ s.Made
      s.Dropped ∷ [])
      (sym e) (own_step (s.Made s.Dropped ∷ []))
  step_told_is seen t own.Dropped (reply.Dropped (Err f)) e k = refl
  step_told_is seen t (own.Refused j) (reply.Refused (Ok z)) e k =
      subst (λ m. sending_event lane (x.Made (seen - 1) m (h.Refused t.generation (last_of t.send.state))) ≡ s.Made
      s.Refused ∷ [])
      (sym e) (own_step (s.Made s.Refused ∷ []))
  step_told_is seen t (own.Refused j) (reply.Refused (Err f)) e k = refl
  step_told_is seen t step y e k = absurd k
