-- The receiving end of a session's list in each phase, and what a session wants before it is open and at its end.
use Rattle.std.proofs.Common.{◌≡◌, inl, inr, ℕ, ◌==◌, ◌&&◌, ◌||◌, not, if◌then◌else◌, Bool, true, false, Option}
use Rattle.std.proofs.Common.{Some, None, Result, Ok, Err, List, [], refl, sym, ap, subst, ◌∙◌}
use Rattle.std.specs.Str.{bytes_eq}
use Rattle.mta_lane_send.specs.declared.state.SendState.{SendState}
use Rattle.mta_lane_send.specs.Half.{is_idle, is_ending, last_of}
use Rattle.mta_rtse.specs.declared.types.Answer.{Answer}
use Rattle.mta_rtse.specs.declared.types.Answer.TheVariants as answer
use Rattle.mta_units.specs.declared.unit.Unit.{Unit as AnyUnit}
use Rattle.mta_units.specs.declared.unit.Unit.TheVariants as unit
use Rattle.mta_transfer_rules.specs.Lanes.{Halves}
use Rattle.mta_transfer_rules.specs.Receiving as r
use Rattle.mta_transfer_rules.specs.Receiving.{RecvEnd, RecvEvent}
use Rattle.mta_records.specs.declared.fault.StepFault.{StepFault}
use Rattle.mta_session.specs.declared.event.Action.{Action}
use Rattle.mta_session.specs.declared.event.InitiatorPlan.{InitiatorPlan}
use Rattle.mta_session.specs.declared.event.Side.{Side}
use Rattle.mta_session.specs.declared.event.Side.TheVariants as side
use Rattle.mta_session.specs.declared.phase.Phase.{Phase}
use Rattle.mta_session.specs.declared.phase.Phase.TheVariants as phase
use Rattle.mta_session.specs.State.{State, in_phase}
use Rattle.mta_session.specs.Sending.{is_discard_put}
use Rattle.mta_session.specs.Wanted.{Wanted, Aborts, Rejects, Ends, Puts, Asks, Reads, Goes_on, Excepts, Never}
use Rattle.mta_session.specs.Wanted.{begins, answers_link, puts_accept, on_received, restored, on_abort}
use Rattle.mta_session.specs.Wanted.{on_values, is_refused_value, is_same_reference, on_accept, on_reject, on_answer_by}
use Rattle.mta_session.specs.Wanted.{after_accept, within, on_agreed}
use Rattle.mta_session.specs.Follows.{Of_neither, part_of_abort, Does, GoesOn}
use Rattle.mta_session.specs.Fits.{Fits}
use Rattle.mta_session_laws.specs.Turning.{is_open, is_last_phase}
use Rattle.mta_session_laws.specs.TurningRecv.{whole, Reaches, with_put, with_action}
use Rattle.mta_session_laws.proofs.Rows.{refusal_says_nothing}
use Rattle.mta_session_laws.proofs.Ending.{IsPutLast, goes_way}
use Rattle.mta_session_laws.proofs.EndingRecv.{goes_runs}
use Rattle.mta_transfer_laws.specs.Receivings.{end_on_link}
use Rattle.mta_transfer_laws.specs.Sessions.{answer_unit, answers_of}
use Rattle.mta_session_list_laws.proofs.Found.{never}
use Rattle.mta_session_list_laws.proofs.Received.{put_same}
use Rattle.mta_session_list_laws.proofs.Receiving.{pending, common_action, HandsOn, Next, goes_next, goes_common}

-- ---- the end of the list

-- an open session's, with the piece that was handed on
pub record OpenAt (p : Phase) (t : State) (a : Action) (b : RecvEnd) : Type 0 where
  pub piece : List ℕ
  pub on : HandsOn p a piece
  pub is : b ≡ whole p t.recv piece

abbrev pub NewRecv : Side → State → RecvEnd → Type 0
NewRecv (side.Initiator p) t b = p.recovering ≡ false → t.recv ≡ b
NewRecv (side.Responder own) t b = ⊥

-- (`early` is what is known while the spool is asked for the lane)
abbrev pub RecvAt : (early : Type 0) → RecvEnd → Phase → State → Action → RecvEnd → Type 0
RecvAt early first phase.Begin t a b = (b ≡ first) × NewRecv t.side t first × early
RecvAt early first phase.AsksValues t a b = (b ≡ first) × early
RecvAt early first phase.AsksRecovery t a b = (b ≡ first) × early
RecvAt early first (phase.AsksReceiving state) t a b = (b ≡ first) × early
RecvAt early first (phase.AsksResumed state) t a b = (b ≡ first) × (t.recv ≡ first)
RecvAt early first phase.PutsOpen t a b = (b ≡ first) × (t.recv ≡ first)
RecvAt early first phase.ReadsAnswer t a b = (b ≡ first) × (t.recv ≡ first)
RecvAt early first phase.AsksAgree t a b = (b ≡ first) × (t.recv ≡ first)
RecvAt early first phase.PutsAccept t a b = (b ≡ first) × (t.recv ≡ first)
RecvAt early first phase.AsksDenied t a b = Unit {0}
RecvAt early first phase.AsksClose t a b = Unit {0}
RecvAt early first (phase.AsksLast y) t a b = Unit {0}
RecvAt early first (phase.PutsLast y) t a b = Unit {0}
RecvAt early first (phase.Ended y) t a b = Unit {0}
RecvAt early first phase.ReadsOpen t a b = ⊥
RecvAt early first phase.AsksPeer t a b = ⊥
RecvAt early first phase.AsksStands t a b = ⊥
RecvAt early first (phase.AsksNewLane again) t a b = ⊥
RecvAt early first phase.AsksSpare t a b = ⊥
RecvAt early first phase.AsksRoom t a b = ⊥
RecvAt early first phase.AsksOldLane t a b = ⊥
RecvAt early first phase.AsksBind t a b = ⊥
RecvAt early first p t a b = OpenAt p t a b

pub open_at : (early : Type 0) (first : RecvEnd) (p : Phase) (t : State) (a : Action) (b : RecvEnd) → is_open p ≡ true
    → OpenAt p t a b → RecvAt early first p t a b
open_at early first phase.Puts t a b i k = k
open_at early first phase.Reads t a b i k = k
open_at early first phase.AsksDue t a b i k = k
open_at early first phase.AsksBatch t a b i k = k
open_at early first phase.AsksStart t a b i k = k
open_at early first phase.AsksStillIdle t a b i k = k
open_at early first (phase.AsksStep step) t a b i k = k
open_at early first phase.AsksState t a b i k = k
open_at early first (phase.AsksSecure j n) t a b i k = k
open_at early first (phase.AsksComplete j n) t a b i k = k
open_at early first (phase.AsksDrop j found) t a b i k = k
open_at early first phase.PutsClose t a b i k = k
open_at early first phase.ReadsCloseAck t a b i k = k
open_at early first p t a b i k = absurd (never i)

pub at_open : (early : Type 0) (first : RecvEnd) (p : Phase) (t : State) (a : Action) (b : RecvEnd) → is_open p ≡ true
    → RecvAt early first p t a b → OpenAt p t a b
at_open early first phase.Puts t a b i k = k
at_open early first phase.Reads t a b i k = k
at_open early first phase.AsksDue t a b i k = k
at_open early first phase.AsksBatch t a b i k = k
at_open early first phase.AsksStart t a b i k = k
at_open early first phase.AsksStillIdle t a b i k = k
at_open early first (phase.AsksStep step) t a b i k = k
at_open early first phase.AsksState t a b i k = k
at_open early first (phase.AsksSecure j n) t a b i k = k
at_open early first (phase.AsksComplete j n) t a b i k = k
at_open early first (phase.AsksDrop j found) t a b i k = k
at_open early first phase.PutsClose t a b i k = k
at_open early first phase.ReadsCloseAck t a b i k = k
at_open early first p t a b i k = absurd (never i)

pub last_at : (early : Type 0) (first : RecvEnd) (p : Phase) (t : State) (a : Action) (b : RecvEnd) → is_last_phase p
    ≡ true
    → RecvAt early first p t a b
last_at early first phase.AsksDenied t a b i = tt
last_at early first phase.AsksClose t a b i = tt
last_at early first (phase.AsksLast y) t a b i = tt
last_at early first (phase.PutsLast y) t a b i = tt
last_at early first (phase.Ended y) t a b i = tt
last_at early first p t a b i = absurd (never i)

-- behind an event: what is put now is allowed, and leads to the end that the session has
pub record After (early : Type 0) (first mid : RecvEnd) (a : Action) (new : State) : Type 0 where
  pub ended : RecvEnd
  pub run : r.IsReceivingEnd mid (pending a) ended
  pub at : RecvAt early first new.phase new a ended

-- ---- before a session is open

module _ (l : Halves) (early : Type 0) where
  abbrev pub first : RecvEnd
  first = end_on_link l

  abbrev pub RecvWaits : Wanted → Type 0
  RecvWaits (Aborts reason) = part_of_abort reason ≡ Of_neither
  RecvWaits (Rejects reason) = ⊥
  RecvWaits (Ends y) = Unit {0}
  RecvWaits (Puts y t) = r.IsReceivingEnd first (answers_of (answer_unit y)) first
      × ((a : Action) → RecvAt early first t.phase t a first)
  RecvWaits (Asks q t) = (a : Action) → RecvAt early first t.phase t a first
  RecvWaits (Reads t) = (a : Action) → RecvAt early first t.phase t a first
  RecvWaits (Goes_on t) = t.recv ≡ first
  RecvWaits (Excepts t f) = ⊥
  RecvWaits Never = Unit {0}

  if_waits : (b : Bool) (w z : Wanted) → (b ≡ true → RecvWaits w) → (b ≡ false → RecvWaits z)
      → RecvWaits (if b then w else z)
  if_waits true w z p q = p refl
  if_waits false w z p q = q refl

  none_put : (reason : ℕ) → part_of_abort reason ≡ Of_neither → answers_of (answer_unit (unit.Abort reason)) ≡ []
  none_put reason e = sym (put_same [] (unit.Abort reason) refl) ∙ ap (with_put []) e

  put_last : (p : Phase) → IsPutLast p → is_last_phase p ≡ true
  put_last (phase.PutsLast y) k = refl
  put_last p k = elim k [ ]

  goes_after : (v : State) (a : Action) (new : State) → v.recv ≡ first → GoesOn v a new → Fits new → After early first
      first a new
  goes_after v a new e g f =
      elim (goes_way v a new g) [ inl i ↦ on i | inr k ↦ off (put_last new.phase k.last) ]
    where
      reached : Reaches first [] phase.Puts v.recv
      reached = ([], ap (λ (z : RecvEnd). whole phase.Puts z []) e)

      same : with_action [] a ≡ pending a
      same = common_action [] a (goes_common v a new g)

      on : is_open new.phase ≡ true → After early first first a new
      on i =
          let next : Next first (with_action [] a) a new = goes_next first [] v a new g f reached i in
          record {
            ended = whole new.phase new.recv next.piece;
            run = subst (λ z. r.IsReceivingEnd first z (whole new.phase new.recv next.piece)) same next.run;
            at = open_at early first new.phase new a _ i (record { piece = next.piece; on = next.on; is = refl });
          }

      off : is_last_phase new.phase ≡ true → After early first first a new
      off i =
          let run = goes_runs first [] v a new g f reached in
          record {
            ended = run.0;
            run = subst (λ z. r.IsReceivingEnd first z run.0) same run.1;
            at = last_at early first new.phase new a run.0 i;
          }

  pub waits_after : (c : State) (w : Wanted) (a : Action) (new : State) → RecvWaits w → Does c w a new → Fits new
      → After early first first a new
  waits_after c (Aborts reason) a new k d f = record {
    ended = first;
    run = subst (λ z. r.IsReceivingEnd first (pending z) first) (sym d.0)
        (subst (λ z. r.IsReceivingEnd first z first) (sym (none_put reason k)) refl);
    at = last_at early first new.phase new a first (ap {A = State} (λ z. is_last_phase z.phase) d.1);
  }
  waits_after c (Ends y) a new k d f = record {
    ended = first;
    run = subst (λ z. r.IsReceivingEnd first (pending z) first) (sym d.0) refl;
    at = last_at early first new.phase new a first (ap {A = State} (λ z. is_last_phase z.phase) d.1);
  }
  waits_after c (Puts y t) a new k d f = record {
    ended = first;
    run = subst (λ z. r.IsReceivingEnd first (pending z) first) (sym d.0) k.0;
    at = subst (λ z. RecvAt early first z.phase z a first) (sym d.1) (k.1 a);
  }
  waits_after c (Asks q t) a new k d f = record {
    ended = first;
    run = subst (λ z. r.IsReceivingEnd first (pending z) first) (sym d.0) refl;
    at = subst (λ z. RecvAt early first z.phase z a first) (sym d.1) (k a);
  }
  waits_after c (Reads t) a new k d f = record {
    ended = first;
    run = subst (λ z. r.IsReceivingEnd first (pending z) first) (sym d.0) refl;
    at = subst (λ z. RecvAt early first z.phase z a first) (sym d.1) (k a);
  }
  waits_after c (Goes_on t) a new k d f = goes_after t a new k d f
  waits_after c Never a new k d f = elim d [ ]
  waits_after c any1 a new k d f = absurd k

  -- ---- phase by phase

  pub accept_waits : (t : State) (a : Option Answer) → t.recv ≡ first → RecvWaits (puts_accept t a)
  accept_waits t (Some a) e = ((tt, refl), λ b. (refl, e))
  accept_waits t None e = tt

  pub link_waits : (t : State) (s : Side) → t.recv ≡ first → RecvWaits (answers_link t s)
  link_waits t (side.Initiator p) e = (refl, λ b. (refl, e))
  link_waits t (side.Responder own) e = accept_waits t _ e

  pub begin_waits : (t : State) (s : Side) → NewRecv s t first → early → RecvWaits (begins s t)
  begin_waits t (side.Initiator p) k e =
      if_waits p.recovering _ _ (λ b. λ a. (refl, e)) (λ b. (refl, λ a. (refl, k b)))
  begin_waits t (side.Responder own) k e = absurd k

  pub received_waits : (t : State) (state : SendState) → t.recv ≡ first → RecvWaits (on_received t state)
  received_waits t state e =
      if_waits (is_idle state) _ _ (λ b. link_waits (restored t state []) t.side e) (λ b. λ a. (refl, e))

  abort_waits : (t : State) (reason : ℕ) → RecvWaits (on_abort t reason)
  abort_waits t reason =
      if_waits ((reason == 2) && not (is_idle t.send.state)) _ _ (λ b. λ a. tt)
      (λ b. if_waits ((reason == 7) && is_ending t.send.state (last_of t.send.state) && is_discard_put t.send.stage
      (last_of t.send.state))
      _ _ (λ c. λ a. tt) (λ c. tt))

  values_waits : (t : State) (c w : ℕ) → t.recv ≡ first → RecvWaits (on_values t c w)
  values_waits t c w e =
      if_waits (is_refused_value t c w) _ _ (λ b. refl) (λ b. if_waits t.agreed _ _ (λ i. e) (λ i. λ a. (refl, e)))

  accepts_waits : (p : InitiatorPlan) (t : State) (c w : ℕ) (a : Answer) → t.recv ≡ first → RecvWaits
      (on_accept p t c w a)
  accepts_waits p t c w (answer.Bind name password) e =
      if_waits p.recovering _ _ (λ b. refl)
      (λ b. if_waits (bytes_eq name p.peer && bytes_eq password p.expected_password) _ _ (λ i. values_waits t c w e)
      (λ i. refl))
  accepts_waits p t c w (answer.Recover reference) e =
      if_waits (p.recovering && is_same_reference reference p.reference) _ _ (λ b. values_waits t c w e) (λ b. refl)

  reject_waits : (p : InitiatorPlan) (t : State) (reason : ℕ) → RecvWaits (on_reject p t reason)
  reject_waits p t reason =
      if_waits ((reason == 1) && not (is_idle t.send.state)) _ _ (λ b. λ a. tt)
      (λ b. if_waits ((reason == 1) || not p.recovering) _ _ (λ c. λ a. tt) (λ c. tt))

  answer_waits : (s : Side) (t : State) (y : AnyUnit) → t.recv ≡ first → RecvWaits (on_answer_by s t y)
  answer_waits (side.Initiator p) t (unit.Accept c w a) e = accepts_waits p t c w a e
  answer_waits (side.Initiator p) t (unit.Reject reason) e = reject_waits p t reason
  answer_waits (side.Initiator p) t (unit.Abort reason) e = abort_waits t reason
  answer_waits (side.Initiator p) t y e = refl
  answer_waits (side.Responder own) t y e = refl

  pub unit_waits : (t : State) (y : AnyUnit) → t.recv ≡ first → RecvWaits (within t (on_answer_by t.side t y))
  unit_waits t y e = if_waits (t.left == 0) (Aborts 3) (on_answer_by t.side t y) (λ b. refl)
      (λ b. answer_waits t.side t y e)

  pub bad_waits : (t : State) → RecvWaits (within t (Aborts 4))
  bad_waits t = if_waits (t.left == 0) (Aborts 3) (Aborts 4) (λ b. refl) (λ b. refl)

  pub agreed_waits : (t : State) (y : Result (Unit {0}) StepFault) → t.recv ≡ first → RecvWaits (on_agreed t y)
  agreed_waits t (Ok z) e = e
  agreed_waits t (Err f) e = refusal_says_nothing f

  opened : (p : Phase) (t : State) (a : Action) → first ≡ whole p t.recv [] → HandsOn p a [] → OpenAt p t a first
  opened p t a e h = record { piece = []; on = h; is = e }

  pub accepted_waits : (t : State) → t.recv ≡ first → RecvWaits (after_accept t)
  accepted_waits t e =
      if_waits t.twa _ _
      (λ b. if_waits (is_idle t.send.state) _ _
      (λ i. λ a. opened phase.AsksDue (in_phase t phase.AsksDue) a
      (sym (ap (λ (z : RecvEnd). whole phase.AsksDue z []) e)) tt)
      (λ i. (
        refl,
        λ a. opened phase.Puts (record t { phase = phase.Puts; please = true }) a
            (sym (ap (λ (z : RecvEnd). whole phase.Puts z []) e)) tt,
      )))
      (λ b. e)
