-- The receiving half of a session's list, call by call.
use Rattle.std.proofs.Common.{◌≡◌, inl, inr, ℕ, ◌==◌, if◌then◌else◌, Bool, true, false}
use Rattle.std.proofs.Common.{Result, Ok, Err, List, [], ◌∷◌, ◌++◌, refl, sym, ap, subst, ◌∙◌}
use Rattle.mta_lane_recv.specs.declared.state.Last.{Last}
use Rattle.mta_units.specs.declared.unit.Unit.{Unit as AnyUnit}
use Rattle.mta_units.specs.declared.unit.Unit.TheVariants as unit
use Rattle.mta_transfer_rules.specs.Lanes.{Halves}
use Rattle.mta_transfer_rules.specs.Receiving as r
use Rattle.mta_transfer_rules.specs.Receiving.{RecvEnd, RecvEvent, RecvStage}
use Rattle.mta_records.specs.declared.fault.CompleteFault.{CompleteFault}
use Rattle.mta_records.specs.declared.fault.CompleteFault.TheVariants as piece
use Rattle.mta_records.specs.declared.fault.StepFault.{StepFault}
use Rattle.mta_session.specs.declared.ask.Ask.{Ask}
use Rattle.mta_session.specs.declared.ask.Ask.TheVariants as ask
use Rattle.mta_session.specs.declared.ask.Reply.{Reply}
use Rattle.mta_session.specs.declared.ask.Reply.TheVariants as reply
use Rattle.mta_session.specs.declared.event.Action.TheVariants as action
use Rattle.mta_session.specs.declared.event.Event.{Event}
use Rattle.mta_session.specs.declared.event.Event.TheVariants as event
use Rattle.mta_session.specs.declared.event.SessionEnd.TheVariants as end
use Rattle.mta_session.specs.declared.phase.OwnStep.{OwnStep}
use Rattle.mta_session.specs.declared.phase.OwnStep.TheVariants as own
use Rattle.mta_session.specs.declared.phase.Phase.{Phase}
use Rattle.mta_session.specs.declared.phase.Phase.TheVariants as phase
use Rattle.mta_session.specs.State.{State}
use Rattle.mta_session.specs.Receiving.{is_free}
use Rattle.mta_session.specs.Wanted.{Wanted, Aborts, on_close_ack}
use Rattle.mta_session.specs.Follows.{Does, counted}
use Rattle.mta_session.specs.Fits.{FitsAt, Answers, RepliesTo, AnswersStep}
use Rattle.mta_session_laws.specs.Runs.{Turn, IsTurn}
use Rattle.mta_session_laws.specs.Turning.{is_open, is_last_phase, called_for}
use Rattle.mta_session_laws.specs.TurningRecv.{filled, whole, RecvGoes, secured_by, completed_by, dropped_by, told_by}
use Rattle.mta_session_laws.specs.TurningRecv.{taken_as, unless_refused, with_action}
use Rattle.mta_session_laws.proofs.Opening.{wanted_in}
use Rattle.mta_session_laws.proofs.Whole.{is_ended, in_phase_wanted}
use Rattle.mta_session_laws.proofs.Ending.{TurnsTo, open_way}
use Rattle.mta_session_laws.proofs.EndingRecv.{plain, wanted_runs}
use Rattle.mta_session_laws.proofs.EventsRecv.{events_go}
use Rattle.mta_session_laws.specs.Order.{is_reading}
use Rattle.mta_transfer_laws.specs.Sessions as x
use Rattle.mta_transfer_laws.specs.Sessions.{receiving_event, transfer_unit, took_of, recv_all}
use Rattle.mta_lane_match_laws.specs.Asks.{IsAskOf, handed_by}
use Rattle.mta_session_list_laws.specs.Calls.{step_told, look_told, told_as, got_as}
use Rattle.mta_session_list_laws.proofs.Found.{never}
use Rattle.mta_session_list_laws.proofs.Waiting.{does_at}
use Rattle.mta_session_list_laws.proofs.Handing.{NoHand, open_hands}
use Rattle.mta_session_list_laws.proofs.Received.{nothing_taken, own_taken, their_taken, quiet_reply, own_step}
use Rattle.mta_session_list_laws.proofs.Receiving.{Allowed, split_run, pending, common_action, does_common, HandsOn}
use Rattle.mta_session_list_laws.proofs.Receiving.{does_next}
use Rattle.mta_session_list_laws.proofs.ReceivingPhases.{open_at, last_at, After, first}
use Rattle.mta_session_list_laws.proofs.Turns.{HoldsBy}
use Rattle.mta_session_list_laws.proofs.TurnsUnits.{unit_goes}

-- ---- what is told in an open session

-- of a unit behind Close
close_unit : (lane : ℕ) (t : State) (y : AnyUnit) → receiving_event lane (got_as (on_close_ack t y) y) ≡ []
close_unit lane t unit.CloseAck = refl
close_unit lane t (unit.Please priority) = nothing_taken lane (on_close_ack t (unit.Please priority))
    (unit.Please priority) refl
close_unit lane t (unit.Abort reason) = nothing_taken lane (on_close_ack t (unit.Abort reason)) (unit.Abort reason) refl
close_unit lane t y = refl

if_none : (lane : ℕ) (b : Bool) (w : Wanted) (y : AnyUnit) → receiving_event lane (got_as w y) ≡ []
    → receiving_event lane (got_as (if b then Aborts 3 else w) y) ≡ []
if_none lane true w y e = refl
if_none lane false w y e = e

-- of a unit of an open session, by who has the turn
by_turn : (lane : ℕ) (t : State) (y : AnyUnit) (o : Bool) → t.ours ≡ o
    → receiving_event lane (got_as (called_for phase.Reads t y) y)
    ≡ unless_refused (called_for phase.Reads t y) (if o then [] else taken_as y)
by_turn lane t y true e =
    let goes = unit_goes phase.Reads (counted t (event.Unit y)) x.Own y refl
    (subst (λ b. HoldsBy b t.please x.Own) (sym e) refl) in
    own_taken lane (called_for phase.Reads t y) y goes.0
by_turn lane t y false e = their_taken lane (called_for phase.Reads t y) y

-- what is heard in a phase that reads
pub heard_is : (lane : ℕ) (p : Phase) (t : State) (q : List ℕ) (y : AnyUnit) → is_open p ≡ true
    → is_reading p ≡ true
    → receiving_event lane (got_as (called_for p t y) y) ≡ told_by p t q (event.Unit y)
heard_is lane phase.Reads t q y i k =
    by_turn lane t y t.ours refl
heard_is lane phase.ReadsCloseAck t q y i k =
    if_none lane ((counted t (event.Unit y)).left == 0) (on_close_ack (counted t (event.Unit y)) y) y
    (close_unit lane (counted t (event.Unit y)) y)
heard_is lane phase.ReadsOpen t q y i k = absurd (never i)
heard_is lane phase.ReadsAnswer t q y i k = absurd (never i)
heard_is lane p t q y i k = absurd (never k)

secured_is : (lane g k n seen : ℕ) (q : List ℕ) (z : Result (Unit {0}) CompleteFault)
    → receiving_event lane (told_as seen (step_told (ask.Secure lane g k n q) (reply.Secure z))
    (look_told (ask.Secure lane g k n q) (reply.Secure z)))
    ≡ secured_by k n q z
secured_is lane g k n seen q (Ok v) = own_step lane (r.Made (r.Secure k n q) ∷ [])
secured_is lane g k n seen q (Err (piece.Bad f)) = refl
secured_is lane g k n seen q (Err (piece.Step f)) = refl

completed_is : (lane g k n seen : ℕ) (q : List ℕ) (z : Result ℕ CompleteFault)
    → receiving_event lane (told_as seen (step_told (ask.Complete lane g k n q) (reply.Complete z))
    (look_told (ask.Complete lane g k n q) (reply.Complete z)))
    ≡ completed_by k n q z
completed_is lane g k n seen q (Ok v) = own_step lane (r.Made (r.Complete k n q) ∷ [])
completed_is lane g k n seen q (Err (piece.Bad f)) = refl
completed_is lane g k n seen q (Err (piece.Step f)) = refl

dropped_is : (lane g k seen : ℕ) (z : Result (Unit {0}) StepFault)
    → receiving_event lane (told_as seen (step_told (ask.DropActivity lane g k) (reply.DropActivity z))
    (look_told (ask.DropActivity lane g k) (reply.DropActivity z)))
    ≡ dropped_by k z
dropped_is lane g k seen (Ok v) = own_step lane (r.Made (r.Drop k) ∷ [])
dropped_is lane g k seen (Err f) = refl

-- what a reply tells of the half
abbrev RecvTold : (lane seen : ℕ) → Ask → Reply → List RecvEvent
RecvTold lane seen a y = receiving_event lane (told_as seen (step_told a y) (look_told a y))

step_quiet : (lane seen : ℕ) (step : OwnStep) (a : Ask) (y : Reply) → AnswersStep step y → RecvTold lane seen a y ≡ []
step_quiet lane seen (own.Confirm n) a (reply.Confirm z) k = quiet_reply lane seen a (reply.Confirm z) refl
step_quiet lane seen own.Ending a (reply.Ending z) k = quiet_reply lane seen a (reply.Ending z) refl
step_quiet lane seen own.Sent a (reply.Sent z) k = quiet_reply lane seen a (reply.Sent z) refl
step_quiet lane seen own.Dropped a (reply.Dropped z) k = quiet_reply lane seen a (reply.Dropped z) refl
step_quiet lane seen (own.Refused j) a (reply.Refused z) k = quiet_reply lane seen a (reply.Refused z) refl
step_quiet lane seen step a y k = absurd k

pub told_is : (lane seen : ℕ) (p : Phase) (t : State) (a : Ask) (y : Reply) (q : List ℕ) → is_open p ≡ true
    → IsAskOf p t a → RepliesTo p t y → t.lane ≡ lane → HandsOn p (action.Ask a) q
    → RecvTold lane seen a y ≡ told_by p t q (event.Reply y)
told_is lane seen phase.AsksDue t a (reply.BatchFor z) q i k rep e h = quiet_reply lane seen a (reply.BatchFor z) refl
told_is lane seen phase.AsksBatch t a (reply.BatchFor z) q i k rep e h = quiet_reply lane seen a (reply.BatchFor z) refl
told_is lane seen phase.AsksStart t a (reply.Start z) q i k rep e h = quiet_reply lane seen a (reply.Start z) refl
told_is lane seen phase.AsksStillIdle t a (reply.Recovery z) q i k rep e h = quiet_reply lane seen a
    (reply.Recovery z) refl
told_is lane seen phase.AsksState t a (reply.Recovery z) q i k rep e h = quiet_reply lane seen a (reply.Recovery z) refl
told_is lane seen (phase.AsksStep step) t a y q i k rep e h = step_quiet lane seen step a y rep
told_is lane seen (phase.AsksSecure j n) t a (reply.Secure z) q i k rep e h =
    let same : a ≡ ask.Secure lane t.generation j n q =
    k ∙ ap (λ (w : ℕ). ask.Secure w t.generation j n (handed_by a)) e ∙ ap
    (λ (w : List ℕ). ask.Secure lane t.generation j n w) h in
    subst (λ w. RecvTold lane seen w (reply.Secure z) ≡ secured_by j n q z) (sym same)
    (secured_is lane t.generation j n seen q z)
told_is lane seen (phase.AsksComplete j n) t a (reply.Complete z) q i k rep e h =
    let same : a ≡ ask.Complete lane t.generation j n q =
    k ∙ ap (λ (w : ℕ). ask.Complete w t.generation j n (handed_by a)) e ∙ ap
    (λ (w : List ℕ). ask.Complete lane t.generation j n w) h in
    subst (λ w. RecvTold lane seen w (reply.Complete z) ≡ completed_by j n q z) (sym same)
    (completed_is lane t.generation j n seen q z)
told_is lane seen (phase.AsksDrop j found) t a (reply.DropActivity z) q i k rep e h =
    let same : a ≡ ask.DropActivity lane t.generation j = k ∙ ap (λ (w : ℕ). ask.DropActivity w t.generation j) e in
    subst (λ w. RecvTold lane seen w (reply.DropActivity z) ≡ dropped_by j z) (sym same)
    (dropped_is lane t.generation j seen z)
told_is lane seen phase.AsksPeer t a y q i k rep e h = absurd (never i)
told_is lane seen phase.AsksStands t a y q i k rep e h = absurd (never i)
told_is lane seen (phase.AsksNewLane again) t a y q i k rep e h = absurd (never i)
told_is lane seen phase.AsksSpare t a y q i k rep e h = absurd (never i)
told_is lane seen phase.AsksRoom t a y q i k rep e h = absurd (never i)
told_is lane seen phase.AsksOldLane t a y q i k rep e h = absurd (never i)
told_is lane seen phase.AsksBind t a y q i k rep e h = absurd (never i)
told_is lane seen phase.AsksValues t a y q i k rep e h = absurd (never i)
told_is lane seen phase.AsksRecovery t a y q i k rep e h = absurd (never i)
told_is lane seen (phase.AsksReceiving s) t a y q i k rep e h = absurd (never i)
told_is lane seen (phase.AsksResumed s) t a y q i k rep e h = absurd (never i)
told_is lane seen phase.AsksAgree t a y q i k rep e h = absurd (never i)
told_is lane seen phase.AsksDenied t a y q i k rep e h = absurd (never i)
told_is lane seen phase.AsksClose t a y q i k rep e h = absurd (never i)
told_is lane seen (phase.AsksLast z) t a y q i k rep e h = absurd (never i)
told_is lane seen p t a y q i k rep e h = absurd rep

-- the other events tell nothing
pub go_told : (p : Phase) (t : State) (q : List ℕ) → told_by p t q event.Go ≡ []
go_told phase.Reads t q = refl
go_told p t q = refl

pub bad_told : (p : Phase) (t : State) (q : List ℕ) → told_by p t q event.BadUnit ≡ []
bad_told phase.Reads t q = refl
bad_told p t q = refl

pub over_told : (p : Phase) (t : State) (q : List ℕ) → told_by p t q event.Over ≡ []
over_told phase.Reads t q = refl
over_told p t q = refl

-- ---- nothing is owed where it reads

stage_whole : (m : Last) (s : RecvStage) (acked : ℕ) (q : List ℕ) → r.StageOwesNothing s acked
    → r.StageOwesNothing (filled m s q) acked
stage_whole m (r.Ended k n held) acked q o = absurd o
stage_whole m (r.Asked k n) acked q o = absurd o
stage_whole m (r.Discards k) acked q o = absurd o
stage_whole m (r.Found k) acked q o = absurd o
stage_whole m any1 acked q o = o

free_owes : (s : RecvStage) (acked : ℕ) → is_free s ≡ true → r.StageOwesNothing s acked
free_owes r.Free acked i = tt
free_owes (r.Skips k) acked i = tt
free_owes s acked i = absurd (never i)

pub reads_owing : (p : Phase) (t : State) (q : List ℕ) → is_open p ≡ true
    → is_reading p ≡ true → FitsAt p t → r.OwesNothing (whole p t.recv q)
reads_owing phase.Reads t q i k f = stage_whole t.recv.last t.recv.stage t.recv.acked q f.3
reads_owing phase.ReadsCloseAck t q i k f =
    stage_whole t.recv.last t.recv.stage t.recv.acked q (free_owes t.recv.stage t.recv.acked (f.1 f.2))
reads_owing phase.ReadsOpen t q i k f = absurd (never i)
reads_owing phase.ReadsAnswer t q i k f = absurd (never i)
reads_owing p t q i k f = absurd (never k)

-- ---- a call of an open session

pub turned_last : (q : Phase) (t : State) (e : Event) → TurnsTo q t e → is_last_phase q ≡ true
turned_last (phase.PutsLast y) t e k = refl
turned_last (phase.Ended y) t e k = refl
turned_last phase.AsksClose t e k = refl
turned_last (phase.AsksLast (end.PeerAborted reason)) t e k = refl
turned_last q t e k = elim k [ ]

pub open_going : (p : Phase) → is_open p ≡ true → is_ended p ≡ false
open_going (phase.Ended y) i = absurd (never i)
open_going p i = refl

module _ (l : Halves) (early : Type 0) (t : Turn) (e : Event) (same : t.event ≡ e) (is : IsTurn t)
    (i : is_open t.before.phase ≡ true)
    (q : List ℕ) where
  abbrev here : RecvEnd
  here = whole t.before.phase t.before.recv q

  abbrev told : List RecvEvent
  told = told_by t.before.phase t.before q e

  does : Does (counted t.before e) (wanted_in t.before.phase (counted t.before e) e) t.action t.after
  does = does_at t e same is (open_going t.before.phase i)

  goes : RecvGoes here told (wanted_in t.before.phase (counted t.before e) e)
  goes =
      subst (λ w. RecvGoes here told w) (in_phase_wanted t.before e)
      (events_go t.before e q i is.fits (subst (λ z. Answers t.before z) same is.answers))

  pub open_after : Allowed here told × After early (first l early) (recv_all here told) t.action t.after
  open_after =
      elim (open_way t.before.phase t.before e t.action t.after i does)
      [ inl j ↦ on j | inr k ↦ off (turned_last t.after.phase t.before e k.to) ]
    where
      none : NoHand (wanted_in t.before.phase (counted t.before e) e)
      none = open_hands t.before.phase (counted t.before e) e i

      puts : with_action told t.action ≡ told ++ pending t.action
      puts = common_action told t.action
          (does_common (counted t.before e) (wanted_in t.before.phase (counted t.before e) e) t.action t.after none
          does)

      on : is_open t.after.phase ≡ true → Allowed here told × After early (first l early) (recv_all here told)
          t.action t.after
      on j =
          let next = does_next here told (counted t.before e) (wanted_in t.before.phase (counted t.before e) e)
          t.action t.after goes none does is.fits_after j in
          let f : RecvEnd = whole t.after.phase t.after.recv next.piece in
          let parts = split_run here f told (pending t.action) (subst (λ z. r.IsReceivingEnd here z f) puts next.run)
          in (
            parts.0,
            record {
              ended = f;
              run = parts.1;
              at = open_at early (first l early) t.after.phase t.after
                  t.action f j (record { piece = next.piece; on = next.on; is = refl });
            },
          )

      off : is_last_phase t.after.phase ≡ true → Allowed here told × After early (first l early) (recv_all here told)
          t.action t.after
      off j =
          let run = wanted_runs here told (counted t.before e) (wanted_in t.before.phase (counted t.before e) e)
          t.action t.after goes (plain t.before.phase t.before q e i) does is.fits_after in
          let parts = split_run here run.0 told (pending t.action)
          (subst (λ z. r.IsReceivingEnd here z run.0) puts run.1) in (
            parts.0,
            record {
              ended = run.0;
              run = parts.1;
              at = last_at early (first l early) t.after.phase t.after
                  t.action run.0 j;
            },
          )
