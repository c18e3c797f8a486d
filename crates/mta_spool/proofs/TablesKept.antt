-- No step of workers changes the tables.
use Rattle.std.proofs.Common.{◌≡◌, ℕ, Bool, true, false, cond, List, [], ◌∷◌, Option, Some, None, refl}
use Rattle.mta_records.specs.declared.step.Step.{Step}
use Rattle.mta_machine.specs.Items.{Machine}
use Rattle.mta_machine.specs.Rules.{Failure, denied, expired}
use Rattle.mta_machine.specs.Machine.{discharge, failed, machine_after, machine_run, MachineStep}
use Rattle.mta_machine.proofs.Later.{fail_all}
use Rattle.mta_lane_send.specs.Half.{is_ending}
use Rattle.mta_histories.specs.Lanes.{is_dropping, Lane, lane_at, State, Transfer}
use Rattle.mta_histories.specs.Classes.{agree, bind, close, complete, confirm, drop_pieces, LaneStep, Outcome}
use Rattle.mta_histories.specs.Classes.{abandon, secure, settle, start, to_end, was_denied, was_dropped, was_refused}
use Rattle.mta_histories.specs.Classes.{Class, class_of, was_sent}
use Rattle.mta_histories.specs.Classes as classes
use Rattle.mta_histories.specs.History.{after_step, failure_of_kind, failures, machine_left, on_lane_steps}
use Rattle.mta_histories.specs.History.{outcome_steps, sendings, when}
use Rattle.mta_spool.specs.Moments.{IsOfWorkers}

-- the tables are as they were behind these steps
abbrev Keep : Machine → List MachineStep → Type 0
Keep m steps = (machine_run m steps).tables ≡ m.tables

failures_keep : (m : Machine) (failure : Failure) (moment i : ℕ) (rs : List ℕ)
    → Keep m (fail_all failure moment i rs)
failures_keep m failure moment i [] = refl
failures_keep m failure moment i (r ∷ rs) =
    failures_keep (machine_after m (discharge i (r ∷ []) (failed failure) moment)) failure moment i rs

failed_keep : (m : Machine) (failure : Failure) (moment : ℕ) (t : Option Transfer)
    → Keep m (failures failure moment t)
failed_keep m failure moment None = refl
failed_keep m failure moment (Some t) = failures_keep m failure moment t.item t.recipients

sent_keep : (m : Machine) (peer : List ℕ) (moment : ℕ) (t : Option Transfer) → Keep m (sendings peer moment t)
sent_keep m peer moment None = refl
sent_keep m peer moment (Some t) = refl

either_keeps : (m : Machine) (b : Bool) (xs ys : List MachineStep) → Keep m xs → Keep m ys → Keep m (cond b xs ys)
either_keeps m true xs ys p q = p
either_keeps m false xs ys p q = q

outcome_keeps : (m : Machine) (lane : Lane) (how : Outcome) (k moment : ℕ)
    → Keep m (outcome_steps lane how k moment)
outcome_keeps m lane was_sent k moment = sent_keep m lane.peer moment lane.transfer
outcome_keeps m lane (was_refused kind) k moment =
    either_keeps m (is_dropping lane.sending) [] (failures (failure_of_kind kind) moment lane.transfer) refl
    (failed_keep m (failure_of_kind kind) moment lane.transfer)
outcome_keeps m lane was_denied k moment =
    either_keeps m (is_ending lane.sending k) (failures denied moment lane.transfer) []
    (failed_keep m denied moment lane.transfer) refl
outcome_keeps m lane was_dropped k moment = refl

lane_keeps : (m : Machine) (lane : Option Lane) (step : LaneStep) (moment : ℕ)
    → Keep m (on_lane_steps lane step moment)
lane_keeps m None step moment = refl
lane_keeps m (Some lane) (agree checkpoint window) moment = refl
lane_keeps m (Some lane) bind moment = refl
lane_keeps m (Some lane) (start k i rs) moment = refl
lane_keeps m (Some lane) (confirm k n) moment = refl
lane_keeps m (Some lane) (to_end k) moment = refl
lane_keeps m (Some lane) (settle how k) moment = outcome_keeps m lane how k moment
lane_keeps m (Some lane) (abandon k) moment = failed_keep m expired moment lane.transfer
lane_keeps m (Some lane) (secure k n piece) moment = refl
lane_keeps m (Some lane) (complete k n piece) moment = refl
lane_keeps m (Some lane) (drop_pieces k) moment = refl
lane_keeps m (Some lane) close moment = refl

class_keeps : (s : State) (c : Class) (moment : ℕ) → IsOfWorkers c → (machine_left s c moment).tables ≡ s.machine.tables
class_keeps s (classes.begins t) moment i = absurd i
class_keeps s classes.sets_format moment i = absurd i
class_keeps s (classes.records text) moment i = absurd i
class_keeps s (classes.accepts octets) moment i = absurd i
class_keeps s (classes.settles how i r) moment is = refl
class_keeps s (classes.opens role peer reference twa checkpoint window) moment i = refl
class_keeps s (classes.on_lane n generation step) moment i =
    lane_keeps s.machine (lane_at n s.lanes.open_lanes) step moment

pub tables_kept : (s : State) (step : Step) → IsOfWorkers (class_of step)
    → (after_step s step).machine.tables ≡ s.machine.tables
tables_kept s step i = class_keeps s (class_of step) (when s step) i
