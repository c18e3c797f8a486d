-- What a step tells is noted.
use Rattle.std.proofs.Common.{◌≡◌, ℕ, ◌-◌, Bool, false, List, [], ◌∷◌, ◌++◌, length, slice_get, Option, Some, None}
use Rattle.std.proofs.Common.{Ok, Err, refl, ap, ◌∙◌, arith}
use Rattle.std.specs.List.{concat}
use Rattle.std.proofs.lemmas.List.{length_push}
use Rattle.mta_records.specs.declared.step.Step.{Step}
use Rattle.mta_records.specs.declared.state.Origin.TheVariants as Origins
use Rattle.mta_machine.specs.Items.{ItemValue, Machine}
use Rattle.mta_machine.specs.Machine.{accepted_item, machine_run}
use Rattle.mta_histories.specs.Classes.{Outcome, was_sent, was_refused, was_denied, was_dropped, LaneStep, agree, bind}
use Rattle.mta_histories.specs.Classes.{start, confirm, to_end, settle, abandon, secure, complete, drop_pieces, close}
use Rattle.mta_histories.specs.Classes.{Class, begins, sets_format, records, accepts, settles, opens, on_lane}
use Rattle.mta_histories.specs.Classes.{class_of}
use Rattle.mta_histories.specs.Lanes.{Lane, Lanes, State, lane_at}
use Rattle.mta_histories.specs.History.{IsPossible, StepNeeds, after_step, lanes_after, machine_left, on_lane_steps}
use Rattle.mta_histories.specs.History.{when, with_piece}
use Rattle.mta_replay.specs.declared.replay.NotMade.{NotMade}
use Rattle.mta_replay.specs.declared.replay.NotMade.TheVariants as NotMades
use Rattle.mta_replay.specs.Ready.{TakesUp}
use Rattle.mta_audit_run.specs.declared.account.Account.{Account}
use Rattle.mta_audit_run.specs.declared.told.Told.{Told}
use Rattle.mta_audit_run.specs.Account.{changed, with_completed}
use Rattle.mta_audit_run.specs.Accounts.{accounts_after, accounts_on, completed_on, is_begun, is_snapshot, noted}
use Rattle.mta_audit_run.specs.Accounts.{settled_on, told_by, told_on, told_settled}
use Rattle.mta_audit_run.specs.Last.{last_octets, octets_at}
use Rattle.mta_audit_run.specs.Sides.{HasTold}

-- ---- the last item

get-last : (items : List ItemValue) (item : ItemValue) → slice_get (items ++ item ∷ []) (length items) ≡ Some item
get-last [] item = refl
get-last (x ∷ items) item = get-last items item

last-pushed : (items : List ItemValue) (item : ItemValue) → last_octets (items ++ item ∷ []) ≡ item.octets
last-pushed items item =
    ap octets_at (ap (slice_get (items ++ item ∷ [])) (let l = length_push items item in
    let e : length (items ++ item ∷ []) - 1 ≡ length items = omega (arith, l) in e) ∙ get-last items item)

-- ---- by the class of the step

settled-noted : (lane : Option Lane) (n : ℕ) (outcome : Outcome) (octets : List ℕ) (lanes : Lanes)
    (known : List Account)
    → noted (told_settled lane n outcome) octets lanes known ≡ settled_on lane n outcome known
settled-noted lane n was_sent octets lanes known = refl
settled-noted lane n (was_refused kind) octets lanes known = refl
settled-noted lane n was_denied octets lanes known = refl
settled-noted lane n was_dropped octets lanes known = refl

completed-last : (m : Machine) (lane : Option Lane) (found : Lane) (k p : ℕ) (piece : List ℕ) (moment : ℕ)
    → lane ≡ Some found
    → last_octets (machine_run m (on_lane_steps lane (complete k p piece) moment)).items ≡ completed_on lane p piece
completed-last m None found k p piece moment e = absurd cc
completed-last m (Some lane) found k p piece moment e =
    last-pushed m.items (accepted_item (concat (with_piece lane.pieces p piece)) Origins.Lane moment)

lane-noted : (m : Machine) (lane : Option Lane) (found : Lane) (n : ℕ) (step : LaneStep) (moment : ℕ) (lanes : Lanes)
    (known : List Account) → lane ≡ Some found
    → noted (told_on lane n step) (last_octets (machine_run m (on_lane_steps lane step moment)).items) lanes known
    ≡ accounts_on lane n step known
lane-noted m lane found n (agree checkpoint window) moment lanes known e = refl
lane-noted m lane found n bind moment lanes known e = refl
lane-noted m lane found n (start k i rs) moment lanes known e = refl
lane-noted m lane found n (confirm k c) moment lanes known e = refl
lane-noted m lane found n (to_end k) moment lanes known e = refl
lane-noted m lane found n (settle outcome k) moment lanes known e =
    settled-noted lane n outcome
    (last_octets (machine_run m (on_lane_steps lane (settle outcome k) moment)).items) lanes known
lane-noted m lane found n (abandon k) moment lanes known e = refl
lane-noted m lane found n (secure k p piece) moment lanes known e = refl
lane-noted m lane found n (complete k p piece) moment lanes known e =
    ap (λ (octets : List ℕ). changed (with_completed octets) n known)
    (completed-last m lane found k p piece moment e)
lane-noted m lane found n (drop_pieces k) moment lanes known e = refl
lane-noted m lane found n close moment lanes known e = refl

class-noted : (s : State) (class : Class) (moment : ℕ) (known : List Account) → StepNeeds s class moment
    → noted (told_by s.lanes.open_lanes class) (last_octets (machine_left s class moment).items)
    (lanes_after s class moment) known ≡ accounts_after s.lanes class known
class-noted s (begins t) moment known needs = refl
class-noted s sets_format moment known needs = refl
class-noted s (records text) moment known needs = refl
class-noted s (accepts octets) moment known needs = refl
class-noted s (settles how i r) moment known needs = refl
class-noted s (opens role peer reference twa checkpoint window) moment known needs = refl
class-noted s (on_lane n generation step) moment known needs =
    lane-noted s.machine (lane_at n s.lanes.open_lanes) needs.lane n step moment
    (lanes_after s (on_lane n generation step) moment) known needs.lane_is

-- ---- whether a step is a snapshot

settled-begun : (lane : Option Lane) (n : ℕ) (outcome : Outcome) → is_begun (told_settled lane n outcome) ≡ false
settled-begun lane n was_sent = refl
settled-begun lane n (was_refused kind) = refl
settled-begun lane n was_denied = refl
settled-begun lane n was_dropped = refl

on-begun : (lane : Option Lane) (n : ℕ) (step : LaneStep) → is_begun (told_on lane n step) ≡ false
on-begun lane n (agree checkpoint window) = refl
on-begun lane n bind = refl
on-begun lane n (start k i rs) = refl
on-begun lane n (confirm k c) = refl
on-begun lane n (to_end k) = refl
on-begun lane n (settle outcome k) = settled-begun lane n outcome
on-begun lane n (abandon k) = refl
on-begun lane n (secure k p piece) = refl
on-begun lane n (complete k p piece) = refl
on-begun lane n (drop_pieces k) = refl
on-begun lane n close = refl

told-begun : (lanes : List Lane) (class : Class) → is_begun (told_by lanes class) ≡ is_snapshot class
told-begun lanes (begins t) = refl
told-begun lanes sets_format = refl
told-begun lanes (records text) = refl
told-begun lanes (accepts octets) = refl
told-begun lanes (settles how i r) = refl
told-begun lanes (opens role peer reference twa checkpoint window) = refl
told-begun lanes (on_lane n generation step) = on-begun (lane_at n lanes) n step

-- ---- a step

pub step_noted : (s : State) (step : Step) (known : List Account) → IsPossible s step
    → noted (told_by s.lanes.open_lanes (class_of step)) (last_octets (after_step s step).machine.items)
    (after_step s step).lanes known ≡ accounts_after s.lanes (class_of step) known
step_noted s step known possible = class-noted s (class_of step) (when s step) known possible.allowed

pub told_taken : (step : Step) (old new : State) (before behind : List Account) (told : Told) (snapshot : Bool)
    → told ≡ told_by old.lanes.open_lanes (class_of step) → snapshot ≡ is_begun told
    → TakesUp step old new (Ok tt) → behind ≡ noted told (last_octets new.machine.items) new.lanes before
    → HasTold step old before new behind (Ok snapshot)
told_taken step old new before behind told snapshot told_is begun_is takes noted_is = record {
  made = λ b ok.
      let made = takes.made refl in
      let same : b ≡ snapshot = cc in (
        made.0,
        made.1,
        noted_is ∙ ap (λ (t : Told). noted t (last_octets new.machine.items) new.lanes before) told_is
            ∙ ap
            (λ (n : State).
            noted (told_by old.lanes.open_lanes (class_of step)) (last_octets n.machine.items) n.lanes before) made.1
            ∙ step_noted old step before made.0,
        same ∙ (begun_is ∙ (ap is_begun told_is ∙ told-begun old.lanes.open_lanes (class_of step))),
      );
  impossible = λ wrong. absurd cc;
}

pub told_refused : (step : Step) (old new : State) (before behind : List Account) (why : NotMade)
    → TakesUp step old new (Err why) → HasTold step old before new behind (Err why)
told_refused step old new before behind why takes = record {
  made = λ b ok. absurd cc;
  impossible = λ wrong.
      let same : why ≡ NotMades.Impossible = cc in takes.impossible (ap (λ (w : NotMade). Err w) same);
}

pub told_short : (step : Step) (old new : State) (before behind : List Account)
    → HasTold step old before new behind (Err NotMades.Memory)
told_short step old new before behind = record { made = λ b ok. absurd cc; impossible = λ wrong. absurd cc }

pub ruleset told_laws = (told_taken, told_refused, told_short)
