-- An activity that is started or goes on.
use Rattle.std.proofs.Common.{◌≡◌, ◌≤◌, ◌<◌, ◌+◌, ◌^◌, ℕ, true, false, List, length}
use Rattle.std.proofs.Common.{Option, None, Some, Result, Err, refl, sym, ap, subst, ◌∙◌, arith}
use Rattle.std.proofs.lemmas.Option.{same_Some}
use Rattle.mta_edge.specs.Views.{DiskView}
use Rattle.mta_journal.specs.Shown.{Shown as JournalShown}
use Rattle.mta_records.specs.Outgoing.{Carried}
use Rattle.mta_records.specs.declared.fault.StepFault.{StepFault}
use Rattle.mta_records.specs.declared.fault.StepFault.TheVariants as Faults
use Rattle.mta_records.specs.declared.step.Step.{Step}
use Rattle.mta_records.specs.declared.step.Step.TheVariants as steps
use Rattle.mta_lane_send.specs.Half.{is_idle, last_of}
use Rattle.mta_histories.specs.Lanes.{Lane, State, Transfer, lane_at, put_lane, EachLane, total_of}
use Rattle.mta_histories.specs.Classes.{on_lane, start}
use Rattle.mta_histories.specs.History.{IsPossible, after_step, on_lane_after, lane_after}
use Rattle.mta_histories.specs.History.{CanStart, transfer_of}
use Rattle.mta_histories.specs.Kept.{IsFilled}
use Rattle.mta_histories.specs.Numbers.{numbers_on}
use Rattle.mta_histories.proofs.LaneLists.{each-at, number-at}
use Rattle.mta_histories.proofs.Shown.{put-found}
use Rattle.mta_replay.specs.Starting.{MayStartNext}
use Rattle.mta_spool.specs.OnLanes.{refusal_on}
use Rattle.mta_spool.specs.Refusals.{IsRefused}
use Rattle.mta_spool.specs.Shown.{Shown}
use Rattle.mta_spool.specs.Stands.{IsSpent, Makes}
use Rattle.mta_spool.specs.Starting.{Carries, IsPastLast, IsResumed, next_activity, StartsPastLast}
use Rattle.mta_spool.proofs.OnLanes.{refused_plainly}

-- ---- an activity that goes on

-- an activity that is not settled transfers something
pub nothing_idle : (lane : Lane) → IsFilled lane → None ≡ lane.transfer → is_idle lane.sending ≡ false → ⊥
nothing_idle lane filled none busy =
    let some : 1 ≤ total_of None =
    subst (λ (t : Option Transfer). 1 ≤ total_of t) (sym none) (filled.some_octets busy) in
    omega (arith, some)

pub carried_on : (lane : Lane) (t : Transfer) (outgoing : Carried) → Some t ≡ lane.transfer
    → is_idle lane.sending ≡ false → outgoing.activity ≡ last_of lane.sending → outgoing.octets ≡ t.octets
    → IsResumed (Some lane) (Some outgoing)
carried_on lane t outgoing found busy activity octets =
    (busy, subst (λ (x : Option Transfer). Carries x (last_of lane.sending) outgoing) found (activity, octets))

pub filled_at : (s : State) (n : ℕ) (lane : Lane) → EachLane IsFilled s.lanes.open_lanes
    → Some lane ≡ lane_at n s.lanes.open_lanes → IsFilled lane
filled_at s n lane each found = each-at IsFilled s.lanes.open_lanes n lane (sym found) each

-- ---- a Start

-- the same of a number that is equal
pub start_along : {D : Type 0} (model : DiskView D) (n g k h i : ℕ) (rs : List ℕ) (moment : ℕ)
    (old new : JournalShown D) (s s' : State) (a a' : List Step) (fault : Option StepFault) → k ≡ h
    → Makes model (steps.Start n g k i rs moment) old s a new s' a' fault
    → Makes model (steps.Start n g h i rs moment) old s a new s' a' fault
start_along model n g k h i rs moment old new s s' a a' fault e m =
    subst (λ (x : ℕ). Makes model (steps.Start n g x i rs moment) old s a new s' a' fault) e m

none-to-start : (o : Option Lane) (k i : ℕ) (rs : List ℕ) → numbers_on o (start k i rs) ≡ 0
none-to-start None k i rs = refl
none-to-start (Some lane) k i rs = refl

module _ (s : State) (n g k i : ℕ) (rs : List ℕ) (moment : ℕ) where
  pub start_numbers : length s.machine.items < 2 ^ 32 → IsSpent s (steps.Start n g k i rs moment) → ⊥
  start_numbers few spent = omega (arith, few, spent, none-to-start (lane_at n s.lanes.open_lanes) k i rs)

  -- one that may not be started is refused for its lane, whatever its number
  pub not_started : k ≡ next_activity (lane_at n s.lanes.open_lanes) → (MayStartNext s n g i rs moment → ⊥)
      → s.moment ≤ moment
      → IsRefused s (on_lane n (Some g) (start k i rs)) moment (refusal_on (lane_at n s.lanes.open_lanes) n g)
  not_started next never timely =
      refused_plainly s n g moment (on_lane n (Some g) (start k i rs)) (refl, refl, tt)
      (λ on.
      let here : k ≡ last_of on.lane.sending + 1 =
      next ∙ ap (λ (o : Option Lane). next_activity o) on.lane_is in
      never (record {
        lane = on.lane;
        lane_is = on.lane_is;
        current = same_Some g on.lane.generation on.current;
        timely = timely;
        can = subst (λ (x : ℕ). CanStart s on.lane x i rs moment) here on.needs;
      }))

  -- the lane transfers afterwards what was started
  pub resumed_after : (outgoing : Carried) → IsPossible s (steps.Start n g k i rs moment)
      → outgoing ≡ record { activity = k; octets = (transfer_of s.machine i rs moment).octets }
      → IsResumed (lane_at n (after_step s (steps.Start n g k i rs moment)).lanes.open_lanes) (Some outgoing)
  resumed_after outgoing possible is =
      let on = possible.allowed in
      let new : Lane = lane_after s on.lane (start k i rs) moment in
      let number : n ≡ on.lane.number = number-at s.lanes.open_lanes n on.lane on.lane_is in
      let put : lane_at on.lane.number (put_lane new s.lanes.open_lanes) ≡ Some new =
      put-found new on.lane s.lanes.open_lanes
      (subst (λ (m : ℕ). lane_at m s.lanes.open_lanes ≡ Some on.lane) number on.lane_is) in
      let there : lane_at n (on_lane_after s (lane_at n s.lanes.open_lanes) (start k i rs) moment) ≡ Some new =
      ap (λ (o : Option Lane). lane_at n (on_lane_after s o (start k i rs) moment)) on.lane_is
      ∙ subst (λ (m : ℕ). lane_at m (put_lane new s.lanes.open_lanes) ≡ Some new) (sym number) put in
      subst (λ (o : Option Lane). IsResumed o (Some outgoing)) (sym there) (
        refl,
        (ap (λ (o : Carried). o.activity) is ∙ on.needs.next, ap (λ (o : Carried). o.octets) is),
      )

-- ---- past the last number

pub past_last : {D C T : Type 0} (n g i : ℕ) (rs : List ℕ) (moment : ℕ) (spool : Shown D C) (fault : StepFault)
    (result : Result T StepFault) → result ≡ Err fault → spool.journal.ended ≡ false
    → IsPastLast spool.current n g i rs moment fault → StartsPastLast n g i rs moment spool spool result
past_last n g i rs moment spool fault result is going why = record {
  same = (refl, refl, refl);
  fault = fault;
  refused = is;
  ended = λ e. absurd cc;
  why = λ on. why;
}

pub past_last_ended : {D C T : Type 0} (n g i : ℕ) (rs : List ℕ) (moment : ℕ) (spool : Shown D C)
    (result : Result T StepFault) → result ≡ Err Faults.Ended → spool.journal.ended ≡ true
    → StartsPastLast n g i rs moment spool spool result
past_last_ended n g i rs moment spool result is ended = record {
  same = (refl, refl, refl);
  fault = Faults.Ended;
  refused = is;
  ended = λ e. refl;
  why = λ on. absurd cc;
}

-- no other refusal for the lane than the one that stands
pub refused_past_last : (s : State) (n g i : ℕ) (rs : List ℕ) (moment : ℕ) (fault : StepFault)
    → fault ≡ refusal_on (lane_at n s.lanes.open_lanes) n g
    → IsRefused s (on_lane n (Some g) (start (next_activity (lane_at n s.lanes.open_lanes)) i rs)) moment fault
    → IsPastLast s n g i rs moment fault
refused_past_last s n g i rs moment (Faults.Full size need) is refused = refused
refused_past_last s n g i rs moment Faults.Disk is refused = refused
refused_past_last s n g i rs moment Faults.Ended is refused = refused
refused_past_last s n g i rs moment (Faults.Fenced generation) is refused = refused
refused_past_last s n g i rs moment (Faults.NoLane lane) is refused = refused
refused_past_last s n g i rs moment (Faults.BusyLanes count) is refused = refused
refused_past_last s n g i rs moment Faults.Unexpected is refused = refused
refused_past_last s n g i rs moment (Faults.Spent last) is refused = absurd refused
refused_past_last s n g i rs moment Faults.Memory is refused = absurd refused
