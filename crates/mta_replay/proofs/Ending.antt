-- What the steps change that end an activity.
use Rattle.std.proofs.Common.{◌≡◌, ◌≢◌, ◌≤◌, ◌<◌, ◌^◌, ℕ, zero, suc, Bool, true, false, cond, List, [], length}
use Rattle.std.proofs.Common.{map, reverse, Option, Some, None, Result, IfOk, refl, sym, ap, subst}
use Rattle.std.proofs.Common.{◌∙◌}
use Rattle.std.specs.Global.{Vec}
use Rattle.std.specs.List.{All}
use Rattle.std.proofs.lemmas.Option.{get_or_from_slice_get, slice_get_within}
use Rattle.mta_ber.specs.Times.{last_moment}
use Rattle.mta_lane_send.specs.declared.state.SendState.{SendState}
use Rattle.mta_lane_send.specs.declared.state.SendState.TheVariants.{Idle, Sending, Ending, Dropping}
use Rattle.mta_lane_send.specs.Half.{is_ending, is_live, is_sending}
use Rattle.mta_records.specs.declared.step.Step.TheVariants as steps
use Rattle.mta_machine.specs.Items.{ItemValue, numbered}
use Rattle.mta_machine.specs.Rules.{Failure, denied, expired}
use Rattle.mta_machine.specs.Machine.{MachineStep, machine_run}
use Rattle.mta_machine.proofs.Decided.{relayed-on}
use Rattle.mta_histories.specs.Lanes.{Lane, State, Transfer, is_dropping, is_transferring, lane_at}
use Rattle.mta_histories.specs.Classes.{abandon, settle, was_denied, was_refused, was_sent}
use Rattle.mta_histories.specs.History.{failure_of_kind, failures, outcome_steps, sendings}
use Rattle.mta_histories.specs.Kept.{IsDecided, IsDecidedFor, IsKept}
use Rattle.mta_histories.proofs.Dues.{some-first}
use Rattle.mta_histories.proofs.LaneLists.{each-at}
use Rattle.mta_lanes.specs.declared.change.LaneChange.{LaneChange}
use Rattle.mta_lanes.specs.declared.change.LaneChange.TheVariants as lane_change
use Rattle.mta_lanes.specs.Changes.{MayChange, MayChangeAt}
use Rattle.mta_state.specs.declared.kept.Kept.{Kept}
use Rattle.mta_state.specs.declared.change.Change.{Change}
use Rattle.mta_state.specs.declared.change.Change.TheVariants as change
use Rattle.mta_state.specs.declared.change.Settlement.{Settlement}
use Rattle.mta_state.specs.Asked.{IsStored}
use Rattle.mta_state.specs.Kept.{state_of}
use Rattle.mta_state.specs.Prepared.{Prepares}
use Rattle.mta_replay.specs.Changes.{IsOpenFor, Makes, OpenFor, sent_one}
use Rattle.mta_replay.specs.Failures.{FailAll}
use Rattle.mta_replay.proofs.Changing.{discharging, not_prepared, prepared, prepared_all}
use Rattle.mta_replay.proofs.Sendings.{sent_few, sent_in_order}

-- ---- what an activity in Sending or Ending rests on

module _ (s : State) (n : ℕ) (lane : Lane) (kept : IsKept s) (opened : lane_at n s.lanes.open_lanes ≡ Some lane)
    (transferring : is_transferring lane.sending ≡ true)
  where
    decided_for : (o : Option Transfer) → o ≡ lane.transfer → IsDecidedFor s.machine s.moment lane.peer o
    decided_for o is =
        subst (λ (x : Option Transfer). IsDecidedFor s.machine s.moment lane.peer x) (sym is)
        (each-at (IsDecided s.machine s.moment) s.lanes.open_lanes n lane opened kept.decided transferring)

    pub a_transfer : None ≡ lane.transfer → ⊥
    a_transfer none = decided_for None none

    pub some_recipients : (t : Transfer) → Some t ≡ lane.transfer → t.recipients ≢ []
    some_recipients t is = (decided_for (Some t) is).0

    pub its_item : (t : Transfer) → Some t ≡ lane.transfer → (item : ItemValue)
        × (numbered s.machine.items t.item ≡ Some item)
    its_item t is =
        let decided = decided_for (Some t) is in
        let one = some-first t.recipients decided.0 in
        let there = relayed-on t.format (numbered s.machine.tables t.tables) (numbered s.machine.items t.item) one.0
        t.moment lane.peer (decided.4 one.0 one.1) in
        (there.1, there.3)

    pub an_item : (t : Transfer) → Some t ≡ lane.transfer → None ≡ numbered s.machine.items t.item → ⊥
    an_item t is none =
        let there = its_item t is in let both : None ≡ Some there.0 = none ∙ there.1 in absurd cc

-- what is stored is stored at each number
pub stored_at : (items : List ItemValue) (i : ℕ) (item : ItemValue) → All IsStored items
    → Some item ≡ numbered items i → item.arrival ≤ last_moment
stored_at items zero item all is = absurd cc
stored_at items (suc i) item all is =
    let within = slice_get_within items i item (sym is) in
    let there : IsStored item =
    subst IsStored (get_or_from_slice_get items i item item (sym is)) (all i item within) in
    there.arrived

-- ---- states

live_goes_on : (state : SendState) (k : ℕ) → is_live state k ≡ true → is_dropping state ≡ false
    → is_transferring state ≡ true
live_goes_on (Idle last) k live going = absurd cc
live_goes_on (Sending j c) k live going = refl
live_goes_on (Ending j c) k live going = refl
live_goes_on (Dropping j) k live going = absurd cc

pub ending_goes_on : (state : SendState) (k : ℕ) → is_ending state k ≡ true → is_transferring state ≡ true
ending_goes_on (Idle last) k ending = absurd cc
ending_goes_on (Sending j c) k ending = absurd cc
ending_goes_on (Ending j c) k ending = refl
ending_goes_on (Dropping j) k ending = absurd cc

pub sending_goes_on : (state : SendState) (k : ℕ) → is_sending state k ≡ true → is_transferring state ≡ true
sending_goes_on (Idle last) k sending = absurd cc
sending_goes_on (Sending j c) k sending = refl
sending_goes_on (Ending j c) k sending = absurd cc
sending_goes_on (Dropping j) k sending = absurd cc

-- ---- changes

may_settle_at : (o : Option Lane) → MayChangeAt o lane_change.Settle
may_settle_at None = tt
may_settle_at (Some lane) = tt

module _ (k : Kept) (n moment : ℕ) where
  pub quiet_makes : length k.parts.items.items < 2 ^ 32
      → Makes (state_of k) [] n lane_change.Settle moment
      (Some (change.OnLane n lane_change.Settle (Some moment)))
  quiet_makes few = record {
    after = refl;
    can = may_settle_at (lane_at n k.lanes.open_lanes.items);
    numbers = few;
  }

  module _ (lane : Lane) (new : LaneChange) where
    pub fail_none : (failure : Failure) (t : Transfer) → Some t ≡ lane.transfer
        → FailAll (state_of k).machine t.item t.recipients failure moment None
        → Makes (state_of k) (failures failure moment lane.transfer) n new moment None
    fail_none failure t is many =
        subst (λ (o : Option Transfer). 2 ^ 32
        ≤ length (machine_run (state_of k).machine (failures failure moment o)).items) is many

    pub fail_made : (failure : Failure) (t : Transfer) (ss turned : Vec Settlement) → Some t ≡ lane.transfer
        → FailAll (state_of k).machine t.item t.recipients failure moment (Some ss)
        → turned.items ≡ reverse ss.items → lane_at n k.lanes.open_lanes.items ≡ Some lane → MayChange lane new
        → Makes (state_of k) (failures failure moment lane.transfer) n new moment
        (Some (change.Discharge n new t.item turned moment))
    fail_made failure t ss turned is all turns opened may =
        subst (λ (o : Option Transfer). Makes (state_of k) (failures failure moment o) n new moment
        (Some (change.Discharge n new t.item turned moment))) is
        (discharging (state_of k) n new t.item turned ss.items moment (failures failure moment (Some t)) turns
        all.0 (subst (λ (o : Option Lane). MayChangeAt o new) (sym opened) may) all.1)

  module _ (lane : Lane) (activity : ℕ) where
    abbrev After : List MachineStep → Option Change → Type 0
    After ms o = Makes (state_of k) ms n lane_change.Settle moment o

    -- where it was given up, a refusal discharges nobody
    pub refused_quietly : (kind : ℕ) (c : Change) → is_dropping lane.sending ≡ true → After [] (Some c)
        → After (outcome_steps lane (was_refused kind) activity moment) (Some c)
    refused_quietly kind c dropping made =
        subst (λ (b : Bool). After (cond b [] (failures (failure_of_kind kind) moment lane.transfer)) (Some c))
        (sym dropping) made

    pub refused_fails : {E : Type 0} (kind : ℕ) (failure : Failure) (r : Result (Option Change) E)
        → is_dropping lane.sending ≡ false → failure ≡ failure_of_kind kind
        → IfOk r (After (failures failure moment lane.transfer))
        → IfOk r (After (outcome_steps lane (was_refused kind) activity moment))
    refused_fails kind failure r going is made =
        subst (λ (b : Bool). IfOk r (After (cond b [] (failures (failure_of_kind kind) moment lane.transfer))))
        (sym going)
        (subst (λ (f : Failure). IfOk r (After (failures f moment lane.transfer))) is made)

    pub refused_goes_on : is_live lane.sending activity ≡ true → is_dropping lane.sending ≡ false
        → is_transferring lane.sending ≡ true
    refused_goes_on live going = live_goes_on lane.sending activity live going

    -- a denial before the end phase discharges nobody
    pub denied_quietly : (c : Change) → is_ending lane.sending activity ≡ false → After [] (Some c)
        → After (outcome_steps lane was_denied activity moment) (Some c)
    denied_quietly c before made =
        subst (λ (b : Bool). After (cond b (failures denied moment lane.transfer) []) (Some c)) (sym before) made

    pub denied_fails : {E : Type 0} (r : Result (Option Change) E) → is_ending lane.sending activity ≡ true
        → IfOk r (After (failures denied moment lane.transfer))
        → IfOk r (After (outcome_steps lane was_denied activity moment))
    denied_fails r ending made =
        subst (λ (b : Bool). IfOk r (After (cond b (failures denied moment lane.transfer) []))) (sym ending) made

    pub sent_makes : (t : Transfer) (i : ℕ) (peer : List ℕ) (ss turned : Vec Settlement) → IsKept (state_of k)
        → lane_at n k.lanes.open_lanes.items ≡ Some lane → is_transferring lane.sending ≡ true
        → Some t ≡ lane.transfer → i ≡ t.item → peer ≡ lane.peer
        → ss.items ≡ map (sent_one peer moment) t.recipients → turned.items ≡ reverse ss.items
        → length k.parts.items.items < 2 ^ 32
        → After (outcome_steps lane was_sent activity moment)
        (Some (change.Discharge n lane_change.Settle i turned moment))
    sent_makes t i peer ss turned kept opened transferring is item_is peer_is are turns few =
        let there = its_item (state_of k) n lane kept opened transferring t is in
        subst (λ (o : Option Transfer). After (sendings lane.peer moment o)
        (Some (change.Discharge n lane_change.Settle i turned moment))) is
        (subst (λ (p : List ℕ). After (sendings p moment (Some t))
        (Some (change.Discharge n lane_change.Settle i turned moment))) peer_is
        (subst (λ (j : ℕ). After (sendings peer moment (Some t))
        (Some (change.Discharge n lane_change.Settle j turned moment))) (sym item_is)
        (discharging (state_of k) n lane_change.Settle t.item turned (map (sent_one peer moment) t.recipients)
        moment (sendings peer moment (Some t)) (turns ∙ ap (λ (xs : List Settlement). reverse xs) are)
        (sent_in_order (state_of k).machine t there.0 peer moment there.1
        (some_recipients (state_of k) n lane kept opened transferring t is))
        (may_settle_at (lane_at n k.lanes.open_lanes.items))
        (sent_few (state_of k).machine t there.0 peer moment there.1 few))))

-- ---- steps

module _ (k : Kept) (n g activity moment : ℕ) where
  pub not_sent : OpenFor (state_of k) n (Some g) (settle was_sent activity) moment None
      → Prepares (state_of k) (steps.Sent n g activity moment) None
  not_sent never =
      not_prepared (state_of k) (steps.Sent n g activity moment) n (Some g) (settle was_sent activity) moment refl
      refl never

  pub sent_changes : (lane : Lane) (c : Change)
      → IsOpenFor (state_of k) n (Some g) (settle was_sent activity) moment lane
      → Makes (state_of k) (outcome_steps lane was_sent activity moment) n lane_change.Settle moment (Some c)
      → Prepares (state_of k) (steps.Sent n g activity moment) (Some c)
  sent_changes lane c may made =
      prepared (state_of k) (steps.Sent n g activity moment) n (Some g) (settle was_sent activity) moment refl
      refl lane lane_change.Settle may refl refl (Some c) made

  refused_too : (kind : ℕ) (lane : Lane)
      → IsOpenFor (state_of k) n (Some g) (settle was_denied activity) moment lane
      → IsOpenFor (state_of k) n (Some g) (settle (was_refused kind) activity) moment lane
  refused_too kind lane may = record {
    found = may.found;
    current = may.current;
    needs = may.needs;
    timely = may.timely;
  }

  denied_too : (kind : ℕ) (lane : Lane)
      → IsOpenFor (state_of k) n (Some g) (settle (was_refused kind) activity) moment lane
      → IsOpenFor (state_of k) n (Some g) (settle was_denied activity) moment lane
  denied_too kind lane may = record {
    found = may.found;
    current = may.current;
    needs = may.needs;
    timely = may.timely;
  }

  pub not_refused : (kind : ℕ) → OpenFor (state_of k) n (Some g) (settle was_denied activity) moment None
      → Prepares (state_of k) (steps.Refused n g activity kind moment) None
  not_refused kind never =
      not_prepared (state_of k) (steps.Refused n g activity kind moment) n (Some g)
      (settle (was_refused kind) activity) moment refl refl
      (λ lane may. never lane (denied_too kind lane may))

  pub refused_changes : {E : Type 0} (kind : ℕ) (lane : Lane) (r : Result (Option Change) E)
      → IsOpenFor (state_of k) n (Some g) (settle was_denied activity) moment lane
      → IfOk r (Makes (state_of k) (outcome_steps lane (was_refused kind) activity moment) n lane_change.Settle
      moment)
      → IfOk r (Prepares (state_of k) (steps.Refused n g activity kind moment))
  refused_changes kind lane r may made =
      prepared_all (state_of k) (steps.Refused n g activity kind moment) n (Some g)
      (settle (was_refused kind) activity) moment refl refl lane lane_change.Settle (refused_too kind lane may)
      refl refl r made

  pub not_denied : OpenFor (state_of k) n (Some g) (settle was_denied activity) moment None
      → Prepares (state_of k) (steps.Denied n g activity moment) None
  not_denied never =
      not_prepared (state_of k) (steps.Denied n g activity moment) n (Some g) (settle was_denied activity) moment
      refl refl never

  pub denied_changes : {E : Type 0} (lane : Lane) (r : Result (Option Change) E)
      → IsOpenFor (state_of k) n (Some g) (settle was_denied activity) moment lane
      → IfOk r (Makes (state_of k) (outcome_steps lane was_denied activity moment) n lane_change.Settle moment)
      → IfOk r (Prepares (state_of k) (steps.Denied n g activity moment))
  denied_changes lane r may made =
      prepared_all (state_of k) (steps.Denied n g activity moment) n (Some g) (settle was_denied activity) moment
      refl refl lane lane_change.Settle may refl refl r made

module _ (k : Kept) (n activity moment : ℕ) where
  pub not_abandoned : OpenFor (state_of k) n None (abandon activity) moment None
      → Prepares (state_of k) (steps.Abandon n activity moment) None
  not_abandoned never =
      not_prepared (state_of k) (steps.Abandon n activity moment) n None (abandon activity) moment refl refl never

  pub abandon_changes : {E : Type 0} (lane : Lane) (failure : Failure) (r : Result (Option Change) E)
      → IsOpenFor (state_of k) n None (abandon activity) moment lane → failure ≡ expired
      → IfOk r (Makes (state_of k) (failures failure moment lane.transfer) n (lane_change.Abandon activity) moment)
      → IfOk r (Prepares (state_of k) (steps.Abandon n activity moment))
  abandon_changes lane failure r may is made =
      prepared_all (state_of k) (steps.Abandon n activity moment) n None (abandon activity) moment refl refl lane
      (lane_change.Abandon activity) may refl refl r
      (subst (λ (f : Failure). IfOk r (Makes (state_of k) (failures f moment lane.transfer) n
      (lane_change.Abandon activity) moment)) is made)

  pub abandon_goes_on : (lane : Lane) → IsOpenFor (state_of k) n None (abandon activity) moment lane
      → is_transferring lane.sending ≡ true
  abandon_goes_on lane may = sending_goes_on lane.sending activity may.needs.0

  pub abandon_may : (lane : Lane) → IsOpenFor (state_of k) n None (abandon activity) moment lane
      → MayChange lane (lane_change.Abandon activity)
  abandon_may lane may = may.needs.0

pub ruleset fail_laws = (a_transfer, an_item, stored_at, fail_none, fail_made)

pub ruleset refused_laws = (refused_quietly, refused_fails, refused_goes_on)

pub ruleset denied_laws = (denied_quietly, denied_fails, ending_goes_on)

pub ruleset sent_laws = (a_transfer, sent_makes)

pub ruleset prepare_sent_laws = (not_sent, sent_changes, ending_goes_on)

pub ruleset prepare_refused_laws = (not_refused, refused_changes)

pub ruleset prepare_denied_laws = (not_denied, denied_changes)

pub ruleset prepare_abandon_laws = (not_abandoned, abandon_changes, abandon_goes_on, abandon_may)
