-- What is sound before a step is sound behind it.
use Rattle.std.proofs.Common.{◌≡◌, ℕ, suc, ◌≤◌, ◌<◌, ◌^◌, Bool, true, false, cond, List, [], ◌∷◌}
use Rattle.std.proofs.Common.{◌++◌, length}
use Rattle.std.proofs.Common.{map, Option, Some, None, refl, sym, ap, subst, ◌∙◌, arith}
use Rattle.std.specs.Prelude.{IfSome, slice_get}
use Rattle.std.proofs.lemmas.List.{length-append}
use Rattle.std.proofs.lemmas.List.Elements.{All-nil}
use Rattle.std.proofs.lemmas.Option.{same_Some}
use Rattle.std.specs.List.{All}
use Rattle.mta_ber.specs.Times.{last_moment}
use Rattle.mta_lane_send.specs.Half.{is_ending}
use Rattle.mta_records.specs.declared.step.Step.{Step}
use Rattle.mta_records.specs.declared.step.Step.TheVariants.{Tables, Accept, Deliver, Expand, Report, Affirm, Discard}
use Rattle.mta_records.specs.declared.step.Step.TheVariants.{Back, LaneOpen, LaneAgree, Bind, Start, Confirm, Ending}
use Rattle.mta_records.specs.declared.step.Step.TheVariants.{Sent, Refused, Denied, Dropped, Abandon, Secure, Complete}
use Rattle.mta_records.specs.declared.step.Step.TheVariants.{Drop, CloseLane, Snapshot, Format}
use Rattle.mta_records.specs.Body.{HasFields}
use Rattle.mta_dues.specs.Index.{IsIndexed}
use Rattle.mta_dues.specs.declared.index.Index.{Index}
use Rattle.mta_dues.proofs.Indexed.{fresh, indexes_stay}
use Rattle.mta_queue.specs.Queues.{QueuesValue}
use Rattle.mta_machine.specs.Items.{Machine, numbered}
use Rattle.mta_machine.specs.Rules.{Failure, denied, expired, is_tables_text}
use Rattle.mta_machine.specs.Machine.{discharge, failed, last_tables, machine_run}
use Rattle.mta_histories.specs.Classes.{was_sent, was_refused, was_denied, was_dropped, LaneStep, agree, bind, start}
use Rattle.mta_histories.specs.Classes.{confirm, to_end, settle, abandon, secure, complete, drop_pieces, close}
use Rattle.mta_histories.specs.Classes.{Class, begins, sets_format, records, accepts, settles, opens, on_lane}
use Rattle.mta_histories.specs.Classes.{class_of, moment_of}
use Rattle.mta_histories.specs.Lanes.{Transfer, Lane, State, empty, lane_at, is_dropping}
use Rattle.mta_histories.specs.History.{StepNeeds, MachineNeeds, LaneNeeds, IsPossible, after_step, class_steps}
use Rattle.mta_histories.specs.History.{lane_steps, machine_left, machine_steps}
use Rattle.mta_histories.specs.History.{on_lane_steps, failures, sendings, failure_of_kind, later, when}
use Rattle.mta_histories.specs.Kept.{IsKept}
use Rattle.mta_histories.proofs.Keeps.{histories_keep, steps_keep}
use Rattle.mta_histories.proofs.Runs.{left-runs}
use Rattle.mta_state.specs.Parts.{machine_of}
use Rattle.mta_state.specs.declared.kept.Kept.{Kept}
use Rattle.mta_state.specs.declared.change.Change.{Change}
use Rattle.mta_state.specs.Asked.{IsStored}
use Rattle.mta_state.specs.Kept.{state_of, changed_state}
use Rattle.mta_replay.specs.declared.replay.InForce.{InForce}
use Rattle.mta_replay.specs.Expected.{AreAlike, AreQueuedUnder}
use Rattle.mta_replay.specs.Queued.{AreQueued}
use Rattle.mta_replay.specs.Ready.{sets_rules, AreFresh, AreMade, IsReady}
use Rattle.mta_replay.specs.Sound.{AreInForce, AreLast, IsIndexedUnder, IsSound, ReadsLast}
use Rattle.mta_replay.proofs.Begins.{begins-in-time, begins-stored}
use Rattle.mta_replay.proofs.Stored.{EachFits, HasRulesOf, rules-stay, stored-run}

-- ---- moments

moment-fits : (step : Step) → HasFields step → IfSome (moment_of step) (λ m. m ≤ last_moment)
moment-fits (Tables text) f = tt
moment-fits (Accept moment apdu) f = f.0
moment-fits (Deliver item recipient moment) f = f.1.1
moment-fits (Expand item recipient moment) f = f.1.1
moment-fits (Report item recipient moment) f = f.1.1
moment-fits (Affirm item recipient moment) f = f.1.1
moment-fits (Discard item recipient moment) f = f.1.1
moment-fits (Back item recipient moment) f = f.1.1
moment-fits (LaneOpen role peer reference twa checkpoint window moment) f = f.1.1.1.1
moment-fits (LaneAgree lane generation checkpoint window) f = tt
moment-fits (Bind lane generation) f = tt
moment-fits (Start lane generation activity item recipients moment) f = f.1.1
moment-fits (Confirm lane generation activity checkpoint) f = tt
moment-fits (Ending lane generation activity) f = tt
moment-fits (Sent lane generation activity moment) f = f.1
moment-fits (Refused lane generation activity kind moment) f = f.1.1
moment-fits (Denied lane generation activity moment) f = f.1
moment-fits (Dropped lane generation activity) f = tt
moment-fits (Abandon lane activity moment) f = f.1.1
moment-fits (Secure lane generation activity number piece) f = tt
moment-fits (Complete lane generation activity number piece moment) f = f.1.1
moment-fits (Drop lane generation activity) f = tt
moment-fits (CloseLane lane generation) f = tt
moment-fits (Snapshot state) f = begins-in-time state f
moment-fits (Format version) f = tt

pub fits_of : (step : Step) (moment : ℕ) → HasFields step → moment_of step ≡ Some moment → moment ≤ last_moment
fits_of step moment fields is =
    subst (λ (o : Option ℕ). IfSome o (λ m. m ≤ last_moment)) is (moment-fits step fields)

pub when-fits : (s : State) (step : Step) → HasFields step → s.moment ≤ last_moment → when s step ≤ last_moment
when-fits s step f timely = by_moment (moment_of step) (moment-fits step f)
  where
    by_moment : (o : Option ℕ) → IfSome o (λ m. m ≤ last_moment) → later s.moment o ≤ last_moment
    by_moment None fits = timely
    by_moment (Some m) fits = fits

-- ---- what a step is for the machine

fail-fits : (failure : Failure) (moment i : ℕ) (rs : List ℕ) → moment ≤ last_moment
    → EachFits (map (λ r. discharge i (r ∷ []) (failed failure) moment) rs)
fail-fits failure moment i [] fits = tt
fail-fits failure moment i (r ∷ rs) fits = (fits, fail-fits failure moment i rs fits)

failures-fit : (failure : Failure) (moment : ℕ) (o : Option Transfer) → moment ≤ last_moment
    → EachFits (failures failure moment o)
failures-fit failure moment None fits = tt
failures-fit failure moment (Some t) fits = fail-fits failure moment t.item t.recipients fits

sendings-fit : (peer : List ℕ) (moment : ℕ) (o : Option Transfer) → moment ≤ last_moment
    → EachFits (sendings peer moment o)
sendings-fit peer moment None fits = tt
sendings-fit peer moment (Some t) fits = (fits, tt)

lane-fits : (s : State) (lane : Lane) (step : LaneStep) (moment : ℕ) → moment ≤ last_moment
    → LaneNeeds s lane step moment → EachFits (lane_steps lane step moment)
lane-fits s lane (agree checkpoint window) moment fits needs = tt
lane-fits s lane bind moment fits needs = tt
lane-fits s lane (start k i rs) moment fits needs = tt
lane-fits s lane (confirm k n) moment fits needs = tt
lane-fits s lane (to_end k) moment fits needs = tt
lane-fits s lane (settle was_sent k) moment fits needs = sendings-fit lane.peer moment lane.transfer fits
lane-fits s lane (settle (was_refused kind) k) moment fits needs = by_test (is_dropping lane.sending)
  where
    by_test : (b : Bool) → EachFits (cond b [] (failures (failure_of_kind kind) moment lane.transfer))
    by_test true = tt
    by_test false = failures-fit (failure_of_kind kind) moment lane.transfer fits
lane-fits s lane (settle was_denied k) moment fits needs = by_test (is_ending lane.sending k)
  where
    by_test : (b : Bool) → EachFits (cond b (failures denied moment lane.transfer) [])
    by_test true = failures-fit denied moment lane.transfer fits
    by_test false = tt
lane-fits s lane (settle was_dropped k) moment fits needs = tt
lane-fits s lane (abandon k) moment fits needs = failures-fit expired moment lane.transfer fits
lane-fits s lane (secure k n piece) moment fits needs = tt
lane-fits s lane (complete k n piece) moment fits needs = ((needs.1, fits), tt)
lane-fits s lane (drop_pieces k) moment fits needs = tt
lane-fits s lane close moment fits needs = tt

some-is : (a b : Lane) → ◌≡◌ {A = Option Lane} (Some a) (Some b) → a ≡ b
some-is a b e = cc

class-fits : (s : State) (c : Class) (moment : ℕ) → moment ≤ last_moment → sets_rules c ≡ false
    → StepNeeds s c moment → MachineNeeds s c moment → EachFits (class_steps s c moment)
class-fits s (begins t) moment fits other allowed needs = absurd cc
class-fits s sets_format moment fits other allowed needs = absurd cc
class-fits s (records text) moment fits other allowed needs = absurd cc
class-fits s (accepts octets) moment fits other allowed needs = ((needs.0, fits), tt)
class-fits s (settles how i r) moment fits other allowed needs = (fits, tt)
class-fits s (opens role peer reference twa checkpoint window) moment fits other allowed needs = tt
class-fits s (on_lane n generation step) moment fits other allowed needs =
    by_lane (lane_at n s.lanes.open_lanes) allowed.lane_is
  where
    by_lane : (o : Option Lane) → o ≡ Some allowed.lane → EachFits (on_lane_steps o step moment)
    by_lane None e = absurd cc
    by_lane (Some lane) e =
        lane-fits s lane step moment fits
        (subst (λ (l : Lane). LaneNeeds s l step moment) (some-is allowed.lane lane (sym e)) allowed.needs)

-- ---- tables

get-last : {A : Type 0} (ts : List A) (t : A) → slice_get (ts ++ t ∷ []) (length ts) ≡ Some t
get-last [] t = refl
get-last (x ∷ ts) t = get-last ts t

pub numbered-last : {A : Type 0} (ts : List A) (t : A) → numbered (ts ++ t ∷ []) (length (ts ++ t ∷ [])) ≡ Some t
numbered-last ts t =
    let n : length (ts ++ t ∷ []) ≡ suc (length ts) = omega (arith, length-append ts (t ∷ [])) in
    ap (numbered (ts ++ t ∷ [])) n ∙ get-last ts t

-- ---- a step

-- a snapshot has its fields
abbrev HasState : Class → Type 0
HasState (begins t) = HasFields (Snapshot t)
HasState c = Unit {0}

has-state : (step : Step) → HasFields step → HasState (class_of step)
has-state (Snapshot t) f = f
has-state step f = tt

stored-class : (s : State) (c : Class) (moment : ℕ) → moment ≤ last_moment → HasState c → StepNeeds s c moment
    → MachineNeeds s c moment → All IsStored s.machine.items → All IsStored (machine_left s c moment).items
stored-class s (begins t) moment fits fields allowed needs stored = begins-stored t fields allowed.sound.items
stored-class s sets_format moment fits fields allowed needs stored = stored
stored-class s (records text) moment fits fields allowed needs stored = stored
stored-class s (accepts octets) moment fits fields allowed needs stored =
    stored-run s.machine (class_steps s (accepts octets) moment)
    (class-fits s (accepts octets) moment fits refl allowed needs) stored
stored-class s (settles how i r) moment fits fields allowed needs stored =
    stored-run s.machine (class_steps s (settles how i r) moment)
    (class-fits s (settles how i r) moment fits refl allowed needs) stored
stored-class s (opens role peer reference twa checkpoint window) moment fits fields allowed needs stored = stored
stored-class s (on_lane n generation step) moment fits fields allowed needs stored =
    stored-run s.machine (class_steps s (on_lane n generation step) moment)
    (class-fits s (on_lane n generation step) moment fits refl allowed needs) stored

-- where no rules are made the machine is left as by its steps
left-so : (s : State) (c : Class) (moment : ℕ) → sets_rules c ≡ false
    → machine_left s c moment ≡ machine_run s.machine (class_steps s c moment)
left-so s c moment other =
    left-runs s c moment (λ t e. let both : true ≡ false = sym (ap sets_rules e) ∙ other in absurd cc)

some-recorded : (ts : List (List ℕ)) (text : List ℕ) → ts ++ text ∷ [] ≡ [] → ⊥
some-recorded [] text e = cc
some-recorded (t ∷ ts) text e = cc

-- where they are made, and there are none, no tables were recorded before
none-before : (s : State) (c : Class) (moment : ℕ) → IsKept s → StepNeeds s c moment → sets_rules c ≡ true
    → (machine_left s c moment).tables ≡ [] → s.machine.tables ≡ []
none-before s (begins t) moment kept allowed anew none =
    ap (λ (x : State). x.machine.tables) (kept.at_first allowed.first)
none-before s sets_format moment kept allowed anew none = none
none-before s (records text) moment kept allowed anew none = absurd (some-recorded s.machine.tables text none)
none-before s (accepts octets) moment kept allowed anew none = absurd cc
none-before s (settles how i r) moment kept allowed anew none = absurd cc
none-before s (opens role peer reference twa checkpoint window) moment kept allowed anew none = absurd cc
none-before s (on_lane n generation step) moment kept allowed anew none = absurd cc

-- the rules behind a step for which some are made, or others
abbrev pub rules_after : {R : Type 0} → Option R → Option R → Option R
rules_after old None = old
rules_after old (Some new) = Some new

module _ {R : Type 0} (format : R → ℕ) (text : R → List ℕ) where
  stays-last : (m n : Machine) (rules : Option (InForce R)) → HasRulesOf m n → AreLast format text m rules
      → AreLast format text n rules
  stays-last m n None same last = same.tables ∙ last
  stays-last m n (Some r) same last = record {
    in_format = last.in_format ∙ sym same.format;
    last = ap (λ (ts : List (List ℕ)). numbered ts (length ts)) same.tables ∙ last.last;
    reads = last.reads;
  }

  -- there are no rules where no tables were recorded
  none-without : (m : Machine) (rules : Option (InForce R)) → AreLast format text m rules → m.tables ≡ []
      → rules ≡ None
  none-without m None last none = refl
  none-without m (Some r) last none =
      let nothing : numbered m.tables (last_tables m) ≡ None =
      ap (λ (ts : List (List ℕ)). numbered ts (length ts)) none in
      let both : None ≡ Some (text r.rules) = sym nothing ∙ last.last in absurd cc

  -- a step that is possible, and the rules that are made for it
  module _ (s : State) (step : Step) (kept : IsKept s) (fields : HasFields step) (timely : s.moment ≤ last_moment)
      (possible : IsPossible s step)
    where
      abbrev now : Machine
      now = (after_step s step).machine

      now-fits : when s step ≤ last_moment
      now-fits = when-fits s step fields timely

      stored-after : All IsStored s.machine.items → All IsStored now.items
      stored-after stored =
          stored-class s (class_of step) (when s step) now-fits (has-state step fields) possible.allowed
          possible.as_machine stored

      runs-so : sets_rules (class_of step) ≡ false → now ≡ machine_run s.machine (machine_steps s step)
      runs-so other = left-so s (class_of step) (when s step) other

      has-rules : sets_rules (class_of step) ≡ false → HasRulesOf s.machine now
      has-rules other =
          subst (λ (m : Machine). HasRulesOf s.machine m) (sym (runs-so other))
          (rules-stay s.machine (machine_steps s step)
          (class-fits s (class_of step) (when s step) now-fits other possible.allowed possible.as_machine))

      no-rules : (old : Option (InForce R)) → AreLast format text s.machine old → sets_rules (class_of step) ≡ true
          → now.tables ≡ [] → old ≡ None
      no-rules old last anew none =
          none-without s.machine old last
          (none-before s (class_of step) (when s step) kept possible.allowed anew none)

      last-after : (anew : Bool) (old new : Option (InForce R)) → sets_rules (class_of step) ≡ anew
          → AreMade format text anew now new → AreLast format text s.machine old
          → AreLast format text now (rules_after old new)
      last-after true old None anew made last =
          subst (λ (o : Option (InForce R)). AreLast format text now o) (sym (no-rules old last anew made)) made
      last-after true old (Some r) anew made last = made
      last-after false old None other made last = stays-last s.machine now old (has-rules other) last
      last-after false old (Some r) other made last = absurd cc

      -- what is known of items stays true under the same rules, and of other rules nothing is known yet
      indexed-after : (anew : Bool) (old new : Option (InForce R)) → sets_rules (class_of step) ≡ anew
          → AreMade format text anew now new → AreFresh new → AreLast format text s.machine old
          → IsIndexedUnder format text s.machine old → IsIndexedUnder format text now (rules_after old new)
      indexed-after true old None anew made unknown last indexed =
          subst (λ (o : Option (InForce R)). IsIndexedUnder format text now o) (sym (no-rules old last anew made)) tt
      indexed-after false None None other made unknown last indexed = tt
      indexed-after false (Some f) None other made unknown last indexed =
          subst (λ (m : Machine). IsIndexed (format f.rules) (text f.rules) m.items f.index) (sym (runs-so other))
          (indexes_stay (format f.rules) (text f.rules) s.machine (machine_steps s step) f.index indexed)
      indexed-after anew None (Some f) is made unknown last indexed =
          fresh (format f.rules) (text f.rules) now.items f.index unknown.0 unknown.1 unknown.2 unknown.3
      indexed-after anew (Some other) (Some f) is made unknown last indexed =
          fresh (format f.rules) (text f.rules) now.items f.index unknown.0 unknown.1 unknown.2 unknown.3

  -- the same rules with the same index
  alike-last : (m : Machine) (old now : Option (InForce R)) → AreAlike old now → AreLast format text m old
      → AreLast format text m now
  alike-last m None None alike last = last
  alike-last m None (Some f) alike last = absurd alike
  alike-last m (Some f) None alike last = absurd alike
  alike-last m (Some f) (Some g) alike last =
      subst (λ (r : R). AreInForce (format r) (text r) m) (sym alike.0) last

  alike-indexed : (m : Machine) (old now : Option (InForce R)) → AreAlike old now → IsIndexedUnder format text m old
      → IsIndexedUnder format text m now
  alike-indexed m None None alike indexed = tt
  alike-indexed m None (Some f) alike indexed = absurd alike
  alike-indexed m (Some f) None alike indexed = absurd alike
  alike-indexed m (Some f) (Some g) alike indexed =
      subst (λ (r : R). IsIndexed (format r) (text r) m.items g.index) (sym alike.0)
      (subst (λ (i : Index). IsIndexed (format f.rules) (text f.rules) m.items i) (sym alike.1) indexed)

  alike-self : (old : Option (InForce R)) → AreAlike old old
  alike-self None = tt
  alike-self (Some f) = (refl, refl, refl)

  sound_after : (kept new : Kept) (old ready now : Option (InForce R)) (step : Step) (change : Change)
      → IsSound format text kept old → HasFields step → IsReady format text (state_of kept) step change ready
      → state_of new ≡ changed_state (state_of kept) change → AreAlike (rules_after old ready) now
      → (length new.parts.items.items < 2 ^ 32 → AreQueuedUnder text (state_of new) now)
      → IsSound format text new now
  sound_after kept new old ready now step change sound fields is changed alike queued = record {
    of_history = subst IsKept (sym same) (steps_keep (state_of kept) step sound.of_history possible);
    stored = subst (λ (t : State). All IsStored t.machine.items) (sym same)
        (stored-after (state_of kept) step sound.of_history fields sound.timely possible sound.stored);
    numbers = few;
    timely = subst (λ (t : State). t.moment ≤ last_moment) (sym same)
        (when-fits (state_of kept) step fields sound.timely);
    last = subst (λ (t : State). AreLast format text t.machine now) (sym same)
        (alike-last (after_step (state_of kept) step).machine (rules_after old ready) now alike
        (last-after (state_of kept) step sound.of_history fields sound.timely possible (sets_rules (class_of step)) old
        ready refl is.under sound.last));
    indexed = subst (λ (t : State). IsIndexedUnder format text t.machine now) (sym same)
        (alike-indexed (after_step (state_of kept) step).machine (rules_after old ready) now alike
        (indexed-after (state_of kept) step sound.of_history fields sound.timely possible (sets_rules (class_of step))
        old ready refl is.under is.fresh sound.last sound.indexed));
    queued = queued few;
  } where
    possible : IsPossible (state_of kept) step
    possible = is.is_change.possible

    same : state_of new ≡ after_step (state_of kept) step
    same = changed ∙ is.is_change.after

    few : length new.parts.items.items < 2 ^ 32
    few = subst (λ (t : State). length t.machine.items < 2 ^ 32) (sym same) possible.numbers

  -- as the rules are that are made for the step, or those of before
  pub sound_new : (kept new : Kept) (old ready : Option (InForce R)) (force : InForce R) (step : Step)
      (change : Change) → IsSound format text kept old → HasFields step
      → IsReady format text (state_of kept) step change ready
      → state_of new ≡ changed_state (state_of kept) change → ready ≡ Some force
      → IsSound format text new (Some force)
  sound_new kept new old ready force step change sound fields is changed some =
      let now = subst (λ (o : Option (InForce R)). IsReady format text (state_of kept) step change o) some is in
      sound_after kept new old (Some force) (Some force) step change sound fields now changed
      (alike-self (Some force))
      (λ few. subst (λ (t : State). AreQueued (text force.rules) t force.queues)
      (sym (changed ∙ now.is_change.after)) now.queued)

  pub sound_old : (kept new : Kept) (old ready now : Option (InForce R)) (step : Step) (change : Change)
      → IsSound format text kept old → HasFields step → IsReady format text (state_of kept) step change ready
      → state_of new ≡ changed_state (state_of kept) change → ready ≡ None → AreAlike old now
      → (length new.parts.items.items < 2 ^ 32 → AreQueuedUnder text (state_of new) now)
      → IsSound format text new now
  sound_old kept new old ready now step change sound fields is changed none alike queued =
      sound_after kept new old None now step change sound fields
      (subst (λ (o : Option (InForce R)). IsReady format text (state_of kept) step change o) none is) changed alike
      queued

  -- the same state is as sound
  pub sound_still : (kept new : Kept) (rules : Option (InForce R)) → state_of new ≡ state_of kept
      → IsSound format text kept rules → IsSound format text new rules
  sound_still kept new rules same sound = record {
    of_history = subst IsKept (sym same) sound.of_history;
    stored = subst (λ (t : State). All IsStored t.machine.items) (sym same) sound.stored;
    numbers = subst (λ (t : State). length t.machine.items < 2 ^ 32) (sym same) sound.numbers;
    timely = subst (λ (t : State). t.moment ≤ last_moment) (sym same) sound.timely;
    last = subst (λ (t : State). AreLast format text t.machine rules) (sym same) sound.last;
    indexed = subst (λ (t : State). IsIndexedUnder format text t.machine rules) (sym same) sound.indexed;
    queued = subst (λ (t : State). AreQueuedUnder text t rules) (sym same) sound.queued;
  }

  -- and so it is with another index, as long as that is true
  pub sound_with : (kept : Kept) (force new : InForce R) → new.rules ≡ force.rules → new.queues ≡ force.queues
      → IsIndexed (format force.rules) (text force.rules) kept.parts.items.items new.index
      → IsSound format text kept (Some force)
      → IsSound format text kept (Some new)
  sound_with kept force new same queues indexed sound = record {
    of_history = sound.of_history;
    stored = sound.stored;
    numbers = sound.numbers;
    timely = sound.timely;
    last = subst (λ (r : R). AreInForce (format r) (text r) (machine_of kept.parts)) (sym same) sound.last;
    indexed = subst (λ (r : R). IsIndexed (format r) (text r) kept.parts.items.items new.index) (sym same) indexed;
    queued =
        subst (λ (r : R). AreQueued (text r) (state_of kept) new.queues) (sym same)
        (subst (λ (v : QueuesValue). AreQueued (text force.rules) (state_of kept) v) (sym queues) sound.queued);
  }

  -- or with other queues, as long as those are of the state
  pub sound_queued : (kept : Kept) (force new : InForce R) → new.rules ≡ force.rules → new.index ≡ force.index
      → ((s : State) → AreQueued (text force.rules) s force.queues → AreQueued (text force.rules) s new.queues)
      → IsSound format text kept (Some force) → IsSound format text kept (Some new)
  sound_queued kept force new same index queues sound = record {
    of_history = sound.of_history;
    stored = sound.stored;
    numbers = sound.numbers;
    timely = sound.timely;
    last = subst (λ (r : R). AreInForce (format r) (text r) (machine_of kept.parts)) (sym same) sound.last;
    indexed =
        subst (λ (r : R). IsIndexed (format r) (text r) kept.parts.items.items new.index) (sym same)
        (subst (λ (i : Index). IsIndexed (format force.rules) (text force.rules) kept.parts.items.items i) (sym index)
        sound.indexed);
    queued =
        subst (λ (r : R). AreQueued (text r) (state_of kept) new.queues) (sym same)
        (queues (state_of kept) sound.queued);
  }

  -- and so is the state after no step
  pub sound_at_first : (kept : Kept) → state_of kept ≡ empty → IsSound format text kept None
  sound_at_first kept same = record {
    of_history = subst IsKept (sym same) (histories_keep [] tt);
    stored = subst (λ (t : State). All IsStored t.machine.items) (sym same) (All-nil IsStored);
    numbers = subst (λ (t : State). length t.machine.items < 2 ^ 32) (sym same) (omega arith);
    timely = subst (λ (t : State). t.moment ≤ last_moment) (sym same) (omega arith);
    last = ap (λ (t : State). t.machine.tables) same;
    indexed = tt;
    queued = tt;
  }

  -- the text recorded last is one of tables
  pub sound_reads : (kept : Kept) (rules : Option (InForce R)) → IsSound format text kept rules
      → ReadsLast (machine_of kept.parts)
  sound_reads kept None sound read is =
      let none : numbered kept.parts.texts.items (length kept.parts.texts.items) ≡ None =
      ap (λ (ts : List (List ℕ)). numbered ts (length ts)) sound.last in
      let both : None ≡ Some read = sym none ∙ is in absurd cc
  sound_reads kept (Some force) sound read is =
      subst (λ (t : List ℕ). is_tables_text t ≡ true)
      (same_Some (text force.rules) read (sym sound.last.last ∙ is)) sound.last.reads
