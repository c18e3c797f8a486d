-- Steps that are taken up and noted, one after the other.
use Rattle.std.proofs.Common.{◌≡◌, ℕ, ◌+◌, ◌≤◌, Bool, true, false, List, [], ◌∷◌, ◌++◌, length, map, Ok, Err, refl}
use Rattle.std.proofs.Common.{sym, ap, subst, ◌∙◌, append_assoc, arith, true≢false}
use Rattle.std.specs.Prelude.{◌||◌}
use Rattle.std.proofs.lemmas.List.{append-nil}
use Rattle.mta_journal.specs.Bodies.{longest_first, records, AreWithin}
use Rattle.mta_records.specs.declared.step.Step.{Step}
use Rattle.mta_records.specs.Body.{body_of}
use Rattle.mta_histories.specs.Classes.{Class, begins, sets_format, records as records_text, accepts, settles, opens}
use Rattle.mta_histories.specs.Classes.{on_lane, class_of}
use Rattle.mta_histories.specs.Lanes.{State, empty}
use Rattle.mta_histories.specs.History.{IsPossible, StepNeeds, after, after_from, after_step, when}
use Rattle.mta_histories.proofs.Runs.{after_from-more, possible-more}
use Rattle.mta_images.specs.Image.{size_of}
use Rattle.mta_images.proofs.Bodies.{map-more, are-records-more, size-more}
use Rattle.mta_replay.specs.declared.replay.NotMade.{NotMade}
use Rattle.mta_replay.specs.declared.replay.NotMade.TheVariants as NotMades
use Rattle.mta_spool.specs.Replaying.{HasStopped, HasTaken, IsReplay, open_why}
use Rattle.mta_spool.proofs.Replays.{IsUnderWay as IsReplayed, empty_replay, next_short}
use Rattle.mta_spool.proofs.Replays.{way_fits as replay_fits, way_stopped as replay_stopped}
use Rattle.mta_audit_run.specs.declared.account.Account.{Account}
use Rattle.mta_audit_run.specs.declared.side.Side.{Side}
use Rattle.mta_audit_run.specs.Account.{AreAscending, AreNumbered}
use Rattle.mta_audit_run.specs.Accounts.{accounts_after, accounts_from, begins_with_snapshot, is_snapshot, with_endings}
use Rattle.mta_audit_run.specs.Audit.{own_by}
use Rattle.mta_audit_run.specs.Sides.{HasNoted, IsSide, IsSideAt}
use Rattle.mta_audit_run.proofs.Changing.{after_numbered}

-- ---- a step more

accounts-more : (s : State) (known : List Account) (steps : List Step) (step : Step)
    → accounts_from s known (steps ++ step ∷ [])
    ≡ accounts_after (after_from s steps).lanes (class_of step) (accounts_from s known steps)
accounts-more s known [] step = refl
accounts-more s known (x ∷ steps) step =
    accounts-more (after_step s x) (accounts_after s.lanes (class_of x) known) steps step

noted-refused : (body : List ℕ) (old new : State) (before behind : List Account) (why : NotMade)
    → HasNoted body old before new behind (Err why) → HasTaken {T = Unit {0}} body old new (Err why)
noted-refused body old new before behind why noted = record {
  made = λ ok. absurd cc;
  impossible = λ wrong.
      let same : why ≡ NotMades.Impossible = cc in noted.impossible (ap (λ (w : NotMade). Err w) same);
}

-- ---- whether a history begins with a snapshot

-- behind a step no snapshot is possible
no-snapshot : (s : State) (class : Class) (moment : ℕ) → StepNeeds s class moment → s.begun ≡ true
    → is_snapshot class ≡ false
no-snapshot s (begins t) moment needs begun = absurd (true≢false (sym begun ∙ needs.first))
no-snapshot s sets_format moment needs begun = refl
no-snapshot s (records_text text) moment needs begun = refl
no-snapshot s (accepts octets) moment needs begun = refl
no-snapshot s (settles how i r) moment needs begun = refl
no-snapshot s (opens role peer reference twa checkpoint window) moment needs begun = refl
no-snapshot s (on_lane n generation step) moment needs begun = refl

after-begun : (s : State) (x : Step) (steps : List Step) → (after_from (after_step s x) steps).begun ≡ true
after-begun s x [] = refl
after-begun s x (y ∷ steps) = after-begun (after_step s x) y steps

or-false : (b c : Bool) → c ≡ false → b ≡ (b || c)
or-false true c e = refl
or-false false c e = sym e

begins-more : (steps : List Step) (step : Step) → IsPossible (after steps) step
    → begins_with_snapshot (steps ++ step ∷ []) ≡ (begins_with_snapshot steps || is_snapshot (class_of step))
begins-more [] step possible = refl
begins-more (x ∷ steps) step possible =
    or-false (is_snapshot (class_of x)) (is_snapshot (class_of step))
    (no-snapshot (after (x ∷ steps)) (class_of step) (when (after (x ∷ steps)) step) possible.allowed
    (after-begun empty x steps))

-- ---- a row of bodies of which the first are taken up

-- what is taken up of a row whose records stand from this gate on, and noted, and what is left of it
pub record IsUnderWay (first : ℕ) (bodies rest : List (List ℕ)) (state : State) (begun : Bool) (known : List Account)
    (at : ℕ) : Type 0 where
  pub done : List (List ℕ)
  pub steps : List Step
  pub are : bodies ≡ done ++ rest
  pub replayed : IsReplay done state steps
  pub begun_is : begun ≡ begins_with_snapshot steps
  pub known_are : known ≡ accounts_from empty [] steps
  pub numbered : AreNumbered 0 known state.lanes.count
  pub place : at + 1 ≡ size_of first steps

replayed-so : (first : ℕ) (bodies rest : List (List ℕ)) (state : State) (begun : Bool) (known : List Account) (at : ℕ)
    → IsUnderWay first bodies rest state begun known at → IsReplayed first bodies rest state at
replayed-so first bodies rest state begun known at way = record {
  done = way.done;
  steps = way.steps;
  are = way.are;
  replayed = way.replayed;
  place = way.place;
}

pub way_first : (first : ℕ) (bodies rest : List (List ℕ)) (state : State) (known : List Account) → rest ≡ bodies
    → state ≡ empty → known ≡ [] → IsUnderWay first bodies rest state false known first
way_first first bodies rest state known same start none = record {
  done = [];
  steps = [];
  are = sym same;
  replayed = empty_replay state start;
  begun_is = refl;
  known_are = none;
  numbered = subst (λ (ks : List Account). AreNumbered 0 ks state.lanes.count) (sym none) (omega arith);
  place = omega arith;
}

pub way_short : (first : ℕ) (bodies was rest : List (List ℕ)) (body : List ℕ) (state : State) (begun : Bool)
    (known : List Account) (at : ℕ) → AreWithin longest_first bodies
    → IsUnderWay first bodies was state begun known at → was ≡ body ∷ rest → length body ≤ longest_first
way_short first bodies was rest body state begun known at short way is =
    next_short first bodies was rest body state at short (replayed-so first bodies was state begun known at way) is

pub way_further : (first : ℕ) (bodies was rest : List (List ℕ)) (body : List ℕ) (old new : State) (begun more : Bool)
    (before behind : List Account) (snapshot : Bool) (at next : ℕ)
    → IsUnderWay first bodies was old begun before at → was ≡ body ∷ rest
    → HasNoted body old before new behind (Ok snapshot) → more ≡ (begun || snapshot) → next ≡ at + (length body + 5)
    → IsUnderWay first bodies rest new more behind next
way_further first bodies was rest body old new begun more before behind snapshot at next way is noted either same =
    let t = noted.made snapshot refl in
    let step = t.0 in
    let steps = way.steps in
    let replay = way.replayed in
    let possible : IsPossible (after steps) step =
    subst (λ (s : State). IsPossible s step) replay.state_is t.3 in
    record {
      done = way.done ++ body ∷ [];
      steps = steps ++ step ∷ [];
      are = way.are ∙ ap (λ (xs : List (List ℕ)). way.done ++ xs) is ∙ sym (append_assoc way.done (body ∷ []) rest);
      replayed = record {
        bodies_are = map-more steps step ∙ ap (λ (b : List ℕ). map body_of steps ++ b ∷ []) t.2
            ∙ ap (λ (bs : List (List ℕ)). bs ++ body ∷ []) replay.bodies_are;
        each = are-records-more steps step replay.each t.1;
        history = possible-more empty steps step replay.history possible;
        state_is = t.4 ∙ ap (λ (s : State). after_step s step) replay.state_is ∙ sym (after_from-more empty steps step);
      };
      begun_is = either ∙ ap (λ (b : Bool). b || snapshot) way.begun_is
          ∙ ap (λ (b : Bool). begins_with_snapshot steps || b) t.6 ∙ sym (begins-more steps step possible);
      known_are = t.5
          ∙ ap (λ (s : State). accounts_after s.lanes (class_of step) before) replay.state_is
          ∙ ap (accounts_after (after steps).lanes (class_of step)) way.known_are
          ∙ sym (accounts-more empty [] steps step);
      numbered = (let each = after_numbered old (class_of step) (when old step) before t.3.allowed way.numbered in
          subst (λ (ks : List Account). AreNumbered 0 ks new.lanes.count) (sym t.5)
          (subst
          (λ (s : State). AreNumbered 0 (accounts_after old.lanes (class_of step) before) s.lanes.count) (sym t.4)
          each));
      place = (let size = size-more first steps step in
          let long = ap length t.2 in
          let place = way.place in
          omega (arith, same, size, long, place));
    }

pub way_fits : (first : ℕ) (bodies rest : List (List ℕ)) (state : State) (begun : Bool) (known : List Account) (at : ℕ)
    → IsUnderWay first bodies rest state begun known at → at ≤ first + length (records bodies)
way_fits first bodies rest state begun known at way =
    replay_fits first bodies rest state at (replayed-so first bodies rest state begun known at way)

pub way_ascending : (first : ℕ) (bodies rest : List (List ℕ)) (state : State) (begun : Bool) (known : List Account)
    (at : ℕ) → IsUnderWay first bodies rest state begun known at → AreAscending known
way_ascending first bodies rest state begun known at way = (state.lanes.count, way.numbered)

pub way_stopped : (first : ℕ) (bodies was rest : List (List ℕ)) (body : List ℕ) (old new : State) (begun : Bool)
    (before behind : List Account) (why : NotMade) (at : ℕ) → IsUnderWay first bodies was old begun before at
    → was ≡ body ∷ rest → HasNoted body old before new behind (Err why)
    → HasStopped first bodies (open_why why at)
way_stopped first bodies was rest body old new begun before behind why at way is noted =
    replay_stopped first bodies was rest body old new why at (replayed-so first bodies was old begun before at way) is
    (noted-refused body old new before behind why noted)

pub way_ended : (first : ℕ) (bodies rest : List (List ℕ)) (state : State) (begun : Bool) (known : List Account) (at : ℕ)
    (side : Side) → IsUnderWay first bodies rest state begun known at → rest ≡ [] → IsSideAt state begun known side
    → IsSide bodies side
way_ended first bodies rest state begun known at side way none is = record {
  steps = way.steps;
  bodies_are = way.replayed.bodies_are ∙ sym whole;
  each = way.replayed.each;
  history = way.replayed.history;
  side_is = record {
    own = is.own ∙ ap (λ (s : State). own_by s.machine) way.replayed.state_is;
    begun_is = is.begun_is ∙ way.begun_is;
    accounts_are = is.accounts_are
        ∙ ap (λ (s : State). with_endings s.lanes.open_lanes known) way.replayed.state_is
        ∙ ap (with_endings (after way.steps).lanes.open_lanes) way.known_are;
  };
} where
  whole : bodies ≡ way.done
  whole = way.are ∙ ap (λ (xs : List (List ℕ)). way.done ++ xs) none ∙ append-nil way.done
