-- Steps that are added to a spool.
use Rattle.std.proofs.Common.{◌≡◌, ℕ, ◌+◌, ◌≤◌, List, [], ◌∷◌, ◌++◌, map, max, None, Some}
use Rattle.std.proofs.Common.{Bool, true, false}
use Rattle.std.proofs.Common.{cond, refl, sym, ap, subst, ◌∙◌, append_assoc, arith, inl, inr}
use Rattle.std.proofs.lemmas.Bool.{cases_Bool}
use Rattle.std.proofs.lemmas.List.{append-nil}
use Rattle.std.proofs.lemmas.List.Sums.{sum_by-cons}
use Rattle.mta_edge.specs.Views.{DiskView, DiskLaws}
use Rattle.std.specs.Prelude.{◌⊎◌}
use Rattle.mta_journal.specs.Shown.{Shown as JournalShown, Holds, IsPlain}
use Rattle.mta_images.specs.Image.{IsSnapshot}
use Rattle.mta_records.specs.declared.step.Step.{Step}
use Rattle.mta_records.specs.declared.fault.StepFault.{StepFault}
use Rattle.mta_records.specs.declared.fault.StepFault.TheVariants as StepFaults
use Rattle.mta_records.specs.Body.{body_of}
use Rattle.mta_histories.specs.Lanes.{State, empty}
use Rattle.mta_histories.specs.Classes.{LaneStep, agree, bind, start, confirm, to_end, settle, abandon, secure}
use Rattle.mta_histories.specs.Classes.{complete}
use Rattle.mta_histories.specs.Classes.{drop_pieces, close, Class, class_of}
use Rattle.mta_histories.specs.Classes as classes
use Rattle.mta_histories.specs.History.{IsHistory, IsPossible, ArePossible, when, after, after_step, after_from}
use Rattle.mta_histories.proofs.Runs.{possible-more}
use Rattle.mta_spool.specs.Shown.{Shown}
use Rattle.mta_spool.specs.Stands.{Stands, IsOfNoLane, Appends}
use Rattle.mta_spool.specs.Turning.{IsUnchanged}
use Rattle.mta_spool.specs.Moments.{IsTimed}
use Rattle.mta_commands.specs.Submit.{IsOwnOnLane, IsOwnOf, IsOwn, AreOwn, turn_of_class, turn_of, turn_behind}
use Rattle.mta_commands.specs.Submit.{AreInTurn, turn_after}
use Rattle.mta_commands.specs.Submit.{takes_apdu, is_accept, accepts, Adds}
use Rattle.mta_spool.proofs.Crashing.{still, made, torn, leaves_then}
use Rattle.mta_commands.proofs.Same.{some_same}

-- ---- histories

pub after_append : (s : State) (a b : List Step) → after_from s (a ++ b) ≡ after_from (after_from s a) b
after_append s [] b = refl
after_append s (step ∷ a) b = after_append (after_step s step) a b

-- the last step of a history is possible behind the others
pub last_possible : (s : State) (steps : List Step) (step : Step) → ArePossible s (steps ++ step ∷ [])
    → IsPossible (after_from s steps) step
last_possible s [] step p = p.0
last_possible s (x ∷ steps) step p = last_possible (after_step s x) steps step p.1

pub possible_front : (s : State) (a b : List Step) → ArePossible s (a ++ b) → ArePossible s a
possible_front s [] b p = tt
possible_front s (step ∷ a) b p = (p.0, possible_front (after_step s step) a b p.1)

pub possible_back : (s : State) (a b : List Step) → ArePossible s (a ++ b) → ArePossible (after_from s a) b
possible_back s [] b p = p
possible_back s (step ∷ a) b p = possible_back (after_step s step) a b p.1

-- ---- whose the steps are

pub own_append : (tells : ℕ → Type 0) (conf input : List ℕ) (s : State) (a b : List Step)
    → AreOwn tells conf input s a → AreOwn tells conf input (after_from s a) b
    → AreOwn tells conf input s (a ++ b)
own_append tells conf input s [] b p q = q
own_append tells conf input s (step ∷ a) b p q = (p.0, own_append tells conf input (after_step s step) a b p.1 q)

pub timed_more : (tells other : ℕ → Type 0) (last moment : ℕ) → ((t : ℕ) → tells t → other t)
    → IsTimed tells last moment → IsTimed other last moment
timed_more tells other last moment more t = (t.0, more t.0 t.1, t.2)

on_lane_more : (tells other : ℕ → Type 0) (last moment : ℕ) (step : LaneStep)
    → ((t : ℕ) → tells t → other t) → IsOwnOnLane tells last step moment
    → IsOwnOnLane other last step moment
on_lane_more tells other last moment (agree checkpoint window) more own = own
on_lane_more tells other last moment bind more own = own
on_lane_more tells other last moment (start k i rs) more own = own
on_lane_more tells other last moment (confirm k n) more own = own
on_lane_more tells other last moment (to_end k) more own = own
on_lane_more tells other last moment (settle outcome k) more own = own
on_lane_more tells other last moment (abandon k) more own = timed_more tells other last moment more own
on_lane_more tells other last moment (secure k n piece) more own = own
on_lane_more tells other last moment (complete k n piece) more own = own
on_lane_more tells other last moment (drop_pieces k) more own = own
on_lane_more tells other last moment close more own = own

class_more : (tells other : ℕ → Type 0) (conf input : List ℕ) (last moment : ℕ) (c : Class)
    → ((t : ℕ) → tells t → other t) → IsOwnOf tells conf input last c moment
    → IsOwnOf other conf input last c moment
class_more tells other conf input last moment (classes.accepts octets) more own =
    (own.0, timed_more tells other last moment more own.1)
class_more tells other conf input last moment (classes.settles how i r) more own =
    timed_more tells other last moment more own
class_more tells other conf input last moment (classes.on_lane n generation step) more own =
    on_lane_more tells other last moment step more own
class_more tells other conf input last moment any6 more own = own

own_one : (tells other : ℕ → Type 0) (conf input : List ℕ) (s : State) (step : Step)
    → ((t : ℕ) → tells t → other t) → IsOwn tells conf input s step → IsOwn other conf input s step
own_one tells other conf input s step more own =
    class_more tells other conf input s.moment (when s step) (class_of step) more own

pub own_more : (tells other : ℕ → Type 0) (conf input : List ℕ) (s : State) (a : List Step)
    → ((t : ℕ) → tells t → other t) → AreOwn tells conf input s a → AreOwn other conf input s a
own_more tells other conf input s [] more own = tt
own_more tells other conf input s (step ∷ a) more own =
    (own_one tells other conf input s step more own.0, own_more tells other conf input (after_step s step) a more own.1)

-- ---- their order

pub turn_append : (turn : ℕ) (a b : List Step) → AreInTurn turn a → AreInTurn (turn_after turn a) b
    → AreInTurn turn (a ++ b)
turn_append turn [] b p q = q
turn_append turn (step ∷ a) b p q = (p.0, p.1, turn_append (turn_behind step) a b p.2 q)

pub turn_after_append : (turn : ℕ) (a b : List Step) → turn_after turn (a ++ b) ≡ turn_after (turn_after turn a) b
turn_after_append turn [] b = refl
turn_after_append turn (step ∷ a) b = turn_after_append (turn_behind step) a b

pub front_in_turn : (turn : ℕ) (a b : List Step) → AreInTurn turn (a ++ b) → AreInTurn turn a
front_in_turn turn [] b p = tt
front_in_turn turn (step ∷ a) b p = (p.0, p.1, front_in_turn (turn_behind step) a b p.2)

-- what is due keeps the turn
pub turn_stays : (a : List Step) → AreInTurn 2 a → turn_after 2 a ≡ 2
turn_stays [] p = refl
turn_stays (step ∷ a) p =
    let behind : turn_behind step ≡ 2 = omega (arith, p.0) in
    ap (λ (k : ℕ). turn_after k a) behind ∙ turn_stays a (subst (λ (k : ℕ). AreInTurn k a) behind p.2)

pub accepts_append : (a b : List Step) → accepts (a ++ b) ≡ accepts a + accepts b
accepts_append [] b = omega arith
accepts_append (step ∷ a) b = omega (
  arith,
  sum_by-cons (λ (x : Step). cond (is_accept x) 1 0) step (a ++ b),
  sum_by-cons
      (λ (x : Step). cond (is_accept x) 1 0) step a,
  accepts_append a b,
)

accepts_cons : (step : Step) (a : List Step) → accepts (step ∷ a) ≡ cond (is_accept step) 1 0 + accepts a
accepts_cons step a = sum_by-cons (λ (x : Step). cond (is_accept x) 1 0) step a

-- the turn of an Accept, and of what takes no APDU
taking_turn : (c : Class) → takes_apdu c ≡ true → turn_of_class c ≡ 1
taking_turn (classes.accepts octets) e = refl
taking_turn any0 e = absurd cc

late_takes_none : (c : Class) → 2 ≤ turn_of_class c → takes_apdu c ≡ false
late_takes_none (classes.records text) late = absurd (omega (arith, late))
late_takes_none (classes.accepts octets) late = absurd (omega (arith, late))
late_takes_none any0 late = refl

taken_count : (step : Step) (b : Bool) → is_accept step ≡ b
    → ◌≡◌ {A = ℕ} (cond (is_accept step) 1 0) (cond b 1 0)
taken_count step b e = ap (λ (x : Bool). cond x 1 0) e

-- what is due takes no APDU
pub none_due : (a : List Step) → AreInTurn 2 a → accepts a ≡ 0
none_due [] p = refl
none_due (step ∷ a) p =
    let behind : turn_behind step ≡ 2 = omega (arith, p.0) in
    let none = taken_count step false (late_takes_none (class_of step) p.0) in
    let rest = none_due a (subst (λ (k : ℕ). AreInTurn k a) behind p.2) in
    omega (arith, accepts_cons step a, none, rest)

-- steps that come in their turns take one APDU at most
pub one_accept : (turn : ℕ) (a : List Step) → AreInTurn turn a → accepts a ≤ 1
one_accept turn [] p = let none : accepts [] ≡ 0 = refl in omega (arith, none)
one_accept turn (step ∷ a) p =
    elim (cases_Bool (is_accept step)) [
      | inl takes ↦ (
          let one = taken_count step true takes in
          let behind : turn_behind step ≡ 2 = omega (arith, taking_turn (class_of step) takes) in
          let rest = none_due a (subst (λ (k : ℕ). AreInTurn k a) behind p.2) in
          omega (arith, accepts_cons step a, one, rest))
      | inr other ↦ (
          let none = taken_count step false other in
          omega (arith, accepts_cons step a, none, one_accept (turn_behind step) a p.2))
    ]

-- ---- what was added

-- a step was refused: nothing was done, or the disk failed in it
pub record Refusing {D C : Type 0} (disks : DiskView D) (tells : ℕ → Type 0) (step : Step) (old new : Shown D C)
    (failed : Type 0) : Type 0 where
  pub torn_step : List Step
  pub at_most : (torn_step ≡ []) ⊎ (torn_step ≡ step ∷ [])
  pub adds : (conf input : List ℕ)
      → ((steps : List Step) → Stands disks old steps → IsOwn tells conf input (after steps) step)
      → Adds disks tells conf input old new [] torn_step failed

module _ {D C : Type 0} (disks : DiskView D) where
  -- a spool that differs by its clock alone stands for the same
  pub stands_along : (old new : Shown D C) (steps : List Step) → IsUnchanged old new → Stands disks old steps
      → Stands disks new steps
  stands_along old new steps is s = record {
    holds = subst (λ (j : JournalShown D). Holds disks j (map body_of steps)) (sym is.0) s.holds;
    each = s.each;
    state_is = is.1 ∙ s.state_is;
    history = s.history;
    alone = subst (λ (j : JournalShown D). (IsPlain j.first → ⊥) → IsSnapshot steps) (sym is.0) s.alone;
  }

  -- nothing was done
  pub adds_still : DiskLaws disks
      → (tells : ℕ → Type 0) (conf input : List ℕ) (old new : Shown D C) (failed : Type 0)
      → IsUnchanged old new → Adds disks tells conf input old new [] [] failed
  adds_still laws tells conf input old new failed is = record {
    stands = λ calm steps s. subst (Stands disks new) (sym (append-nil steps)) (stands_along old new steps is s);
    calm = λ calm. refl;
    one = omega arith;
    later = omega (arith, ap (λ (j : JournalShown D). disks.faults j.disk) is.0);
    told = λ f told. (f, ap (λ (j : JournalShown D). disks.content j.disk) is.0 ∙ told);
    place = ap (λ (j : JournalShown D). j.first) is.0;
    entries = is.2 ∙ sym (append-nil old.entries);
    history = λ steps s. subst IsHistory (sym (append-nil steps)) s.history;
    own = λ steps s. tt;
    leaves = λ f told steps s. still disks laws old new is.0 f told steps s;
  }

  -- a step was made
  pub adds_one : (tells : ℕ → Type 0) (conf input : List ℕ) (step : Step) (old new : Shown D C) (failed : Type 0)
      → Appends disks step old new None
      → ((steps : List Step) → Stands disks old steps → IsOwn tells conf input (after steps) step)
      → Adds disks tells conf input old new (step ∷ []) [] failed
  adds_one tells conf input step old new failed appends own = record {
    stands = λ calm steps s. appends.done refl steps s;
    calm = λ calm. refl;
    one = omega arith;
    later = appends.later;
    told = appends.told;
    place = appends.place;
    entries = appends.entries;
    history = λ steps s. (appends.done refl steps s).history;
    own = λ steps s. (own steps s, tt);
    leaves = λ f told steps s.
        made disks step old new (appends.crash (inl refl)) f told steps s appends.told (appends.done refl steps s);
  }

  -- the disk failed in a step
  pub adds_torn : (tells : ℕ → Type 0) (conf input : List ℕ) (step : Step) (old new : Shown D C) (failed : Type 0)
      → failed → Appends disks step old new (Some StepFaults.Disk)
      → ((steps : List Step) → Stands disks old steps → IsOwn tells conf input (after steps) step)
      → Adds disks tells conf input old new [] (step ∷ []) failed
  adds_torn tells conf input step old new failed so appends own = record {
    stands = λ calm. absurd (calm so);
    calm = λ calm. absurd (calm so);
    one = omega arith;
    later = appends.later;
    told = appends.told;
    place = appends.place;
    entries = appends.entries ∙ sym (append-nil old.entries);
    history = λ steps s. possible-more empty steps step s.history ((appends.crash (inr refl)).possible steps s);
    own = λ steps s. (own steps s, tt);
    leaves = λ f told steps s. torn disks step old new (appends.crash (inr refl)) f told steps s;
  }

  pub unchanged : (step : Step) (old new : Shown D C) (fault : StepFault) → (fault ≡ StepFaults.Disk → ⊥)
      → Appends disks step old new (Some fault) → IsUnchanged old new
  unchanged step old new fault other appends =
      let same = appends.kept (λ e. absurd cc) (λ e. other (some_same fault StepFaults.Disk e)) in
      (same.0, same.1, appends.entries)

  pub adds_refused : DiskLaws disks
      → (tells : ℕ → Type 0) (step : Step) (old new : Shown D C) (fault : StepFault) (failed : Type 0)
      → (fault ≡ StepFaults.Disk → failed) → IsOfNoLane (Some fault) → Appends disks step old new (Some fault)
      → Refusing disks tells step old new failed
  adds_refused laws tells step old new StepFaults.Disk failed so no_lane appends =
      record {
        torn_step = step ∷ [];
        at_most = inr refl;
        adds = λ conf input own. adds_torn tells conf input step old new failed (so refl) appends own;
      }
  adds_refused laws tells step old new (StepFaults.Full size need) failed so no_lane appends =
      record {
        torn_step = [];
        at_most = inl refl;
        adds = λ conf input own. adds_still laws tells conf input old new
            failed (unchanged step old new (StepFaults.Full size need) (λ e. absurd cc) appends);
      }
  adds_refused laws tells step old new (StepFaults.Spent last) failed so no_lane appends =
      record {
        torn_step = [];
        at_most = inl refl;
        adds = λ conf input own. adds_still laws tells conf input old new
            failed (unchanged step old new (StepFaults.Spent last) (λ e. absurd cc) appends);
      }
  adds_refused laws tells step old new StepFaults.Ended failed so no_lane appends =
      record {
        torn_step = [];
        at_most = inl refl;
        adds = λ conf input own. adds_still laws tells conf input old new
            failed (unchanged step old new StepFaults.Ended (λ e. absurd cc) appends);
      }
  adds_refused laws tells step old new StepFaults.Memory failed so no_lane appends =
      record {
        torn_step = [];
        at_most = inl refl;
        adds = λ conf input own. adds_still laws tells conf input old new
            failed (unchanged step old new StepFaults.Memory (λ e. absurd cc) appends);
      }
  adds_refused laws tells step old new any5 failed so no_lane appends = absurd no_lane

  -- a row in which the disk did not fail
  pub adds_calm : (tells : ℕ → Type 0) (conf input : List ℕ) (old new : Shown D C) (a torn_step : List Step)
      (failed : Type 0) → (failed → ⊥) → Adds disks tells conf input old new a torn_step failed
      → Adds disks tells conf input old new a [] ⊥
  adds_calm tells conf input old new a torn_step failed calm p =
      let q = subst (λ (t : List Step). Adds disks tells conf input old new a t failed) (p.calm calm) p in
      record {
        stands = λ w. q.stands calm;
        calm = λ w. refl;
        one = q.one;
        later = q.later;
        told = q.told;
        place = q.place;
        entries =
            q.entries;
        history = q.history;
        own = q.own;
        leaves = q.leaves;
      }

  pub adds_then : (tells : ℕ → Type 0) (conf input : List ℕ) (old mid new : Shown D C) (a b torn_step : List Step)
      (failed : Type 0) → Adds disks tells conf input old mid a [] ⊥
      → Adds disks tells conf input mid new b torn_step failed
      → Adds disks tells conf input old new (a ++ b) torn_step failed
  adds_then tells conf input old mid new a b torn_step failed p q =
      let whole : a ++ (b ++ torn_step) ≡ (a ++ b) ++ torn_step = sym (append_assoc a b torn_step) in
      record {
        stands = λ other steps s. subst (Stands disks new) (append_assoc steps a b)
            (q.stands other (steps ++ a) (p.stands (λ w. w) steps s));
        calm = q.calm;
        one = q.one;
        later = omega (arith, p.later, q.later);
        told = λ f told. let x = p.told f told in q.told x.0 x.1;
        place = q.place ∙ p.place;
        entries = q.entries ∙ (ap (λ (x : List Step). x ++ b) p.entries ∙ append_assoc old.entries a b);
        history = λ steps s. subst IsHistory
            (append_assoc steps a (b ++ torn_step) ∙ ap (λ (x : List Step). steps ++ x) whole)
            (q.history (steps ++ a) (p.stands (λ w. w) steps s));
        own = λ steps s.
            let first : AreOwn tells conf input (after steps) a = subst (AreOwn tells conf input (after steps))
            (append-nil a) (p.own steps s) in
            subst (AreOwn tells conf input (after steps)) whole
            (own_append tells conf input (after steps) a (b ++ torn_step) first
            (subst (λ (x : State). AreOwn tells conf input x (b ++ torn_step)) (after_append empty steps a)
            (q.own (steps ++ a) (p.stands (λ w. w) steps s))));
        leaves = λ f told steps s.
            let x = p.told f told in
            leaves_then disks steps a b torn_step old.journal.disk mid.journal.disk new.journal.disk
            (p.leaves f told steps s) (q.leaves x.0 x.1 (steps ++ a) (p.stands (λ w. w) steps s));
      }

  pub adds_more : (tells other : ℕ → Type 0) (conf input : List ℕ) (old new : Shown D C) (a torn_step : List Step)
      (failed : Type 0) → ((t : ℕ) → tells t → other t)
      → Adds disks tells conf input old new a torn_step failed
      → Adds disks other conf input old new a torn_step failed
  adds_more tells other conf input old new a torn_step failed more p =
      record {
        stands = p.stands;
        calm = p.calm;
        one = p.one;
        later = p.later;
        told = p.told;
        place = p.place;
        entries = p.entries;
        history = p.history;
        own = λ steps s. own_more tells other conf input (after steps) (a ++ torn_step) more
            (p.own steps s);
        leaves = p.leaves;
      }

  pub adds_unless : (tells : ℕ → Type 0) (conf input : List ℕ) (old new : Shown D C) (a torn_step : List Step)
      (failed other : Type 0) → (failed → other) → Adds disks tells conf input old new a torn_step failed
      → Adds disks tells conf input old new a torn_step other
  adds_unless tells conf input old new a torn_step failed other from p =
      record {
        stands = λ calm. p.stands (λ w. calm (from w));
        calm = λ calm. p.calm (λ w. calm (from w));
        one =
            p.one;
        later = p.later;
        told = p.told;
        place = p.place;
        entries = p.entries;
        history = p.history;
        own = p.own;
        leaves =
            p.leaves;
      }

-- a step that was refused has its turn
pub turn_refused : (turn : ℕ) (step : Step) (torn_step : List Step) → turn ≤ turn_of step
    → turn_of step ≤ max turn 1 → (torn_step ≡ []) ⊎ (torn_step ≡ step ∷ []) → AreInTurn turn torn_step
turn_refused turn step torn_step low high (inl e) = subst (AreInTurn turn) (sym e) tt
turn_refused turn step torn_step low high (inr e) = subst (AreInTurn turn) (sym e) (low, high, tt)
