-- Items stay sound, whatever the machine does.
use Rattle.std.proofs.Common.{◌≡◌, ℕ, zero, suc, ◌+◌, ◌≤◌, Bool, true, false, cond, eqb, List, [], ◌∷◌, ◌++◌, length}
use Rattle.std.proofs.Common.{map}
use Rattle.std.proofs.Common.{set, Option, Some, None, refl, sym, ap, subst, ◌∙◌, arith, inl, inr}
use Rattle.std.specs.Prelude.{is_some, slice_get, ◌||◌}
use Rattle.std.specs.List.{AllByRecursion}
use Rattle.std.proofs.lemmas.Bool.{cases_Bool, eqb-true, eq-eqb}
use Rattle.mta_apdu.specs.Apdus.{ApduValue, message, probe, report, canonical_apdu, longest_stored, SpellsStored}
use Rattle.mta_apdu.specs.Laws.{in_one_piece}
use Rattle.mta_apdu.proofs.ApduAgain.{stored_again, stored_kept}
use Rattle.mta_apdu.proofs.ApduLaws.{stored_full}
use Rattle.mta_records.specs.Snapshots.{since}
use Rattle.mta_records.specs.declared.state.Status.{Status}
use Rattle.mta_machine.specs.Apdu.{value_read, value_of, is_report, responsible_in, IsApdu, IsStoredAs}
use Rattle.mta_machine.specs.Items.{ItemValue, Machine, numbered, set_numbered, names, status_at_first, statuses_of}
use Rattle.mta_machine.specs.Items.{statuses_read, status_in, status_at, is_pending, has_status}
use Rattle.mta_machine.specs.Machine.{Discharge, delivered, expanded, affirmed, not_delivered, failed, discarded}
use Rattle.mta_machine.specs.Machine.{passed}
use Rattle.mta_machine.specs.Machine.{sent, MachineStep, set_tables, set_format, accept, discharge, machine_after}
use Rattle.mta_machine.specs.Machine.{machine_run}
use Rattle.mta_machine.specs.Machine.{IsRun, Needs, with_statuses, status_after, discharged_item, items_after, made_for}
use Rattle.mta_machine.specs.Machine.{own_item, accepted_item, last_tables, ArePending}
use Rattle.mta_machine.proofs.Numbered.{set-same, set-other}
use Rattle.mta_machine.proofs.Once.{pending-is}
use Rattle.mta_machine.proofs.Steps.{item-of}
use Rattle.mta_histories.specs.Sound.{IsInTime, IsSoundItem}
use Rattle.mta_histories.specs.Items.{IsWritten, MakesWritten, MakeWritten, IsNow, AreNow, ItemsStaySound}

-- ---- each of a list

pub all-weaker : {A : Type 0} (P Q : A → Type 0) (xs : List A) → ((x : A) → P x → Q x) → AllByRecursion P xs
    → AllByRecursion Q xs
all-weaker P Q [] w each = tt
all-weaker P Q (x ∷ xs) w each = (w x each.0, all-weaker P Q xs w each.1)

pub all-append : {A : Type 0} (P : A → Type 0) (xs ys : List A) → AllByRecursion P xs → AllByRecursion P ys
    → AllByRecursion P (xs ++ ys)
all-append P [] ys p q = q
all-append P (x ∷ xs) ys p q = (p.0, all-append P xs ys p.1 q)

all-put : {A : Type 0} (P : A → Type 0) (xs : List A) (k : ℕ) (x : A) → P x → AllByRecursion P xs
    → AllByRecursion P (set xs k x)
all-put P [] k x p each = tt
all-put P (y ∷ ys) zero x p each = (p, each.1)
all-put P (y ∷ ys) (suc k) x p each = (each.0, all-put P ys k x p each.1)

all-set : {A : Type 0} (P : A → Type 0) (xs : List A) (n : ℕ) (x : A) → P x → AllByRecursion P xs
    → AllByRecursion P (set_numbered xs n x)
all-set P xs zero x p each = each
all-set P xs (suc k) x p each = all-put P xs k x p each

all-get : {A : Type 0} (P : A → Type 0) (xs : List A) (k : ℕ) (x : A) → slice_get xs k ≡ Some x → AllByRecursion P xs
    → P x
all-get P [] k x e each = absurd cc
all-get {A} P (y ∷ ys) zero x e each = subst P (same y x e) each.0
  where
    same : (a b : A) → Some a ≡ Some b → a ≡ b
    same a b f = cc
all-get P (y ∷ ys) (suc k) x e each = all-get P ys k x e each.1

all-at : {A : Type 0} (P : A → Type 0) (xs : List A) (n : ℕ) (x : A) → numbered xs n ≡ Some x → AllByRecursion P xs
    → P x
all-at P xs zero x e each = absurd cc
all-at P xs (suc k) x e each = all-get P xs k x e each

-- ---- the statuses of an item whose recipients are discharged

abbrev Given : List (Option Status) → ℕ → Type 0
Given ss r = (p : Status) × (numbered ss r ≡ Some (Some p))

flags-put : (ss : List (Option Status)) (k : ℕ) (p s : Status) → slice_get ss k ≡ Some (Some p)
    → map is_some (set ss k (Some s)) ≡ map is_some ss
flags-put [] k p s e = refl
flags-put (x ∷ ss) zero p s e = ap (λ (b : Bool). b ∷ map is_some ss) (sym (given x e))
  where
    given : (o : Option Status) → Some o ≡ Some (Some p) → is_some o ≡ true
    given None f = absurd cc
    given (Some q) f = refl
flags-put (x ∷ ss) (suc k) p s e = ap (λ (bs : List Bool). is_some x ∷ bs) (flags-put ss k p s e)

flags-set : (ss : List (Option Status)) (r : ℕ) (s : Status) → Given ss r
    → map is_some (set_numbered ss r (Some s)) ≡ map is_some ss
flags-set ss zero s g = refl
flags-set ss (suc k) s g = flags-put ss k g.0 s g.1

given-still : (ss : List (Option Status)) (q r : ℕ) (s : Status) → Given ss r → Given (set_numbered ss q (Some s)) r
given-still ss q r s g = elim (cases_Bool (eqb r q)) [
  | inl same ↦ (
    s,
    subst (λ (k : ℕ). numbered (set_numbered ss k (Some s)) r ≡ Some (Some s)) (eqb-true r q same)
        (set-same ss r (Some s) (Some g.0) g.1),
  )
  | inr apart ↦ (g.0, set-other ss q r (Some s) apart ∙ g.1)
]

flags-stay : (ss : List (Option Status)) (rs : List ℕ) (s : Status) → ((r : ℕ) → names rs r ≡ true → Given ss r)
    → map is_some (with_statuses ss rs s) ≡ map is_some ss
flags-stay ss [] s given = refl
flags-stay ss (q ∷ rs) s given =
    flags-stay (set_numbered ss q (Some s)) rs s
    (λ r named. given-still ss q r s (given r (behind (eqb r q) (names rs r) named)))
    ∙ flags-set ss q s (given q (here (eqb q q) (names rs q) (own q)))
  where
    behind : (a b : Bool) → b ≡ true → (a || b) ≡ true
    behind true b e = refl
    behind false b e = e

    here : (a b : Bool) → a ≡ true → (a || b) ≡ true
    here true b e = refl
    here false b e = absurd cc

    own : (n : ℕ) → eqb n n ≡ true
    own n = eq-eqb n n refl

times-stay : (n : ℕ) (ss : List (Option Status)) (rs : List ℕ) (s : Status) → since s ≤ n
    → AllByRecursion (IsInTime n) ss → AllByRecursion (IsInTime n) (with_statuses ss rs s)
times-stay n ss [] s le each = each
times-stay n ss (q ∷ rs) s le each =
    times-stay n (set_numbered ss q (Some s)) rs s le (all-set (IsInTime n) ss q (Some s) le each)

since-after : (b : Bool) (how : Discharge) (moment : ℕ) → since (status_after b how moment) ≡ moment
since-after b delivered moment = refl
since-after b expanded moment = refl
since-after b affirmed moment = refl
since-after true (not_delivered reason diagnostic) moment = refl
since-after false (not_delivered reason diagnostic) moment = refl
since-after true (failed failure) moment = refl
since-after false (failed failure) moment = refl
since-after b discarded moment = refl
since-after b passed moment = refl
since-after b (sent peer tables decided format) moment = refl

-- ---- items

item-weaker : (m n : ℕ) (item : ItemValue) → m ≤ n → IsSoundItem m item → IsSoundItem n item
item-weaker m n item le is = record {
  spelled = is.spelled;
  arrived = omega (arith, le, is.arrived);
  timely = all-weaker (IsInTime m) (IsInTime n) item.statuses later is.timely;
}
  where
    later : (o : Option Status) → IsInTime m o → IsInTime n o
    later None t = tt
    later (Some s) t = omega (arith, le, t)

discharged-sound : (item : ItemValue) (rs : List ℕ) (how : Discharge) (moment : ℕ)
    → ((r : ℕ) → names rs r ≡ true → Given item.statuses r) → IsSoundItem moment item
    → IsSoundItem moment (discharged_item item rs how moment)
discharged-sound item rs how moment given is =
    let s : Status = status_after (is_report (value_of item.octets)) how moment in
    record {
      spelled = λ short. (
        (is.spelled short).0,
        (is.spelled short).1,
        flags-stay item.statuses rs s given ∙ (is.spelled short).2,
      );
      arrived = is.arrived;
      timely = times-stay moment item.statuses rs s
          (omega (arith, since-after (is_report (value_of item.octets)) how moment)) is.timely;
    }

first-flags : (bs : List Bool) → map is_some (map status_at_first bs) ≡ bs
first-flags [] = refl
first-flags (true ∷ bs) = ap (λ (xs : List Bool). true ∷ xs) (first-flags bs)
first-flags (false ∷ bs) = ap (λ (xs : List Bool). false ∷ xs) (first-flags bs)

first-times : (n : ℕ) (bs : List Bool) → AllByRecursion (IsInTime n) (map status_at_first bs)
first-times n [] = tt
first-times n (true ∷ bs) = (omega arith, first-times n bs)
first-times n (false ∷ bs) = (tt, first-times n bs)

-- what is written is read again, with the same recipients
read-again : (v : ApduValue) → IsWritten v → length (canonical_apdu v) ≤ longest_stored
    → (w : ApduValue) × IsStoredAs (canonical_apdu v) w × (responsible_in w ≡ responsible_in v)
unfolding value_of responsible_in
read-again (message m) written short = (
  in_one_piece (message m),
  record {
    read = ap value_read (stored_again (message m) written.0 written.1 short);
    whole = written.0;
    kept = written.1;
  },
  refl,
)
read-again (probe e) written short = (
  probe e,
  record {
    read = ap value_read (stored_again (probe e) written.0 written.1 short);
    whole = written.0;
    kept = written.1;
  },
  refl,
)
read-again (report p) written short = (
  report p,
  record {
    read = ap value_read (stored_again (report p) written.0 written.1 short);
    whole = written.0;
    kept = written.1;
  },
  refl,
)

own-sound : (moment : ℕ) (vs : List ApduValue) → AllByRecursion IsWritten vs
    → AllByRecursion (IsSoundItem moment) (map (own_item moment) vs)
own-sound moment [] written = tt
own-sound moment (v ∷ vs) written = (
  record {
    spelled = λ short. (
        let r = read-again v written.0 short in
        (r.0, r.1, first-flags (responsible_in v) ∙ sym r.2));
    arrived = omega arith;
    timely = first-times moment (responsible_in v);
  },
  own-sound moment vs written.1,
)

-- what is submitted or received spells an APDU once it is kept
accepted-stored : (octets : List ℕ) → IsApdu octets → (v : ApduValue) × IsStoredAs octets v
unfolding value_of
accepted-stored octets is =
    let stored : SpellsStored octets is.0 = record { short = omega (arith, is.1.short); whole = is.1.whole } in
    let k = stored_kept octets is.0 stored in
    (is.0, record { read = ap value_read (stored_full octets is.0 stored); whole = k.1; kept = k.0 })

accepted-sound : (octets : List ℕ) (o : Option ApduValue) (v : ApduValue) (moment : ℕ) → value_of octets ≡ Some v
    → o ≡ Some v → (map is_some (statuses_read o) ≡ responsible_in v)
    × AllByRecursion (IsInTime moment) (statuses_read o)
accepted-sound octets None v moment e is = absurd cc
accepted-sound octets (Some w) v moment e is =
    let same : w ≡ v = cc in
    (first-flags (responsible_in w) ∙ ap responsible_in same, first-times moment (responsible_in w))

-- ---- steps

given-pending : (m : Machine) (i : ℕ) (rs : List ℕ) (item : ItemValue) → numbered m.items i ≡ Some item
    → ArePending m i rs → (r : ℕ) → names rs r ≡ true → Given item.statuses r
given-pending m i rs item there pending r named =
    let p = pending-is (status_at m i r) (pending r named) in
    let f = item-of (numbered m.items i) r (Some p.0) p.1 in
    let same : f.0 ≡ item = some-same f.0 item (sym f.1 ∙ there) in
    (p.0, ap (λ (x : ItemValue). numbered x.statuses r) (sym same) ∙ f.2)
  where
    some-same : (a b : ItemValue) → Some a ≡ Some b → a ≡ b
    some-same a b g = cc

step-sound : (m : Machine) (step : MachineStep) (n : ℕ) → Needs m step → IsNow n step → MakesWritten m step
    → AllByRecursion (IsSoundItem n) m.items → AllByRecursion (IsSoundItem n) (machine_after m step).items
step-sound m (set_tables text) n needs now made each = each
step-sound m set_format n needs now made each = each
step-sound m (accept octets origin moment) n needs now made each =
    let s = accepted-stored octets needs.0 in
    let a = accepted-sound octets (value_of octets) s.0 n s.1.read s.1.read in
    all-append (IsSoundItem n) m.items (accepted_item octets origin moment ∷ []) each (
      record {
        spelled = λ short. (s.0, s.1, a.0);
        arrived = omega (arith, now);
        timely = a.1;
      },
      tt,
    )
step-sound m (discharge i rs how moment) n needs now made each = by_item (numbered m.items i) refl
  where
    by_item : (o : Option ItemValue) → numbered m.items i ≡ o
        → AllByRecursion (IsSoundItem n) (items_after m o i rs how moment)
    by_item None is = each
    by_item (Some item) is =
        subst (λ (k : ℕ). AllByRecursion (IsSoundItem k) (items_after m (Some item) i rs how moment)) now
        (all-append (IsSoundItem moment) (set_numbered m.items i (discharged_item item rs how moment))
        (map (own_item moment) (made_for m item (numbered m.tables (last_tables m)) rs how moment))
        (all-set (IsSoundItem moment) m.items i (discharged_item item rs how moment)
        (discharged-sound item rs how moment (given-pending m i rs item is needs.0)
        (all-at (IsSoundItem moment) m.items i item is here)) here)
        (own-sound moment (made_for m item (numbered m.tables (last_tables m)) rs how moment) (made item is)))
      where
        here : AllByRecursion (IsSoundItem moment) m.items
        here = subst (λ (k : ℕ). AllByRecursion (IsSoundItem k) m.items) (sym now) each

run-sound : (m : Machine) (steps : List MachineStep) (n : ℕ) → IsRun m steps → AreNow n steps → MakeWritten m steps
    → AllByRecursion (IsSoundItem n) m.items → AllByRecursion (IsSoundItem n) (machine_run m steps).items
run-sound m [] n run now made each = each
run-sound m (step ∷ steps) n run now made each =
    run-sound (machine_after m step) steps n run.1 now.1 made.1 (step-sound m step n run.0 now.0 made.0 each)

-- items stay sound over the steps of the machine that one step of the spool is
pub items_stay_sound : ItemsStaySound
items_stay_sound m steps before now le run at made each =
    run-sound m steps now run at made
    (all-weaker (IsSoundItem before) (IsSoundItem now) m.items (λ item. item-weaker before now item le) each)
