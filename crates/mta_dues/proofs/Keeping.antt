-- What is aside, and what rests, as an agenda changes.
use Rattle.std.proofs.Common.{inl, inr, ◌≡◌, ◌≢◌, ℕ, ◌+◌, ◌≤◌, ◌<◌, Bool, true, false, cond, List, [], ◌∷◌}
use Rattle.std.proofs.Common.{length, Option, Some, None, refl, sym, ap, ◌∙◌, arith}
use Rattle.std.specs.Prelude.{◌⊎◌, ◌↔◌, max, slice_get, IsSome}
use Rattle.std.specs.declared.cmp.Ordering.{Ordering}
use Rattle.std.specs.Ordering.{is_eq, is_gt, nat_cmp, ordering_then}
use Rattle.std.specs.BTreeMap.{is_at}
use Rattle.std.specs.BTreeSet.{BTreeSet, contains, contains_by, IsLowerBound, Updates, UpdatesBy}
use Rattle.std.proofs.lemmas.Bool.{cases_lt}
use Rattle.std.proofs.lemmas.Cmp.{by_ranked, ranked}
use Rattle.mta_dues.specs.Agendas.{AgendaValue, AllLater, IsAllCalled, IsAside, IsFirst, IsLetGo, IsPutOff, KeepsAll}
use Rattle.mta_dues.specs.Agendas.{is_active, is_later, pair_cmp, Rests}

abbrev with_sets : AgendaValue → BTreeSet ℕ → BTreeSet (ℕ × ℕ) → AgendaValue
with_sets a active later = record a { active = active; later = later }

-- ---- what is found in a set

apart-at : (n i : ℕ) → i ≢ n → is_at (nat_cmp n) i ≡ false
apart-at n i apart =
    by_ranked (n < i) (n ≡ i) (i < n) (nat_cmp n i) (ranked n i (nat_cmp n i) refl) (λ e p. ap is_eq e)
    (λ e p. absurd (apart (sym p))) (λ e p. ap is_eq e)

more-with : {K : Type 0} (cmp : K → K → Ordering) (old new : BTreeSet K) (k q : K) → Updates cmp old new k true
    → contains cmp old q ≡ true → contains cmp new q ≡ true
more-with cmp old new k q updates is = updates.0 q ∙ by_test (is_at (cmp k) q) (contains cmp old q) is
  where
    by_test : (b c : Bool) → c ≡ true → cond b true c ≡ true
    by_test true c is = refl
    by_test false c is = is

-- what is found with one more was found before, or is that one
was-or-is : {K : Type 0} (cmp : K → K → Ordering) (old new : BTreeSet K) (k q : K) → Updates cmp old new k true
    → contains cmp new q ≡ true → (contains cmp old q ≡ true) ⊎ (is_at (cmp k) q ≡ true)
was-or-is cmp old new k q updates is = by_test (is_at (cmp k) q) (contains cmp old q) refl (sym (updates.0 q) ∙ is)
  where
    by_test : (b c : Bool) → is_at (cmp k) q ≡ b → cond b true c ≡ true
        → (c ≡ true) ⊎ (is_at (cmp k) q ≡ true)
    by_test true c at is = inr at
    by_test false c at is = inl is

same-moment : (u v : ℕ) (o : Ordering) → is_eq (ordering_then (nat_cmp u v) o) ≡ true → u ≡ v
same-moment u v o is =
    by_ranked (u < v) (u ≡ v) (v < u) (nat_cmp u v) (ranked u v (nat_cmp u v) refl)
    (λ e p. let never = sym is ∙ ap (λ (x : Ordering). is_eq (ordering_then x o)) e in absurd cc)
    (λ e p. p)
    (λ e p. let never = sym is ∙ ap (λ (x : Ordering). is_eq (ordering_then x o)) e in absurd cc)

not-after : (u v : ℕ) (o : Ordering) → is_gt (ordering_then (nat_cmp u v) o) ≡ false → u ≤ v
not-after u v o is =
    by_ranked (u < v) (u ≡ v) (v < u) (nat_cmp u v) (ranked u v (nat_cmp u v) refl)
    (λ e p. omega (arith, p)) (λ e p. omega (arith, p))
    (λ e p. let never = sym is ∙ ap (λ (x : Ordering). is_gt (ordering_then x o)) e in absurd cc)

-- ---- more is active

still-inactive : (old new : AgendaValue) (i : ℕ) → (is_active old i ≡ true → is_active new i ≡ true)
    → is_active new i ≡ false → is_active old i ≡ false
still-inactive old new i more none = by_test (is_active old i) refl
  where
    by_test : (b : Bool) → is_active old i ≡ b → is_active old i ≡ false
    by_test true is = let does = more is in absurd cc
    by_test false is = is

pub keeps_more : (old new : AgendaValue)
    → ((i : ℕ) → is_active old i ≡ true → is_active new i ≡ true)
    → ((i : ℕ) → i ≤ new.known → (i ≤ old.known) ⊎ (is_active new i ≡ true))
    → ((until i : ℕ) → is_later old until i ≡ true → (is_later new until i ≡ true) ⊎ (is_active new i ≡ true))
    → old.since ≤ new.since → KeepsAll old new
keeps_more old new more known later since = record {
  aside = aside;
  rests = λ i moment r. record {
    aside = aside i r.aside;
    since = (let from = r.since in omega (arith, since, from));
    later = λ until is. at i moment until r (later until i is);
  };
} where
  known_as : (i : ℕ) → IsAside new i → (i ≤ old.known) ⊎ (is_active new i ≡ true) → i ≤ old.known
  known_as i a (inl is) = is
  known_as i a (inr does) = let none = a.inactive in absurd cc

  aside : (i : ℕ) → IsAside new i → IsAside old i
  aside i a = record {
    from = a.from;
    known = known_as i a (known i a.known);
    inactive = still-inactive old new i (more i) a.inactive;
  }

  at : (i moment until : ℕ) → Rests new i moment → (is_later new until i ≡ true) ⊎ (is_active new i ≡ true)
      → moment < until
  at i moment until r (inl is) = r.later until is
  at i moment until r (inr does) = let none = r.aside.inactive in absurd cc

pub keeps_self : (a : AgendaValue) → KeepsAll a a
keeps_self a = record { aside = λ i is. is; rests = λ i moment r. r }

pub keeps_trans : (a b c : AgendaValue) → KeepsAll a b → KeepsAll b c → KeepsAll a c
keeps_trans a b c one two = record {
  aside = λ i is. one.aside i (two.aside i is);
  rests = λ i moment r. one.rests i moment (two.rests i moment r);
}

-- where nothing is known, nothing is aside
pub keeps_none : (old new : AgendaValue) → new.known ≡ 0 → KeepsAll old new
keeps_none old new none = record {
  aside = λ i a. absurd (never i a);
  rests = λ i moment r. absurd (never i r.aside);
} where
  never : (i : ℕ) → IsAside new i → ⊥
  never i a = let from = a.from in let known = a.known in omega (arith, from, known, none)

-- ---- one number more is known

pub next_taken : (a : AgendaValue) (active : BTreeSet ℕ) (number : ℕ) → number ≡ a.known + 1
    → Updates nat_cmp a.active active number true
    → KeepsAll a (record { active = active; later = a.later; since = a.since; known = number })
next_taken a active number is updates =
    keeps_more a (record { active = active; later = a.later; since = a.since; known = number })
    (λ i does. more-with nat_cmp a.active active number i updates does)
    (λ i low. elim (cases i low) [ inl below ↦ inl below | inr same ↦ inr (at i same) ])
    (λ until i later. inl later) (omega arith)
  where
    cases : (i : ℕ) → i ≤ number → (i ≤ a.known) ⊎ (i ≡ number)
    cases i low = elim (cases_lt a.known i) [
      | inl above ↦ inr (omega (arith, low, above, is))
      | inr below ↦ inl below
    ]

    at : (i : ℕ) → i ≡ number → contains nat_cmp active i ≡ true
    at i same = ap (contains nat_cmp active) same ∙ updates.1

-- ---- the first that becomes active

pub none_later : (a : AgendaValue) (moment : ℕ) → length a.later.keys ≡ 0 → AllLater a moment
none_later a moment empty until i is = by_keys a.later.keys empty is
  where
    by_keys : (keys : List (ℕ × ℕ)) → length keys ≡ 0
        → contains_by (pair_cmp (until, i)) (record { keys = keys }) ≡ true → moment < until
    by_keys [] e is = absurd cc
    by_keys (k ∷ keys) e is = absurd (omega (arith, e))

pub nothing_first : {A : Type 0} (a : AgendaValue) (first : Option A) → IsSome first ↔ (0 < length a.later.keys)
    → first ≡ None → length a.later.keys ≡ 0
nothing_first a None variant is = elim (cases_lt 0 (length a.later.keys)) [
  | inl some ↦ (let never = variant.1 some in absurd cc)
  | inr none ↦ omega (arith, none)
]
nothing_first a (Some k) variant is = absurd cc

pub all_later : (a : AgendaValue) (moment : ℕ) (first : ℕ × ℕ) → moment < first.0
    → IsLowerBound pair_cmp a.later first → AllLater a moment
all_later a moment first above least until i is =
    let up : first.0 ≤ until = not-after first.0 until (nat_cmp first.1 i) (least (until, i) is) in
    omega (arith, above, up)

pub first_is : (a : AgendaValue) (first : ℕ × ℕ) → slice_get a.later.keys 0 ≡ Some first → IsFirst a first.1
first_is a first is = by_keys a.later.keys refl is
  where
    by_keys : (keys : List (ℕ × ℕ)) → a.later.keys ≡ keys → slice_get keys 0 ≡ Some first → IsFirst a first.1
    by_keys [] are is = absurd cc
    by_keys (k ∷ keys) are is =
        let same : k ≡ first = cc in
        record { until = first.0; rest = keys; are = are ∙ ap (λ (x : ℕ × ℕ). x ∷ keys) same }

-- ---- turns

pub all_called : (a : AgendaValue) (count moment : ℕ) → count ≤ a.known → a.since ≤ moment → AllLater a moment
    → IsAllCalled a count moment
all_called a count moment known since later = record { known = known; since = since; later = later }

-- ---- one number rests

still-others : (old new : AgendaValue) (number i : ℕ)
    → UpdatesBy nat_cmp (nat_cmp number) old.active new.active false → i ≢ number → is_active new i ≡ false
    → is_active old i ≡ false
still-others old new number i updates apart none = sym (updates.2 i (apart-at number i apart)) ∙ none

pub put_off : (old new : AgendaValue) (number moment until : ℕ) → new.known ≡ old.known
    → new.since ≡ max old.since moment → Updates pair_cmp old.later new.later (until, number) true
    → UpdatesBy nat_cmp (nat_cmp number) old.active new.active false → moment < until
    → IsPutOff old new number moment until
put_off old new number moment until known since later updates above = record {
  others = record {
    aside = aside;
    rests = λ i n apart r. record {
      aside = aside i apart r.aside;
      since = (let from = r.since in omega (arith, since, from));
      later = λ u is. r.later u (more-with pair_cmp old.later new.later (until, number) (u, i) later is);
    };
  };
  within = λ n r. (let from = r.since in omega (arith, since, from), r.later until later.1);
  called = λ count all. record {
    known = (let high = all.known in omega (arith, known, high));
    since = (let low = all.since in omega (arith, since, low));
    later = λ u i is. at count all u i (was-or-is pair_cmp old.later new.later (until, number) (u, i) later is);
  };
} where
  aside : (i : ℕ) → i ≢ number → IsAside new i → IsAside old i
  aside i apart a = record {
    from = a.from;
    known = (let high = a.known in omega (arith, known, high));
    inactive = still-others old new number i updates apart a.inactive;
  }

  at : (count : ℕ) → IsAllCalled old count moment → (u i : ℕ)
      → (is_later old u i ≡ true) ⊎ (is_at (pair_cmp (until, number)) (u, i) ≡ true) → moment < u
  at count all u i (inl before) = all.later u i before
  at count all u i (inr here) =
      let same : until ≡ u = same-moment until u (nat_cmp number i) here in
      omega (arith, above, same)

-- who rests until a moment rests until one behind it at the latest
pub put_off_by : (old new : AgendaValue) (number moment short until : ℕ) → short ≤ until
    → IsPutOff old new number moment short → IsPutOff old new number moment until
put_off_by old new number moment short until most off = record {
  others = off.others;
  within = λ n r. (let at = off.within n r in (at.0, (let less = at.1 in omega (arith, less, most))));
  called = off.called;
}

pub let_go : (old : AgendaValue) (active : BTreeSet ℕ) (number : ℕ)
    → UpdatesBy nat_cmp (nat_cmp number) old.active active false
    → IsLetGo old (with_sets old active old.later) number
let_go old active number updates = record {
  others = record {
    aside = aside;
    rests = λ i n apart r. record { aside = aside i apart r.aside; since = r.since; later = r.later };
  };
  called = λ count moment all. record { known = all.known; since = all.since; later = all.later };
} where
  aside : (i : ℕ) → i ≢ number
      → IsAside (with_sets old active old.later) i
      → IsAside old i
  aside i apart a = record {
    from = a.from;
    known = a.known;
    inactive = still-others old (with_sets old active old.later)
        number i updates apart a.inactive;
  }

pub ruleset begin_laws = (keeps_self, keeps_none)

pub ruleset turn_laws = (keeps_self, keeps_trans, all_called)
