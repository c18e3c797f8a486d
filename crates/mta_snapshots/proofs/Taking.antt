-- Marks that are taken, one after the other.
use Rattle.std.proofs.Common.{◌≡◌, ℕ, zero, suc, ◌+◌, ◌≤◌, ◌<◌, Bool, true, false, cond, eqb, List, [], ◌∷◌, length}
use Rattle.std.proofs.Common.{map}
use Rattle.std.proofs.Common.{get_or, drop, set, Option, Some, None, refl, sym, ap, subst, ◌∙◌, arith, inl, inr}
use Rattle.std.specs.Prelude.{◌↔◌, ◌&&◌, ◌||◌, not, slice_get, option_and_then}
use Rattle.std.proofs.lemmas.Bool.{eqb-true, eq-eqb, and_parts, and_from, or_cases, or_left, or_right}
use Rattle.std.proofs.lemmas.List.{drop_all, drop_more}
use Rattle.mta_records.specs.State.{Transfer, Lane}
use Rattle.mta_records.specs.declared.state.Status.{Status}
use Rattle.mta_machine.specs.Items.{ItemValue, numbered, names, has_status, is_pending, status_in}
use Rattle.mta_machine.proofs.Numbered.{set-same, set-other, set-none}
use Rattle.mta_histories.specs.Lanes.{State, is_transferring, is_for, holds, activities_of}
use Rattle.mta_histories.proofs.LaneLists.{bit_of}
use Rattle.std.proofs.lemmas.List.Sums.{sum_by-cons}
use Rattle.mta_snapshots.specs.Fits.{AreOnce, HasDifferent}
use Rattle.mta_snapshots.specs.Marks.{is_marked, mark_in, mark_at, is_waiting, marks_in, AreFree, AreGone, IsFreeFor}
use Rattle.mta_snapshots.specs.Marks.{AreGoneFor, AreOnceAmong}
use Rattle.mta_snapshots.proofs.Each.{next, not_so}

-- ---- truth values

kept_mark : (m a b : Bool) → m ≡ true → b ≡ false → (m && not (a && b)) ≡ true
kept_mark true true true p q = absurd cc
kept_mark true true false p q = refl
kept_mark true false b p q = refl
kept_mark false a b p q = absurd cc

gone_mark : (m a b : Bool) → a ≡ true → b ≡ true → (m && not (a && b)) ≡ false
gone_mark m true true p q = none m
  where
    none : (x : Bool) → (x && false) ≡ false
    none true = refl
    none false = refl
gone_mark m true false p q = absurd cc
gone_mark m false b p q = absurd cc

in_turn : (m a b c : Bool) → ((m && not (a && b)) && not (a && c)) ≡ (m && not (a && (b || c)))
in_turn true true true c = refl
in_turn true true false c = refl
in_turn true false b c = refl
in_turn false a b c = refl

unmarked : (m b : Bool) → b ≡ false → m ≡ (m && not b)
unmarked true true e = absurd cc
unmarked true false e = refl
unmarked false b e = refl

-- ---- the mark of one recipient

-- that mark was gone already
pub gone_already : (marks : List (List Bool)) (i r : ℕ) → mark_at marks i r ≡ false → (j q : ℕ)
    → mark_at marks j q ≡ (mark_at marks j q && not (eqb j i && eqb q r))
gone_already marks i r none j q = by_place (eqb j i && eqb q r) refl
  where
    by_place : (b : Bool) → (eqb j i && eqb q r) ≡ b → mark_at marks j q ≡ (mark_at marks j q && not b)
    by_place true is =
        let parts = and_parts (eqb j i) (eqb q r) is in
        let here : mark_at marks j q ≡ false =
        ap (λ (k : ℕ). mark_at marks k q) (eqb-true j i parts.0)
        ∙ (ap (λ (k : ℕ). mark_at marks i k) (eqb-true q r parts.1) ∙ none) in
        rw here refl
    by_place false is = unmarked (mark_at marks j q) false refl

pub no_item : (marks : List (List Bool)) (i r : ℕ) → i ≡ 0 → mark_at marks i r ≡ false
no_item marks i r none = ap (λ (k : ℕ). mark_at marks k r) none

pub no_recipient : (marks : List (List Bool)) (i r : ℕ) → r ≡ 0 → mark_at marks i r ≡ false
no_recipient marks i r none = ap (λ (k : ℕ). mark_at marks i k) none ∙ at (numbered marks i)
  where
    at : (o : Option (List Bool)) → mark_in o 0 ≡ false
    at None = refl
    at (Some flags) = refl

-- the mark at a place of an item's
flag_gone : (flags : List Bool) (p q : ℕ)
    → is_marked (numbered (set flags p false) q) ≡ (is_marked (numbered flags q) && not (eqb q (suc p)))
flag_gone flags p q = by_place (eqb q (suc p)) refl
  where
    there : (o : Option Bool) → slice_get flags p ≡ o → is_marked (slice_get (set flags p false) p) ≡ false
    there None none = ap is_marked (set-none flags (suc p) (suc p) false none)
    there (Some b) some = ap is_marked (set-same flags (suc p) false b some)

    none : (m : Bool) → (m && false) ≡ false
    none true = refl
    none false = refl

    by_place : (b : Bool) → eqb q (suc p) ≡ b
        → is_marked (numbered (set flags p false) q) ≡ (is_marked (numbered flags q) && not b)
    by_place true is =
        ap (λ (k : ℕ). is_marked (numbered (set flags p false) k)) (eqb-true q (suc p) is)
        ∙ (there (slice_get flags p) refl ∙ sym (none (is_marked (numbered flags q))))
    by_place false is =
        ap is_marked (set-other flags (suc p) q false is) ∙ unmarked (is_marked (numbered flags q)) false refl

module _ (marks : List (List Bool)) (i r k p : ℕ) (item_is : i ≡ suc k) (recipient_is : r ≡ suc p) where
  pub no_such_item : slice_get marks k ≡ None → mark_at marks i r ≡ false
  no_such_item none = ap (λ (n : ℕ). mark_at marks n r) item_is ∙ ap (λ (o : Option (List Bool)). mark_in o r) none

  pub mark_was : (flags : List Bool) (b : Bool) → slice_get marks k ≡ Some flags
      → b ≡ is_marked (slice_get flags p) → b ≡ mark_at marks i r
  mark_was flags b found was =
      was
      ∙ sym (ap (λ (n : ℕ). mark_at marks n r) item_is
      ∙ (ap (λ (o : Option (List Bool)). mark_in o r) found
      ∙ ap (λ (n : ℕ). is_marked (numbered flags n)) recipient_is))

  pub mark_gone : (flags new : List Bool) (marks' : List (List Bool)) → slice_get marks k ≡ Some flags
      → new ≡ set flags p false → marks' ≡ set marks k new → (j q : ℕ)
      → mark_at marks' j q ≡ (mark_at marks j q && not (eqb j i && eqb q r))
  mark_gone flags new marks' found gone put j q =
      ap (λ (ms : List (List Bool)). mark_at ms j q) (put ∙ ap (set marks k) gone)
      ∙ (by_item (eqb j (suc k)) refl
      ∙ (ap (λ (n : ℕ). mark_at marks j q && not (eqb j n && eqb q (suc p))) (sym item_is)
      ∙ ap (λ (n : ℕ). mark_at marks j q && not (eqb j i && eqb q n)) (sym recipient_is)))
    where
      by_item : (b : Bool) → eqb j (suc k) ≡ b
          → mark_at (set marks k (set flags p false)) j q ≡ (mark_at marks j q && not (b && eqb q (suc p)))
      by_item true is =
          let here : j ≡ suc k = eqb-true j (suc k) is in
          ap (λ (n : ℕ). mark_at (set marks k (set flags p false)) n q) here
          ∙ (ap (λ (o : Option (List Bool)). mark_in o q) (set-same marks (suc k) (set flags p false) flags found)
          ∙ (flag_gone flags p q
          ∙ (ap (λ (o : Option (List Bool)). mark_in o q && not (eqb q (suc p))) (sym found)
          ∙ ap (λ (n : ℕ). mark_at marks n q && not (eqb q (suc p))) (sym here))))
      by_item false is =
          ap (λ (o : Option (List Bool)). mark_in o q) (set-other marks (suc k) j (set flags p false) is)
          ∙ unmarked (mark_at marks j q) false refl

-- ---- the marks of several recipients

module _ (old new : List (List Bool)) (i r : ℕ) (b : Bool) (was : b ≡ mark_at old i r)
    (gone : (j q : ℕ) → mark_at new j q ≡ (mark_at old j q && not (eqb j i && eqb q r))) (rs : List ℕ)
  where
    free_first : AreFree old i (r ∷ rs) → b ≡ true
    free_first free = was ∙ free.free r (or_left (eqb r r) (names rs r) (eq-eqb r r refl))

    free_others : AreFree old i (r ∷ rs) → AreFree new i rs
    free_others free = record {
      different = free.different.1;
      free = λ q named. by_same q named (eqb q r) refl;
    }
      where
        by_same : (q : ℕ) → names rs q ≡ true → (x : Bool) → eqb q r ≡ x → mark_at new i q ≡ true
        by_same q named true is =
            let again : names rs r ≡ true = subst (λ (k : ℕ). names rs k ≡ true) (eqb-true q r is) named in
            let never = free.different.0 in
            absurd cc
        by_same q named false is =
            gone i q
            ∙ kept_mark (mark_at old i q) (eqb i i) (eqb q r) (free.free q (or_right (eqb q r) (names rs q) named)) is

    free_all : b ≡ true → AreFree new i rs → AreFree old i (r ∷ rs)
    free_all does free = record {
      different = (by_named (names rs r) refl, free.different);
      free = λ q named. elim (or_cases (eqb q r) (names rs q) named) [
        | inl same ↦ ap (λ (k : ℕ). mark_at old i k) (eqb-true q r same) ∙ (sym was ∙ does)
        | inr later ↦ (and_parts (mark_at old i q) (not (eqb i i && eqb q r)) (sym (gone i q) ∙ free.free q later)).0
      ];
    }
      where
        by_named : (x : Bool) → names rs r ≡ x → x ≡ false
        by_named true is =
            let marked : mark_at new i r ≡ true = free.free r is in
            let unmarked_now : mark_at new i r ≡ false =
            gone i r ∙ gone_mark (mark_at old i r) (eqb i i) (eqb r r) (eq-eqb i i refl) (eq-eqb r r refl) in
            absurd cc
        by_named false is = refl

    left_others : (j q : ℕ) → (mark_at new j q && not (eqb j i && names rs q))
        ≡ (mark_at old j q && not (eqb j i && names (r ∷ rs) q))
    left_others j q =
        ap (λ (x : Bool). x && not (eqb j i && names rs q)) (gone j q)
        ∙ in_turn (mark_at old j q) (eqb j i) (eqb q r) (names rs q)

-- what is left of the marks once all these recipients are taken
abbrev pub AreLeft : (old now : List (List Bool)) → ℕ → (all rest : List ℕ) → Type 0
AreLeft old now i all rest = (j q : ℕ) → (mark_at now j q && not (eqb j i && names rest q))
    ≡ (mark_at old j q && not (eqb j i && names all q))

-- the first ones are taken
pub record AreTaking (old now : List (List Bool)) (i : ℕ) (all rest : List ℕ) : Type 0 where
  pub same : AreFree old i all ↔ AreFree now i rest
  pub left : AreLeft old now i all rest

pub taking_first : (marks : List (List Bool)) (i : ℕ) (all : List ℕ) → AreTaking marks marks i all (drop 0 all)
taking_first marks i all = record { same = (λ e. e, λ e. e); left = λ j q. refl }

module _ (old now new : List (List Bool)) (i : ℕ) (all : List ℕ) (k : ℕ) (b : Bool) (within : k < length all)
    (way : AreTaking old now i all (drop k all)) (was : b ≡ mark_at now i (get_or all k 0))
  where
    pub taking_next : ((j q : ℕ) → mark_at new j q ≡ (mark_at now j q && not (eqb j i && eqb q (get_or all k 0))))
        → b ≡ true → AreTaking old new i all (drop (k + 1) all)
    taking_next gone does =
        let rest = drop (k + 1) all in
        let at = drop_more all k 0 within in
        record {
          same = (
            λ e. free_others now new i (get_or all k 0) b was gone rest (subst (AreFree now i) at (way.same.0 e)),
            λ e. way.same.1 (subst (AreFree now i) (sym at)
                (free_all now new i (get_or all k 0) b was gone rest does e)),
          );
          left = λ j q. left_others now new i (get_or all k 0) b was gone rest j q
              ∙ subst (λ (xs : List ℕ). (mark_at now j q && not (eqb j i && names xs q))
              ≡ (mark_at old j q && not (eqb j i && names all q))) at (way.left j q);
        }

    pub taking_never : b ≡ false → (false ≡ true) ↔ AreFree old i all
    taking_never isnt = (
      λ e. absurd cc,
      λ e.
          let at = drop_more all k 0 within in
          let free = subst (AreFree now i) at (way.same.0 e) in
          let marked : mark_at now i (get_or all k 0) ≡ true =
          free.free (get_or all k 0)
          (or_left (eqb (get_or all k 0) (get_or all k 0)) (names (drop (k + 1) all) (get_or all k 0))
          (eq-eqb (get_or all k 0) (get_or all k 0) refl)) in
          absurd cc,
    )

pub taking_done : (old now : List (List Bool)) (i : ℕ) (all : List ℕ) (k : ℕ) → length all ≤ k
    → AreTaking old now i all (drop k all) → (true ≡ true) ↔ AreFree old i all
taking_done old now i all k past way = (
  λ e. way.same.1 (subst (AreFree now i) (sym (drop_all k all past))
      (record { different = tt; free = λ r named. absurd cc })),
  λ e. refl,
)

pub taken_gone : (old now : List (List Bool)) (i : ℕ) (all : List ℕ) (k : ℕ) → length all ≤ k
    → AreTaking old now i all (drop k all) → AreGone old now i all
taken_gone old now i all k past way j q =
    none (mark_at now j q) (eqb j i)
    ∙ subst (λ (xs : List ℕ). (mark_at now j q && not (eqb j i && names xs q))
    ≡ (mark_at old j q && not (eqb j i && names all q))) (drop_all k all past) (way.left j q)
  where
    none : (m a : Bool) → m ≡ (m && not (a && false))
    none true true = refl
    none true false = refl
    none false a = refl

-- ---- the marks of those for whom a lane transfers

module _ (marks : List (List Bool)) (lane : Lane) where
  pub not_moving : is_transferring lane.sending ≡ false → (true ≡ true) ↔ IsFreeFor marks lane
  not_moving isnt = (
    λ e. record {
      different = λ moves. absurd cc;
      free = λ i r has.
          let parts = and_parts (is_transferring lane.sending) (is_for i r lane.transfer) has in
          let moves = parts.0 in
          absurd cc;
    },
    λ e. refl,
  )

  pub not_moving_gone : is_transferring lane.sending ≡ false → AreGoneFor marks marks lane
  not_moving_gone isnt j q =
      unmarked (mark_at marks j q) (holds j q lane) (ap (λ (b : Bool). b && is_for j q lane.transfer) isnt)

  holds_nothing : lane.transfer ≡ None → (j q : ℕ) → holds j q lane ≡ false
  holds_nothing none j q =
      ap (λ (o : Option Transfer). is_transferring lane.sending && is_for j q o) none
      ∙ at (is_transferring lane.sending)
    where
      at : (b : Bool) → (b && false) ≡ false
      at true = refl
      at false = refl

  pub nothing_moves : lane.transfer ≡ None → (true ≡ true) ↔ IsFreeFor marks lane
  nothing_moves none = (
    λ e. record {
      different = λ moves. subst HasDifferent (sym none) tt;
      free = λ i r has. let never = holds_nothing none i r in absurd cc;
    },
    λ e. refl,
  )

  pub nothing_moves_gone : lane.transfer ≡ None → AreGoneFor marks marks lane
  nothing_moves_gone none j q = unmarked (mark_at marks j q) (holds j q lane) (holds_nothing none j q)

  module _ (t : Transfer) (moves : is_transferring lane.sending ≡ true) (is : lane.transfer ≡ Some t) where
    holds_is : (j q : ℕ) → holds j q lane ≡ (eqb j t.item && names t.recipients q)
    holds_is j q =
        ap (λ (o : Option Transfer). is_transferring lane.sending && is_for j q o) is
        ∙ ap (λ (b : Bool). b && (eqb j t.item && names t.recipients q)) moves

    pub moving : (b : Bool) → (b ≡ true) ↔ AreFree marks t.item t.recipients → (b ≡ true) ↔ IsFreeFor marks lane
    moving b test = (
      λ e.
          let free = test.0 e in
          record {
            different = λ m. subst HasDifferent (sym is) free.different;
            free = λ i r has.
                let parts = and_parts (eqb i t.item) (names t.recipients r) (sym (holds_is i r) ∙ has) in
                ap (λ (k : ℕ). mark_at marks k r) (eqb-true i t.item parts.0) ∙ free.free r parts.1;
          },
      λ free. test.1 (record {
        different = subst HasDifferent is (free.different moves);
        free = λ r named. free.free t.item r
            (holds_is t.item r ∙ and_from (eqb t.item t.item) (names t.recipients r) (eq-eqb t.item t.item refl) named);
      }),
    )

    pub moving_gone : (new : List (List Bool)) → AreGone marks new t.item t.recipients → AreGoneFor marks new lane
    moving_gone new gone j q = gone j q ∙ ap (λ (b : Bool). mark_at marks j q && not b) (sym (holds_is j q))

-- ---- lanes one after the other

once_left : (m h : Bool) (n : ℕ) → bit_of h + n ≤ cond m 1 0 → n ≤ cond (m && not h) 1 0
once_left true true n p = omega (arith, p)
once_left true false n p = omega (arith, p)
once_left false true n p = absurd (omega (arith, p))
once_left false false n p = omega (arith, p)

once_more : (m h : Bool) (n : ℕ) → (h ≡ true → m ≡ true) → n ≤ cond (m && not h) 1 0 → bit_of h + n ≤ cond m 1 0
once_more true true n f p = omega (arith, p)
once_more true false n f p = omega (arith, p)
once_more false true n f p = let never : false ≡ true = f refl in absurd cc
once_more false false n f p = omega (arith, p)

marked_of : (m h : Bool) (n : ℕ) → bit_of h + n ≤ cond m 1 0 → h ≡ true → m ≡ true
marked_of true h n p e = refl
marked_of false true n p e = absurd (omega (arith, p))
marked_of false false n p e = absurd cc

count-cons : (lane : Lane) (lanes : List Lane) (i r : ℕ)
    → activities_of (lane ∷ lanes) i r ≡ bit_of (holds i r lane) + activities_of lanes i r
count-cons lane lanes i r = sum_by-cons (λ (x : Lane). cond (holds i r x) 1 0) lane lanes

module _ (old : List (List Bool)) (lane : Lane) (lanes : List Lane) where
  counted : AreOnceAmong old (lane ∷ lanes) → (i r : ℕ)
      → bit_of (holds i r lane) + activities_of lanes i r ≤ cond (mark_at old i r) 1 0
  counted once i r = subst (λ (n : ℕ). n ≤ cond (mark_at old i r) 1 0) (count-cons lane lanes i r) (once.once i r)

  once_free : AreOnceAmong old (lane ∷ lanes) → IsFreeFor old lane
  once_free once = record {
    different = once.different.0;
    free = λ i r has.
        marked_of (mark_at old i r) (holds i r lane) (activities_of lanes i r) (counted once i r) has;
  }

  module _ (new : List (List Bool)) (gone : AreGoneFor old new lane) where
    once_others : AreOnceAmong old (lane ∷ lanes) → AreOnceAmong new lanes
    once_others once = record {
      different = once.different.1;
      once = λ i r. subst (λ (b : Bool). activities_of lanes i r ≤ cond b 1 0) (sym (gone i r))
          (once_left (mark_at old i r) (holds i r lane) (activities_of lanes i r) (counted once i r));
    }

    once_all : IsFreeFor old lane → AreOnceAmong new lanes → AreOnceAmong old (lane ∷ lanes)
    once_all free once = record {
      different = (free.different, once.different);
      once = λ i r. subst (λ (n : ℕ). n ≤ cond (mark_at old i r) 1 0) (sym (count-cons lane lanes i r))
          (once_more (mark_at old i r) (holds i r lane) (activities_of lanes i r) (free.free i r)
          (subst (λ (b : Bool). activities_of lanes i r ≤ cond b 1 0) (gone i r) (once.once i r)));
    }

module _ (first old : List (List Bool)) (all : List Lane) (k : ℕ) (lane : Lane) (b : Bool) (within : k < length all)
    (is : lane ≡ get_or all k lane) (test : (b ≡ true) ↔ IsFreeFor old lane)
    (way : AreOnceAmong first all ↔ AreOnceAmong old (drop k all))
  where
    pub each_next : (new : List (List Bool)) → AreGoneFor old new lane → b ≡ true
        → AreOnceAmong first all ↔ AreOnceAmong new (drop (k + 1) all)
    each_next new gone does =
        let rest = drop (k + 1) all in
        let at = next all k lane within is in (
          λ e. once_others old lane rest new gone (subst (AreOnceAmong old) at (way.0 e)),
          λ e. way.1 (subst (AreOnceAmong old) (sym at) (once_all old lane rest new gone (test.0 does) e)),
        )

    pub each_never_free : b ≡ false → (false ≡ true) ↔ AreOnceAmong first all
    each_never_free isnt =
        let rest = drop (k + 1) all in
        let at = next all k lane within is in (
          λ e. absurd cc,
          λ e. absurd (not_so b test isnt (once_free old lane rest (subst (AreOnceAmong old) at (way.0 e)))),
        )

pub each_free : (first old : List (List Bool)) (all : List Lane) (k : ℕ) → length all ≤ k
    → AreOnceAmong first all ↔ AreOnceAmong old (drop k all) → (true ≡ true) ↔ AreOnceAmong first all
each_free first old all k past way = (
  λ e. way.1 (subst (AreOnceAmong old) (sym (drop_all k all past))
      (record { different = tt; once = λ i r. omega arith })),
  λ e. refl,
)

-- ---- the marks at first

flag_at_first : (ss : List (Option Status)) (k : ℕ)
    → is_marked (slice_get (map is_waiting ss) k) ≡ has_status is_pending (slice_get ss k)
flag_at_first [] k = refl
flag_at_first (s ∷ ss) zero = refl
flag_at_first (s ∷ ss) (suc k) = flag_at_first ss k

flag_numbered : (ss : List (Option Status)) (r : ℕ)
    → is_marked (numbered (map is_waiting ss) r) ≡ has_status is_pending (numbered ss r)
flag_numbered ss zero = refl
flag_numbered ss (suc k) = flag_at_first ss k

mark_get : (items : List ItemValue) (k r : ℕ)
    → mark_in (slice_get (map marks_in items) k) r
    ≡ has_status is_pending (option_and_then (λ (item : ItemValue). numbered item.statuses r) (slice_get items k))
mark_get [] k r = refl
mark_get (item ∷ items) zero r = flag_numbered item.statuses r
mark_get (item ∷ items) (suc k) r = mark_get items k r

mark_at_first : (items : List ItemValue) (i r : ℕ)
    → mark_at (map marks_in items) i r ≡ has_status is_pending (status_in items i r)
mark_at_first items zero r = refl
mark_at_first items (suc k) r = mark_get items k r

pub once_is : (b : Bool) (s : State) → (b ≡ true) ↔ AreOnceAmong (map marks_in s.machine.items) s.lanes.open_lanes
    → (b ≡ true) ↔ AreOnce s
once_is b s test = (
  λ e.
      let once = test.0 e in
      record {
        different = once.different;
        once = λ i r. subst (λ (m : Bool). activities_of s.lanes.open_lanes i r ≤ cond m 1 0)
            (mark_at_first s.machine.items i r) (once.once i r);
      },
  λ once. test.1 (record {
    different = once.different;
    once = λ i r. subst (λ (m : Bool). activities_of s.lanes.open_lanes i r ≤ cond m 1 0)
        (sym (mark_at_first s.machine.items i r)) (once.once i r);
  }),
)
