-- Recipients are counted in the queues where their routes lead.
use Rattle.std.proofs.Common.{◌≡◌, ◌≤◌, ◌<◌, ◌+◌, ◌^◌, ℕ, zero, suc, Bool, true, false, cond, eqb, List, [], ◌∷◌, ◌++◌}
use Rattle.std.proofs.Common.{inl, inr, length, Option, Some, None, refl, sym, ap, subst, ◌∙◌, arith}
use Rattle.std.specs.Prelude.{◌⊎◌, ◌↔◌, ◌==◌, count_by, is_some, min, slice_get}
use Rattle.std.specs.List.{list_any}
use Rattle.std.proofs.lemmas.Bool.{eq-eqb, eqb-true}
use Rattle.mta_queue.specs.declared.mark.Mark.{Mark}
use Rattle.mta_queue.specs.Marks.{is_at, is_waiting, mark_of, marks_in, route_by, row_of, set_mark, set_waits}
use Rattle.mta_queue.specs.Marks.{waits_for, waits_in}
use Rattle.mta_queue.specs.Queue.{IsWhole, QueueValue, count_beside, more_of, waits}
use Rattle.mta_queue.specs.Queues.{AreCounted, AreFor, AreListed, FitsAt, HasPlaces, HasRoom, IsListed, IsSomeAt}
use Rattle.mta_queue.specs.Queues.{IsWholeOf, QueuesValue}
use Rattle.mta_queue.specs.Queues.{IsCountedAs, MayCount}
use Rattle.mta_queue.specs.Queues.{more_at, place_of, places_at, room_at, waits_at, waits_by}
use Rattle.mta_queue.proofs.Beside.{listed}
use Rattle.mta_queue.proofs.Marked.{bit, counted_some, row_joined, row_left, row_less, row_more, row_other, row_same}
use Rattle.mta_queue.proofs.Marked.{same_or_not, set_length, some_counted, unequal}

more_here : (p : ℕ) (route : Option ℕ) (item : ℕ) → more_at p route item item ≡ bit (is_at p route)
more_here p None item = refl
more_here p (Some route) item = ap (λ (b : Bool). cond (eqb p route) (cond b 1 0) 0) (eq-eqb item item refl)

none_at : (b : Bool) → ◌≡◌ {A = ℕ} (cond b 0 0) 0
none_at true = refl
none_at false = refl

more_other : (p : ℕ) (route : Option ℕ) (item i : ℕ) → (i ≡ item → ⊥) → more_at p route item i ≡ 0
more_other p None item i never = refl
more_other p (Some route) item i never =
    ap (λ (b : Bool). cond (eqb p route) (cond b 1 0) 0) (unequal item i (λ same. never (sym same)))
    ∙ none_at (eqb p route)

-- ---- one waits no more

module _ (queues new : List QueueValue) (rows : List (List Mark)) (item r : ℕ) (m : Mark)
    (whole : IsWholeOf queues rows) (is : mark_of (row_of rows item) r ≡ Some m)
    (same : length new ≡ length queues) where
  few_still : (b : Bool) (j : ℕ) → length (row_of (set_mark rows item r b) j) < 2 ^ 32
  few_still b j = let e = set_length rows item r j b in let few = whole.few j in omega (arith, e, few)

  counted_left : m.waits ≡ true
      → ((p i : ℕ) → p < length queues → waits_at new p i + more_at p m.route item i ≡ waits_at queues p i)
      → AreCounted new (set_mark rows item r false)
  counted_left does fewer p i within =
      by_item (same_or_not i item) (whole.counted p i (omega (arith, within, same)))
      (fewer p i (omega (arith, within, same)))
    where
      by_item : (i ≡ item) ⊎ (i ≡ item → ⊥) → waits_at queues p i ≡ count_by (waits_for p) (row_of rows i)
          → waits_at new p i + more_at p m.route item i ≡ waits_at queues p i
          → waits_at new p i ≡ count_by (waits_for p) (row_of (set_mark rows item r false) i)
      by_item (inl at) before change =
          let left = row_left p (row_of rows item) r m is does in
          let more : more_at p m.route item i ≡ bit (is_at p m.route) =
          ap (λ (x : ℕ). more_at p m.route item x) at ∙ more_here p m.route item in
          let counts : count_by (waits_for p) (row_of rows i) ≡ count_by (waits_for p) (row_of rows item) =
          ap (λ (x : ℕ). count_by (waits_for p) (row_of rows x)) at in
          let now : count_by (waits_for p) (row_of (set_mark rows item r false) i)
          ≡ count_by (waits_for p) (set_waits (row_of rows item) r false) =
          ap (λ (x : ℕ). count_by (waits_for p) (row_of (set_mark rows item r false) x)) at
          ∙ ap (λ (x : List Mark). count_by (waits_for p) x) (row_same rows item r false) in
          omega (arith, before, change, left, more, counts, now)
      by_item (inr never) before change =
          let none = more_other p m.route item i never in
          let now : count_by (waits_for p) (row_of (set_mark rows item r false) i)
          ≡ count_by (waits_for p) (row_of rows i) =
          ap (λ (x : List Mark). count_by (waits_for p) x) (row_other rows item r i false never) in
          omega (arith, before, change, none, now)

  pub whole_left : m.waits ≡ true
      → ((p i : ℕ) → p < length queues → waits_at new p i + more_at p m.route item i ≡ waits_at queues p i)
      → IsWholeOf new (set_mark rows item r false)
  whole_left does fewer = record { counted = counted_left does fewer; few = few_still false }

  counted_joined : m.waits ≡ false
      → ((p i : ℕ) → p < length queues → waits_at new p i ≡ waits_at queues p i + more_at p m.route item i)
      → AreCounted new (set_mark rows item r true)
  counted_joined isnt more p i within =
      by_item (same_or_not i item) (whole.counted p i (omega (arith, within, same)))
      (more p i (omega (arith, within, same)))
    where
      by_item : (i ≡ item) ⊎ (i ≡ item → ⊥) → waits_at queues p i ≡ count_by (waits_for p) (row_of rows i)
          → waits_at new p i ≡ waits_at queues p i + more_at p m.route item i
          → waits_at new p i ≡ count_by (waits_for p) (row_of (set_mark rows item r true) i)
      by_item (inl at) before change =
          let joined = row_joined p (row_of rows item) r m is isnt in
          let one : more_at p m.route item i ≡ bit (is_at p m.route) =
          ap (λ (x : ℕ). more_at p m.route item x) at ∙ more_here p m.route item in
          let counts : count_by (waits_for p) (row_of rows i) ≡ count_by (waits_for p) (row_of rows item) =
          ap (λ (x : ℕ). count_by (waits_for p) (row_of rows x)) at in
          let now : count_by (waits_for p) (row_of (set_mark rows item r true) i)
          ≡ count_by (waits_for p) (set_waits (row_of rows item) r true) =
          ap (λ (x : ℕ). count_by (waits_for p) (row_of (set_mark rows item r true) x)) at
          ∙ ap (λ (x : List Mark). count_by (waits_for p) x) (row_same rows item r true) in
          omega (arith, before, change, joined, one, counts, now)
      by_item (inr never) before change =
          let none = more_other p m.route item i never in
          let now : count_by (waits_for p) (row_of (set_mark rows item r true) i)
          ≡ count_by (waits_for p) (row_of rows i) =
          ap (λ (x : List Mark). count_by (waits_for p) x) (row_other rows item r i true never) in
          omega (arith, before, change, none, now)

  pub whole_joined : m.waits ≡ false
      → ((p i : ℕ) → p < length queues → waits_at new p i ≡ waits_at queues p i + more_at p m.route item i)
      → IsWholeOf new (set_mark rows item r true)
  whole_joined isnt more = record { counted = counted_joined isnt more; few = few_still true }

  -- one is counted in or out
  pub whole_put : (b waits : Bool) → m.waits ≡ b → (b ≡ waits → ⊥)
      → ((p i : ℕ) → p < length queues
      → IsCountedAs waits (waits_at queues p i) (more_at p m.route item i) (waits_at new p i))
      → IsWholeOf new (set_mark rows item r waits)
  whole_put true true e differ counts = absurd (differ refl)
  whole_put true false e differ counts = whole_left e counts
  whole_put false true e differ counts = whole_joined e counts
  whole_put false false e differ counts = absurd (differ refl)

-- ---- before one is counted

module _ (queues : List QueueValue) (rows : List (List Mark)) (item r : ℕ) (m : Mark)
    (whole : IsWholeOf queues rows) (is : mark_of (row_of rows item) r ≡ Some m) where
  pub some_at : m.waits ≡ true → IsSomeAt queues m.route item
  some_at does = by_route m.route refl
    where
      by_route : (o : Option ℕ) → m.route ≡ o → IsSomeAt queues o item
      by_route None e = tt
      by_route (Some place) e = λ within.
          let at : is_at place m.route ≡ true = ap (is_at place) e ∙ eq-eqb place place refl in
          let one = row_more place (row_of rows item) r m is does at in
          let counted = whole.counted place item within in
          omega (arith, one, counted)

  pub fits_at : m.waits ≡ false → FitsAt queues m.route item
  fits_at isnt = by_route m.route
    where
      by_route : (o : Option ℕ) → FitsAt queues o item
      by_route None = tt
      by_route (Some place) = λ within.
          let less = row_less place (row_of rows item) r m is isnt in
          let few = whole.few item in
          let counted = whole.counted place item within in
          omega (arith, less, few, counted)

  pub may_count : (b waits : Bool) → m.waits ≡ b → (b ≡ waits → ⊥) → MayCount waits queues m.route item
  may_count true true e differ = absurd (differ refl)
  may_count true false e differ = some_at e
  may_count false true e differ = fits_at e
  may_count false false e differ = absurd (differ refl)

-- ---- what is lent

at_queue : (o : Option QueueValue) (q : QueueValue) (i : ℕ) → o ≡ Some q → waits_by o i ≡ waits q i
at_queue o q i e = ap (λ (x : Option QueueValue). waits_by x i) e

pub are_listed : (queues : List QueueValue) (rows : List (List Mark)) (place : ℕ) (q : QueueValue)
    → IsWholeOf queues rows → slice_get queues place ≡ Some q → IsWhole q.numbers q.counts
    → place < length queues → AreListed rows place q.numbers
are_listed queues rows place q whole is inside within = record {
  ascending = inside.ascending;
  each = λ i. (
    λ among. listed_one i (listed q.numbers q.counts i inside.both inside.some).0 among,
    λ one. (listed q.numbers q.counts i inside.both inside.some).1 (counted_one i one),
  );
}
  where
    count : (i : ℕ) → count_beside q.numbers q.counts i ≡ count_by (waits_for place) (row_of rows i)
    count i = sym (at_queue (slice_get queues place) q i is) ∙ whole.counted place i within

    listed_one : (i : ℕ)
        → (list_any (λ s. i == s) q.numbers ≡ true → 1 ≤ count_beside q.numbers q.counts i)
        → list_any (λ s. i == s) q.numbers ≡ true → IsListed rows place i
    listed_one i some among =
        let one = some among in
        let c = count i in
        counted_some place (row_of rows i) (omega (arith, one, c))

    counted_one : (i : ℕ) → IsListed rows place i → 1 ≤ count_beside q.numbers q.counts i
    counted_one i one =
        let some = some_counted place (row_of rows i) one.0 one.1 one.2 in
        let c = count i in
        omega (arith, some, c)

-- ---- an item more

-- the recipients of the items with one more
pub row_last : (rows : List (List Mark)) (row : List Mark) → row_of (rows ++ row ∷ []) (suc (length rows)) ≡ row
row_last rows row = at rows
  where
    at : (xs : List (List Mark)) → marks_in (slice_get (xs ++ row ∷ []) (length xs)) ≡ row
    at [] = refl
    at (x ∷ xs) = at xs

pub row_before : (rows : List (List Mark)) (row : List Mark) (i : ℕ) → (i ≡ suc (length rows) → ⊥)
    → row_of (rows ++ row ∷ []) i ≡ row_of rows i
row_before rows row zero never = refl
row_before rows row (suc k) never = at rows k (λ e. never (ap suc e))
  where
    at : (xs : List (List Mark)) (k : ℕ) → (k ≡ length xs → ⊥)
        → marks_in (slice_get (xs ++ row ∷ []) k) ≡ marks_in (slice_get xs k)
    at [] zero never = absurd (never refl)
    at [] (suc k) never = refl
    at (x ∷ xs) zero never = refl
    at (x ∷ xs) (suc k) never = at xs k (λ e. never (ap suc e))

past : (rows : List (List Mark)) (k : ℕ) → length rows ≤ k → marks_in (slice_get rows k) ≡ []
past [] k far = refl
past (x ∷ rows) zero far = absurd (omega (arith, far))
past (x ∷ rows) (suc k) far = past rows k (omega (arith, far))

none_wait : (place : ℕ) (row : List Mark) → ((r : ℕ) → is_waiting (mark_of row r) ≡ false)
    → count_by (waits_for place) row ≡ 0
none_wait place row idle = by_count (count_by (waits_for place) row) refl
  where
    by_count : (n : ℕ) → count_by (waits_for place) row ≡ n → count_by (waits_for place) row ≡ 0
    by_count zero e = e
    by_count (suc n) e =
        let found = counted_some place row (omega (arith, e)) in
        let isnt = idle found.0 in
        let does = found.1 in
        absurd cc

pub whole_pushed : (queues : List QueueValue) (rows : List (List Mark)) (row : List Mark)
    → IsWholeOf queues rows → length row < 2 ^ 32 → ((r : ℕ) → is_waiting (mark_of row r) ≡ false)
    → IsWholeOf queues (rows ++ row ∷ [])
whole_pushed queues rows row whole few idle = record {
  counted = λ p i within. whole.counted p i within ∙ counted p i (same_or_not i (suc (length rows)));
  few = λ i. few_at i (whole.few i) (same_or_not i (suc (length rows)));
}
  where
    counted : (p i : ℕ) → (i ≡ suc (length rows)) ⊎ (i ≡ suc (length rows) → ⊥)
        → count_by (waits_for p) (row_of rows i) ≡ count_by (waits_for p) (row_of (rows ++ row ∷ []) i)
    counted p i (inl at) =
        ap (λ (x : ℕ). count_by (waits_for p) (row_of rows x)) at
        ∙ (ap (λ (x : List Mark). count_by (waits_for p) x) (past rows (length rows) (omega arith))
        ∙ (sym (none_wait p row idle)
        ∙ (sym (ap (λ (x : List Mark). count_by (waits_for p) x) (row_last rows row))
        ∙ sym (ap (λ (x : ℕ). count_by (waits_for p) (row_of (rows ++ row ∷ []) x)) at))))
    counted p i (inr never) = sym (ap (λ (x : List Mark). count_by (waits_for p) x) (row_before rows row i never))

    few_at : (i : ℕ) → length (row_of rows i) < 2 ^ 32 → (i ≡ suc (length rows)) ⊎ (i ≡ suc (length rows) → ⊥)
        → length (row_of (rows ++ row ∷ []) i) < 2 ^ 32
    few_at i before (inl at) =
        subst (λ (x : ℕ). length (row_of (rows ++ row ∷ []) x) < 2 ^ 32) (sym at)
        (subst (λ (x : List Mark). length x < 2 ^ 32) (sym (row_last rows row)) few)
    few_at i before (inr never) =
        subst (λ (x : List Mark). length x < 2 ^ 32) (sym (row_before rows row i never)) before

-- without items nothing is counted
pub whole_at_first : (queues : List QueueValue) → ((p i : ℕ) → waits_at queues p i ≡ 0) → IsWholeOf queues []
whole_at_first queues none = record { counted = λ p i within. none p i ∙ nobody p i; few = λ i. nothing i }
  where
    nobody : (p i : ℕ) → 0 ≡ count_by (waits_for p) (row_of [] i)
    nobody p zero = refl
    nobody p (suc n) = refl

    nothing : (i : ℕ) → length (row_of [] i) < 2 ^ 32
    nothing zero = omega arith
    nothing (suc n) = omega arith

-- and what is counted rests on nothing but how many wait
pub whole_same : (queues new : List QueueValue) (rows : List (List Mark)) → length new ≡ length queues
    → ((p i : ℕ) → waits_at new p i ≡ waits_at queues p i) → IsWholeOf queues rows → IsWholeOf new rows
whole_same queues new rows same each whole = record {
  counted = λ p i within. each p i ∙ whole.counted p i (omega (arith, within, same));
  few = whole.few;
}
