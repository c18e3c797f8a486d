-- Recipients of items of whom it is put down whether they wait.
use Rattle.std.proofs.Common.{◌≡◌, ◌≤◌, ◌<◌, ◌+◌, ℕ, zero, suc, Bool, true, false, cond, eqb, List, [], ◌∷◌, ◌++◌}
use Rattle.std.proofs.Common.{inl, inr, length, Option, Some, None, refl, sym, ap, subst, ◌∙◌, arith}
use Rattle.std.specs.Prelude.{◌⊎◌, ◌&&◌, ◌==◌, count_by, is_some, slice_get, slice_set}
use Rattle.std.proofs.lemmas.Bool.{eq-eqb, eqb-true}
use Rattle.std.proofs.lemmas.List.Sums.{sum_by-cons}
use Rattle.std.proofs.lemmas.Option.{same_Some, slice_get_within}
use Rattle.mta_queue.specs.declared.mark.Mark.{Mark}
use Rattle.mta_queue.specs.Marks.{is_at, is_waiting, mark_of, marks_in, put_row, put_waits, route_by, route_in, row_of}
use Rattle.mta_queue.specs.Marks.{set_mark, set_waits, waits_for, waits_in, with_waits}

-- ---- two numbers

pub same_or_not : (a b : ℕ) → (a ≡ b) ⊎ (a ≡ b → ⊥)
same_or_not a b = by_test (eqb a b) refl
  where
    by_test : (t : Bool) → eqb a b ≡ t → (a ≡ b) ⊎ (a ≡ b → ⊥)
    by_test true e = inl (eqb-true a b e)
    by_test false e = inr (λ same. (let does : eqb a b ≡ true = eq-eqb a b same in cc))

pub unequal : (a b : ℕ) → (a ≡ b → ⊥) → eqb a b ≡ false
unequal a b never = by_test (eqb a b) refl
  where
    by_test : (t : Bool) → eqb a b ≡ t → eqb a b ≡ false
    by_test true e = absurd (never (eqb-true a b e))
    by_test false e = e

-- ---- one in a list

get_same : {A : Type 0} (xs : List A) (n : ℕ) (x : A) → n < length xs → slice_get (slice_set xs n x) n ≡ Some x
get_same [] n x within = absurd (omega (arith, within))
get_same (z ∷ zs) zero x within = refl
get_same (z ∷ zs) (suc n) x within = get_same zs n x (omega (arith, within))

get_other : {A : Type 0} (xs : List A) (n m : ℕ) (x : A) → (m ≡ n → ⊥)
    → slice_get (slice_set xs n x) m ≡ slice_get xs m
get_other [] n m x never = refl
get_other (z ∷ zs) zero zero x never = absurd (never refl)
get_other (z ∷ zs) zero (suc m) x never = refl
get_other (z ∷ zs) (suc n) zero x never = refl
get_other (z ∷ zs) (suc n) (suc m) x never = get_other zs n m x (λ e. never (ap suc e))

length_set : {A : Type 0} (xs : List A) (n : ℕ) (x : A) → length (slice_set xs n x) ≡ length xs
length_set [] n x = refl
length_set (z ∷ zs) zero x = refl
length_set (z ∷ zs) (suc n) x = ap suc (length_set zs n x)

same_set : {A : Type 0} (xs : List A) (n : ℕ) (x : A) → slice_get xs n ≡ Some x → slice_set xs n x ≡ xs
same_set [] n x is = refl
same_set (z ∷ zs) zero x is = ap (λ y. y ∷ zs) (sym (same_Some z x is))
same_set (z ∷ zs) (suc n) x is = ap (λ ys. z ∷ ys) (same_set zs n x is)

-- ---- the recipients of an item

length_row : (row : List Mark) (r : ℕ) (b : Bool) → length (set_waits row r b) ≡ length row
length_row row zero b = refl
length_row row (suc n) b = by_mark (slice_get row n)
  where
    by_mark : (o : Option Mark) → length (put_waits row n o b) ≡ length row
    by_mark None = refl
    by_mark (Some m) = length_set row n (with_waits m b)

-- who is put down, and the others
mark_same : (row : List Mark) (r : ℕ) (b : Bool) (m : Mark) → mark_of row r ≡ Some m
    → mark_of (set_waits row r b) r ≡ Some (with_waits m b)
mark_same row zero b m is = absurd cc
mark_same row (suc n) b m is =
    ap (λ (o : Option Mark). slice_get (put_waits row n o b) n) is
    ∙ get_same row n (with_waits m b) (slice_get_within row n m is)

mark_other : (row : List Mark) (r q : ℕ) (b : Bool) → (q ≡ r → ⊥)
    → mark_of (set_waits row r b) q ≡ mark_of row q
mark_other row zero q b never = refl
mark_other row (suc n) zero b never = refl
mark_other row (suc n) (suc k) b never = by_mark (slice_get row n)
  where
    by_mark : (o : Option Mark) → slice_get (put_waits row n o b) k ≡ slice_get row k
    by_mark None = refl
    by_mark (Some m) = get_other row n k (with_waits m b) (λ e. never (ap suc e))

no_row : (row : List Mark) (r : ℕ) (b : Bool) → mark_of row r ≡ None → set_waits row r b ≡ row
no_row row zero b none = refl
no_row row (suc n) b none = ap (λ (o : Option Mark). put_waits row n o b) none

route_row : (row : List Mark) (r q : ℕ) (b : Bool) → route_by (mark_of (set_waits row r b) q) ≡ route_by (mark_of row q)
route_row row r q b = by_place (same_or_not q r)
  where
    here : (o : Option Mark) → mark_of row r ≡ o → route_by (mark_of (set_waits row r b) r) ≡ route_by (mark_of row r)
    here None is = ap (λ (x : List Mark). route_by (mark_of x r)) (no_row row r b is)
    here (Some m) is = ap route_by (mark_same row r b m is) ∙ sym (ap route_by is)

    by_place : (q ≡ r) ⊎ (q ≡ r → ⊥) → route_by (mark_of (set_waits row r b) q) ≡ route_by (mark_of row q)
    by_place (inl same) =
        ap (λ (k : ℕ). route_by (mark_of (set_waits row r b) k)) same
        ∙ (here (mark_of row r) refl ∙ sym (ap (λ (k : ℕ). route_by (mark_of row k)) same))
    by_place (inr never) = ap route_by (mark_other row r q b never)

-- ---- of all items

nobody : (r : ℕ) (b : Bool) → set_waits [] r b ≡ []
nobody zero b = refl
nobody (suc n) b = refl

pub row_same : (rows : List (List Mark)) (i r : ℕ) (b : Bool)
    → row_of (set_mark rows i r b) i ≡ set_waits (row_of rows i) r b
row_same rows zero r b = sym (nobody r b)
row_same rows (suc n) r b = by_row (slice_get rows n) refl
  where
    by_row : (o : Option (List Mark)) → slice_get rows n ≡ o
        → marks_in (slice_get (put_row rows n o r b) n) ≡ set_waits (marks_in o) r b
    by_row None is = ap marks_in is ∙ sym (nobody r b)
    by_row (Some row) is = ap marks_in (get_same rows n (set_waits row r b) (slice_get_within rows n row is))

pub row_other : (rows : List (List Mark)) (i r j : ℕ) (b : Bool) → (j ≡ i → ⊥)
    → row_of (set_mark rows i r b) j ≡ row_of rows j
row_other rows zero r j b never = refl
row_other rows (suc n) r zero b never = refl
row_other rows (suc n) r (suc k) b never = by_row (slice_get rows n)
  where
    by_row : (o : Option (List Mark)) → marks_in (slice_get (put_row rows n o r b) k) ≡ marks_in (slice_get rows k)
    by_row None = refl
    by_row (Some row) = ap marks_in (get_other rows n k (set_waits row r b) (λ e. never (ap suc e)))

pub set_rows : (rows : List (List Mark)) (i r : ℕ) (b : Bool) → length (set_mark rows i r b) ≡ length rows
set_rows rows zero r b = refl
set_rows rows (suc n) r b = by_row (slice_get rows n)
  where
    by_row : (o : Option (List Mark)) → length (put_row rows n o r b) ≡ length rows
    by_row None = refl
    by_row (Some row) = length_set rows n (set_waits row r b)

pub set_length : (rows : List (List Mark)) (i r j : ℕ) (b : Bool)
    → length (row_of (set_mark rows i r b) j) ≡ length (row_of rows j)
set_length rows i r j b = by_item (same_or_not j i)
  where
    by_item : (j ≡ i) ⊎ (j ≡ i → ⊥) → length (row_of (set_mark rows i r b) j) ≡ length (row_of rows j)
    by_item (inl same) =
        ap (λ (x : ℕ). length (row_of (set_mark rows i r b) x)) same
        ∙ (ap length (row_same rows i r b)
        ∙ (length_row (row_of rows i) r b ∙ sym (ap (λ (x : ℕ). length (row_of rows x)) same)))
    by_item (inr never) = ap length (row_other rows i r j b never)

-- routes stay
pub set_route : (rows : List (List Mark)) (i r j q : ℕ) (b : Bool)
    → route_in (set_mark rows i r b) j q ≡ route_in rows j q
set_route rows i r j q b = by_item (same_or_not j i)
  where
    by_item : (j ≡ i) ⊎ (j ≡ i → ⊥) → route_in (set_mark rows i r b) j q ≡ route_in rows j q
    by_item (inl same) =
        ap (λ (x : ℕ). route_in (set_mark rows i r b) x q) same
        ∙ (ap (λ (row : List Mark). route_by (mark_of row q)) (row_same rows i r b)
        ∙ (route_row (row_of rows i) r q b ∙ sym (ap (λ (x : ℕ). route_in rows x q) same)))
    by_item (inr never) = ap (λ (row : List Mark). route_by (mark_of row q)) (row_other rows i r j b never)

-- ---- one that is put down, and the others

pub there : (row : List Mark) (r : ℕ) → 1 ≤ r → r ≤ length row → (m : Mark) × (mark_of row r ≡ Some m)
there row zero one most = absurd (omega (arith, one))
there row (suc n) one most = at row n (omega (arith, most))
  where
    at : (xs : List Mark) (k : ℕ) → k < length xs → (m : Mark) × (slice_get xs k ≡ Some m)
    at [] k within = absurd (omega (arith, within))
    at (x ∷ xs) zero within = (x, refl)
    at (x ∷ xs) (suc k) within = at xs k (omega (arith, within))

within_row : (row : List Mark) (r : ℕ) (m : Mark) → mark_of row r ≡ Some m → (1 ≤ r) × (r ≤ length row)
within_row row zero m is = absurd cc
within_row row (suc n) m is = (omega arith, (let less = slice_get_within row n m is in omega (arith, less)))

-- who waits is one of the recipients
pub waits_within : (rows : List (List Mark)) (i r : ℕ) → waits_in rows i r ≡ true
    → (1 ≤ r) × (r ≤ length (row_of rows i))
waits_within rows i r w = by_mark (mark_of (row_of rows i) r) refl w
  where
    by_mark : (o : Option Mark) → mark_of (row_of rows i) r ≡ o → is_waiting o ≡ true
        → (1 ≤ r) × (r ≤ length (row_of rows i))
    by_mark None is w = absurd cc
    by_mark (Some m) is w = within_row (row_of rows i) r m is

pub set_here : (rows : List (List Mark)) (i r : ℕ) (b : Bool) → 1 ≤ r → r ≤ length (row_of rows i)
    → waits_in (set_mark rows i r b) i r ≡ b
set_here rows i r b one most =
    let found = there (row_of rows i) r one most in
    ap (λ (row : List Mark). is_waiting (mark_of row r)) (row_same rows i r b)
    ∙ ap is_waiting (mark_same (row_of rows i) r b found.0 found.1)

pub set_apart : (rows : List (List Mark)) (i r j q : ℕ) (b : Bool) → ((j ≡ i) × (q ≡ r) → ⊥)
    → waits_in (set_mark rows i r b) j q ≡ waits_in rows j q
set_apart rows i r j q b never = by_item (same_or_not j i)
  where
    by_item : (j ≡ i) ⊎ (j ≡ i → ⊥) → waits_in (set_mark rows i r b) j q ≡ waits_in rows j q
    by_item (inl same) =
        ap (λ (x : ℕ). waits_in (set_mark rows i r b) x q) same
        ∙ (ap (λ (row : List Mark). is_waiting (mark_of row q)) (row_same rows i r b)
        ∙ (ap is_waiting (mark_other (row_of rows i) r q b (λ e. never (same, e)))
        ∙ sym (ap (λ (x : ℕ). waits_in rows x q) same)))
    by_item (inr apart) = ap (λ (row : List Mark). is_waiting (mark_of row q)) (row_other rows i r j b apart)

-- ---- where nothing is put down that was not so

same_row : (row : List Mark) (r : ℕ) (b : Bool) → is_waiting (mark_of row r) ≡ b → set_waits row r b ≡ row
same_row row zero b is = refl
same_row row (suc n) b is = by_mark (slice_get row n) refl is
  where
    by_mark : (o : Option Mark) → slice_get row n ≡ o → is_waiting o ≡ b → put_waits row n o b ≡ row
    by_mark None e same = refl
    by_mark (Some m) e same =
        same_set row n (with_waits m b) (e ∙ ap (λ (w : Bool). Some (with_waits m w)) same)

-- who waits as it is put down already
pub same_mark : (rows : List (List Mark)) (i r : ℕ) (b : Bool) → waits_in rows i r ≡ b → set_mark rows i r b ≡ rows
same_mark rows zero r b is = refl
same_mark rows (suc n) r b is = by_row (slice_get rows n) refl is
  where
    by_row : (o : Option (List Mark)) → slice_get rows n ≡ o → is_waiting (mark_of (marks_in o) r) ≡ b
        → put_row rows n o r b ≡ rows
    by_row None e same = refl
    by_row (Some row) e same = same_set rows n (set_waits row r b) (e ∙ ap Some (sym (same_row row r b same)))

-- where there is no such recipient
pub no_mark : (rows : List (List Mark)) (i r : ℕ) (b : Bool) → mark_of (row_of rows i) r ≡ None
    → set_mark rows i r b ≡ rows
no_mark rows zero r b none = refl
no_mark rows (suc n) r b none = by_row (slice_get rows n) refl none
  where
    by_row : (o : Option (List Mark)) → slice_get rows n ≡ o → mark_of (marks_in o) r ≡ None
        → put_row rows n o r b ≡ rows
    by_row None e none = refl
    by_row (Some row) e none = same_set rows n (set_waits row r b) (e ∙ ap Some (sym (no_row row r b none)))

-- ---- how many

abbrev pub bit : Bool → ℕ
bit b = cond b 1 0

count_cons : (p : Mark → Bool) (m : Mark) (row : List Mark) → count_by p (m ∷ row) ≡ bit (p m) + count_by p row
count_cons p m row = sum_by-cons (λ (x : Mark). cond (p x) 1 0) m row

count_set : (p : Mark → Bool) (row : List Mark) (n : ℕ) (old new : Mark) → slice_get row n ≡ Some old
    → count_by p (slice_set row n new) + bit (p old) ≡ count_by p row + bit (p new)
count_set p [] n old new is = absurd cc
count_set p (m ∷ row) zero old new is =
    let bits : bit (p m) ≡ bit (p old) = ap (λ (x : Mark). bit (p x)) (same_Some m old is) in
    omega (arith, bits, count_cons p m row, count_cons p new row)
count_set p (m ∷ row) (suc n) old new is =
    omega (arith, count_set p row n old new is, count_cons p m row, count_cons p m (slice_set row n new))

bit_most : (b : Bool) → bit b ≤ 1
bit_most true = omega arith
bit_most false = omega arith

count_most : (p : Mark → Bool) (row : List Mark) → count_by p row ≤ length row
count_most p [] = omega arith
count_most p (m ∷ row) = omega (arith, count_cons p m row, bit_most (p m), count_most p row)

count_less : (p : Mark → Bool) (row : List Mark) (n : ℕ) (m : Mark) → slice_get row n ≡ Some m → p m ≡ false
    → count_by p row + 1 ≤ length row
count_less p [] n m is isnt = absurd cc
count_less p (x ∷ row) zero m is isnt =
    let none : bit (p x) ≡ 0 = ap (λ (y : Mark). bit (p y)) (same_Some x m is) ∙ ap bit isnt in
    omega (arith, none, count_cons p x row, count_most p row)
count_less p (x ∷ row) (suc n) m is isnt =
    omega (arith, count_cons p x row, bit_most (p x), count_less p row n m is isnt)

count_more : (p : Mark → Bool) (row : List Mark) (n : ℕ) (m : Mark) → slice_get row n ≡ Some m → p m ≡ true
    → 1 ≤ count_by p row
count_more p [] n m is does = absurd cc
count_more p (x ∷ row) zero m is does =
    let one : bit (p x) ≡ 1 = ap (λ (y : Mark). bit (p y)) (same_Some x m is) ∙ ap bit does in
    omega (arith, one, count_cons p x row)
count_more p (x ∷ row) (suc n) m is does = omega (arith, count_cons p x row, count_more p row n m is does)

-- one of those that are counted
record IsCounted (p : Mark → Bool) (row : List Mark) : Type 0 where
  place : ℕ
  mark : Mark
  there : slice_get row place ≡ Some mark
  does : p mark ≡ true

count_found : (p : Mark → Bool) (row : List Mark) → 1 ≤ count_by p row → IsCounted p row
count_found p [] some = absurd (omega (arith, some))
count_found p (x ∷ row) some = by_test (p x) refl (λ later. count_found p row later)
  where
    by_test : (b : Bool) → p x ≡ b → (1 ≤ count_by p row → IsCounted p row) → IsCounted p (x ∷ row)
    by_test true e again = record { place = 0; mark = x; there = refl; does = e }
    by_test false e again =
        let none : bit (p x) ≡ 0 = ap bit e in
        let later = again (omega (arith, some, none, count_cons p x row)) in
        record { place = suc later.place; mark = later.mark; there = later.there; does = later.does }

-- ---- who waits for the peer at a place

-- once one is put down who did not wait, he is one more where his route leads
pub row_joined : (place : ℕ) (row : List Mark) (r : ℕ) (m : Mark) → mark_of row r ≡ Some m → m.waits ≡ false
    → count_by (waits_for place) (set_waits row r true) ≡ count_by (waits_for place) row + bit (is_at place m.route)
row_joined place row zero m is isnt = absurd cc
row_joined place row (suc n) m is isnt =
    let counts = count_set (waits_for place) row n m (with_waits m true) is in
    let before : bit (waits_for place m) ≡ 0 = ap (λ (w : Bool). bit (w && is_at place m.route)) isnt in
    let put : count_by (waits_for place) (put_waits row n (slice_get row n) true)
    ≡ count_by (waits_for place) (slice_set row n (with_waits m true)) =
    ap (λ (o : Option Mark). count_by (waits_for place) (put_waits row n o true)) is in
    omega (arith, counts, before, put)

pub row_left : (place : ℕ) (row : List Mark) (r : ℕ) (m : Mark) → mark_of row r ≡ Some m → m.waits ≡ true
    → count_by (waits_for place) (set_waits row r false) + bit (is_at place m.route) ≡ count_by (waits_for place) row
row_left place row zero m is does = absurd cc
row_left place row (suc n) m is does =
    let counts = count_set (waits_for place) row n m (with_waits m false) is in
    let before : bit (waits_for place m) ≡ bit (is_at place m.route) =
    ap (λ (w : Bool). bit (w && is_at place m.route)) does in
    let put : count_by (waits_for place) (put_waits row n (slice_get row n) false)
    ≡ count_by (waits_for place) (slice_set row n (with_waits m false)) =
    ap (λ (o : Option Mark). count_by (waits_for place) (put_waits row n o false)) is in
    omega (arith, counts, before, put)

-- he is one of those that are counted, or one may be counted more
pub row_less : (place : ℕ) (row : List Mark) (r : ℕ) (m : Mark) → mark_of row r ≡ Some m → m.waits ≡ false
    → count_by (waits_for place) row + 1 ≤ length row
row_less place row zero m is isnt = absurd cc
row_less place row (suc n) m is isnt =
    count_less (waits_for place) row n m is (ap (λ (w : Bool). w && is_at place m.route) isnt)

pub row_more : (place : ℕ) (row : List Mark) (r : ℕ) (m : Mark) → mark_of row r ≡ Some m → m.waits ≡ true
    → is_at place m.route ≡ true → 1 ≤ count_by (waits_for place) row
row_more place row zero m is does at = absurd cc
row_more place row (suc n) m is does at =
    count_more (waits_for place) row n m is (ap (λ (w : Bool). w && is_at place m.route) does ∙ at)

is_place : (place : ℕ) (o : Option ℕ) → is_at place o ≡ true → o ≡ Some place
is_place place None e = absurd cc
is_place place (Some route) e = ap Some (sym (eqb-true place route e))

pub at_place : (place : ℕ) (o : Option ℕ) → o ≡ Some place → is_at place o ≡ true
at_place place o e = ap (is_at place) e ∙ eq-eqb place place refl

both_parts : (a b : Bool) → (a && b) ≡ true → (a ≡ true) × (b ≡ true)
both_parts true b e = (refl, e)
both_parts false b e = absurd cc

both_so : (a b : Bool) → a ≡ true → b ≡ true → (a && b) ≡ true
both_so a b ae be = ap (λ (x : Bool). x && b) ae ∙ be

pub counted_some : (place : ℕ) (row : List Mark) → 1 ≤ count_by (waits_for place) row
    → (r : ℕ) × (is_waiting (mark_of row r) ≡ true) × (route_by (mark_of row r) ≡ Some place)
counted_some place row some =
    let found = count_found (waits_for place) row some in
    let parts = both_parts found.mark.waits (is_at place found.mark.route) found.does in (
      suc found.place,
      ap is_waiting found.there ∙ parts.0,
      ap route_by found.there ∙ is_place place found.mark.route parts.1,
    )

pub some_counted : (place : ℕ) (row : List Mark) (r : ℕ) → is_waiting (mark_of row r) ≡ true
    → route_by (mark_of row r) ≡ Some place → 1 ≤ count_by (waits_for place) row
some_counted place row zero w at = absurd cc
some_counted place row (suc n) w at = by_mark (slice_get row n) refl w at
  where
    by_mark : (o : Option Mark) → slice_get row n ≡ o → is_waiting o ≡ true → route_by o ≡ Some place
        → 1 ≤ count_by (waits_for place) row
    by_mark None e w at = absurd cc
    by_mark (Some m) e w at =
        count_more (waits_for place) row n m e (both_so m.waits (is_at place m.route) w (at_place place m.route at))
