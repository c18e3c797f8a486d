-- Counts beside ascending numbers.
use Rattle.std.proofs.Common.{◌≡◌, ◌≤◌, ◌<◌, ◌+◌, ◌-◌, ℕ, zero, suc, Bool, true, false, cond, eqb, List, [], ◌∷◌, ◌++◌}
use Rattle.std.proofs.Common.{length, drop, take, insert, remove, get_or, refl, sym, ap, subst, ◌∙◌, arith}
use Rattle.std.specs.Prelude.{◌↔◌, ◌==◌, ◌||◌, slice_set}
use Rattle.std.specs.List.{list_any}
use Rattle.std.proofs.lemmas.Bool.{eq-eqb, eqb-true, or_parts}
use Rattle.mta_queue.specs.Queue.{AreSome, IsAscending, IsWhole, count_beside, more_of}

-- ---- a test of two numbers

apart : (a b : ℕ) → (a ≡ b → ⊥) → eqb a b ≡ false
apart a b never = by_test (eqb a b) refl
  where
    by_test : (t : Bool) → eqb a b ≡ t → eqb a b ≡ false
    by_test true e = absurd (never (eqb-true a b e))
    by_test false e = e

pick : (n i c x : ℕ) → n ≡ i → cond (eqb n i) c x ≡ c
pick n i c x e = ap (λ (t : Bool). cond t c x) (eq-eqb n i e)

pass : (n i c x : ℕ) → (n ≡ i → ⊥) → cond (eqb n i) c x ≡ x
pass n i c x never = ap (λ (t : Bool). cond t c x) (apart n i never)

-- of two tests of which at most one holds either may come first
swap : (a n k d c x : ℕ) → a < n → cond (eqb a k) d (cond (eqb n k) c x) ≡ cond (eqb n k) c (cond (eqb a k) d x)
swap a n k d c x below = by_test (eqb a k) (eqb n k) refl refl
  where
    by_test : (s t : Bool) → eqb a k ≡ s → eqb n k ≡ t
        → cond (eqb a k) d (cond (eqb n k) c x) ≡ cond (eqb n k) c (cond (eqb a k) d x)
    by_test true true e f = absurd (omega (arith, below, eqb-true a k e, eqb-true n k f))
    by_test true false e f = rw (e, f) refl
    by_test false true e f = rw (e, f) refl
    by_test false false e f = rw (e, f) refl

-- ---- ascending numbers

tail_ascends : (a : ℕ) (ns : List ℕ) → IsAscending (a ∷ ns) → IsAscending ns
tail_ascends a [] up = tt
tail_ascends a (b ∷ ns) up = up.1

later_above : (a : ℕ) (ns : List ℕ) (i : ℕ) → IsAscending (a ∷ ns) → i < length ns → a < get_or ns i 0
later_above a [] i up within = absurd (omega (arith, within))
later_above a (b ∷ ns) zero up within = up.0
later_above a (b ∷ ns) (suc i) up within =
    let more = later_above b ns i up.1 (omega (arith, within)) in
    omega (arith, up.0, more)

pub not_falling : (ns : List ℕ) (i j : ℕ) → IsAscending ns → i ≤ j → j < length ns → get_or ns i 0 ≤ get_or ns j 0
not_falling [] i j up le within = absurd (omega (arith, within))
not_falling (a ∷ ns) zero zero up le within = omega arith
not_falling (a ∷ ns) zero (suc j) up le within =
    let above = later_above a ns j up (omega (arith, within)) in
    omega (arith, above)
not_falling (a ∷ ns) (suc i) zero up le within = absurd (omega (arith, le))
not_falling (a ∷ ns) (suc i) (suc j) up le within =
    not_falling ns i j (tail_ascends a ns up) (omega (arith, le)) (omega (arith, within))

-- a number that is not above the first is not behind it
absent_behind : (a : ℕ) (ns cs : List ℕ) (k : ℕ) → k ≤ a → IsAscending (a ∷ ns) → count_beside ns cs k ≡ 0
absent_behind a [] cs k le up = refl
absent_behind a (b ∷ ns) [] k le up = refl
absent_behind a (b ∷ ns) (c ∷ cs) k le up =
    pass b k c (count_beside ns cs k) (λ e. let low = up.0 in omega (arith, low, le, e))
    ∙ absent_behind b ns cs k (let low = up.0 in omega (arith, low, le)) up.1

remove_ascends : (a : ℕ) (ns : List ℕ) (i : ℕ) → IsAscending (a ∷ ns) → IsAscending (a ∷ remove ns i)
remove_ascends a [] zero up = tt
remove_ascends a [] (suc i) up = tt
remove_ascends a (b ∷ []) zero up = tt
remove_ascends a (b ∷ d ∷ ns) zero up = (let p = up.0 in let q = up.1.0 in omega (arith, p, q), up.1.1)
remove_ascends a (b ∷ ns) (suc i) up = (up.0, remove_ascends b ns i up.1)

remove_first : (ns : List ℕ) (i : ℕ) → IsAscending ns → IsAscending (remove ns i)
remove_first [] zero up = tt
remove_first [] (suc i) up = tt
remove_first (a ∷ ns) zero up = tail_ascends a ns up
remove_first (a ∷ ns) (suc i) up = remove_ascends a ns i up

-- a place among numbers: those before it are below a number, and those behind it above
record IsPlace (ns : List ℕ) (i n : ℕ) : Type 0 where
  within : i ≤ length ns
  below : (j : ℕ) → j < i → get_or ns j 0 < n
  above : (j : ℕ) → i ≤ j → j < length ns → n < get_or ns j 0

place_behind : (a : ℕ) (ns : List ℕ) (i n : ℕ) → IsPlace (a ∷ ns) (suc i) n → IsPlace ns i n
place_behind a ns i n p = record {
  within = let w = p.within in omega (arith, w);
  below = λ j lt. p.below (suc j) (omega (arith, lt));
  above = λ j le lt. p.above (suc j) (omega (arith, le)) (omega (arith, lt));
}

insert_ascends : (a : ℕ) (ns : List ℕ) (i n : ℕ) → IsAscending (a ∷ ns) → a < n → IsPlace ns i n
    → IsAscending (a ∷ insert ns i n)
insert_ascends a [] zero n up low p = (low, tt)
insert_ascends a [] (suc i) n up low p = absurd (let w = p.within in omega (arith, w))
insert_ascends a (b ∷ ns) zero n up low p = (low, (p.above 0 (omega arith) (omega arith), up.1))
insert_ascends a (b ∷ ns) (suc i) n up low p =
    (up.0, insert_ascends b ns i n up.1 (p.below 0 (omega arith)) (place_behind b ns i n p))

insert_first : (ns : List ℕ) (i n : ℕ) → IsAscending ns → IsPlace ns i n → IsAscending (insert ns i n)
insert_first [] zero n up p = tt
insert_first [] (suc i) n up p = absurd (let w = p.within in omega (arith, w))
insert_first (a ∷ ns) zero n up p = (p.above 0 (omega arith) (omega arith), up)
insert_first (a ∷ ns) (suc i) n up p =
    insert_ascends a ns i n up (p.below 0 (omega arith)) (place_behind a ns i n p)

-- ---- the count beside a number

pub found_beside : (ns cs : List ℕ) (i n : ℕ) → length ns ≡ length cs → IsAscending ns → i < length ns
    → get_or ns i 0 ≡ n → count_beside ns cs n ≡ get_or cs i 0
found_beside [] cs i n both up within is = absurd (omega (arith, within))
found_beside (a ∷ ns) [] i n both up within is = absurd (omega (arith, both))
found_beside (a ∷ ns) (d ∷ cs) zero n both up within is = pick a n d (count_beside ns cs n) is
found_beside (a ∷ ns) (d ∷ cs) (suc i) n both up within is =
    let above = later_above a ns i up (omega (arith, within)) in
    pass a n d (count_beside ns cs n) (λ e. omega (arith, above, is, e))
    ∙ found_beside ns cs i n (omega (arith, both)) (tail_ascends a ns up) (omega (arith, within)) is

found_set : (ns cs : List ℕ) (i n c k : ℕ) → length ns ≡ length cs → IsAscending ns → i < length ns
    → get_or ns i 0 ≡ n
    → count_beside ns (slice_set cs i c) k ≡ cond (eqb n k) c (count_beside ns cs k)
found_set [] cs i n c k both up within is = absurd (omega (arith, within))
found_set (a ∷ ns) [] i n c k both up within is = absurd (omega (arith, both))
found_set (a ∷ ns) (d ∷ cs) zero n c k both up within is =
    subst (λ (x : ℕ). cond (eqb a k) c (count_beside ns cs k)
    ≡ cond (eqb x k) c (cond (eqb a k) d (count_beside ns cs k))) is (twice (eqb a k))
  where
    twice : (t : Bool) → cond t c (count_beside ns cs k) ≡ cond t c (cond t d (count_beside ns cs k))
    twice true = refl
    twice false = refl
found_set (a ∷ ns) (d ∷ cs) (suc i) n c k both up within is =
    let above = later_above a ns i up (omega (arith, within)) in
    ap (λ (x : ℕ). cond (eqb a k) d x)
    (found_set ns cs i n c k (omega (arith, both)) (tail_ascends a ns up) (omega (arith, within)) is)
    ∙ swap a n k d c (count_beside ns cs k) (omega (arith, above, is))

found_removed : (ns cs : List ℕ) (i n k : ℕ) → length ns ≡ length cs → IsAscending ns → i < length ns
    → get_or ns i 0 ≡ n
    → count_beside (remove ns i) (remove cs i) k ≡ cond (eqb n k) 0 (count_beside ns cs k)
found_removed [] cs i n k both up within is = absurd (omega (arith, within))
found_removed (a ∷ ns) [] i n k both up within is = absurd (omega (arith, both))
found_removed (a ∷ ns) (d ∷ cs) zero n k both up within is =
    subst (λ (x : ℕ). count_beside ns cs k ≡ cond (eqb x k) 0 (cond (eqb a k) d (count_beside ns cs k))) is
    (gone (eqb a k) refl)
  where
    gone : (t : Bool) → eqb a k ≡ t
        → count_beside ns cs k ≡ cond t 0 (cond t d (count_beside ns cs k))
    gone true e = absent_behind a ns cs k (let same = eqb-true a k e in omega (arith, same)) up
    gone false e = refl
found_removed (a ∷ ns) (d ∷ cs) (suc i) n k both up within is =
    let above = later_above a ns i up (omega (arith, within)) in
    ap (λ (x : ℕ). cond (eqb a k) d x)
    (found_removed ns cs i n k (omega (arith, both)) (tail_ascends a ns up) (omega (arith, within)) is)
    ∙ swap a n k d 0 (count_beside ns cs k) (omega (arith, above, is))

missing : (ns cs : List ℕ) (i n : ℕ) → IsPlace ns i n → count_beside ns cs n ≡ 0
missing [] cs i n p = refl
missing (a ∷ ns) [] i n p = refl
missing (a ∷ ns) (d ∷ cs) zero n p =
    let first = p.above 0 (omega arith) (omega arith) in
    pass a n d (count_beside ns cs n) (λ e. omega (arith, first, e))
    ∙ missing ns cs zero n (record {
      within = omega arith;
      below = λ j lt. absurd (omega (arith, lt));
      above = λ j le lt. p.above (suc j) (omega arith) (omega (arith, lt));
    })
missing (a ∷ ns) (d ∷ cs) (suc i) n p =
    let first = p.below 0 (omega arith) in
    pass a n d (count_beside ns cs n) (λ e. omega (arith, first, e))
    ∙ missing ns cs i n (place_behind a ns i n p)

missing_inserted : (ns cs : List ℕ) (i n c k : ℕ) → length ns ≡ length cs → IsPlace ns i n
    → count_beside (insert ns i n) (insert cs i c) k ≡ cond (eqb n k) c (count_beside ns cs k)
missing_inserted ns cs zero n c k both p = refl
missing_inserted [] cs (suc i) n c k both p = absurd (let w = p.within in omega (arith, w))
missing_inserted (a ∷ ns) [] (suc i) n c k both p = absurd (omega (arith, both))
missing_inserted (a ∷ ns) (d ∷ cs) (suc i) n c k both p =
    ap (λ (x : ℕ). cond (eqb a k) d x)
    (missing_inserted ns cs i n c k (omega (arith, both)) (place_behind a ns i n p))
    ∙ swap a n k d c (count_beside ns cs k) (p.below 0 (omega arith))

-- ---- as many more, as many fewer

more : (n k c before w : ℕ) → (n ≡ k → w ≡ before) → cond (eqb n k) (before + c) w ≡ w + more_of n c k
more n k c before w same = by_test (eqb n k) refl
  where
    by_test : (t : Bool) → eqb n k ≡ t → cond (eqb n k) (before + c) w ≡ w + cond (eqb n k) c 0
    by_test true e = let is = same (eqb-true n k e) in rw e (omega (arith, is))
    by_test false e = rw e (omega arith)

fewer : (n k c left before w : ℕ) → left + c ≡ before → (n ≡ k → w ≡ before)
    → cond (eqb n k) left w + more_of n c k ≡ w
fewer n k c left before w sum same = by_test (eqb n k) refl
  where
    by_test : (t : Bool) → eqb n k ≡ t → cond (eqb n k) left w + cond (eqb n k) c 0 ≡ w
    by_test true e = let is = same (eqb-true n k e) in rw e (omega (arith, is, sum))
    by_test false e = rw e (omega arith)

-- ---- the counts are some

some_at : (cs : List ℕ) (i : ℕ) → AreSome cs → i < length cs → 1 ≤ get_or cs i 0
some_at [] i some within = absurd (omega (arith, within))
some_at (c ∷ cs) zero some within = some.0
some_at (c ∷ cs) (suc i) some within = some_at cs i some.1 (omega (arith, within))

some_set : (cs : List ℕ) (i c : ℕ) → AreSome cs → 1 ≤ c → AreSome (slice_set cs i c)
some_set [] i c some one = tt
some_set (d ∷ cs) zero c some one = (one, some.1)
some_set (d ∷ cs) (suc i) c some one = (some.0, some_set cs i c some.1 one)

some_removed : (cs : List ℕ) (i : ℕ) → AreSome cs → AreSome (remove cs i)
some_removed [] zero some = tt
some_removed [] (suc i) some = tt
some_removed (d ∷ cs) zero some = some.1
some_removed (d ∷ cs) (suc i) some = (some.0, some_removed cs i some.1)

some_inserted : (cs : List ℕ) (i c : ℕ) → AreSome cs → 1 ≤ c → AreSome (insert cs i c)
some_inserted [] zero c some one = (one, tt)
some_inserted [] (suc i) c some one = (one, tt)
some_inserted (d ∷ cs) zero c some one = (one, some)
some_inserted (d ∷ cs) (suc i) c some one = (some.0, some_inserted cs i c some.1 one)

length_set : (cs : List ℕ) (i c : ℕ) → length (slice_set cs i c) ≡ length cs
length_set [] i c = refl
length_set (d ∷ cs) zero c = refl
length_set (d ∷ cs) (suc i) c = omega (arith, length_set cs i c)

same_removed : (ns cs : List ℕ) (i : ℕ) → length ns ≡ length cs → length (remove ns i) ≡ length (remove cs i)
same_removed [] [] zero both = refl
same_removed [] [] (suc i) both = refl
same_removed [] (c ∷ cs) i both = absurd (omega (arith, both))
same_removed (n ∷ ns) [] i both = absurd (omega (arith, both))
same_removed (n ∷ ns) (c ∷ cs) zero both = omega (arith, both)
same_removed (n ∷ ns) (c ∷ cs) (suc i) both = omega (arith, same_removed ns cs i (omega (arith, both)))

same_inserted : (ns cs : List ℕ) (i n c : ℕ) → length ns ≡ length cs
    → length (insert ns i n) ≡ length (insert cs i c)
same_inserted ns cs zero n c both = omega (arith, both)
same_inserted [] [] (suc i) n c both = refl
same_inserted [] (d ∷ cs) (suc i) n c both = absurd (omega (arith, both))
same_inserted (m ∷ ns) [] (suc i) n c both = absurd (omega (arith, both))
same_inserted (m ∷ ns) (d ∷ cs) (suc i) n c both =
    omega (arith, same_inserted ns cs i n c (omega (arith, both)))

-- ---- what a search finds

module _ (ns cs : List ℕ) (whole : IsWhole ns cs) (n i : ℕ) where
  module _ (within : i < length ns) (is : get_or ns i 0 ≡ n) where
    here : (k : ℕ) → n ≡ k → count_beside ns cs k ≡ get_or cs i 0
    here k e =
        subst (λ (x : ℕ). count_beside ns cs x ≡ get_or cs i 0) e
        (found_beside ns cs i n whole.both whole.ascending within is)

    pub one_waits : count_beside ns cs n ≡ get_or cs i 0
    one_waits = here n refl

    pub more_found : (c k : ℕ)
        → count_beside ns (slice_set cs i (get_or cs i 0 + c)) k ≡ count_beside ns cs k + more_of n c k
    more_found c k =
        found_set ns cs i n (get_or cs i 0 + c) k whole.both whole.ascending within is
        ∙ more n k c (get_or cs i 0) (count_beside ns cs k) (here k)

    pub fewer_found : (c k : ℕ) → c ≤ get_or cs i 0
        → count_beside ns (slice_set cs i (get_or cs i 0 - c)) k + more_of n c k ≡ count_beside ns cs k
    fewer_found c k few =
        ap (λ (x : ℕ). x + more_of n c k)
        (found_set ns cs i n (get_or cs i 0 - c) k whole.both whole.ascending within is)
        ∙ fewer n k c (get_or cs i 0 - c) (get_or cs i 0) (count_beside ns cs k) (omega (arith, few)) (here k)

    pub none_found : (c k : ℕ) → get_or cs i 0 ≡ c
        → count_beside (remove ns i) (remove cs i) k + more_of n c k ≡ count_beside ns cs k
    none_found c k all =
        ap (λ (x : ℕ). x + more_of n c k)
        (found_removed ns cs i n k whole.both whole.ascending within is)
        ∙ fewer n k c 0 (get_or cs i 0) (count_beside ns cs k) (omega (arith, all)) (here k)

  pub whole_set : (c : ℕ) → 1 ≤ c → IsWhole ns (slice_set cs i c)
  whole_set c one = record {
    both = whole.both ∙ sym (length_set cs i c);
    ascending = whole.ascending;
    some = some_set cs i c whole.some one;
  }

  pub whole_removed : IsWhole (remove ns i) (remove cs i)
  whole_removed = record {
    both = same_removed ns cs i whole.both;
    ascending = remove_first ns i whole.ascending;
    some = some_removed cs i whole.some;
  }

  module _ (within : i ≤ length ns) (below : (j : ℕ) → j < i → get_or ns j 0 < n)
      (above : (j : ℕ) → i ≤ j → j < length ns → n < get_or ns j 0)
    where
      place : IsPlace ns i n
      place = record { within = within; below = below; above = above }

      pub none_waits : count_beside ns cs n ≡ 0
      none_waits = missing ns cs i n place

      pub more_missing : (c k : ℕ)
          → count_beside (insert ns i n) (insert cs i c) k ≡ count_beside ns cs k + more_of n c k
      more_missing c k =
          missing_inserted ns cs i n c k whole.both place
          ∙ (ap (λ (x : ℕ). cond (eqb n k) x (count_beside ns cs k)) (sym none_more)
          ∙ more n k c 0 (count_beside ns cs k)
          (λ e. subst (λ (x : ℕ). count_beside ns cs x ≡ 0) e none_waits))
        where
          none_more : 0 + c ≡ c
          none_more = omega arith

      pub whole_inserted : (c : ℕ) → 1 ≤ c → IsWhole (insert ns i n) (insert cs i c)
      whole_inserted c one = record {
        both = same_inserted ns cs i n c whole.both;
        ascending = insert_first ns i n whole.ascending place;
        some = some_inserted cs i c whole.some one;
      }

-- none more of an item
pub none_more : (n c k : ℕ) → c ≡ 0 → more_of n c k ≡ 0
none_more n c k none = by_test (eqb n k)
  where
    by_test : (t : Bool) → cond t c 0 ≡ 0
    by_test true = none
    by_test false = refl

-- ---- a number stands among the others exactly where some count stands beside it

absent_none : (ns cs : List ℕ) (i : ℕ) → list_any (λ s. i == s) ns ≡ false → count_beside ns cs i ≡ 0
absent_none [] cs i isnt = refl
absent_none (n ∷ ns) [] i isnt = refl
absent_none (n ∷ ns) (c ∷ cs) i isnt =
    let parts = or_parts (eqb i n) (list_any (λ s. i == s) ns) isnt in
    pass n i c (count_beside ns cs i)
    (λ e. (let does : eqb i n ≡ true = eq-eqb i n (sym e) in let never = parts.0 in cc))
    ∙ absent_none ns cs i parts.1

present_some : (ns cs : List ℕ) (i : ℕ) → length ns ≡ length cs → AreSome cs
    → list_any (λ s. i == s) ns ≡ true → 1 ≤ count_beside ns cs i
present_some [] cs i both some does = absurd cc
present_some (n ∷ ns) [] i both some does = absurd (omega (arith, both))
present_some (n ∷ ns) (c ∷ cs) i both some does =
    by_test (eqb n i) refl (λ later. present_some ns cs i (omega (arith, both)) some.1 later)
  where
    behind : (t : Bool) → eqb i n ≡ t → eqb n i ≡ false → (t || list_any (λ s. i == s) ns) ≡ true
        → list_any (λ s. i == s) ns ≡ true
    behind true is isnt has = absurd (let same : eqb n i ≡ true = eq-eqb n i (sym (eqb-true i n is)) in cc)
    behind false is isnt has = has

    by_test : (t : Bool) → eqb n i ≡ t → (list_any (λ s. i == s) ns ≡ true → 1 ≤ count_beside ns cs i)
        → 1 ≤ cond t c (count_beside ns cs i)
    by_test true e again = some.0
    by_test false e again = again (behind (eqb i n) refl e does)

pub listed : (ns cs : List ℕ) (i : ℕ) → length ns ≡ length cs → AreSome cs
    → (list_any (λ s. i == s) ns ≡ true) ↔ (1 ≤ count_beside ns cs i)
listed ns cs i both some = (present_some ns cs i both some, λ one. by_test (list_any (λ s. i == s) ns) refl one)
  where
    by_test : (t : Bool) → list_any (λ s. i == s) ns ≡ t → 1 ≤ count_beside ns cs i
        → list_any (λ s. i == s) ns ≡ true
    by_test true e one = e
    by_test false e one = (let none = absent_none ns cs i e in absurd (omega (arith, one, none)))

-- as many more of the item itself
pub more_self : (n c : ℕ) → more_of n c n ≡ c
more_self n c = ap (λ (t : Bool). cond t c 0) (eq-eqb n n refl)
