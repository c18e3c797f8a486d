-- Spans, the blocks over them, and the next that is open.
use Rattle.std.proofs.Common.{inl, inr, ◌≡◌, ◌≤◌, ◌<◌, ◌+◌, ◌*◌, ◌/◌, ◌%◌, ℕ, zero, suc, Bool, true, false, List, [], ◌∷◌}
use Rattle.std.proofs.Common.{◌++◌, length, get_or, Option, Some, None, refl, sym, ap, subst, ◌∙◌, arith}
use Rattle.std.proofs.Common.{div-add-mod', mod-lt, length-append}
use Rattle.std.specs.Prelude.{◌⊎◌, ◌&&◌, not, nat_le, nat_lt, slice_get, slice_set}
use Rattle.std.proofs.lemmas.Bool.{cases_lt, leb-false, ltb-false, lt-leb, le-ltb}
use Rattle.std.proofs.lemmas.Option.{same_Some, slice_get-get_or, slice_get_within}
use Rattle.mta_lanes.specs.Order.{AreInOrder}
use Rattle.mta_machine.specs.Items.{numbered}
use Rattle.mta_state.specs.declared.rest.Span.{Span}
use Rattle.mta_state.specs.Spans.{has}
use Rattle.mta_dues.specs.Spans.{AreClosed, AreCovered, Covers, IsCovered, IsLearnt, IsNextOpen}
use Rattle.mta_dues.specs.Spans.{NoneOpenBetween, held_as, is_open, joined, open_by, widened, widened_by}

-- ---- lists

get_same : {A : Type 0} (xs : List A) (n : ℕ) (x : A) → n < length xs → slice_get (slice_set xs n x) n ≡ Some x
get_same [] n x within = absurd (omega (arith, within))
get_same (z ∷ zs) zero x within = refl
get_same (z ∷ zs) (suc n) x within = get_same zs n x (omega (arith, within))

get_other : {A : Type 0} (xs : List A) (n m : ℕ) (x : A) → (m ≡ n → ⊥)
    → slice_get (slice_set xs n x) m ≡ slice_get xs m
get_other [] n m x never = refl
get_other (z ∷ zs) zero zero x never = absurd (never refl)
get_other (z ∷ zs) zero (suc m) x never = refl
get_other (z ∷ zs) (suc n) zero x never = refl
get_other (z ∷ zs) (suc n) (suc m) x never = get_other zs n m x (λ e. never (ap suc e))

length_set : {A : Type 0} (xs : List A) (n : ℕ) (x : A) → length (slice_set xs n x) ≡ length xs
length_set [] n x = refl
length_set (z ∷ zs) zero x = refl
length_set (z ∷ zs) (suc n) x = ap suc (length_set zs n x)

-- what stands in a list with one more stood there before, or is that one at its end
got : {A : Type 0} (xs : List A) (x y : A) (n : ℕ) → slice_get (xs ++ x ∷ []) n ≡ Some y
    → (slice_get xs n ≡ Some y) ⊎ ((n ≡ length xs) × (y ≡ x))
got [] x y zero is = inr (refl, sym (same_Some x y is))
got [] x y (suc n) is = absurd cc
got (z ∷ xs) x y zero is = inl is
got (z ∷ xs) x y (suc n) is = elim (got xs x y n is) [
  | inl before ↦ inl before
  | inr last ↦ inr ((let e = last.0 in omega (arith, e)), last.1)
]

-- what stood there stands there still
still : {A : Type 0} (xs : List A) (x y : A) (n : ℕ) → slice_get xs n ≡ Some y → slice_get (xs ++ x ∷ []) n ≡ Some y
still [] x y n is = absurd cc
still (z ∷ xs) x y zero is = is
still (z ∷ xs) x y (suc n) is = still xs x y n is

at_end : {A : Type 0} (xs : List A) (x : A) → slice_get (xs ++ x ∷ []) (length xs) ≡ Some x
at_end [] x = refl
at_end (z ∷ xs) x = at_end xs x

same_place : (a b : ℕ) → (a ≡ b) ⊎ (a ≡ b → ⊥)
same_place a b = elim (cases_lt a b) [
  | inl below ↦ inr (λ e. omega (arith, below, e))
  | inr from ↦ elim (cases_lt b a) [
    | inl above ↦ inr (λ e. omega (arith, above, e))
    | inr most ↦ inl (omega (arith, from, most))
  ]
]

-- ---- blocks

-- the numbers of a block
pub record IsIn (n block : ℕ) : Type 0 where
  pub from : 1024 * block ≤ n
  pub below : n < 1024 * block + 1024

pub block_of : (n : ℕ) → IsIn n (n / 1024)
block_of n =
    let whole = div-add-mod' n 1024 in
    let part : n % 1024 < 1024 = mod-lt n (omega arith) in
    record { from = omega (arith, whole, part); below = omega (arith, whole, part) }

pub one_block : (n a b : ℕ) → IsIn n a → IsIn n b → a ≡ b
one_block n a b in_a in_b =
    let low = in_a.from in let high = in_a.below in let least = in_b.from in let most = in_b.below in
    omega (arith, low, high, least, most)

pub none_covered : (each blocks : List Span) → each ≡ [] → blocks ≡ [] → AreCovered each blocks
none_covered each blocks none nothing = record {
  enough = (let long = ap length none in omega (arith, long));
  all = λ n block span is low high.
      let never : slice_get [] n ≡ Some span = subst (λ (xs : List Span). slice_get xs n ≡ Some span) none is in
      absurd (no_span n span never);
} where
  no_span : (n : ℕ) (span : Span) → slice_get [] n ≡ Some span → ⊥
  no_span n span never = cc

-- a span that is covered is so by a block that has what the other has
covers_more : (block old span : Span) → Covers old span → block.from ≤ old.from → old.until ≤ block.until
    → Covers block span
covers_more block old span covers from until =
    let a = covers.from in let b = covers.until in
    record { from = omega (arith, a, from); until = omega (arith, b, until) }

covered_set : (blocks : List Span) (place : ℕ) (old new : Span) → slice_get blocks place ≡ Some old
    → new.from ≤ old.from → old.until ≤ new.until → (block : ℕ) (span : Span) → IsCovered blocks block span
    → IsCovered (slice_set blocks place new) block span
covered_set blocks place old new there from until block span is = elim (same_place block place) [
  | inl same ↦ record {
    whole = new;
    there = subst (λ (p : ℕ). slice_get (slice_set blocks place new) p ≡ Some new) (sym same)
        (get_same blocks place new (slice_get_within blocks place old there));
    covers =
        (let one : is.whole ≡ old =
        same_Some is.whole old (sym is.there ∙ (ap (λ (p : ℕ). slice_get blocks p) same ∙ there)) in
        covers_more new old span (subst (λ (w : Span). Covers w span) one is.covers) from until);
  }
  | inr apart ↦ record {
    whole = is.whole;
    there = get_other blocks place block new apart ∙ is.there;
    covers = is.covers;
  }
]

joined_from : (block span : Span) → (joined block span).from ≤ block.from
joined_from block span = omega arith

joined_until : (block span : Span) → block.until ≤ (joined block span).until
joined_until block span = omega arith

joined_covers : (block span : Span) → Covers (joined block span) span
joined_covers block span = record { from = omega arith; until = omega arith }

-- what is covered is so when a block is widened
pub widened_kept : (each blocks : List Span) (place : ℕ) (span : Span) → AreCovered each blocks
    → AreCovered each (widened blocks place span)
widened_kept each blocks place span covered = by_block (slice_get blocks place) refl
  where
    by_block : (o : Option Span) → slice_get blocks place ≡ o → AreCovered each (widened_by blocks place o span)
    by_block None there = covered
    by_block (Some old) there = record {
      enough =
          (let few = covered.enough in
          let same = length_set blocks place (joined old span) in
          omega (arith, few, same));
      all = λ n block other is low high.
          covered_set blocks place old (joined old span) there (joined_from old span) (joined_until old span) block
          other (covered.all n block other is low high);
    }

-- and when there is a block more
pub pushed_kept : (each blocks : List Span) (span : Span) → AreCovered each blocks
    → AreCovered each (blocks ++ span ∷ [])
pushed_kept each blocks span covered = record {
  enough =
      (let few = covered.enough in
      let more = length-append blocks (span ∷ []) in
      omega (arith, few, more));
  all = λ n block other is low high.
      let was = covered.all n block other is low high in
      record { whole = was.whole; there = still blocks span was.whole block was.there; covers = was.covers };
}

-- with a block for one span more, which is long enough
covered_more : (each blocks : List Span) (span : Span) (place : ℕ) → IsIn (length each + 1) place
    → AreCovered each blocks → IsCovered blocks place span → AreCovered (each ++ span ∷ []) blocks
covered_more each blocks span place at covered last = record {
  enough =
      (let more = length-append each (span ∷ []) in
      let within = slice_get_within blocks place last.whole last.there in
      let below = at.below in
      omega (arith, more, within, below));
  all = λ n block other is low high. elim (got each span other n is) [
    | inl before ↦ covered.all n block other before low high
    | inr here ↦ (let same : place ≡ block =
        one_block (n + 1) place block
        (subst (λ (k : ℕ). IsIn (k + 1) place) (sym here.0) at) (record { from = low; below = high }) in
        subst (λ (b : ℕ). IsCovered blocks b other) same
        (subst (λ (s : Span). IsCovered blocks place s) (sym here.1) last))
  ];
}

widened_covers : (blocks : List Span) (place : ℕ) (span : Span) → place < length blocks
    → IsCovered (widened blocks place span) place span
widened_covers blocks place span within = by_block (slice_get blocks place) refl
  where
    by_block : (o : Option Span) → slice_get blocks place ≡ o → IsCovered (widened_by blocks place o span) place span
    by_block None there = absurd (none_there there (slice_get-get_or blocks place span within))
      where
        none_there : slice_get blocks place ≡ None → slice_get blocks place ≡ Some (get_or blocks place span) → ⊥
        none_there none some = cc
    by_block (Some old) there = record {
      whole = joined old span;
      there = get_same blocks place (joined old span) within;
      covers = joined_covers old span;
    }

pub widened_more : (each blocks : List Span) (place : ℕ) (span : Span) → place ≡ (length each + 1) / 1024
    → place < length blocks → AreCovered each blocks → AreCovered (each ++ span ∷ []) (widened blocks place span)
widened_more each blocks place span is within covered =
    covered_more each (widened blocks place span) span place
    (subst (λ (b : ℕ). IsIn (length each + 1) b) (sym is) (block_of (length each + 1)))
    (widened_kept each blocks place span covered) (widened_covers blocks place span within)

pub pushed_more : (each blocks : List Span) (place : ℕ) (span : Span) → place ≡ (length each + 1) / 1024
    → length blocks ≤ place → AreCovered each blocks → AreCovered (each ++ span ∷ []) (blocks ++ span ∷ [])
pushed_more each blocks place span is far covered =
    let at : IsIn (length each + 1) place =
    subst (λ (b : ℕ). IsIn (length each + 1) b) (sym is) (block_of (length each + 1)) in
    let here : length blocks ≡ place =
    (let few = covered.enough in let from = at.from in omega (arith, few, from, far)) in
    covered_more each (blocks ++ span ∷ []) span place at (pushed_kept each blocks span covered)
    (record {
      whole = span;
      there = subst (λ (p : ℕ). slice_get (blocks ++ span ∷ []) p ≡ Some span) here (at_end blocks span);
      covers = record { from = omega arith; until = omega arith };
    })

pub ruleset cover_laws = (widened_kept, pushed_kept, widened_more, pushed_more)

-- ---- what is known

pub learnt_none : (old new : List Span) (number : ℕ) (span : Span) → new ≡ old → IsLearnt old new number span
learnt_none old new number span same i s is =
    inl (subst (λ (spans : List Span). numbered spans i ≡ Some s) same is)

pub learnt_one : (old new : List Span) (number : ℕ) (span : Span) → number ≡ length old + 1
    → new ≡ old ++ held_as span ∷ [] → IsLearnt old new number span
learnt_one old new number span next more zero s is = absurd cc
learnt_one old new number span next more (suc n) s is =
    elim (got old (held_as span) s n (subst (λ (spans : List Span). slice_get spans n ≡ Some s) more is)) [
      | inl before ↦ inl before
      | inr last ↦ inr ((let e = last.0 in omega (arith, next, e)), last.1)
    ]

pub ruleset learnt_laws = (learnt_none, learnt_one)

-- ---- what is closed

pub not_true : (b : Bool) → not b ≡ true → b ≡ false
not_true true e = absurd cc
not_true false e = refl

and_false : (a b : Bool) → b ≡ false → (a && b) ≡ false
and_false true b e = e
and_false false b e = refl

-- what a block has not no span has that it covers
has_not : (block span : Span) (moment : ℕ) → Covers block span → has block moment ≡ false → has span moment ≡ false
has_not block span moment covers isnt = by_from (nat_le block.from moment) refl isnt
  where
    by_until : nat_lt moment block.until ≡ false → has span moment ≡ false
    by_until past =
        let over : block.until ≤ moment = ltb-false moment block.until past in
        let until = covers.until in
        let late : nat_lt moment span.until ≡ false = le-ltb moment span.until (omega (arith, over, until)) in
        and_false (nat_le span.from moment) (nat_lt moment span.until) late

    by_from : (b : Bool) → nat_le block.from moment ≡ b → (b && nat_lt moment block.until) ≡ false
        → has span moment ≡ false
    by_from true is past = by_until past
    by_from false is past =
        let early : moment < block.from = leb-false block.from moment is in
        let from = covers.from in
        let not_yet : nat_le span.from moment ≡ false = lt-leb span.from moment (omega (arith, early, from)) in
        ap (λ (b : Bool). b && nat_lt moment span.until) not_yet

-- a block is closed whose numbers are all known, where it has not the moment
pub block_closed : (each blocks : List Span) (block moment : ℕ) (whole : Span) → AreCovered each blocks
    → 1024 * block + 1023 ≤ length each → slice_get blocks block ≡ Some whole → has whole moment ≡ false
    → AreClosed each block moment
block_closed each blocks block moment whole covered known there isnt zero low high = refl
block_closed each blocks block moment whole covered known there isnt (suc n) low high =
    let within : n < length each = omega (arith, known, high) in
    let is = slice_get-get_or each n whole within in
    let span : Span = get_or each n whole in
    let by = covered.all n block span is (omega (arith, low)) (omega (arith, high)) in
    let same : by.whole ≡ whole = same_Some by.whole whole (sym by.there ∙ there) in
    let closed : has span moment ≡ false =
    has_not whole span moment (subst (λ (w : Span). Covers w span) same by.covers) isnt in
    ap (λ (o : Option Span). open_by o moment) is ∙ closed

-- between a place in a closed block and what is behind the block's last number, none is open
pub none_behind : (spans : List Span) (numbers : List ℕ) (place block moment last behind : ℕ) → AreInOrder numbers
    → place < length numbers → behind ≤ length numbers → block ≡ get_or numbers place 0 / 1024
    → last ≤ 1024 * block + 1023
    → ((k : ℕ) → k < behind → get_or numbers k 0 ≤ last) → AreClosed spans block moment
    → (k : ℕ) → place < k → k < behind → is_open spans (get_or numbers k 0) moment ≡ false
none_behind spans numbers place block moment last behind order within most is last_is below closed k above less =
    let at = block_of (get_or numbers place 0) in
    let from : 1024 * block ≤ get_or numbers place 0 =
    subst (λ (b : ℕ). 1024 * b ≤ get_or numbers place 0) (sym is) at.from in
    let up = order place k (omega (arith, above)) (omega (arith, less, most)) in
    let low = below k less in
    closed (get_or numbers k 0) (omega (arith, from, up)) (omega (arith, low, last_is))

-- ---- the next that is open

pub none_at_first : (spans : List Span) (numbers : List ℕ) (from moment : ℕ)
    → NoneOpenBetween spans numbers from from moment
none_at_first spans numbers from moment k low high = absurd (omega (arith, low, high))

pub none_further : (spans : List Span) (numbers : List ℕ) (from place next moment : ℕ)
    → NoneOpenBetween spans numbers from place moment → is_open spans (get_or numbers place 0) moment ≡ false
    → ((k : ℕ) → place < k → k < next → is_open spans (get_or numbers k 0) moment ≡ false)
    → NoneOpenBetween spans numbers from next moment
none_further spans numbers from place next moment before here behind k low high = elim (cases_lt k place) [
  | inl below ↦ before k low below
  | inr above ↦ elim (same_place k place) [
    | inl same ↦ subst (λ (p : ℕ). is_open spans (get_or numbers p 0) moment ≡ false) (sym same) here
    | inr apart ↦ behind k (past above apart) high
  ]
] where
  past : place ≤ k → (k ≡ place → ⊥) → place < k
  past most apart = elim (cases_lt place k) [
    | inl less ↦ less
    | inr far ↦ absurd (apart (omega (arith, most, far)))
  ]

pub none_at_all : (spans : List Span) (numbers : List ℕ) (from place moment : ℕ) → length numbers ≤ place
    → NoneOpenBetween spans numbers from place moment → IsNextOpen spans numbers from moment None
none_at_all spans numbers from place moment far none k low high = none k low (omega (arith, far, high))

pub one_open : (spans : List Span) (numbers : List ℕ) (from place moment : ℕ) → from ≤ place → place < length numbers
    → NoneOpenBetween spans numbers from place moment → IsNextOpen spans numbers from moment (Some place)
one_open spans numbers from place moment on within none =
    record { from_on = on; within = within; none = none }

pub ruleset next_laws = (none_at_first, none_further, none_at_all, one_open)
