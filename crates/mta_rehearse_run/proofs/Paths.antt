-- From each agent there is one walk, and it has no more agents than there are.
use Rattle.std.proofs.Common.{◌≡◌, ◌≢◌, ℕ, zero, suc, ◌+◌, ◌-◌, ◌<◌, ◌≤◌, eqb, eqb-true, List, [], ◌∷◌, ◌++◌, length}
use Rattle.std.proofs.Common.{get_or, refl, sym, ap, subst, ◌∙◌, ◌⊎◌, inl, inr, arith, length-append}
use Rattle.std.specs.Prelude.{Contains}
use Rattle.std.proofs.lemmas.Bool.{cases_Bool, eqb-false}
use Rattle.std.proofs.lemmas.List.{get_or_append_left, ext_get_or}
use Rattle.std.proofs.lemmas.Grind.{get_or_default_zero}
use Rattle.std.proofs.Math.Seq.{get_or-append_seam}
use Rattle.mta_rehearse_run.specs.declared.walked.WalkEnd.{WalkEnd}
use Rattle.mta_rehearse_run.specs.declared.walked.WalkEnd.TheVariants as Ends
use Rattle.mta_rehearse_run.specs.declared.turn.Turn.{Turn}
use Rattle.mta_rehearse_run.specs.declared.turn.Turn.TheVariants.{On, Over}
use Rattle.mta_rehearse_run.specs.Walks.{IsPath, EndsBy, over, around, IsWalkBy}
use Rattle.mta_rehearse_run.proofs.Different.{few_below}

-- ---- what is in a list

abbrev HasAt : List ℕ → ℕ → Type 0
HasAt xs a = (k : ℕ) × (k < length xs) × (get_or xs k 0 ≡ a)

pub at_of : (xs : List ℕ) (a : ℕ) → Contains xs a → HasAt xs a
at_of xs a h = (h.0, h.1, sym (get_or_default_zero xs h.0 a h.1) ∙ h.2)

pub contains_at : (xs : List ℕ) (k a : ℕ) → k < length xs → get_or xs k 0 ≡ a → Contains xs a
contains_at xs k a l e = (k, l, get_or_default_zero xs k a l ∙ e)

abbrev HasOrNot : List ℕ → ℕ → Type 0
HasOrNot xs a = Contains xs a ⊎ (Contains xs a → ⊥)

further : (x a : ℕ) (xs : List ℕ) → (x ≡ a → ⊥) → HasOrNot xs a → HasOrNot (x ∷ xs) a
further x a xs ne (inl h) = inl (suc h.0, omega (arith, h.1), h.2)
further x a xs ne (inr without) = inr (λ h. none h.0 h.1 h.2)
  where
    none : (k : ℕ) → k < length (x ∷ xs) → get_or (x ∷ xs) k a ≡ a → ⊥
    none zero l e = ne e
    none (suc k) l e = without (k, omega (arith, l), e)

pub has_or_not : (xs : List ℕ) (a : ℕ) → HasOrNot xs a
has_or_not [] a = inr (λ h. absurd (omega (arith, h.1)))
has_or_not (x ∷ xs) a = elim (cases_Bool (eqb x a)) [
  | inl e ↦ inl (0, omega arith, eqb-true x a e)
  | inr f ↦ further x a xs (eqb-false x a f) (has_or_not xs a)
]

-- ---- one agent more

in_front : (xs : List ℕ) (a k : ℕ) → k < length xs → get_or (xs ++ a ∷ []) k 0 ≡ get_or xs k 0
in_front xs a k l = get_or_append_left xs (a ∷ []) 0 k l

at_end : (xs : List ℕ) (a k : ℕ) → k ≡ length xs → get_or (xs ++ a ∷ []) k 0 ≡ a
at_end xs a k e = rw e (get_or-append_seam xs a [] 0)

pub one_longer : (xs : List ℕ) (a : ℕ) → length (xs ++ a ∷ []) ≡ length xs + 1
one_longer xs a = length-append xs (a ∷ [])

upto_or_at : (k n : ℕ) → k < n + 1 → (k < n) ⊎ (k ≡ n)
upto_or_at zero zero l = inr refl
upto_or_at zero (suc n) l = inl (omega arith)
upto_or_at (suc k) zero l = absurd (omega (arith, l))
upto_or_at (suc k) (suc n) l = elim (upto_or_at k n (omega (arith, l))) [
  | inl h ↦ inl (omega (arith, h))
  | inr e ↦ inr (ap suc e)
]

pub last_more : (xs : List ℕ) (a : ℕ) → a ≡ get_or (xs ++ a ∷ []) (length (xs ++ a ∷ []) - 1) 0
last_more xs a =
    let e : length (xs ++ a ∷ []) - 1 ≡ length xs = omega (arith, one_longer xs a) in
    sym (at_end xs a (length (xs ++ a ∷ []) - 1) e)

-- from no agent the name goes on to one that is not below n
abbrev pub StaysBelow : (ℕ → Turn) → ℕ → Type 0
StaysBelow turn n = (a b : ℕ) → turn a ≡ On b → b < n

module _ (turn : ℕ → Turn) (start : ℕ) where
  next_more : (xs : List ℕ) (a : ℕ) → IsPath turn start xs → turn (get_or xs (length xs - 1) 0) ≡ On a
      → (k : ℕ) → (k + 1 < length xs) ⊎ (k + 1 ≡ length xs)
      → turn (get_or (xs ++ a ∷ []) k 0) ≡ On (get_or (xs ++ a ∷ []) (k + 1) 0)
  next_more xs a p goes k (inl l) =
      let first = in_front xs a k (omega (arith, l)) in
      let second = in_front xs a (k + 1) l in
      ap turn first ∙ p.each_next k l ∙ ap On (sym second)
  next_more xs a p goes k (inr e) =
      let last : k ≡ length xs - 1 = omega (arith, e) in
      let first = in_front xs a k (omega (arith, e)) in
      let second = at_end xs a (k + 1) e in
      ap turn first ∙ ap (λ (i : ℕ). turn (get_or xs i 0)) last ∙ goes ∙ ap On (sym second)

  differ_more : (xs : List ℕ) (a : ℕ) → IsPath turn start xs → (Contains xs a → ⊥)
      → (j k : ℕ) → j < k → (k < length xs) ⊎ (k ≡ length xs)
      → get_or (xs ++ a ∷ []) j 0 ≢ get_or (xs ++ a ∷ []) k 0
  differ_more xs a p new j k l (inl m) e =
      p.differ j k l m (sym (in_front xs a j (omega (arith, l, m))) ∙ e ∙ in_front xs a k m)
  differ_more xs a p new j k l (inr m) e =
      let within : j < length xs = omega (arith, l, m) in
      new (contains_at xs j a within (sym (in_front xs a j within) ∙ e ∙ at_end xs a k m))

  pub path_more : (xs : List ℕ) (a : ℕ) → IsPath turn start xs → turn (get_or xs (length xs - 1) 0) ≡ On a
      → (Contains xs a → ⊥) → IsPath turn start (xs ++ a ∷ [])
  path_more xs a p goes new = record {
    begins = (omega (arith, one_longer xs a), in_front xs a 0 p.begins.0 ∙ p.begins.1);
    each_next = λ k l. next_more xs a p goes k (upto_or_at (k + 1) (length xs) (omega (arith, l, one_longer xs a)));
    differ = λ j k l m. differ_more xs a p new j k l (upto_or_at k (length xs) (omega (arith, m, one_longer xs a)));
  }

  pub path_of_one : IsPath turn start (start ∷ [])
  path_of_one = record {
    begins = (omega arith, refl);
    each_next = λ k l. absurd (omega (arith, l));
    differ = λ j k l m. absurd (omega (arith, l, m));
  }

  -- ---- there is no other

  same_on : (a b : ℕ) → On a ≡ On b → a ≡ b
  same_on a b e = cc

  same_at : (xs ys : List ℕ) → IsPath turn start xs → IsPath turn start ys
      → (k : ℕ) → k < length xs → k < length ys → get_or xs k 0 ≡ get_or ys k 0
  same_at xs ys p q zero l m = p.begins.1 ∙ sym q.begins.1
  same_at xs ys p q (suc k) l m =
      let before = same_at xs ys p q k (omega (arith, l)) (omega (arith, m)) in
      let one : k + 1 ≡ suc k = omega arith in
      let first = p.each_next k (omega (arith, l)) in
      let second = q.each_next k (omega (arith, m)) in
      let e = same_on (get_or xs (k + 1) 0) (get_or ys (k + 1) 0) (sym first ∙ ap turn before ∙ second) in
      ap (λ (i : ℕ). get_or xs i 0) (sym one) ∙ e ∙ ap (λ (i : ℕ). get_or ys i 0) one

  on_over : (a : ℕ) (end : WalkEnd) → On a ≡ Over end → ⊥
  on_over a end e = absurd cc

  ended : (xs : List ℕ) (a last : ℕ) (end : WalkEnd) → turn last ≡ On a → EndsBy (turn last) xs end → Contains xs a
  ended xs a last end goes (over e) = absurd (on_over a end (sym goes ∙ e))
  ended xs a last end goes (around b e h is) = subst (Contains xs) (same_on b a (sym e ∙ goes)) h

  not_longer : (xs ys : List ℕ) (end : WalkEnd) → IsWalkBy turn start xs end → IsPath turn start ys
      → length xs < length ys → ⊥
  not_longer xs ys end w q l =
      let p = w.path in
      let some = p.begins.0 in
      let last = length xs - 1 in
      let behind : last + 1 ≡ length xs = omega (arith, some) in
      let same = same_at xs ys p q last (omega (arith, some)) (omega (arith, some, l)) in
      let goes = ap turn same ∙ q.each_next last (omega (arith, some, l)) in
      let next = get_or ys (last + 1) 0 in
      let h = at_of xs next (ended xs next (get_or xs last 0) end goes w.ends) in
      q.differ h.0 (last + 1) (omega (arith, h.1, behind)) (omega (arith, behind, l))
      (sym (same_at xs ys p q h.0 h.1 (omega (arith, h.1, l))) ∙ h.2)

  same_over : (a b : WalkEnd) → Over a ≡ Over b → a ≡ b
  same_over a b e = cc

  same_end : (xs : List ℕ) (last : ℕ) (d e : WalkEnd) → EndsBy (turn last) xs d → EndsBy (turn last) xs e → d ≡ e
  same_end xs last d e (over g) (over h) = same_over d e (sym g ∙ h)
  same_end xs last d e (over g) (around b h i k) = absurd (on_over b d (sym h ∙ g))
  same_end xs last d e (around a g i k) (over h) = absurd (on_over a e (sym g ∙ h))
  same_end xs last d e (around a g i k) (around b h j m) = k ∙ ap Ends.Loop (same_on a b (sym g ∙ h)) ∙ sym m

  equal : (m n : ℕ) → (m < n → ⊥) → (n < m → ⊥) → m ≡ n
  equal m n h k = omega arith

  pub one_walk : (xs ys : List ℕ) (d e : WalkEnd) → IsWalkBy turn start xs d → IsWalkBy turn start ys e
      → (xs ≡ ys) × (d ≡ e)
  one_walk xs ys d e v w =
      let long = equal (length xs) (length ys) (not_longer xs ys d v w.path) (not_longer ys xs e w v.path) in
      let same = ext_get_or 0 xs ys long (λ i l. same_at xs ys v.path w.path i l (omega (arith, l, long))) in
      let ends = subst (λ (zs : List ℕ). EndsBy (turn (get_or zs (length zs - 1) 0)) zs d) same v.ends in
      (same, same_end ys (get_or ys (length ys - 1) 0) d e ends w.ends)

  -- ---- there is one

  pub below : (n : ℕ) (xs : List ℕ) → StaysBelow turn n → start < n → IsPath turn start xs
      → (k : ℕ) → k < length xs → get_or xs k 0 < n
  below n xs stays s p zero l = omega (arith, p.begins.1, s)
  below n xs stays s p (suc k) l =
      let one : k + 1 ≡ suc k = omega arith in
      let next = stays (get_or xs k 0) (get_or xs (k + 1) 0) (p.each_next k (omega (arith, l))) in
      subst (λ (i : ℕ). get_or xs i 0 < n) one next

  pub few_on_path : (n : ℕ) (xs : List ℕ) → StaysBelow turn n → start < n → IsPath turn start xs → length xs ≤ n
  few_on_path n xs stays s p = few_below n xs (below n xs stays s p) p.differ

  abbrev pub HasWalk : Type 0
  HasWalk = (agents : List ℕ) × (end : WalkEnd) × IsWalkBy turn start agents end

  cases_turn : (t : Turn) → ((a : ℕ) × (t ≡ On a)) ⊎ ((end : WalkEnd) × (t ≡ Over end))
  cases_turn (On a) = inl (a, refl)
  cases_turn (Over end) = inr (end, refl)

  full : (n m room : ℕ) → m ≤ n → m + room ≡ n + 1 → room ≡ 0 → ⊥
  full n m room h e z = omega arith

  walk_on : (n room : ℕ) (xs : List ℕ) → StaysBelow turn n → start < n → IsPath turn start xs
      → length xs + room ≡ n + 1 → HasWalk
  walk_on n zero xs stays s p e = absurd (full n (length xs) 0 (few_on_path n xs stays s p) e refl)
  walk_on n (suc room) xs stays s p e = elim (cases_turn (turn (get_or xs (length xs - 1) 0))) [
    | inr h ↦ (xs, h.0, record { path = p; ends = over h.1 })
    | inl h ↦ elim (has_or_not xs h.0) [
      | inl there ↦ (xs, Ends.Loop h.0, record { path = p; ends = around h.0 h.1 there refl })
      | inr new ↦ walk_on n room (xs ++ h.0 ∷ []) stays s (path_more xs h.0 p h.1 new)
          (omega (arith, e, one_longer xs h.0))
    ]
  ]

  pub has_walk : (n : ℕ) → StaysBelow turn n → start < n → HasWalk
  has_walk n stays s = walk_on n n (start ∷ []) stays s path_of_one (omega arith)
