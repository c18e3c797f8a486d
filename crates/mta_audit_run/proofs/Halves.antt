-- What is said of a half is so.
use Rattle.std.proofs.Common.{◌≡◌, ℕ, zero, suc, ◌+◌, ◌-◌, ◌≤◌, ◌<◌, Bool, true, false, List, [], ◌∷◌, ◌++◌}
use Rattle.std.proofs.Common.{length, take, drop, min, get_or, slice_get, bytes_eq, inl, inr, refl, sym, ap, subst, ◌∙◌}
use Rattle.std.proofs.Common.{arith}
use Rattle.std.specs.Prelude.{◌⊎◌, ◌==◌, ◌&&◌, ◌||◌, if◌then◌else◌, Option, Some, None}
use Rattle.std.proofs.lemmas.List.{length-append, take_all, take_at, take_more_same, take_rest}
use Rattle.std.proofs.lemmas.List.{get_or_default}
use Rattle.std.proofs.lemmas.Bool.{cases_lt}
use Rattle.std.proofs.lemmas.Slice.Eq.{bytes_eq-Decides}
use Rattle.mta_audit_run.specs.declared.half.Half.{Half}
use Rattle.mta_audit_run.specs.declared.verdict.Verdict.TheVariants.{Agrees, Differs}
use Rattle.mta_audit_run.specs.Halves.{IsAudited, IsVerdict, common, verdict_of}

-- ---- how many are alike at the front

same-bytes : (x y : List ℕ) → bytes_eq x y ≡ true → x ≡ y
same-bytes x y e = (bytes_eq-Decides x y).0 e

equal-bytes : (x : List ℕ) → bytes_eq x x ≡ true
equal-bytes x = (bytes_eq-Decides x x).1 refl

pub common_left : (xs ys : List (List ℕ)) → common xs ys ≤ length xs
common_left [] ys = omega arith
common_left (x ∷ xs) [] = omega arith
common_left (x ∷ xs) (y ∷ ys) = by (bytes_eq x y) (common_left xs ys)
  where
    by : (b : Bool) → common xs ys ≤ length xs → (if b then suc (common xs ys) else 0) ≤ suc (length xs)
    by true less = omega (arith, less)
    by false less = omega arith

pub common_right : (xs ys : List (List ℕ)) → common xs ys ≤ length ys
common_right [] ys = omega arith
common_right (x ∷ xs) [] = omega arith
common_right (x ∷ xs) (y ∷ ys) = by (bytes_eq x y) (common_right xs ys)
  where
    by : (b : Bool) → common xs ys ≤ length ys → (if b then suc (common xs ys) else 0) ≤ suc (length ys)
    by true less = omega (arith, less)
    by false less = omega arith

pub common_take : (xs ys : List (List ℕ)) → take (common xs ys) xs ≡ take (common xs ys) ys
common_take [] ys = refl
common_take (x ∷ xs) [] = refl
common_take (x ∷ xs) (y ∷ ys) = by (bytes_eq x y) refl (common_take xs ys)
  where
    by : (b : Bool) → bytes_eq x y ≡ b → take (common xs ys) xs ≡ take (common xs ys) ys
        → take (if b then suc (common xs ys) else 0) (x ∷ xs) ≡ take (if b then suc (common xs ys) else 0) (y ∷ ys)
    by true e same = ap (λ (z : List ℕ). z ∷ take (common xs ys) xs) (same-bytes x y e)
        ∙ ap (λ (t : List (List ℕ)). y ∷ t) same
    by false e same = refl

-- a list with more behind it has all of the list alike
pub common_front : (xs zs : List (List ℕ)) → common (xs ++ zs) xs ≡ length xs
common_front [] [] = refl
common_front [] (z ∷ zs) = refl
common_front (x ∷ xs) zs = rw (equal-bytes x) (ap suc (common_front xs zs))

pub common_same : (xs : List (List ℕ)) → common xs xs ≡ length xs
common_same [] = refl
common_same (x ∷ xs) = rw (equal-bytes x) (ap suc (common_same xs))

not-none : (x : List ℕ) → ◌≡◌ {A = Option (List ℕ)} (Some x) None → ⊥
not-none x e = absurd cc

not-some : (x : List ℕ) → ◌≡◌ {A = Option (List ℕ)} None (Some x) → ⊥
not-some x e = absurd cc

some-same : (x y : List ℕ) → ◌≡◌ {A = Option (List ℕ)} (Some x) (Some y) → x ≡ y
some-same x y e = cc

-- behind those that are alike they differ, or one has ended
pub common_differs : (xs ys : List (List ℕ)) → (common xs ys < length xs) ⊎ (common xs ys < length ys)
    → slice_get xs (common xs ys) ≡ slice_get ys (common xs ys) → ⊥
common_differs [] [] (inl l) e = absurd (omega (arith, l))
common_differs [] [] (inr l) e = absurd (omega (arith, l))
common_differs [] (y ∷ ys) l e = not-some y e
common_differs (x ∷ xs) [] l e = not-none x e
common_differs (x ∷ xs) (y ∷ ys) l e = by (bytes_eq x y) refl (common_differs xs ys) l e
  where
    by : (b : Bool) → bytes_eq x y ≡ b
        → ((common xs ys < length xs) ⊎ (common xs ys < length ys)
        → slice_get xs (common xs ys) ≡ slice_get ys (common xs ys) → ⊥)
        → ((if b then suc (common xs ys) else 0) < suc (length xs))
        ⊎ ((if b then suc (common xs ys) else 0) < suc (length ys))
        → slice_get (x ∷ xs) (if b then suc (common xs ys) else 0)
        ≡ slice_get (y ∷ ys) (if b then suc (common xs ys) else 0)
        → ⊥
    by true is more (inl less) same = more (inl (omega (arith, less))) same
    by true is more (inr less) same = more (inr (omega (arith, less))) same
    by false is more less same =
        let one : x ≡ y = some-same x y same in
        let t : bytes_eq x y ≡ true = subst (λ (z : List ℕ). bytes_eq x z ≡ true) one (equal-bytes x) in
        absurd cc

-- ---- a front that is alike

heads-alike : (a b : List ℕ) (xs ys : List (List ℕ)) → a ∷ xs ≡ b ∷ ys → bytes_eq a b ≡ true
heads-alike a b xs ys e =
    let first : a ≡ b = cc in
    subst (λ (z : List ℕ). bytes_eq a z ≡ true) first (equal-bytes a)

tails-alike : (a b : List ℕ) (xs ys : List (List ℕ)) → a ∷ xs ≡ b ∷ ys → xs ≡ ys
tails-alike a b xs ys e = cc

-- it ends where the next ones differ
pub common_at : (xs ys : List (List ℕ)) (k : ℕ) (x y : List ℕ) → take k xs ≡ take k ys → k < length xs
    → k < length ys → x ≡ get_or xs k x → y ≡ get_or ys k y → bytes_eq x y ≡ false → common xs ys ≡ k
common_at [] ys k x y e l m p q other = absurd (omega (arith, l))
common_at (a ∷ xs) [] k x y e l m p q other = absurd (omega (arith, m))
common_at (a ∷ xs) (b ∷ ys) zero x y e l m p q other =
    let off : bytes_eq a b ≡ false = ap (λ (z : List ℕ). bytes_eq z b) (sym p) ∙ ap (bytes_eq x) (sym q) ∙ other in
    rw off refl
common_at (a ∷ xs) (b ∷ ys) (suc k) x y e l m p q other =
    rw (heads-alike a b (take k xs) (take k ys) e)
    (ap suc (common_at xs ys k x y (tails-alike a b (take k xs) (take k ys) e) (omega (arith, l)) (omega (arith, m)) p q
    other))

-- or where a list ends
pub common_all : (xs ys : List (List ℕ)) (k : ℕ) → take k xs ≡ take k ys → k ≡ min (length xs) (length ys)
    → common xs ys ≡ k
common_all [] ys k e is = omega (arith, is)
common_all (a ∷ xs) [] k e is = omega (arith, is)
common_all (a ∷ xs) (b ∷ ys) zero e is = absurd (omega (arith, is))
common_all (a ∷ xs) (b ∷ ys) (suc k) e is =
    rw (heads-alike a b (take k xs) (take k ys) e)
    (ap suc (common_all xs ys k (tails-alike a b (take k xs) (take k ys) e) (omega (arith, is))))

-- it is longer by one where the next ones are alike
pub front-on : (xs ys : List (List ℕ)) (k : ℕ) (x y : List ℕ) → take k xs ≡ take k ys → k < length xs
    → k < length ys → x ≡ get_or xs k x → y ≡ get_or ys k y → bytes_eq x y ≡ true → take (k + 1) xs ≡ take (k + 1) ys
front-on xs ys k x y e l m p q alike =
    take_more_same xs ys k x l m e (sym p ∙ same-bytes x y alike ∙ q ∙ get_or_default ys k y x m)

-- ---- what was sent, with more behind it

pub common_short : (xs zs ys : List (List ℕ)) → common xs ys < length xs → common (xs ++ zs) ys ≡ common xs ys
common_short [] zs ys l = absurd (omega (arith, l))
common_short (x ∷ xs) zs [] l = refl
common_short (x ∷ xs) zs (y ∷ ys) l = by (bytes_eq x y) (common_short xs zs ys) l
  where
    by : (b : Bool) → (common xs ys < length xs → common (xs ++ zs) ys ≡ common xs ys)
        → (if b then suc (common xs ys) else 0) < suc (length xs)
        → (if b then suc (common (xs ++ zs) ys) else 0) ≡ (if b then suc (common xs ys) else 0)
    by true more less = ap suc (more (omega (arith, less)))
    by false more less = refl

pub common_long : (xs zs ys : List (List ℕ)) → common xs ys ≡ length xs
    → common (xs ++ zs) ys ≡ length xs + common zs (drop (length xs) ys)
common_long [] zs ys e = omega arith
common_long (x ∷ xs) zs [] e = absurd (omega (arith, e))
common_long (x ∷ xs) zs (y ∷ ys) e = by (bytes_eq x y) (common_long xs zs ys) e
  where
    by : (b : Bool)
        → (common xs ys ≡ length xs → common (xs ++ zs) ys ≡ length xs + common zs (drop (length xs) ys))
        → (if b then suc (common xs ys) else 0) ≡ suc (length xs)
        → (if b then suc (common (xs ++ zs) ys) else 0) ≡ suc (length xs) + common zs (drop (length xs) ys)
    by true more same = let all = more (omega (arith, same)) in omega (arith, all)
    by false more same = absurd (omega (arith, same))

pub alike_short : (sent ending completed s c : List (List ℕ)) (n : ℕ) → s ≡ sent → c ≡ completed → n ≡ common s c
    → n < length s → n ≡ common (sent ++ ending) completed
alike_short sent ending completed s c n s_is c_is n_is less =
    n_is ∙ sym (common_short s ending c (omega (arith, n_is, less)))
    ∙ ap (λ (x : List (List ℕ)). common (x ++ ending) c) s_is ∙ ap (common (sent ++ ending)) c_is

pub alike_long : (sent ending completed s e c : List (List ℕ)) (n m : ℕ) → s ≡ sent → e ≡ ending → c ≡ completed
    → n ≡ common s c → length s ≤ n → m ≡ common e (take (length c - n) (drop n c))
    → n + m ≡ common (sent ++ ending) completed
alike_long sent ending completed s e c n m s_is e_is c_is n_is all m_is =
    sym whole ∙ ap (λ (x : List (List ℕ)). common (x ++ e) c) s_is
    ∙ ap (λ (x : List (List ℕ)). common (sent ++ x) c) e_is ∙ ap (common (sent ++ ending)) c_is
  where
    same : common s c ≡ length s
    same = let left = common_left s c in omega (arith, n_is, all, left)

    rest : m ≡ common e (drop (length s) c)
    rest = m_is ∙ ap (common e) (take_rest c n)
        ∙ ap (λ (k : ℕ). common e (drop k c)) (let k : n ≡ length s = omega (arith, n_is, same) in k)

    whole : common (s ++ e) c ≡ n + m
    whole = let long = common_long s e c same in omega (arith, long, rest, n_is, same)

-- ---- the verdict

nat-same : (m n : ℕ) → (m == n) ≡ true → m ≡ n
nat-same m n e = grind (arith, e)

nat-equal : (m n : ℕ) → m ≡ n → (m == n) ≡ true
nat-equal m n e = grind (arith, e)

module _ (h : Half) where
  sender-long : length (h.sent ++ h.ending) ≡ length h.sent + length h.ending
  sender-long = length-append h.sent h.ending

  -- all that was completed is alike, and it is as many as were sent
  all-sent : common (h.sent ++ h.ending) h.completed ≡ length h.completed
      → common (h.sent ++ h.ending) h.completed ≡ length h.sent → h.completed ≡ h.sent
  all-sent whole same =
      sym (take_all (common (h.sent ++ h.ending) h.completed) h.completed (omega (arith, whole)))
      ∙ sym (common_take (h.sent ++ h.ending) h.completed)
      ∙ take_at h.sent h.ending (common (h.sent ++ h.ending) h.completed) (sym same)

  -- or as many as were sent and are in Ending
  all-sender : common (h.sent ++ h.ending) h.completed ≡ length h.completed
      → common (h.sent ++ h.ending) h.completed ≡ length h.sent + length h.ending
      → h.completed ≡ h.sent ++ h.ending
  all-sender whole same =
      sym (take_all (common (h.sent ++ h.ending) h.completed) h.completed (omega (arith, whole)))
      ∙ sym (common_take (h.sent ++ h.ending) h.completed)
      ∙ take_all (common (h.sent ++ h.ending) h.completed) (h.sent ++ h.ending) (omega (arith, same, sender-long))

  sent-alike : h.completed ≡ h.sent → common (h.sent ++ h.ending) h.completed ≡ length h.sent
  sent-alike e = ap (common (h.sent ++ h.ending)) e ∙ common_front h.sent h.ending

  sender-alike : h.completed ≡ h.sent ++ h.ending
      → common (h.sent ++ h.ending) h.completed ≡ length h.sent + length h.ending
  sender-alike e = ap (common (h.sent ++ h.ending)) e ∙ common_same (h.sent ++ h.ending) ∙ sender-long

  not-audited : (common (h.sent ++ h.ending) h.completed ≡ length h.completed
      → common (h.sent ++ h.ending) h.completed ≡ length h.sent → ⊥)
      → (common (h.sent ++ h.ending) h.completed ≡ length h.completed
      → common (h.sent ++ h.ending) h.completed ≡ length h.sent + length h.ending → ⊥)
      → IsAudited h → ⊥
  not-audited one other (inl e) = one (sent-alike e ∙ ap length (sym e)) (sent-alike e)
  not-audited one other (inr e) =
      other (sender-alike e ∙ sym sender-long ∙ ap length (sym e)) (sender-alike e)

  -- where both ended together, it would be as many
  one-longer : (common (h.sent ++ h.ending) h.completed ≡ length h.completed
      → common (h.sent ++ h.ending) h.completed ≡ length h.sent + length h.ending → ⊥)
      → (common (h.sent ++ h.ending) h.completed < length (h.sent ++ h.ending))
      ⊎ (common (h.sent ++ h.ending) h.completed < length h.completed)
  one-longer other = elim (cases_lt (common (h.sent ++ h.ending) h.completed) (length h.completed)) [
    | inl less ↦ inr less
    | inr whole ↦
        elim (cases_lt (common (h.sent ++ h.ending) h.completed) (length (h.sent ++ h.ending))) [
          | inl less ↦ inl less
          | inr all ↦
              let left = common_left (h.sent ++ h.ending) h.completed in
              let right = common_right (h.sent ++ h.ending) h.completed in
              absurd (other (omega (arith, whole, right)) (omega (arith, all, left, sender-long)))
        ]
  ]

  differs-there : (common (h.sent ++ h.ending) h.completed ≡ length h.completed
      → common (h.sent ++ h.ending) h.completed ≡ length h.sent → ⊥)
      → (common (h.sent ++ h.ending) h.completed ≡ length h.completed
      → common (h.sent ++ h.ending) h.completed ≡ length h.sent + length h.ending → ⊥)
      → IsVerdict h (Differs (common (h.sent ++ h.ending) h.completed + 1))
  differs-there one other = (
    not-audited one other,
    record {
      counted = omega arith;
      same = rw less (common_take (h.sent ++ h.ending) h.completed);
      differs = rw less (common_differs (h.sent ++ h.ending) h.completed (one-longer other));
    },
  ) where
    less : common (h.sent ++ h.ending) h.completed + 1 - 1 ≡ common (h.sent ++ h.ending) h.completed
    less = omega arith

  false-not : (m n : ℕ) → (m == n) ≡ false → m ≡ n → ⊥
  false-not m n other e = let yes = nat-equal m n e in absurd cc

  verdict-by : (a b d : Bool) → (common (h.sent ++ h.ending) h.completed == length h.completed) ≡ a
      → (common (h.sent ++ h.ending) h.completed == length h.sent) ≡ b
      → (common (h.sent ++ h.ending) h.completed == (length h.sent + length h.ending)) ≡ d
      → IsVerdict h (if a && (b || d) then Agrees else Differs (common (h.sent ++ h.ending) h.completed + 1))
  verdict-by true true d whole sent all =
      inl (all-sent (nat-same (common (h.sent ++ h.ending) h.completed) (length h.completed) whole)
      (nat-same (common (h.sent ++ h.ending) h.completed) (length h.sent) sent))
  verdict-by true false true whole sent all =
      inr (all-sender (nat-same (common (h.sent ++ h.ending) h.completed) (length h.completed) whole)
      (nat-same (common (h.sent ++ h.ending) h.completed) (length h.sent + length h.ending) all))
  verdict-by true false false whole sent all =
      differs-there
      (λ w e. false-not (common (h.sent ++ h.ending) h.completed) (length h.sent) sent e)
      (λ w e. false-not (common (h.sent ++ h.ending) h.completed) (length h.sent + length h.ending) all e)
  verdict-by false b d whole sent all =
      differs-there
      (λ w e. false-not (common (h.sent ++ h.ending) h.completed) (length h.completed) whole w)
      (λ w e. false-not (common (h.sent ++ h.ending) h.completed) (length h.completed) whole w)

  pub verdict_exact : IsVerdict h (verdict_of h)
  verdict_exact =
      verdict-by (common (h.sent ++ h.ending) h.completed == length h.completed)
      (common (h.sent ++ h.ending) h.completed == length h.sent)
      (common (h.sent ++ h.ending) h.completed == (length h.sent + length h.ending)) refl refl refl
