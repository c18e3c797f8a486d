-- Octets in two pieces, beside others in two pieces.
use Rattle.std.proofs.Common.{◌≡◌, ℕ, ◌<◌, Bool, true, false, List, [], ◌∷◌, ◌++◌, length, take, drop}
use Rattle.std.proofs.Common.{bytes_eq, nat_eq, refl, sym, ap, ◌∙◌, append_assoc, arith}
use Rattle.std.specs.Prelude.{◌&&◌}
use Rattle.std.proofs.lemmas.List.{length-append, take-append-drop}
use Rattle.std.proofs.lemmas.Slice.Eq.{bytes_eq-Decides}

-- pieces of one length, and what stands behind each
pieces-same : (xs ys us vs : List ℕ) → length xs ≡ length us
    → (bytes_eq xs us && bytes_eq ys vs) ≡ bytes_eq (xs ++ ys) (us ++ vs)
pieces-same [] ys [] vs e = refl
pieces-same [] ys (u ∷ us) vs e = absurd (omega (arith, e))
pieces-same (x ∷ xs) ys [] vs e = absurd (omega (arith, e))
pieces-same (x ∷ xs) ys (u ∷ us) vs e =
    heads (nat_eq x u) (bytes_eq xs us) (bytes_eq ys vs) (bytes_eq (xs ++ ys) (us ++ vs))
    (pieces-same xs ys us vs (omega (arith, e)))
  where
    heads : (b c d r : Bool) → (c && d) ≡ r → ((b && c) && d) ≡ (b && r)
    heads true c d r same = same
    heads false c d r same = refl

-- octets that are cut at the length of the first of two pieces
both-cut : (whole front rest first second : List ℕ) → front ≡ take (length first) whole
    → rest ≡ drop (length first) whole → length front ≡ length first
    → (bytes_eq front first && bytes_eq rest second) ≡ bytes_eq whole (first ++ second)
both-cut whole front rest first second front_is rest_is same =
    pieces-same front rest first second same
    ∙ ap (λ (w : List ℕ). bytes_eq w (first ++ second))
    (ap (λ (f : List ℕ). f ++ rest) front_is ∙ ap (λ (r : List ℕ). take (length first) whole ++ r) rest_is
    ∙ take-append-drop (length first) whole)

-- two pieces, of which the first is cut from the other first
pieces-cut : (head rest front more longer behind : List ℕ) → length head ≡ length front
    → front ≡ take (length head) longer → more ≡ drop (length head) longer
    → (bytes_eq head front && bytes_eq rest (more ++ behind)) ≡ bytes_eq (head ++ rest) (longer ++ behind)
pieces-cut head rest front more longer behind same front_is more_is =
    pieces-same head rest front (more ++ behind) same
    ∙ ap (bytes_eq (head ++ rest))
    (sym (append_assoc front more behind)
    ∙ ap (λ (l : List ℕ). l ++ behind)
    (ap (λ (f : List ℕ). f ++ more) front_is ∙ ap (λ (m : List ℕ). take (length head) longer ++ m) more_is
    ∙ take-append-drop (length head) longer))

-- ---- both are compared, or the first differs

and-then : (a b : Bool) → a ≡ true → b ≡ (a && b)
and-then true b e = refl
and-then false b e = absurd cc

and-else : (a b : Bool) → a ≡ false → a ≡ (a && b)
and-else true b e = absurd cc
and-else false b e = refl

module _ (whole front rest first second : List ℕ) (front_is : front ≡ take (length first) whole)
    (rest_is : rest ≡ drop (length first) whole) (same : length front ≡ length first) where
  pub both_then : (a r : Bool) → a ≡ bytes_eq front first → a ≡ true → r ≡ bytes_eq rest second
      → r ≡ bytes_eq whole (first ++ second)
  both_then a r a_is holds r_is =
      r_is ∙ and-then (bytes_eq front first) (bytes_eq rest second) (sym a_is ∙ holds)
      ∙ both-cut whole front rest first second front_is rest_is same

  pub both_else : (a : Bool) → a ≡ bytes_eq front first → a ≡ false → a ≡ bytes_eq whole (first ++ second)
  both_else a a_is not_so =
      a_is ∙ and-else (bytes_eq front first) (bytes_eq rest second) (sym a_is ∙ not_so)
      ∙ both-cut whole front rest first second front_is rest_is same

-- they are shorter than the first
pub both_short : (whole first second : List ℕ) → length whole < length first
    → false ≡ bytes_eq whole (first ++ second)
both_short whole first second short = by (bytes_eq whole (first ++ second)) refl
  where
    apart : whole ≡ first ++ second → ⊥
    apart same = let long = ap length same in let sum = length-append first second in omega (arith, short, long, sum)

    by : (b : Bool) → bytes_eq whole (first ++ second) ≡ b → false ≡ b
    by true e = absurd (apart ((bytes_eq-Decides whole (first ++ second)).0 e))
    by false e = refl

module _ (head rest front more longer behind : List ℕ) (same : length front ≡ length head)
    (front_is : front ≡ take (length head) longer) (more_is : more ≡ drop (length head) longer) where
  pub pieces_then : (a r : Bool) → a ≡ bytes_eq head front → a ≡ true → r ≡ bytes_eq rest (more ++ behind)
      → r ≡ bytes_eq (head ++ rest) (longer ++ behind)
  pieces_then a r a_is holds r_is =
      r_is ∙ and-then (bytes_eq head front) (bytes_eq rest (more ++ behind)) (sym a_is ∙ holds)
      ∙ pieces-cut head rest front more longer behind (sym same) front_is more_is

  pub pieces_else : (a : Bool) → a ≡ bytes_eq head front → a ≡ false
      → a ≡ bytes_eq (head ++ rest) (longer ++ behind)
  pieces_else a a_is not_so =
      a_is ∙ and-else (bytes_eq head front) (bytes_eq rest (more ++ behind)) (sym a_is ∙ not_so)
      ∙ pieces-cut head rest front more longer behind (sym same) front_is more_is
