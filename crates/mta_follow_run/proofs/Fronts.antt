-- Lists that begin others.
use Rattle.std.proofs.Common.{◌≡◌, append_assoc, append-nil, ℕ, ◌+◌, ◌≤◌, List, [], ◌∷◌, ◌++◌, length}
use Rattle.std.proofs.Common.{take, drop, refl}
use Rattle.std.proofs.Common.{sym, ap, subst, ◌∙◌, arith}
use Rattle.std.proofs.lemmas.List.{length-append, take-append-drop, flat_map_more}
use Rattle.mta_follow_units.specs.Units.{record_unit, record_units}
use Rattle.mta_follow_run.specs.Copies.{Bring, Follows, IsUpTo, and_more, as_before, beyond, within}
use Rattle.mta_follow_run.specs.Fronts.{IsFront}
use Rattle.mta_follow_run.specs.Taking.{StandsBehind}

module _ {A : Type 0} where
  pub front_same : (s : List A) → IsFront s s
  front_same s = record { rest = []; whole_is = sym (append-nil s) }

  pub front_none : (s : List A) → IsFront [] s
  front_none s = record { rest = s; whole_is = refl }

  pub front_more : (s t u : List A) → IsFront s t → IsFront s (t ++ u)
  front_more s t u h =
      record { rest = h.rest ++ u; whole_is = ap (λ (l : List A). l ++ u) h.whole_is ∙ append_assoc s h.rest u }

  pub front_is : (s t : List A) → IsFront s t → length t ≤ length s → t ≡ s
  front_is s t h short = go h.rest h.whole_is
    where
      go : (r : List A) → t ≡ s ++ r → t ≡ s
      go [] is = is ∙ append-nil s
      go (x ∷ r) is = absurd (omega (arith, short, ap length is, length-append s (x ∷ r)))

  pub front_length : (s t : List A) → IsFront s t → length s ≤ length t
  front_length s t h = omega (arith, ap length h.whole_is, length-append s h.rest)

  pub front_take : (n : ℕ) (s t : List A) → IsFront s t → IsFront (take n s) t
  front_take n s t h = record {
    rest = drop n s ++ h.rest;
    whole_is =
        h.whole_is ∙ ap (λ (l : List A). l ++ h.rest) (sym (take-append-drop n s))
        ∙ append_assoc (take n s) (drop n s) h.rest;
  }

  -- lists of one length that begin one list are one
  pub same_front : (s t u v : List A) → length s ≡ length t → s ++ u ≡ t ++ v → (s ≡ t) × (u ≡ v)
  same_front [] [] u v long is = (refl, is)
  same_front [] (y ∷ t) u v long is = absurd (omega (arith, long))
  same_front (x ∷ s) [] u v long is = absurd (omega (arith, long))
  same_front (x ∷ s) (y ∷ t) u v long is =
      let head : x ≡ y = cc in
      let tail : s ++ u ≡ t ++ v = cc in
      let rest = same_front s t u v (omega (arith, long)) tail in
      (ap (λ (l : List A). x ∷ l) rest.0 ∙ ap (λ (z : A). z ∷ t) head, rest.1)

pub units-more : (got : List (List ℕ)) (body : List ℕ) → record_units (got ++ body ∷ [])
    ≡ record_units got ++ record_unit body
units-more got body = sym (flat_map_more record_unit [] got body)

pub length-more : (got : List (List ℕ)) (body : List ℕ) → length (got ++ body ∷ []) ≡ length got + 1
length-more got body = length-append got (body ∷ [])

-- ---- what stands where records came

-- the next record is the one that stands there
pub up_equal : (kept got bodies : List (List ℕ)) (body : List ℕ) → IsUpTo kept got bodies
    → StandsBehind (length got) body kept → IsUpTo kept (got ++ body ∷ []) bodies
up_equal kept got bodies body (within is f) s =
    let both = same_front got s.front f.rest (body ∷ s.more) s.count_is (sym f.whole_is ∙ s.bodies_are) in
    within is (record {
      rest = s.more;
      whole_is = f.whole_is ∙ ap (λ (l : List (List ℕ)). got ++ l) both.1 ∙ sym (append_assoc got (body ∷ []) s.more);
    })
up_equal kept got bodies body (beyond is f) s =
    absurd (omega (
      arith,
      front_length kept got f,
      ap length s.bodies_are,
      length-append s.front (body ∷ s.more),
      s.count_is,
    ))

-- behind all that were kept all that came is held
pub up_behind : (kept got bodies : List (List ℕ)) → IsUpTo kept got bodies → length kept ≤ length got
    → (bodies ≡ got) × IsFront kept got
up_behind kept got bodies (within is f) short =
    let same_is = front_is got kept f short in
    (is ∙ same_is, subst (λ (l : List (List ℕ)). IsFront l got) (sym same_is) (front_same got))
up_behind kept got bodies (beyond is f) short = (is, f)

pub up_more : (kept got bodies : List (List ℕ)) (body : List ℕ) → IsUpTo kept got bodies → length kept ≤ length got
    → IsUpTo kept (got ++ body ∷ []) (bodies ++ body ∷ [])
up_more kept got bodies body up short =
    let both = up_behind kept got bodies up short in
    beyond (ap (λ (l : List (List ℕ)). l ++ body ∷ []) both.0) (front_more kept got (body ∷ []) both.1)

-- the first ones that came are held
pub up_front : (kept got bodies : List (List ℕ)) → IsUpTo kept got bodies → IsFront got bodies
up_front kept got bodies (within is f) = subst (λ (l : List (List ℕ)). IsFront got l) (sym is) f
up_front kept got bodies (beyond is f) = subst (λ (l : List (List ℕ)). IsFront got l) (sym is) (front_same got)

-- what is held follows what was kept
pub up_follows : (kept got bodies : List (List ℕ)) (octets : List ℕ) → IsUpTo kept got bodies → Bring octets got
    → Follows kept octets bodies
up_follows kept got bodies octets (within is f) bring = as_before is
up_follows kept got bodies octets (beyond is f) bring =
    and_more (subst (λ (l : List (List ℕ)). IsFront kept l) (sym is) f) (subst (λ (l : List (List ℕ)). Bring octets l)
    (sym is) bring)

pub follows_more : (kept bodies : List (List ℕ)) (octets rest : List ℕ) → Follows kept octets bodies
    → Follows kept (octets ++ rest) bodies
follows_more kept bodies octets rest (as_before is) = as_before is
follows_more kept bodies octets rest (and_more f bring) =
    and_more f (front_more (record_units bodies) octets rest bring)
