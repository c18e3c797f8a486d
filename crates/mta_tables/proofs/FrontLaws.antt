-- The longest route is found by the number of its parts.
use Rattle.std.proofs.Common.{◌≡◌, ℕ, zero, suc, ◌+◌, ◌-◌, ◌≤◌, ◌<◌, Bool, true, false, cond, eqb, List, [], ◌∷◌}
use Rattle.std.proofs.Common.{length, drop, ◌++◌, Option, Some, None, refl, sym, ap, subst, ◌∙◌, arith, add-one, inl}
use Rattle.std.proofs.Common.{inr}
use Rattle.std.specs.Prelude.{slice_get, map, nat_le, nat_lt, ◌&&◌, ◌==◌}
use Rattle.std.specs.List.{position, position_or_len, find, list_all}
use Rattle.std.proofs.lemmas.Bool.{cases_Bool, both_ways, and_parts, and_from, leb-true, le-leb, eqb-true, eq-eqb}
use Rattle.std.proofs.lemmas.Bool.{ltb-true, ltb-false}
use Rattle.std.proofs.lemmas.List.{length-map}
use Rattle.mta_names.specs.declared.attributes.Attributes.{Attributes}
use Rattle.mta_names.specs.Normal.{normal_text}
use Rattle.mta_names.specs.Values.{IsName}
use Rattle.mta_name_digest.specs.Digests.{text_digest, texts_digest, digest_step}
use Rattle.mta_name_text.specs.Routes.{HasParts, HasRoute, route_attributes, present, normal_of}
use Rattle.mta_tables.specs.declared.entry.Route.{Route}
use Rattle.mta_tables.specs.Fronts.{part_at, is_route_of, or_shorter, best_upto, route_at, AreFronts, HaveFront}
use Rattle.mta_tables.specs.Hops.{matches, is_best, is_no_shorter, best_entry}
use Rattle.mta_tables.specs.Indexes.{pattern_digest, route_pattern, HaveParts}
use Rattle.mta_tables.proofs.Indexes.{HaveDigest}
use Rattle.mta_tables.proofs.Places.{some_place, Passes, place_is, position_passes, position_none, position_within}
use Rattle.mta_tables.proofs.Places.{cases_option, at_more}
use Rattle.mta_tables.proofs.RouteLaws.{on_route, all_pass, pass_all, shorter, no_shorter}

-- ---- digests of fronts

pub front_first : (n : Attributes) → AreFronts n 0 0
front_first n ps h le = refl

same_of : (p t : List ℕ) (o : Option (List ℕ)) → normal_of o ≡ normal_of (Some p) → o ≡ Some t
    → normal_text p ≡ normal_text t
same_of p t o h e =
    let both : Some (normal_text t) ≡ Some (normal_text p) = sym (ap normal_of e) ∙ h in
    cc

next_part : (ps : List (List ℕ)) (os : List (Option (List ℕ))) (place : ℕ) (t : List ℕ) → HasParts ps os
    → part_at os place ≡ Some t → place < length ps → (d : ℕ)
    → texts_digest d (map normal_text (drop place ps)) ≡ texts_digest (text_digest d (normal_text t))
    (map normal_text (drop (suc place) ps))
next_part [] os place t h e lt d = absurd (omega (arith, lt))
next_part (p ∷ ps) [] place t h e lt d = absurd h
next_part (p ∷ ps) (o ∷ os) zero t h e lt d = ap (λ x. texts_digest (text_digest d x) (map normal_text ps))
    (same_of p t o h.0 e)
next_part (p ∷ ps) (o ∷ os) (suc place) t h e lt d = next_part ps os place t h.1 e (omega (arith, lt)) d

pub front_more : (n : Attributes) (place d : ℕ) (t : List ℕ) → AreFronts n place d
    → part_at (route_attributes n) place ≡ Some t → AreFronts n (suc place) (text_digest d (normal_text t))
front_more n place d t h e ps k le = h ps k (omega (arith, le))
    ∙ next_part ps (route_attributes n) place t k e (omega (arith, le)) d

none_left : (ps : List (List ℕ)) (place : ℕ) → length ps ≡ place → drop place ps ≡ []
none_left [] zero e = refl
none_left [] (suc place) e = refl
none_left (p ∷ ps) zero e = absurd (omega (arith, e))
none_left (p ∷ ps) (suc place) e = none_left ps place (omega (arith, e))

pub front_has : (n : Attributes) (place d : ℕ) → AreFronts n place d → HaveFront place n (digest_step d 2)
front_has n place d h ps k e = h ps k (omega (arith, e))
    ∙ ap (λ (xs : List (List ℕ)). texts_digest d (map normal_text xs)) (none_left ps place e)

pub route_front : (n : Attributes) (count d : ℕ) → HaveFront count n d
    → HaveDigest (is_route_of count n) route_pattern d
route_front n count d h r e =
    let a = and_parts (matches n r) (eqb (length r.pattern) count) e in
    h r.pattern (on_route n r a.0) (eqb-true (length r.pattern) count a.1)

-- ---- units

unit_part : (us : List (List ℕ)) (j : ℕ) → part_at (map present us) j ≡ slice_get us j
unit_part [] j = refl
unit_part (u ∷ us) zero = refl
unit_part (u ∷ us) (suc j) = unit_part us j

-- the fifth part and those behind it are units
pub unit_behind : (a b c d : Option (List ℕ)) (us : List (List ℕ)) (k : ℕ) → 4 ≤ k
    → part_at (a ∷ b ∷ c ∷ d ∷ map present us) k ≡ slice_get us (k - 4)
unit_behind a b c d us zero h = absurd (omega (arith, h))
unit_behind a b c d us (suc zero) h = absurd (omega (arith, h))
unit_behind a b c d us (suc (suc zero)) h = absurd (omega (arith, h))
unit_behind a b c d us (suc (suc (suc zero))) h = absurd (omega (arith, h))
unit_behind a b c d us (suc (suc (suc (suc j)))) h =
    let e : suc (suc (suc (suc j))) - 4 ≡ j = omega arith in
    unit_part us j ∙ ap (slice_get us) (sym e)

-- ---- the ends of fronts

no_part : (p : List ℕ) (o : Option (List ℕ)) → normal_of o ≡ normal_of (Some p) → o ≡ None → ⊥
no_part p o h e =
    let both : None ≡ Some (normal_text p) = sym (ap normal_of e) ∙ h in
    absurd cc

ends : (ps : List (List ℕ)) (os : List (Option (List ℕ))) (place : ℕ) → HasParts ps os → part_at os place ≡ None
    → length ps ≤ place
ends [] os place h e = omega arith
ends (p ∷ ps) [] place h e = absurd h
ends (p ∷ ps) (o ∷ os) zero h e = absurd (no_part p o h.0 e)
ends (p ∷ ps) (o ∷ os) (suc place) h e = (let rest = ends ps os place h.1 e in omega (arith, rest))

parts_within : (ps : List (List ℕ)) (os : List (Option (List ℕ))) → HasParts ps os → length ps ≤ length os
parts_within [] os h = omega arith
parts_within (p ∷ ps) [] h = absurd h
parts_within (p ∷ ps) (o ∷ os) h = (let rest = parts_within ps os h.1 in omega (arith, rest))

-- no route that matches has more parts
abbrev pub NoLonger : List Route → Attributes → ℕ → Type 0
NoLonger routes n count = (i : ℕ) (r : Route) → slice_get routes i ≡ Some r → matches n r ≡ true
    → length r.pattern ≤ count

pub none_past : (routes : List Route) (n : Attributes) (place : ℕ) → part_at (route_attributes n) place ≡ None
    → NoLonger routes n place
none_past routes n place e i r at m = ends r.pattern (route_attributes n) place (on_route n r m) e

pub none_past_eight : (routes : List Route) (n : Attributes) → IsName n → NoLonger routes n 8
none_past_eight routes n is i r at m =
    let within = parts_within r.pattern (route_attributes n) (on_route n r m) in
    let units = length-map n.units present in
    let few = is.few_units in
    omega (arith, within, units, few)

-- ---- first places

same_find : (p q : Route → Bool) (xs : List Route) → ((i : ℕ) (x : Route) → slice_get xs i ≡ Some x → p x ≡ q x)
    → find p xs ≡ find q xs
same_find p q [] h = refl
same_find p q (x ∷ xs) h =
    let a = h 0 x refl in
    let b = same_find p q xs (λ i y e. h (suc i) y e) in
    rw (a, b) refl

find_none : (p : Route → Bool) (xs : List Route) → ((i : ℕ) (x : Route) → slice_get xs i ≡ Some x → p x ≡ false)
    → find p xs ≡ None
find_none p [] h = refl
find_none p (x ∷ xs) h =
    let a = h 0 x refl in
    let b = find_none p xs (λ i y e. h (suc i) y e) in
    rw (a, b) refl

find_first : (p : Route → Bool) (xs : List Route) (i : ℕ) → position_or_len p xs ≡ i → i < length xs
    → find p xs ≡ slice_get xs i
find_first p [] i e lt = absurd (omega (arith, lt))
find_first p (x ∷ xs) i e lt =
    elim (cases_Bool (p x)) [
      | inl passes ↦ (
          let first : position_or_len p (x ∷ xs) ≡ 0 = rw passes refl in
          let zero_is : i ≡ 0 = sym e ∙ first in
          rw (passes, zero_is) refl)
      | inr fails ↦ (
          let later : position_or_len p (x ∷ xs) ≡ 1 + position_or_len p xs = rw fails refl in
          let next_is : i ≡ suc (position_or_len p xs) = omega (arith, later, e) in
          let within : position_or_len p xs < length xs = omega (arith, lt, next_is) in
          let rest = find_first p xs (position_or_len p xs) refl within in
          rw (fails, next_is) rest)
    ]

position_is : (p : Route → Bool) (xs : List Route) (i : ℕ) → position p xs ≡ Some i → position_or_len p xs ≡ i
position_is p xs i e =
    elim (cases_Bool (nat_lt (position_or_len p xs) (length xs))) [
      | inl l ↦ (let f : some_place (position_or_len p xs) ≡ some_place i = rw l at e in place_is _ i f)
      | inr m ↦ (let f : None ≡ some_place i = rw m at e in absurd cc)
    ]

pub find_at : (p : Route → Bool) (xs : List Route) (i : ℕ) → position p xs ≡ Some i → find p xs ≡ slice_get xs i
find_at p xs i e = find_first p xs i (position_is p xs i e) (position_within p xs i e)

-- ---- the best

same_tests : (b c : Bool) → (b ≡ true → c ≡ true) → (c ≡ true → b ≡ true) → b ≡ c
same_tests true true f g = refl
same_tests true false f g = sym (f refl)
same_tests false true f g = g refl
same_tests false false f g = refl

-- where one with so many parts matches and none longer does, the best are those of so many parts
best_is_of : (routes : List Route) (n : Attributes) (count : ℕ) (i : ℕ) (x : Route) → NoLonger routes n count
    → slice_get routes i ≡ Some x → is_route_of count n x ≡ true
    → (j : ℕ) (r : Route) → slice_get routes j ≡ Some r → is_best routes n r ≡ is_route_of count n r
unfolding is_best
best_is_of routes n count i x few at passes j r there =
    let a = and_parts (matches n x) (eqb (length x.pattern) count) passes in
    let long : length x.pattern ≡ count = eqb-true (length x.pattern) count a.1 in
    same_tests (is_best routes n r) (is_route_of count n r)
    (λ best.
    let b = and_parts (matches n r) (list_all (is_no_shorter n r) routes) best in
    let not_shorter = all_pass (is_no_shorter n r) routes x i b.1 at in
    let above = leb-true (length x.pattern) (length r.pattern)
    (shorter (matches n x) (nat_le (length x.pattern) (length r.pattern)) not_shorter a.0) in
    let below = few j r there b.0 in
    and_from (matches n r) (eqb (length r.pattern) count) b.0
    (eq-eqb (length r.pattern) count (omega (arith, above, below, long))))
    (λ of_so_many.
    let b = and_parts (matches n r) (eqb (length r.pattern) count) of_so_many in
    let so_long : length r.pattern ≡ count = eqb-true (length r.pattern) count b.1 in
    and_from (matches n r) (list_all (is_no_shorter n r) routes) b.0
    (pass_all (is_no_shorter n r) routes
    (λ k s e. no_shorter (matches n s) (nat_le (length s.pattern) (length r.pattern))
    (λ m. (let below = few k s e m in
    le-leb (length s.pattern) (length r.pattern) (omega (arith, below, so_long)))))))

none_matches : (routes : List Route) (n : Attributes) → HaveParts routes → NoLonger routes n 0 → (j : ℕ) (r : Route)
    → slice_get routes j ≡ Some r → is_best routes n r ≡ false
unfolding is_best
none_matches routes n parts few j r there =
    elim (cases_Bool (matches n r)) [
      | inl m ↦ (
          let some = parts j r there in
          let none = few j r there m in
          absurd (omega (arith, some, none)))
      | inr m ↦ rw m refl
    ]

one_fewer : (routes : List Route) (n : Attributes) (count : ℕ) → NoLonger routes n (suc count)
    → position (is_route_of (suc count) n) routes ≡ None → NoLonger routes n count
one_fewer routes n count few none i r at m =
    let below = few i r at m in
    elim (cases_Bool (eqb (length r.pattern) (suc count))) [
      | inl e ↦ absurd (position_none (is_route_of (suc count) n) routes i none
          (r, at, and_from (matches n r) (eqb (length r.pattern) (suc count)) m e))
      | inr e ↦ (let other : length r.pattern ≡ suc count → ⊥ =
          λ same. both_ways (eqb (length r.pattern) (suc count)) e (eq-eqb (length r.pattern) (suc count) same) in
          omega (arith, below, other))
    ]

-- the longest of at most so many parts is the best where none is longer
pub best_is : (routes : List Route) (n : Attributes) (count : ℕ) → HaveParts routes → NoLonger routes n count
    → route_at routes (best_upto routes n count) ≡ best_entry routes n
best_is routes n zero parts few = sym (find_none (is_best routes n) routes (none_matches routes n parts few))
best_is routes n (suc count) parts few =
    elim (cases_option (position (is_route_of (suc count) n) routes)) [
      | inl none ↦ rw none (best_is routes n count parts (one_fewer routes n count few none))
      | inr found ↦ (
          let x = position_passes (is_route_of (suc count) n) routes found.0 found.1 in
          let at = find_at (is_route_of (suc count) n) routes found.0 found.1 in
          let here : route_at routes (best_upto routes n (suc count)) ≡ slice_get routes found.0 = rw found.1 refl in
          here ∙ sym at ∙ sym (same_find (is_best routes n) (is_route_of (suc count) n) routes
          (best_is_of routes n (suc count) found.0 x.0 few x.1 x.2)))
    ]

-- ---- a look-up more

pub front_step : (n : Attributes) (place d e : ℕ) (t : List ℕ) → AreFronts n place d
    → Some t ≡ part_at (route_attributes n) place → e ≡ text_digest d (normal_text t) → AreFronts n (place + 1) e
front_step n place d e t h at same =
    let more = front_more n place d t h (sym at) in
    subst (λ k. AreFronts n k e) (sym (add-one place)) (subst (AreFronts n (suc place)) (sym same) more)

pub best_step : (routes : List Route) (n : Attributes) (place : ℕ) (found best : Option ℕ)
    → found ≡ position (is_route_of (place + 1) n) routes → best ≡ best_upto routes n place
    → or_shorter found best ≡ best_upto routes n (place + 1)
best_step routes n place found best e f =
    let here : found ≡ position (is_route_of (suc place) n) routes = e
    ∙ ap (λ k. position (is_route_of k n) routes) (add-one place) in
    ap (λ o. or_shorter o best) here ∙ ap (or_shorter (position (is_route_of (suc place) n) routes)) f
    ∙ ap (best_upto routes n) (sym (add-one place))

-- ---- one route more

pub parts_more : (routes : List Route) (r : Route) → HaveParts routes → 1 ≤ length r.pattern
    → HaveParts (routes ++ r ∷ [])
parts_more routes r h some i x e = elim (at_more routes r i x e) [
  | inl k ↦ h i x k
  | inr k ↦ (let same = ap (λ (y : Route). length y.pattern) k.1 in omega (arith, some, same))
]
