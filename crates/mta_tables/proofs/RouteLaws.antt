-- Of routes with different patterns at most one is best, and it is the one that is found.
use Rattle.std.proofs.Common.{◌≡◌, ℕ, zero, suc, ◌≤◌, Bool, true, false, List, [], ◌∷◌, length, Option, Some, None}
use Rattle.std.proofs.Common.{refl, sym, ◌∙◌, ap, arith, cond, ◌⊎◌, inl, inr}
use Rattle.std.specs.Prelude.{slice_get, nat_le, not, ◌||◌}
use Rattle.std.specs.List.{find, list_all}
use Rattle.std.proofs.lemmas.Bool.{and_parts, and_from, cases_lt, leb-true, le-leb}
use Rattle.mta_names.specs.declared.attributes.Attributes.{Attributes}
use Rattle.mta_names.specs.Normal.{normal_text}
use Rattle.mta_name_text.specs.Routes.{HasParts, HasRoute, route_attributes}
use Rattle.mta_name_text.proofs.RouteLaws.{route_decides}
use Rattle.mta_tables.specs.declared.entry.Route.{Route}
use Rattle.mta_tables.specs.Hops.{StandsAt, IsBestAt, best_entry, is_best, is_no_shorter, matches}
use Rattle.mta_tables.specs.Sameness.{IsSamePattern}
use Rattle.mta_tables.specs.Whole.{AreApart, IsRoutePattern}

-- ---- places of lists

pub record IsFoundAt {X : Type 0} (p : X → Bool) (xs : List X) (x : X) : Type 0 where
  pub place : ℕ
  pub stands : slice_get xs place ≡ Some x
  pub passes : p x ≡ true

pub found_at : {X : Type 0} (p : X → Bool) (xs : List X) (x : X) → find p xs ≡ Some x → IsFoundAt p xs x
found_at {X} p [] x e = absurd cc
found_at {X} p (y ∷ ys) x e = at (p y) refl (found_at p ys x) e
  where
    at : (b : Bool) → p y ≡ b → (find p ys ≡ Some x → IsFoundAt p ys x) → cond b (Some y) (find p ys) ≡ Some x
        → IsFoundAt p (y ∷ ys) x
    at true h next e = let same : y ≡ x = cc in record { place = 0; stands = e; passes = ap p (sym same) ∙ h }
    at false h next e = let f = next e in record { place = suc f.place; stands = f.stands; passes = f.passes }

pub all_pass : {X : Type 0} (p : X → Bool) (xs : List X) (x : X) (i : ℕ) → list_all p xs ≡ true
    → slice_get xs i ≡ Some x → p x ≡ true
all_pass p [] x i h e = absurd cc
all_pass p (y ∷ ys) x zero h e = let same : y ≡ x = cc in ap p (sym same) ∙ (and_parts (p y) (list_all p ys) h).0
all_pass p (y ∷ ys) x (suc i) h e = all_pass p ys x i (and_parts (p y) (list_all p ys) h).1 e

pub pass_all : {X : Type 0} (p : X → Bool) (xs : List X) → ((i : ℕ) (x : X) → slice_get xs i ≡ Some x → p x ≡ true)
    → list_all p xs ≡ true
pass_all p [] h = refl
pass_all p (y ∷ ys) h = and_from (p y) (list_all p ys) (h 0 y refl) (pass_all p ys (λ i x e. h (suc i) x e))

pub none_pass : {X : Type 0} (p : X → Bool) (xs : List X) (x : X) (i : ℕ) → find p xs ≡ None → slice_get xs i ≡ Some x
    → p x ≡ false
none_pass {X} p [] x i h e = absurd cc
none_pass {X} p (y ∷ ys) x i h e = at (p y) refl (none_pass p ys x) h i e
  where
    at : (b : Bool) → p y ≡ b → ((i : ℕ) → find p ys ≡ None → slice_get ys i ≡ Some x → p x ≡ false)
        → cond b (Some y) (find p ys) ≡ None → (i : ℕ) → slice_get (y ∷ ys) i ≡ Some x → p x ≡ false
    at true k next h i e = absurd cc
    at false k next h zero e = let same : y ≡ x = cc in ap p (sym same) ∙ k
    at false k next h (suc i) e = next i h e

-- ---- patterns

same_parts : (ps qs : List (List ℕ)) (os : List (Option (List ℕ))) → HasParts ps os → HasParts qs os
    → length ps ≡ length qs → IsSamePattern ps qs
same_parts [] [] os h k e = refl
same_parts [] (q ∷ qs) os h k e = absurd (omega arith)
same_parts (p ∷ ps) [] os h k e = absurd (omega arith)
same_parts (p ∷ ps) (q ∷ qs) [] h k e = absurd h
same_parts (p ∷ ps) (q ∷ qs) (o ∷ os) h k e =
    let few : length ps ≡ length qs = omega arith in
    let both : Some (normal_text p) ≡ Some (normal_text q) = sym h.0 ∙ k.0 in
    let one : normal_text p ≡ normal_text q = cc in
    let rest = same_parts ps qs os h.1 k.1 few in
    cc

pub best_is_one : (routes : List Route) (n : Attributes) (i j : ℕ) (r s : Route) → AreApart IsRoutePattern routes
    → IsBestAt routes n i r → IsBestAt routes n j s → i ≡ j
best_is_one routes n i j r s different h k =
    let a = h.longest j s k.stands k.on_it in
    let b = k.longest i r h.stands h.on_it in
    let e : length r.pattern ≡ length s.pattern = omega arith in
    different i j r s (record { found = h.stands.found }) (record { found = k.stands.found })
    (same_parts r.pattern s.pattern (route_attributes n) h.on_it k.on_it e)

-- ---- the one that is found

pub on_route : (n : Attributes) (r : Route) → matches n r ≡ true → HasRoute n r.pattern
on_route n r e = (route_decides n r.pattern (matches n r) refl).0 e

matching : (n : Attributes) (r : Route) → HasRoute n r.pattern → matches n r ≡ true
matching n r h = (route_decides n r.pattern (matches n r) refl).1 h

pub shorter : (b c : Bool) → (not b || c) ≡ true → b ≡ true → c ≡ true
shorter true c e h = e
shorter false c e h = absurd cc

pub no_shorter : (b c : Bool) → (b ≡ true → c ≡ true) → (not b || c) ≡ true
no_shorter true c h = h refl
no_shorter false c h = refl

pub best_is_found : (routes : List Route) (n : Attributes) (r : Route) → best_entry routes n ≡ Some r → (place : ℕ)
    × IsBestAt routes n place r
unfolding is_best
best_is_found routes n r e =
    let f = found_at (is_best routes n) routes r e in
    let parts = and_parts (matches n r) (list_all (is_no_shorter n r) routes) f.passes in (
      f.place,
      record {
        stands = record { found = f.stands };
        on_it = on_route n r parts.0;
        longest = λ i s stands on_it.
            let passes = all_pass (is_no_shorter n r) routes s i parts.1 stands.found in
            leb-true (length s.pattern) (length r.pattern)
            (shorter (matches n s) (nat_le (length s.pattern) (length r.pattern)) passes (matching n s on_it));
      },
    )

-- ---- where none is found

pub record IsLongest (routes : List Route) (n : Attributes) : Type 0 where
  pub place : ℕ
  pub route : Route
  pub stands : slice_get routes place ≡ Some route
  pub matches_so : matches n route ≡ true
  pub longest : (i : ℕ) (s : Route) → slice_get routes i ≡ Some s → matches n s ≡ true
      → length s.pattern ≤ length route.pattern

longer_of : (n : Attributes) (r : Route) (rs : List Route) (l : IsLongest rs n) → matches n r ≡ true
    → IsLongest (r ∷ rs) n
longer_of n r rs l m = elim (cases_lt (length l.route.pattern) (length r.pattern)) [
  | inl lt ↦ record {
    place = 0;
    route = r;
    stands = refl;
    matches_so = m;
    longest = λ i s e h. first i s e h (omega (arith, lt));
  }
  | inr le ↦ record {
    place = suc l.place;
    route = l.route;
    stands = l.stands;
    matches_so = l.matches_so;
    longest =
        λ i s e h. second i s e h le;
  }
]
  where
    first : (i : ℕ) (s : Route) → slice_get (r ∷ rs) i ≡ Some s → matches n s ≡ true
        → length l.route.pattern ≤ length r.pattern → length s.pattern ≤ length r.pattern
    first zero s e h le = let same : r ≡ s = cc in omega (arith, ap (λ (x : Route). length x.pattern) same)
    first (suc i) s e h le = omega (arith, l.longest i s e h, le)

    second : (i : ℕ) (s : Route) → slice_get (r ∷ rs) i ≡ Some s → matches n s ≡ true
        → length r.pattern ≤ length l.route.pattern → length s.pattern ≤ length l.route.pattern
    second zero s e h le = let same : r ≡ s = cc in omega (arith, ap (λ (x : Route). length x.pattern) same, le)
    second (suc i) s e h le = l.longest i s e h

only_one : (n : Attributes) (r : Route) (rs : List Route)
    → ((i : ℕ) (s : Route) → slice_get rs i ≡ Some s → matches n s ≡ true → ⊥) → matches n r ≡ true
    → IsLongest (r ∷ rs) n
only_one n r rs none m = record { place = 0; route = r; stands = refl; matches_so = m; longest = at }
  where
    at : (i : ℕ) (s : Route) → slice_get (r ∷ rs) i ≡ Some s → matches n s ≡ true → length s.pattern ≤ length r.pattern
    at zero s e h = let same : r ≡ s = cc in omega (arith, ap (λ (x : Route). length x.pattern) same)
    at (suc i) s e h = absurd (none i s e h)

further_on : (n : Attributes) (r : Route) (rs : List Route) → matches n r ≡ false → IsLongest rs n
    → IsLongest (r ∷ rs) n
further_on n r rs m l = record {
  place = suc l.place;
  route = l.route;
  stands = l.stands;
  matches_so = l.matches_so;
  longest = at;
}
  where
    at : (i : ℕ) (s : Route) → slice_get (r ∷ rs) i ≡ Some s → matches n s ≡ true
        → length s.pattern ≤ length l.route.pattern
    at zero s e h = let same : r ≡ s = cc in absurd (cc (ap (matches n) same))
    at (suc i) s e h = l.longest i s e h

-- some route matches and is longest, or none matches
longest_or_none : (n : Attributes) (rs : List Route) → IsLongest rs n
    ⊎ ((i : ℕ) (s : Route) → slice_get rs i ≡ Some s → matches n s ≡ true → ⊥)
longest_or_none n [] = inr (λ i s e h. absurd cc)
longest_or_none n (r ∷ rs) = at (matches n r) refl (longest_or_none n rs)
  where
    at : (b : Bool) → matches n r ≡ b → IsLongest rs n
        ⊎ ((i : ℕ) (s : Route) → slice_get rs i ≡ Some s → matches n s ≡ true → ⊥)
        → IsLongest (r ∷ rs) n ⊎ ((i : ℕ) (s : Route) → slice_get (r ∷ rs) i ≡ Some s → matches n s ≡ true → ⊥)
    at true m (inl l) = inl (longer_of n r rs l m)
    at true m (inr none) = inl (only_one n r rs none m)
    at false m (inl l) = inl (further_on n r rs m l)
    at false m (inr none) = inr (behind none)
      where
        behind : ((i : ℕ) (s : Route) → slice_get rs i ≡ Some s → matches n s ≡ true → ⊥) → (i : ℕ) (s : Route)
            → slice_get (r ∷ rs) i ≡ Some s → matches n s ≡ true → ⊥
        behind none zero s e h = let same : r ≡ s = cc in cc (ap (matches n) same)
        behind none (suc i) s e h = none i s e h

longest_is_best : (n : Attributes) (rs : List Route) (l : IsLongest rs n) → is_best rs n l.route ≡ true
unfolding is_best
longest_is_best n rs l =
    and_from (matches n l.route) (list_all (is_no_shorter n l.route) rs) l.matches_so
    (pass_all (is_no_shorter n l.route) rs
    (λ i s e. no_shorter (matches n s) (nat_le (length s.pattern) (length l.route.pattern))
    (λ h. le-leb (length s.pattern) (length l.route.pattern) (l.longest i s e h))))

pub none_is_found : (routes : List Route) (n : Attributes) → best_entry routes n ≡ None → (place : ℕ) (r : Route)
    → StandsAt routes place r → HasRoute n r.pattern → ⊥
none_is_found routes n none place r stands on_it = elim (longest_or_none n routes) [
  | inl l ↦ let yes' = longest_is_best n routes l in let no' =
      none_pass (is_best routes n) routes l.route l.place none l.stands in cc
  | inr no' ↦ no' place r stands.found (matching n r on_it)
]
