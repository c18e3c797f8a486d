-- An image stands for one list of bodies, or is no journal at one place.
use Rattle.std.proofs.Common.{inl, inr, ⊎_elim, ◌≡◌, ◌≢◌, ◌⊎◌, ℕ, ◌+◌, ◌≤◌, ◌<◌, List, [], ◌∷◌, ◌++◌, length, take}
use Rattle.std.proofs.Common.{drop, get_or, refl, sym, ap, subst, ◌∙◌, append_assoc, arith}
use Rattle.std.specs.Int.{w32, to_be_bytes, from_be_bytes}
use Rattle.std.specs.List.{flat_map}
use Rattle.std.proofs.lemmas.Bool.{cases_lt}
use Rattle.std.proofs.lemmas.List.{take_at, drop_at, take-take, length-append, length-drop, get_or-take}
use Rattle.std.proofs.lemmas.Nat.{from_be_bytes-to_be_bytes_4}
use Rattle.mta_disk.specs.Records.{counted}
use Rattle.mta_disk.proofs.Writing.{length-counted}
use Rattle.mta_journal.specs.Bodies.{magic, mark, longest_body, longest_first, open_record, records, AreWithin}
use Rattle.mta_journal.specs.Bodies.{most_behind, HasRecords, HasAreas, high, IsCurrent, alone, first, second, OneList}
use Rattle.mta_journal.specs.Bodies.{OneArea}
use Rattle.mta_journal.specs.Faults.{DiffersAt, IsFaulty, FaultyAt, HasNoAreaAt, outside, not_one, too_low, in_first}
use Rattle.mta_journal.specs.Faults.{in_only, NotBoth, OnePlace}

-- a counted body and what follows it are found again
pub counted_split : (p q r s : List ℕ) → length p ≤ longest_first → length q ≤ longest_first → counted p ++ r
    ≡ counted q ++ s → (p ≡ q) × (r ≡ s)
unfolding counted
counted_split p q r s lp lq e =
    let four : to_be_bytes w32 (length p) ≡ to_be_bytes w32 (length q) = ap (take 4) e in
    let len : length p ≡ length q = sym (from_be_bytes-to_be_bytes_4 (length p) (omega arith))
    ∙ ap (from_be_bytes w32) four ∙ from_be_bytes-to_be_bytes_4 (length q) (omega arith) in
    let rest : p ++ r ≡ q ++ s = ap (drop 4) e in (
      sym (take_at p r (length p) refl) ∙ ap (take (length p)) rest
          ∙ take_at q s (length p) (sym len),
      sym (drop_at p r (length p) refl) ∙ ap (drop (length p)) rest
          ∙ drop_at q s (length p) (sym len),
    )

pub counted_length : (body rest : List ℕ) → length body ≤ longest_first
    → from_be_bytes w32 (take 4 (counted body ++ rest)) ≡ length body
unfolding counted
counted_length body rest short = let four : take 4 (counted body ++ rest)
    ≡ to_be_bytes w32 (length body) = refl in ap (from_be_bytes w32) four
    ∙ from_be_bytes-to_be_bytes_4 (length body) (omega arith)

not_faulty : (most : ℕ) → most ≤ longest_first → (body rest : List ℕ) → length body ≤ most → 0 < length rest
    → IsFaulty most (counted body ++ rest) → ⊥
not_faulty most le body rest short more (inl passes) =
    omega (
      arith,
      passes,
      counted_length body rest (omega arith),
      length-append (counted body) rest,
      length-counted body,
    )
not_faulty most le body rest short more (inr long) = omega (arith, long, counted_length body rest (omega arith))

pub not_past_one : (body more rest : List ℕ) → length body ≤ longest_first → 0 < length more → rest ≡ counted body
    ++ more → IsFaulty longest_first rest → ⊥
not_past_one body more rest short some e faulty =
    not_faulty longest_first (omega arith) body more short some (subst (IsFaulty longest_first) e faulty)

-- what ends the records: a closed gate, or an open one whose record is faulty
record Stops (most : ℕ) (tail : List ℕ) : Type 0 where
  pub gate : ℕ
  pub rest : List ℕ
  pub octets : tail ≡ gate ∷ rest
  pub ends : (gate ≢ 1) ⊎ IsFaulty most rest

not_past : (most : ℕ) → most ≤ longest_first → (body more tail : List ℕ) → length body ≤ most → 0 < length more
    → Stops most tail → tail ≡ 1 ∷ counted body ++ more → ⊥
not_past most le body more tail short some stops e =
    let whole : stops.gate ∷ stops.rest ≡ 1 ∷ (counted body ++ more) = sym stops.octets ∙ e in
    let gate : stops.gate ≡ 1 = ap (λ (l : List ℕ). get_or l 0 0) whole in
    let rest : stops.rest ≡ counted body ++ more = ap (drop 1) whole in
    ⊎_elim {C = ⊥} (λ closed. closed gate)
    (λ faulty. not_faulty most le body more short some (subst (IsFaulty most) rest faulty)) stops.ends

some_left : (most : ℕ) (bodies : List (List ℕ)) (tail : List ℕ) → Stops most tail → 0
    < length (flat_map open_record bodies ++ tail)
some_left most bodies tail stops = omega
    (arith, length-append (flat_map open_record bodies) tail, ap length stops.octets)

walk : (most : ℕ) → most ≤ longest_first → (s t : List (List ℕ)) (x y : List ℕ) → AreWithin most s → AreWithin most t
    → Stops (most_behind most s) x → Stops (most_behind most t) y
    → flat_map open_record s ++ x ≡ flat_map open_record t ++ y → (s ≡ t) × (x ≡ y)
walk most le [] [] x y fs ft p q e = (refl, e)
walk most le [] (b ∷ t) x y fs ft p q e =
    absurd (not_past most le b (flat_map open_record t ++ y) x ft.0 (some_left _ t y q) p
    (e ∙ append_assoc (1 ∷ counted b) (flat_map open_record t) y))
walk most le (a ∷ s) [] x y fs ft p q e =
    absurd (not_past most le a (flat_map open_record s ++ x) y fs.0 (some_left _ s x p) q
    (sym e ∙ append_assoc (1 ∷ counted a) (flat_map open_record s) x))
walk most le (a ∷ s) (b ∷ t) x y fs ft p q e =
    let tail : counted a ++ (flat_map open_record s ++ x) ≡ counted b ++ (flat_map open_record t ++ y) =
    sym (append_assoc (counted a) (flat_map open_record s) x) ∙ ap (drop 1) e
    ∙ append_assoc (counted b) (flat_map open_record t) y in
    let parts = counted_split a b _ _ (omega (arith, fs.0)) (omega (arith, ft.0)) tail in
    let rest = walk longest_body (omega arith) s t x y fs.1 ft.1 p q parts.1 in
    let head : a ≡ b = parts.0 in
    let others : s ≡ t = rest.0 in
    (cc, rest.1)

from_gate : (gate : ℕ) (s t : List (List ℕ)) (x y image : List ℕ) → AreWithin longest_first s
    → AreWithin longest_first t
    → Stops (most_behind longest_first s) x → Stops (most_behind longest_first t) y
    → drop gate image ≡ records s ++ x → drop gate image ≡ records t ++ y → (s ≡ t) × (x ≡ y)
from_gate gate s t x y image fs ft p q e f = walk longest_first (omega arith) s t x y fs ft p q (sym e ∙ f)

stops_closed : (gate : ℕ) (bodies : List (List ℕ)) (image : List ℕ) (has : HasRecords gate bodies image)
    → Stops (most_behind longest_first bodies) (has.octet ∷ has.rest)
stops_closed gate bodies image has = record { gate = has.octet; rest = has.rest; octets = refl; ends = inl has.closed }

stops_faulty : (gate : ℕ) (image : List ℕ) (at : ℕ) (faulty : FaultyAt gate image at)
    → Stops (most_behind longest_first faulty.bodies) (1 ∷ faulty.rest)
stops_faulty gate image at faulty = record { gate = 1; rest = faulty.rest; octets = refl; ends = inr faulty.faulty }

pub same_bodies : (gate : ℕ) (image : List ℕ) (s t : List (List ℕ)) → HasRecords gate s image → HasRecords gate t image
    → s ≡ t
same_bodies gate image s t p q =
    (from_gate gate s t (p.octet ∷ p.rest) (q.octet ∷ q.rest) image p.each q.each (stops_closed gate s image p)
    (stops_closed gate t image q) p.octets q.octets).0

not_faulty_too : (gate at : ℕ) (bodies : List (List ℕ)) (image : List ℕ) → HasRecords gate bodies image
    → FaultyAt gate image at → ⊥
not_faulty_too gate at bodies image p faulty =
    let same = from_gate gate bodies faulty.bodies (p.octet ∷ p.rest) (1 ∷ faulty.rest) image p.each faulty.each
    (stops_closed gate bodies image p) (stops_faulty gate image at faulty) p.octets faulty.octets in
    p.closed (ap (λ (l : List ℕ). get_or l 0 0) same.1)

faulty_once : (gate p q : ℕ) (image : List ℕ) → FaultyAt gate image p → FaultyAt gate image q → p ≡ q
faulty_once gate p q image x y =
    let same = from_gate gate x.bodies y.bodies (1 ∷ x.rest) (1 ∷ y.rest) image x.each y.each
    (stops_faulty gate image p x) (stops_faulty gate image q y) x.octets y.octets in
    x.place ∙ ap (λ (b : List (List ℕ)). gate + length (records b)) same.0 ∙ sym y.place

-- its records lie inside the image
pub inside : (gate : ℕ) (bodies : List (List ℕ)) (image : List ℕ) → HasRecords gate bodies image → gate
    + length (records bodies) < length image
inside gate bodies image has = omega (
  arith,
  length-drop gate image,
  ap length has.octets,
  length-append (records bodies) (has.octet ∷ has.rest),
)

-- where two areas are, the image begins as each journal
pub areas_begin : (image : List ℕ) → HasAreas image → take 8 image ≡ magic
unfolding magic mark
areas_begin image areas = sym (take-take 8 14 image (omega arith)) ∙ ap (take 8) areas.front

one_gate : (image : List ℕ) (gate other : ℕ) (s t : List (List ℕ)) → IsCurrent gate s image → IsCurrent other t image
    → gate ≡ other
one_gate image gate other s t (alone m lone g) (alone m' lone' h) = g ∙ sym h
one_gate image gate other s t (alone m lone g) (first a c h) = absurd (lone a)
one_gate image gate other s t (alone m lone g) (second a c h body is below) = absurd (lone a)
one_gate image gate other s t (first a c g) (alone m lone h) = absurd (lone a)
one_gate image gate other s t (first a c g) (first a' c' h) = g ∙ sym h
one_gate image gate other s t (first a c g) (second a' c' h body is below) = absurd (c c')
one_gate image gate other s t (second a c g body is below) (alone m lone h) = absurd (lone a)
one_gate image gate other s t (second a c g body is below) (first a' c' h) = absurd (c' c)
one_gate image gate other s t (second a c g body is below) (second a' c' h body' is' below') = g ∙ sym h

pub one_area : OneArea
one_area image gate other s t p q =
    let same = one_gate image gate other s t p.current q.current in
    (same, same_bodies gate image s t p.stand (subst (λ (n : ℕ). HasRecords n t image) (sym same) q.stand))

pub one_list : OneList
one_list image s t (inl p) (inl q) = p.1 ∙ sym q.1
one_list image s t (inl p) (inr q) = absurd (omega (arith, p.0, q.0))
one_list image s t (inr p) (inl q) = absurd (omega (arith, p.0, q.0))
one_list image s t (inr p) (inr q) = (one_area image p.1.0 q.1.0 s t p.1.1 q.1.1).1

-- what begins as a journal does not differ from one in the first eight octets
not_differs : (image : List ℕ) (at : ℕ) → take 8 image ≡ magic → DiffersAt image at → ⊥
not_differs image at e differs = differs.differs
    (sym (get_or-take 8 image at 0 differs.inside) ∙ ap (λ (l : List ℕ). get_or l at 0) e)

begins : (image : List ℕ) (gate : ℕ) (bodies : List (List ℕ)) → IsCurrent gate bodies image → take 8 image ≡ magic
begins image gate bodies (alone m lone g) = m
begins image gate bodies (first a c g) = areas_begin image a
begins image gate bodies (second a c g body is below) = areas_begin image a

begins_too : (image : List ℕ) (at : ℕ) → HasNoAreaAt image at → take 8 image ≡ magic
begins_too image at (outside a c l p) = areas_begin image a
begins_too image at (not_one a c l i lone p) = areas_begin image a
begins_too image at (too_low a c l body has low p) = areas_begin image a
begins_too image at (in_first a c f) = areas_begin image a
begins_too image at (in_only m lone f) = m

-- the records from another place on
at_place : (gate other : ℕ) (s t : List (List ℕ)) (image : List ℕ) → gate ≡ other → s ≡ t → HasRecords gate s image
    → HasRecords other t image
at_place gate other s t image e f has = subst (λ (n : ℕ). HasRecords n t image) e
    (subst (λ (b : List (List ℕ)). HasRecords gate b image) f has)

clash : (image : List ℕ) (at gate : ℕ) (bodies : List (List ℕ)) → IsCurrent gate bodies image
    → HasRecords gate bodies image → HasNoAreaAt image at → ⊥
clash image at gate bodies (alone m lone g) has (outside a c l p) = lone a
clash image at gate bodies (alone m lone g) has (not_one a c l i none p) = lone a
clash image at gate bodies (alone m lone g) has (too_low a c l body one low p) = lone a
clash image at gate bodies (alone m lone g) has (in_first a c f) = lone a
clash image at gate bodies (alone m lone g) has (in_only m' lone' f) =
    not_faulty_too 8 at bodies image (at_place gate 8 bodies bodies image g refl has) f
clash image at gate bodies (first a c g) has (outside a' c' l p) = c c'
clash image at gate bodies (first a c g) has (not_one a' c' l i none p) = c c'
clash image at gate bodies (first a c g) has (too_low a' c' l body one low p) = c c'
clash image at gate bodies (first a c g) has (in_first a' c' f) =
    not_faulty_too 23 at bodies image (at_place gate 23 bodies bodies image g refl has) f
clash image at gate bodies (first a c g) has (in_only m lone f) = lone a
clash image at gate bodies (second a c g body is below) has (outside a' c' (inl low) p) = omega (arith, g, below, low)
clash image at gate bodies (second a c g body is below) has (outside a' c' (inr end) p) =
    omega (arith, g, end, inside gate bodies image has)
clash image at gate bodies (second a c g body is below) has (not_one a' c' l i none p) =
    none body (at_place gate (high image) bodies (body ∷ []) image g is has)
clash image at gate bodies (second a c g body is below) has (too_low a' c' l body' one low p) =
    let same : body ∷ [] ≡ body' ∷ [] = same_bodies (high image) image (body ∷ []) (body' ∷ [])
    (at_place gate (high image) bodies (body ∷ []) image g is has) one in
    let long : length body ≡ length body' = ap (λ (b : List (List ℕ)). length (get_or b 0 [])) same in
    omega (arith, g, below, low, long)
clash image at gate bodies (second a c g body is below) has (in_first a' c' f) = c' c
clash image at gate bodies (second a c g body is below) has (in_only m lone f) = lone a

pub not_both : NotBoth
not_both image bodies at (inl p) none_at = omega (arith, p.0, none_at.0)
not_both image bodies at (inr p) none_at = ⊎_elim {C = ⊥}
    (λ differs. not_differs image at (begins image p.1.0 bodies p.1.1.current) differs)
    (λ none. clash image at p.1.0 bodies p.1.1.current p.1.1.stand none)
    none_at.1

not_before : (image : List ℕ) (p q : ℕ) → p < q → DiffersAt image p → DiffersAt image q → ⊥
not_before image p q lt a b = a.differs (sym (get_or-take q image p 0 lt) ∙ ap (λ (l : List ℕ). get_or l p 0) b.same
    ∙ get_or-take q magic p 0 lt)

one_fault : (image : List ℕ) (p q : ℕ) → HasNoAreaAt image p → HasNoAreaAt image q → p ≡ q
one_fault image p q (outside a c l e) (outside a' c' l' e') = e ∙ sym e'
one_fault image p q (outside a c (inl low) e) (not_one a' c' l' i none e') = absurd (omega (arith, low, l'))
one_fault image p q (outside a c (inr end) e) (not_one a' c' l' i none e') = absurd (omega (arith, end, i))
one_fault image p q (outside a c l e) (too_low a' c' l' body one low e') = e ∙ sym e'
one_fault image p q (outside a c l e) (in_first a' c' f) = absurd (c' c)
one_fault image p q (outside a c l e) (in_only m lone f) = absurd (lone a)
one_fault image p q (not_one a c l i none e) (outside a' c' (inl low) e') = absurd (omega (arith, low, l))
one_fault image p q (not_one a c l i none e) (outside a' c' (inr end) e') = absurd (omega (arith, end, i))
one_fault image p q (not_one a c l i none e) (not_one a' c' l' i' none' e') = e ∙ sym e'
one_fault image p q (not_one a c l i none e) (too_low a' c' l' body one low e') = absurd (none body one)
one_fault image p q (not_one a c l i none e) (in_first a' c' f) = absurd (c' c)
one_fault image p q (not_one a c l i none e) (in_only m lone f) = absurd (lone a)
one_fault image p q (too_low a c l body one low e) (outside a' c' l' e') = e ∙ sym e'
one_fault image p q (too_low a c l body one low e) (not_one a' c' l' i none e') = absurd (none body one)
one_fault image p q (too_low a c l body one low e) (too_low a' c' l' body' one' low' e') = e ∙ sym e'
one_fault image p q (too_low a c l body one low e) (in_first a' c' f) = absurd (c' c)
one_fault image p q (too_low a c l body one low e) (in_only m lone f) = absurd (lone a)
one_fault image p q (in_first a c f) (outside a' c' l e) = absurd (c c')
one_fault image p q (in_first a c f) (not_one a' c' l i none e) = absurd (c c')
one_fault image p q (in_first a c f) (too_low a' c' l body one low e) = absurd (c c')
one_fault image p q (in_first a c f) (in_first a' c' f') = faulty_once 23 p q image f f'
one_fault image p q (in_first a c f) (in_only m lone f') = absurd (lone a)
one_fault image p q (in_only m lone f) (outside a c l e) = absurd (lone a)
one_fault image p q (in_only m lone f) (not_one a c l i none e) = absurd (lone a)
one_fault image p q (in_only m lone f) (too_low a c l body one low e) = absurd (lone a)
one_fault image p q (in_only m lone f) (in_first a c f') = absurd (lone a)
one_fault image p q (in_only m lone f) (in_only m' lone' f') = faulty_once 8 p q image f f'

pub one_place : OnePlace
one_place image p q a b = places a.1 b.1
  where
    places : DiffersAt image p ⊎ HasNoAreaAt image p → DiffersAt image q ⊎ HasNoAreaAt image q → p ≡ q
    places (inl x) (inl y) = ⊎_elim {C = p ≡ q} (λ (lt : p < q). absurd (not_before image p q lt x y))
        (λ (ge : q ≤ p). ⊎_elim {C = p ≡ q} (λ (lt : q < p). absurd (not_before image q p lt y x))
        (λ (le : p ≤ q). omega arith) (cases_lt q p)) (cases_lt p q)
    places (inl x) (inr y) = absurd (not_differs image p (begins_too image q y) x)
    places (inr x) (inl y) = absurd (not_differs image q (begins_too image p x) y)
    places (inr x) (inr y) = one_fault image p q x y
