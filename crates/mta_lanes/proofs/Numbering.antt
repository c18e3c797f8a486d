-- The place of a lane among those that are open.
use Rattle.std.proofs.Common.{◌≡◌, ◌<◌, ◌+◌, ℕ, zero, suc, Bool, true, false, cond, eqb}
use Rattle.std.proofs.Common.{List, [], ◌∷◌, Some, None, length, set, get_or, refl, sym, ap, subst, ◌∙◌}
use Rattle.std.proofs.Common.{arith, Option}
use Rattle.std.specs.List.{find, remove, position, position_from}
use Rattle.std.proofs.lemmas.Iterator.Adapters.{position_from-zero}
use Rattle.std.proofs.lemmas.List.Quantifiers.{position-Some}
use Rattle.std.proofs.lemmas.Bool.{eqb-true}
use Rattle.mta_histories.specs.Lanes.{Lane, Lanes, lane_at, put_lane, without_lane}
use Rattle.mta_lanes.specs.declared.change.LaneChange.{LaneChange}
use Rattle.mta_lanes.specs.declared.change.LaneChange.TheVariants as change
use Rattle.mta_lanes.specs.Changes.{MayChange, MayChangeAt, changed, put_changed}
use Rattle.mta_lanes.specs.Finds.{has_number}

-- the first lane of a number is the lane of it
pub found_at : (n : ℕ) (lanes : List Lane) → find (has_number n) lanes ≡ lane_at n lanes
found_at n [] = refl
found_at n (lane ∷ lanes) = ap (λ (rest : Option Lane). cond (eqb n lane.number) (Some lane) rest) (found_at n lanes)

-- what stands at the place of a number
pub record IsPlace (n : ℕ) (lanes : List Lane) (i : ℕ) (d : Lane) : Type 0 where
  pub at : lane_at n lanes ≡ Some (get_or lanes i d)
  pub put : (new : Lane) → n ≡ new.number → put_lane new lanes ≡ set lanes i new
  pub without : without_lane n lanes ≡ remove lanes i

place_at : (n : ℕ) (lanes : List Lane) (i : ℕ) (d : Lane) → i < length lanes
    → eqb n (get_or lanes i d).number ≡ true → ((k : ℕ) → k < i → eqb n (get_or lanes k d).number ≡ false)
    → IsPlace n lanes i d
place_at n [] i d p here before = absurd (omega (arith, p))
place_at n (lane ∷ lanes) zero d p here before = record {
  at = rw here refl;
  put = λ new e. rw (subst (λ (k : ℕ). eqb k lane.number ≡ true) e here) refl;
  without = rw here refl;
}
place_at n (lane ∷ lanes) (suc i) d p here before =
    let other : eqb n lane.number ≡ false = before 0 (omega arith) in
    let more = place_at n lanes i d (omega (arith, p)) here (λ k q. before (suc k) (omega (arith, q))) in
    record {
      at = rw other more.at;
      put = λ new e.
          rw (subst (λ (k : ℕ). eqb k lane.number ≡ false) e other)
          (ap (λ (ls : List Lane). lane ∷ ls) (more.put new e));
      without = rw other (ap (λ (ls : List Lane). lane ∷ ls) more.without);
    }

pub is_place : (n : ℕ) (lanes : List Lane) (i : ℕ) (d : Lane) → position (has_number n) lanes ≡ Some i
    → IsPlace n lanes i d
is_place n lanes i d e =
    let is = position-Some (has_number n) lanes i d e in place_at n lanes i d is.0 is.1 is.2

no_place_from : (n i : ℕ) (lanes : List Lane) → position_from (has_number n) i lanes ≡ None
    → (lane_at n lanes ≡ None) × (without_lane n lanes ≡ lanes)
no_place_from n i [] e = (refl, refl)
no_place_from n i (lane ∷ lanes) e = by_test (no_place_from n (i + 1) lanes) (eqb n lane.number) e
  where
    by_test : (position_from (has_number n) (i + 1) lanes ≡ None
        → (lane_at n lanes ≡ None) × (without_lane n lanes ≡ lanes))
        → (b : Bool) → cond b (Some i) (position_from (has_number n) (i + 1) lanes) ≡ None
        → (cond b (Some lane) (lane_at n lanes) ≡ None)
        × (cond b lanes (lane ∷ without_lane n lanes) ≡ lane ∷ lanes)
    by_test more true same = absurd cc
    by_test more false rest =
        let is = more rest in (is.0, ap (λ (ls : List Lane). lane ∷ ls) is.1)

-- where there is no place there is no lane
pub no_place : (n : ℕ) (lanes : List Lane) → position (has_number n) lanes ≡ None
    → (lane_at n lanes ≡ None) × (without_lane n lanes ≡ lanes)
no_place n lanes e = no_place_from n 0 lanes (sym (position_from-zero (has_number n) lanes) ∙ e)

-- ---- a change at a place

abbrev pub lanes_with : ℕ → List Lane → Lanes
lanes_with count lanes = record { count = count; open_lanes = lanes }

pub lane_there : (n : ℕ) (lanes : List Lane) (i : ℕ) (lane : Lane) → position (has_number n) lanes ≡ Some i
    → lane ≡ get_or lanes i lane → lane_at n lanes ≡ Some lane
lane_there n lanes i lane e read = (is_place n lanes i lane e).at ∙ ap (λ (l : Lane). Some l) (sym read)

pub may_there : (n : ℕ) (lanes : List Lane) (i : ℕ) (lane : Lane) (c : LaneChange)
    → position (has_number n) lanes ≡ Some i → lane ≡ get_or lanes i lane → MayChangeAt (lane_at n lanes) c
    → MayChange lane c
may_there n lanes i lane c e read may =
    subst (λ (l : Option Lane). MayChangeAt l c) (lane_there n lanes i lane e read) may

-- a change keeps the number
same_number : (lane : Lane) (c : LaneChange) → lane.number ≡ (changed lane c).number
same_number lane (change.Agree checkpoint window) = refl
same_number lane change.Bind = refl
same_number lane (change.Start transfer) = refl
same_number lane (change.Confirm k n) = refl
same_number lane (change.ToEnd k) = refl
same_number lane change.Settle = refl
same_number lane (change.Abandon k) = refl
same_number lane (change.Secure k n piece places) = refl
same_number lane (change.Complete k) = refl
same_number lane change.DropPieces = refl

pub changed_there : (n : ℕ) (lanes : List Lane) (i : ℕ) (lane new : Lane) (c : LaneChange)
    → position (has_number n) lanes ≡ Some i → lane ≡ get_or lanes i lane → new ≡ changed lane c
    → set lanes i new ≡ put_changed lanes (lane_at n lanes) c
changed_there n lanes i lane new c e read made =
    let here : eqb n (get_or lanes i lane).number ≡ true = (position-Some (has_number n) lanes i lane e).1 in
    let number : n ≡ lane.number =
    eqb-true n (get_or lanes i lane).number here ∙ ap (λ (l : Lane). l.number) (sym read) in
    let put = (is_place n lanes i lane e).put (changed lane c) (number ∙ same_number lane c) in
    ap (λ (l : Lane). set lanes i l) made
    ∙ (sym put
    ∙ sym (ap (λ (l : Option Lane). put_changed lanes l c) (lane_there n lanes i lane e read)))

pub nothing_there : (n : ℕ) (lanes : List Lane) (c : LaneChange) → position (has_number n) lanes ≡ None
    → lanes ≡ put_changed lanes (lane_at n lanes) c
nothing_there n lanes c e = sym (ap (λ (l : Option Lane). put_changed lanes l c) (no_place n lanes e).0)
