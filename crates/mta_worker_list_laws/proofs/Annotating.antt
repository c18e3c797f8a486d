-- The steps of a history, as their lanes see them, and those of a beginning of it.
use Rattle.std.proofs.Common.{◌≡◌, ℕ, suc, ◌==◌, nat_le, cond, Bool, true, false, List, [], ◌∷◌, ◌++◌, length, take}
use Rattle.std.proofs.Common.{Some}
use Rattle.std.proofs.Common.{refl, sym, ap, ◌∙◌}
use Rattle.std.specs.Prelude.{map, slice_get}
use Rattle.mta_transfer_rules.specs.Lanes.{Seen, Unopened, Open, Closed, unopened, closed_before, lane_begun}
use Rattle.mta_transfer_laws.specs.History.{BeginsNew, IsOfLanes}
use Rattle.mta_records.specs.declared.step.Step.{Step}
use Rattle.mta_histories.specs.Lanes.{Lane, State, empty}
use Rattle.mta_histories.specs.Classes.{Class, begins, class_of}
use Rattle.mta_histories.specs.History.{after, after_from, after_step, ArePossible, IsHistory, IsPossible, when}
use Rattle.mta_histories.specs.Seen.{annotated, annotated_from, halves_of, numbered_halves, seen_of}
use Rattle.mta_histories.proofs.Seeing.{lanes_see_histories}
use Rattle.mta_worker_list_laws.specs.Histories.{TellsApdus}

-- ---- from any state on

as_many : (s : State) (xs : List Step) → length (annotated_from s xs) ≡ length xs
as_many s [] = refl
as_many s (x ∷ xs) = ap (λ (n : ℕ). suc n) (as_many (after_step s x) xs)

annotated_more : (s : State) (xs ys : List Step)
    → annotated_from s (xs ++ ys) ≡ annotated_from s xs ++ annotated_from (after_from s xs) ys
annotated_more s [] ys = refl
annotated_more s (x ∷ xs) ys =
    ap (λ (zs : List Seen). seen_of s (class_of x) (when s x) ∷ zs) (annotated_more (after_step s x) xs ys)

front_possible : (s : State) (xs ys : List Step) → ArePossible s (xs ++ ys) → ArePossible s xs
front_possible s [] ys p = tt
front_possible s (x ∷ xs) ys p = (p.0, front_possible (after_step s x) xs ys p.1)

rest_possible : (s : State) (xs ys : List Step) → ArePossible s (xs ++ ys) → ArePossible (after_from s xs) ys
rest_possible s [] ys p = p
rest_possible s (x ∷ xs) ys p = rest_possible (after_step s x) xs ys p.1

state_more : (s : State) (xs : List Step) (x : Step) → after_from s (xs ++ x ∷ []) ≡ after_step (after_from s xs) x
state_more s [] x = refl
state_more s (y ∷ ys) x = state_more (after_step s y) ys x

all_more : (s : State) (xs ys : List Step) → after_from s (xs ++ ys) ≡ after_from (after_from s xs) ys
all_more s [] ys = refl
all_more s (x ∷ xs) ys = all_more (after_step s x) xs ys

-- ---- lists

take_front : {A : Type 0} (xs ys : List A) → take (length xs) (xs ++ ys) ≡ xs
take_front [] ys = refl
take_front (x ∷ xs) ys = ap (λ (zs : List _). x ∷ zs) (take_front xs ys)

at_behind : {A : Type 0} (xs : List A) (y : A) (ys : List A) → slice_get (xs ++ y ∷ ys) (length xs) ≡ Some y
at_behind [] y ys = refl
at_behind (x ∷ xs) y ys = at_behind xs y ys

-- ---- histories

pub length_seen : (xs : List Step) → length (annotated xs) ≡ length xs
length_seen xs = as_many empty xs

pub front_history : (xs ys : List Step) → IsHistory (xs ++ ys) → IsHistory xs
front_history xs ys h = front_possible empty xs ys h

-- the step behind a beginning was possible then
pub possible_behind : (xs : List Step) (y : Step) (ys : List Step) → IsHistory (xs ++ y ∷ ys) → IsPossible (after xs) y
possible_behind xs y ys h = (rest_possible empty xs (y ∷ ys) h).0

pub after_more : (xs : List Step) (x : Step) → after (xs ++ x ∷ []) ≡ after_step (after xs) x
after_more xs x = state_more empty xs x

-- what is behind a beginning was possible from there on, and leads from its state to the last one
pub rest_history : (xs ys : List Step) → IsHistory (xs ++ ys) → ArePossible (after xs) ys
rest_history xs ys h = rest_possible empty xs ys h

pub after_all : (xs ys : List Step) → after (xs ++ ys) ≡ after_from (after xs) ys
after_all xs ys = all_more empty xs ys

-- a beginning is seen as it was seen when it was all
pub seen_front : (xs ys : List Step) → take (length xs) (annotated (xs ++ ys)) ≡ annotated xs
seen_front xs ys =
    ap (λ (zs : List Seen). take (length xs) zs) (annotated_more empty xs ys)
    ∙ ap (λ (n : ℕ). take n (annotated xs ++ annotated_from (after xs) ys)) (sym (length_seen xs))
    ∙ take_front (annotated xs) (annotated_from (after xs) ys)

-- the step behind it stands as its lane saw it in the state then
pub seen_behind : (xs : List Step) (y : Step) (ys : List Step)
    → slice_get (annotated (xs ++ y ∷ ys)) (length xs) ≡ Some (seen_of (after xs) (class_of y) (when (after xs) y))
seen_behind xs y ys =
    ap (λ (zs : List Seen). slice_get zs (length xs)) (annotated_more empty xs (y ∷ ys))
    ∙ ap (λ (n : ℕ). slice_get (annotated xs ++ annotated_from (after xs) (y ∷ ys)) n) (sym (length_seen xs))
    ∙ at_behind (annotated xs) (seen_of (after xs) (class_of y) (when (after xs) y))
    (annotated_from (after_step (after xs) y) ys)

-- ---- where a history begins

-- a snapshot has open lanes alone
begun_new : (lanes : List Lane) (count i : ℕ) → (lane_begun count (map numbered_halves lanes) i).phase ≡ Unopened
    → lane_begun count (map numbered_halves lanes) i ≡ unopened
begun_new [] count i = by_tests (nat_le 1 i) (nat_le i count)
  where
    by_tests : (b c : Bool) → (cond b (cond c closed_before unopened) unopened).phase ≡ Unopened
        → cond b (cond c closed_before unopened) unopened ≡ unopened
    by_tests true true e = absurd (let closed : Closed ≡ Unopened = e in cc)
    by_tests true false e = refl
    by_tests false c e = refl
begun_new (l ∷ lanes) count i = by_test (l.number == i) (begun_new lanes count i)
  where
    by_test : (b : Bool) → ((lane_begun count (map numbered_halves lanes) i).phase ≡ Unopened
        → lane_begun count (map numbered_halves lanes) i ≡ unopened)
        → (cond b (halves_of l) (lane_begun count (map numbered_halves lanes) i)).phase ≡ Unopened
        → cond b (halves_of l) (lane_begun count (map numbered_halves lanes) i) ≡ unopened
    by_test true rest e = absurd (let opened : Open ≡ Unopened = e in cc)
    by_test false rest e = rest e

seen_new : (s : State) (c : Class) (moment : ℕ) (xs : List Seen) → BeginsNew (seen_of s c moment ∷ xs)
seen_new s (begins t) moment xs = λ lane none. begun_new t.lanes t.lane_count lane none
seen_new s any2 moment xs = λ lane none. refl

-- so a lane that was not opened where a history begins is new
pub begins_new : (xs : List Step) → BeginsNew (annotated xs)
begins_new [] = λ lane none. refl
begins_new (x ∷ xs) = seen_new empty (class_of x) (when empty x) (annotated_from (after_step empty x) xs)

-- and every lane allows its steps
pub of_lanes : (spells : List ℕ → Bool) (xs : List Step) → TellsApdus spells → IsHistory xs
    → IsOfLanes spells (annotated xs)
of_lanes spells xs tells history = record {
  begun = begins_new xs;
  allowed = (lanes_see_histories xs history).allowed spells tells.of_apdus;
}
