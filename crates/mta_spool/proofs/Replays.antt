-- Steps that are taken up one after the other.
use Rattle.std.proofs.Common.{◌≡◌, ℕ, zero, suc, ◌+◌, ◌≤◌, List, [], ◌∷◌, ◌++◌, length, map, take, Result, Err, IsErrOf}
use Rattle.std.proofs.Common.{refl, sym, ap, subst, ◌∙◌, append_assoc, arith}
use Rattle.std.specs.Prelude.{IsOk}
use Rattle.std.specs.List.{flat_map}
use Rattle.std.proofs.lemmas.List.{append-nil, length-append}
use Rattle.mta_records.specs.declared.step.Step.{Step}
use Rattle.mta_records.specs.Body.{body_of}
use Rattle.mta_histories.specs.Lanes.{State, empty}
use Rattle.mta_histories.specs.History.{IsPossible, after_step}
use Rattle.mta_journal.specs.Bodies.{longest_body, longest_first, open_record, records, AreWithin}
use Rattle.mta_images.specs.Image.{StopsAt, size_of}
use Rattle.mta_histories.proofs.Runs.{after_from-more, possible-more}
use Rattle.mta_images.proofs.Bodies.{map-more, are-records-more, size-more}
use Rattle.mta_replay.specs.declared.replay.NotMade.{NotMade}
use Rattle.mta_replay.specs.declared.replay.NotMade.TheVariants as NotMades
use Rattle.mta_spool.specs.Replaying.{HasReplayed, HasStopped, HasTaken, IsReplay, open_why}

-- ---- a row of bodies

-- a step more was taken up
pub replay_more : (first : ℕ) (bodies : List (List ℕ)) (body : List ℕ) (old new : State)
    (result : Result (Unit {0}) NotMade) (steps : List Step) → IsReplay bodies old steps → HasTaken body old new result
    → IsOk result
    → (more : List Step) × IsReplay (bodies ++ body ∷ []) new more
    × (size_of first more ≡ size_of first steps + (length body + 5))
replay_more first bodies body old new result steps is taken ok =
    let t = taken.made ok in
    let step = t.0 in (
      steps ++ step ∷ [],
      record {
        bodies_are = map-more steps step ∙ ap (λ (b : List ℕ). map body_of steps ++ b ∷ []) t.2
            ∙ ap (λ (bs : List (List ℕ)). bs ++ body ∷ []) is.bodies_are;
        each = are-records-more steps step is.each t.1;
        history = possible-more empty steps step is.history (subst (λ (s : State). IsPossible s step) is.state_is t.3);
        state_is = t.4 ∙ ap (λ (s : State). after_step s step) is.state_is ∙ sym (after_from-more empty steps step);
      },
      size-more first steps step ∙ ap (λ (b : List ℕ). size_of first steps + (length b + 5)) t.2,
    )

-- no step of the body is possible
pub replay_stops : (first : ℕ) (bodies : List (List ℕ)) (body : List ℕ) (more all : List (List ℕ)) (old new : State)
    (result : Result (Unit {0}) NotMade) (steps : List Step) (at : ℕ) → IsReplay bodies old steps → all ≡ bodies ++ body
    ∷ more
    → HasTaken body old new result → IsErrOf result NotMades.Impossible → at + 1 ≡ size_of first steps
    → StopsAt first all at
replay_stops first bodies body more all old new result steps at is whole taken wrong place = record {
  steps = steps;
  body = body;
  more = more;
  bodies_are = whole ∙ ap (λ (bs : List (List ℕ)). bs ++ body ∷ more) (sym is.bodies_are);
  each = is.each;
  history = is.history;
  none = λ step fields e possible. taken.impossible wrong step fields e
      (subst (λ (s : State). IsPossible s step) (sym is.state_is) possible);
  place = omega (arith, place);
}

-- so it is no spool from there on, or there was no memory
pub replay_stopped : (first : ℕ) (bodies : List (List ℕ)) (body : List ℕ) (more all : List (List ℕ)) (old new : State)
    (why : NotMade) (steps : List Step) (at : ℕ) → IsReplay bodies old steps → all ≡ bodies ++ body ∷ more
    → HasTaken {T = Unit {0}} body old new (Err why) → at + 1 ≡ size_of first steps
    → HasStopped first all (open_why why at)
replay_stopped first bodies body more all old new NotMades.Impossible steps at is whole taken place =
    replay_stops first bodies body more all old new (Err NotMades.Impossible) steps at is whole taken refl place
replay_stopped first bodies body more all old new NotMades.Memory steps at is whole taken place = tt

-- ---- how far a row of bodies reaches

flat_take : (bodies : List (List ℕ)) (i : ℕ) → length (flat_map open_record (take i bodies))
    ≤ length (flat_map open_record bodies)
flat_take [] zero = omega arith
flat_take [] (suc i) = omega arith
flat_take (b ∷ bodies) zero = omega arith
flat_take (b ∷ bodies) (suc i) = omega (
  arith,
  flat_take bodies i,
  length-append (open_record b) (flat_map open_record (take i bodies)),
  length-append (open_record b) (flat_map open_record bodies),
)

-- the records so far are no longer than all
pub records_fit : (first : ℕ) (bodies : List (List ℕ)) (i : ℕ) (steps : List Step) → map body_of steps ≡ take i bodies
    → size_of first steps ≤ first + length (records bodies) + 1
records_fit first bodies i steps e =
    omega (arith, ap (λ (bs : List (List ℕ)). length (records bs)) e, flat_take bodies i)

-- the state after no step
pub empty_replay : (state : State) → state ≡ empty → IsReplay [] state []
empty_replay state is = record { bodies_are = refl; each = tt; history = tt; state_is = is }

-- ---- a row of bodies of which the first are taken up

-- what is taken up of a row whose records stand from this gate on, and what is left of it
pub record IsUnderWay (first : ℕ) (bodies rest : List (List ℕ)) (state : State) (at : ℕ) : Type 0 where
  pub done : List (List ℕ)
  pub steps : List Step
  pub are : bodies ≡ done ++ rest
  pub replayed : IsReplay done state steps
  pub place : at + 1 ≡ size_of first steps

pub under_way_at_first : (first : ℕ) (bodies rest : List (List ℕ)) (state : State) → rest ≡ bodies → state ≡ empty
    → IsUnderWay first bodies rest state first
under_way_at_first first bodies rest state same none = record {
  done = [];
  steps = [];
  are = sym same;
  replayed = empty_replay state none;
  place = omega arith;
}

first_short : (most : ℕ) → longest_body ≤ most → (done : List (List ℕ)) (body : List ℕ) (rest : List (List ℕ))
    → AreWithin most (done ++ body ∷ rest) → length body ≤ most
first_short most le [] body rest short = short.0
first_short most le (b ∷ done) body rest short =
    omega (arith, le, first_short longest_body (omega arith) done body rest short.1)

pub next_short : (first : ℕ) (bodies was rest : List (List ℕ)) (body : List ℕ) (state : State) (at : ℕ)
    → AreWithin longest_first bodies → IsUnderWay first bodies was state at → was ≡ body ∷ rest
    → length body ≤ longest_first
next_short first bodies was rest body state at short way is =
    first_short longest_first (omega arith) way.done body rest
    (subst (AreWithin longest_first) (way.are ∙ ap (λ (xs : List (List ℕ)). way.done ++ xs) is) short)

pub under_way_further : (first : ℕ) (bodies was rest : List (List ℕ)) (body : List ℕ) (old new : State)
    (result : Result (Unit {0}) NotMade) (at more : ℕ) → IsUnderWay first bodies was old at → was ≡ body ∷ rest
    → HasTaken body old new result → IsOk result → more ≡ at + (length body + 5) → IsUnderWay first bodies rest new more
under_way_further first bodies was rest body old new result at more way is taken ok same =
    let next = replay_more first way.done body old new result way.steps way.replayed taken ok in
    record {
      done = way.done ++ body ∷ [];
      steps = next.0;
      are = way.are ∙ ap (λ (xs : List (List ℕ)). way.done ++ xs) is ∙ sym (append_assoc way.done (body ∷ []) rest);
      replayed = next.1;
      place = (let size = next.2 in let place = way.place in omega (arith, same, size, place));
    }

pub way_fits : (first : ℕ) (bodies rest : List (List ℕ)) (state : State) (at : ℕ)
    → IsUnderWay first bodies rest state at
    → at ≤ first + length (records bodies)
way_fits first bodies rest state at way =
    let place = way.place in
    let fits = records_fit first bodies (length way.done) way.steps (way.replayed.bodies_are ∙ sym taken) in
    omega (arith, place, fits)
  where
    take-front : (xs ys : List (List ℕ)) → take (length xs) (xs ++ ys) ≡ xs
    take-front [] ys = refl
    take-front (x ∷ xs) ys = ap (λ (t : List (List ℕ)). x ∷ t) (take-front xs ys)

    taken : take (length way.done) bodies ≡ way.done
    taken = ap (take (length way.done)) way.are ∙ take-front way.done rest

pub way_stopped : (first : ℕ) (bodies was rest : List (List ℕ)) (body : List ℕ) (old new : State) (why : NotMade)
    (at : ℕ)
    → IsUnderWay first bodies was old at → was ≡ body ∷ rest → HasTaken {T = Unit {0}} body old new (Err why)
    → HasStopped first bodies (open_why why at)
way_stopped first bodies was rest body old new why at way is taken =
    replay_stopped first way.done body rest bodies old new why way.steps at way.replayed
    (way.are ∙ ap (λ (xs : List (List ℕ)). way.done ++ xs) is) taken way.place

pub way_ended : (first : ℕ) (bodies rest : List (List ℕ)) (state : State) (at : ℕ)
    → IsUnderWay first bodies rest state at → rest ≡ [] → HasReplayed bodies state
way_ended first bodies rest state at way none =
    (way.steps, subst (λ (bs : List (List ℕ)). IsReplay bs state way.steps) (sym whole) way.replayed)
  where
    whole : bodies ≡ way.done
    whole = way.are ∙ ap (λ (xs : List (List ℕ)). way.done ++ xs) none ∙ append-nil way.done
