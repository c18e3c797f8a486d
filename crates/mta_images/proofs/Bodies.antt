-- The records of a history and of one step more.
use Rattle.std.proofs.Common.{◌≡◌, ℕ, ◌+◌, List, [], ◌∷◌, ◌++◌, length, map, refl, ap, arith}
use Rattle.mta_journal.specs.Bodies.{records}
use Rattle.mta_journal.proofs.Appended.{length-records-more}
use Rattle.mta_records.specs.declared.step.Step.{Step}
use Rattle.mta_records.specs.Body.{body_of, HasFields}
use Rattle.mta_images.specs.Image.{AreRecords, size_of}

pub map-more : (steps : List Step) (step : Step)
    → map body_of (steps ++ step ∷ []) ≡ map body_of steps ++ body_of step ∷ []
map-more [] step = refl
map-more (x ∷ steps) step = ap (λ (t : List (List ℕ)). body_of x ∷ t) (map-more steps step)

pub are-records-more : (steps : List Step) (step : Step) → AreRecords steps → HasFields step
    → AreRecords (steps ++ step ∷ [])
are-records-more [] step each fields = (fields, tt)
are-records-more (s ∷ steps) step each fields = (each.0, are-records-more steps step each.1 fields)

pub size-more : (first : ℕ) (steps : List Step) (step : Step)
    → size_of first (steps ++ step ∷ []) ≡ size_of first steps + (length (body_of step) + 5)
size-more first steps step =
    omega (
      arith,
      ap (λ (bodies : List (List ℕ)). length (records bodies)) (map-more steps step),
      length-records-more
          (map body_of steps) (body_of step),
    )
