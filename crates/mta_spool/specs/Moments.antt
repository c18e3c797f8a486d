-- The moments that steps carry, and the steps that workers make.
use Rattle.std.specs.Prelude.{◌≡◌, ℕ, List, [], ◌∷◌, Option, None, Some}
use Rattle.mta_records.specs.declared.step.Step.{Step}
use Rattle.mta_histories.specs.Lanes.{State}
use Rattle.mta_histories.specs.Classes.{Class, moment_of}
use Rattle.mta_histories.specs.Classes as classes
use Rattle.mta_histories.specs.History.{after_step}
use Rattle.mta_spool.specs.Stands.{step_moment}

-- ---- moments

-- the moment is the greater of the last one and one that the clock tells, capped at the last second of 2049
abbrev pub IsTimed : (ℕ → Type 0) → (last moment : ℕ) → Type 0
IsTimed tells last moment = (told : ℕ) × tells told × (moment ≡ step_moment told last)

-- and so it is where a step carries one
abbrev pub IsTimedAs : (ℕ → Type 0) → (last : ℕ) → Option ℕ → Type 0
IsTimedAs tells last None = Unit {0}
IsTimedAs tells last (Some moment) = IsTimed tells last moment

-- From this state on, each of these steps that carries a moment carries such a one.
abbrev pub AreTimed : (ℕ → Type 0) → State → List Step → Type 0
AreTimed tells s [] = Unit {0}
AreTimed tells s (step ∷ steps) =
    IsTimedAs tells s.moment (moment_of step) × AreTimed tells (after_step s step) steps

-- ---- whose they are

-- a step that settles a recipient, opens a lane or is on one: it neither begins a history, sets the format, records
-- tables nor accepts an APDU
abbrev pub IsOfWorkers : Class → Type 0
IsOfWorkers (classes.begins t) = ⊥
IsOfWorkers classes.sets_format = ⊥
IsOfWorkers (classes.records text) = ⊥
IsOfWorkers (classes.accepts octets) = ⊥
IsOfWorkers (classes.settles how i r) = Unit {0}
IsOfWorkers (classes.opens role peer reference twa checkpoint window) = Unit {0}
IsOfWorkers (classes.on_lane n generation step) = Unit {0}
