-- What workers make, as steps of a call: their moments, and their place behind tables and APDUs.
use Rattle.std.proofs.Common.{◌≡◌, ℕ, List, [], ◌∷◌, Option, None, Some, refl, sym, subst, arith}
use Rattle.mta_records.specs.declared.step.Step.{Step}
use Rattle.mta_histories.specs.Lanes.{State}
use Rattle.mta_histories.specs.Classes.{Class, class_of, moment_of}
use Rattle.mta_histories.specs.Classes as classes
use Rattle.mta_histories.specs.History.{after_step}
use Rattle.mta_spool.specs.Moments.{AreTimed, IsOfWorkers, IsTimedAs}
use Rattle.mta_worker_step_laws.specs.Steps.{AreMade}
use Rattle.mta_commands.specs.Submit.{AreInTurn, turn_behind, turn_of, turn_of_class}

timed_as_more : (tells other : ℕ → Type 0) (last : ℕ) (o : Option ℕ) → ((m : ℕ) → tells m → other m)
    → IsTimedAs tells last o → IsTimedAs other last o
timed_as_more tells other last None more t = tt
timed_as_more tells other last (Some moment) more t = (t.0, more t.0 t.1, t.2)

-- those of workers, also for one who knows more moments
pub made_timed : (tells other : ℕ → Type 0) (s : State) (a : List Step) → ((m : ℕ) → tells m → other m)
    → AreMade tells s a → AreTimed other s a
made_timed tells other s [] more made = tt
made_timed tells other s (x ∷ a) more made = (
  timed_as_more tells other s.moment (moment_of x) more made.0.1,
  made_timed tells other (after_step s x) a more made.1,
)

worker_turn : (c : Class) → IsOfWorkers c → turn_of_class c ≡ 2
worker_turn (classes.begins t) is = absurd is
worker_turn classes.sets_format is = absurd is
worker_turn (classes.records text) is = absurd is
worker_turn (classes.accepts octets) is = absurd is
worker_turn any0 is = refl

-- what workers make comes behind tables and APDUs
pub made_late : (tells : ℕ → Type 0) (s : State) (a : List Step) → AreMade tells s a → AreInTurn 2 a
made_late tells s [] made = tt
made_late tells s (x ∷ a) made =
    let turn : turn_of x ≡ 2 = worker_turn (class_of x) made.0.0 in
    let behind : turn_behind x ≡ 2 = omega (arith, turn) in (
      omega (arith, turn),
      omega (arith, turn),
      subst (λ (k : ℕ). AreInTurn k a) (sym behind) (made_late tells (after_step s x) a made.1),
    )
