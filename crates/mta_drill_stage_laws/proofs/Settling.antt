-- What is due between sessions is done until nothing is.
use Rattle.std.proofs.Common.{◌≡◌, ℕ, ◌+◌, List, [], ◌∷◌, refl, sym, subst}
use Rattle.mta_records.specs.declared.step.Step.{Step}
use Rattle.mta_records.specs.declared.step.Step.TheVariants as step
use Rattle.mta_histories.specs.History.{after_step}
use Rattle.mta_histories.specs.Lanes.{Lane}
use Rattle.mta_histories.specs.Lanes.{State as SpoolState}
use Rattle.mta_drill_step_laws.specs.First.{AllAreFree, HasAccepted}
use Rattle.mta_drill_step_laws.specs.Second.{HasGot}
use Rattle.mta_drill_step_laws.proofs.First.{first_is_quiet}
use Rattle.mta_drill_step_laws.proofs.Second.{all_are_delivered, next_is_delivered}
use Rattle.mta_drill_step_laws.proofs.States.{delivered_is_one_more}
use Rattle.mta_drill_stage_laws.specs.Sessions.{Settles}

-- at the first agent nothing is due
pub first_settled : (before count done : ℕ) (s new : SpoolState) (dues : List Step)
    → HasAccepted before count done s.machine → Settles s dues new → new ≡ s
first_settled before count done s new [] h settles = settles.1
first_settled before count done s new (due ∷ rest) h settles =
    absurd (first_is_quiet before count done s h settles.0.item settles.0.recipient due settles.0.is_due)

-- at the second one all that came is delivered
pub record HasSettled (before got : ℕ) (ls : List Lane) (new : SpoolState) : Type 0 where
  pub has : HasGot before got got new.machine
  pub lanes : new.lanes.open_lanes ≡ ls
  pub moment : new.moment ≡ 0

pub second_settled : (before got given : ℕ) (ls : List Lane) (s new : SpoolState) (dues : List Step)
    → ((z : SpoolState) → z.lanes.open_lanes ≡ ls → AllAreFree z) → HasGot before got given s.machine
    → s.lanes.open_lanes ≡ ls → s.moment ≡ 0 → Settles s dues new → HasSettled before got ls new
second_settled before got given ls s new [] free h lanes moment settles =
    let all : given ≡ got = all_are_delivered before got given s h (free s lanes) settles.0 in
    subst (HasSettled before got ls) (sym settles.1) (record {
      has = subst (λ (g : ℕ). HasGot before got g s.machine) all h;
      lanes = lanes;
      moment = moment;
    })
second_settled before got given ls s new (due ∷ rest) free h lanes moment settles =
    let next = next_is_delivered before got given s due h (free s lanes) settles.0 in
    let made = step.Deliver (given + 1) 1 0 in
    second_settled before got (given + 1) ls (after_step s made) new rest free
    (delivered_is_one_more before got given s h next.0) lanes refl
    (subst (λ z. Settles (after_step s z) rest new) next.1 settles.1)
