-- What came of a message is read exactly where it is spelled.
use Rattle.std.proofs.Common.{◌≡◌, ℕ, true, false, List, refl, inl, inr}
use Rattle.mta_ber.specs.declared.tag.Tag.{Tag}
use Rattle.mta_ber.specs.Parts.{is_tag}
use Rattle.mta_ber.proofs.ExplicitLaws.{ReadSound, ReadFull}
use Rattle.mta_ber.proofs.Steps.{chosen}
use Rattle.mta_names.proofs.Tools.{tag_is}
use Rattle.mta_report_recipient.specs.declared.outcome.Outcome.{Outcome}
use Rattle.mta_report_recipient.specs.Outcomes.{outcome_choice, SpellsOutcome}
use Rattle.mta_report_recipient.specs.Values.{IsOutcome}
use Rattle.mta_report_recipient.proofs.DeliveryLaws.{delivery_sound, delivery_full, delivery_is}
use Rattle.mta_report_recipient.proofs.FailureLaws.{failure_sound, failure_full, failure_is}

other_tag : (t : Tag) → is_tag 2 1 t ≡ true → is_tag 2 0 t ≡ false
other_tag t h = let e = tag_is 2 1 t h in rw (e.0, e.1) refl

pub outcome_sound : ReadSound outcome_choice SpellsOutcome
unfolding outcome_choice
outcome_sound v p shallow content octets e =
    elim (chosen (is_tag 2 0 p.tag) _ _ _ e) [
      | inl y ↦ inl (y.0, delivery_sound v p content y.1)
      | inr n ↦ elim (chosen (is_tag 2 1 p.tag) _ _ _ n.1) [
        | inl y ↦ inr (y.0, failure_sound v p content y.1)
        | inr n ↦ absurd (cc n.1)
      ]
    ]

pub outcome_full : ReadFull outcome_choice SpellsOutcome
unfolding outcome_choice
outcome_full v p shallow h =
    elim h [
      | inl m ↦ (let r = delivery_full v p m.1 in rw (m.0, r) refl)
      | inr m ↦ (let r = failure_full v p m.1 in rw (other_tag p.tag m.0, m.0, r) refl)
    ]

pub outcome_is : (depth : ℕ) (tag : Tag) (content octets : List ℕ) (v : Outcome)
    → SpellsOutcome depth tag content octets v → IsOutcome v
outcome_is depth tag content octets v h =
    elim h [
      | inl m ↦ delivery_is depth tag.constructed content v m.1
      | inr m ↦ failure_is depth tag.constructed content v m.1
    ]
