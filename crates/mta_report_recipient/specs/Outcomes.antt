-- What came of a message for a recipient (X.411, ReportType): a delivery or a non-delivery, in an explicit tag.
use Rattle.std.specs.Prelude.{◌≡◌, ℕ, ◌⊎◌, true, List, Result, if◌then◌else◌}
use Rattle.mta_ber.specs.declared.fault.Fault.{Fault}
use Rattle.mta_ber.specs.declared.fault.Kind.TheVariants.{BadTag}
use Rattle.mta_ber.specs.Canon.{element, constructed}
use Rattle.mta_ber.specs.Element.{Part}
use Rattle.mta_ber.specs.Explicit.{Spells}
use Rattle.mta_ber.specs.Head.{fault}
use Rattle.mta_ber.specs.Parts.{is_tag}
use Rattle.mta_report_recipient.specs.declared.outcome.Outcome.{Outcome}
use Rattle.mta_report_recipient.specs.declared.outcome.Outcome.TheVariants.{Delivery, NonDelivery}
use Rattle.mta_report_recipient.specs.Deliveries.{delivery_in, SpellsDelivery, canonical_delivery}
use Rattle.mta_report_recipient.specs.Failures.{failure_in, SpellsFailure, canonical_failure}

unfoldable pub outcome_choice : Part → Result Outcome Fault
outcome_choice p = if is_tag 2 0 p.tag then delivery_in p else if is_tag 2 1 p.tag then failure_in p
    else fault p.at BadTag

abbrev pub SpellsOutcome : Spells Outcome
SpellsOutcome depth tag content octets v = ((is_tag 2 0 tag ≡ true) × SpellsDelivery depth tag.constructed content v)
    ⊎ ((is_tag 2 1 tag ≡ true) × SpellsFailure depth tag.constructed content v)

-- the one spelling that is written

abbrev pub canonical_choice : Outcome → List ℕ
canonical_choice (Delivery moment user) = canonical_delivery moment user
canonical_choice (NonDelivery reason diagnostic) = canonical_failure reason diagnostic

-- under the explicit tag [1]
abbrev pub canonical_outcome : Outcome → List ℕ
canonical_outcome v = element (constructed 2 1) (canonical_choice v)
