-- What is printed of a recipient of whom is reported.
use Rattle.std.specs.Prelude.{ℕ, List, [], ◌∷◌, ◌++◌, Option, Some, None, codes, decimal}
use Rattle.std.specs.List.{flat_map}
use Rattle.mta_names.specs.declared.attributes.Attributes.{Attributes}
use Rattle.mta_name_text.specs.Forms.{text_form}
use Rattle.mta_report_recipient.specs.declared.outcome.Outcome.{Outcome}
use Rattle.mta_report_recipient.specs.declared.outcome.Outcome.TheVariants.{Delivery, NonDelivery}
use Rattle.mta_report_recipient.specs.declared.reported.ReportedFields.{ReportedFields}
use Rattle.mta_apdu_text.specs.Pieces.{bits_text, moment_text}

-- when it was delivered, and the type of user
unfoldable pub delivery_text : ℕ → ℕ → List ℕ
delivery_text moment user = codes "delivery " ++ (moment_text moment ++ 32 ∷ decimal user)

-- the number, or a dash where there is none
unfoldable pub diagnostic_text : Option ℕ → List ℕ
diagnostic_text None = 45 ∷ []
diagnostic_text (Some n) = decimal n

unfoldable pub failure_text : ℕ → Option ℕ → List ℕ
failure_text reason diagnostic = codes "non-delivery " ++ (decimal reason ++ 32 ∷ diagnostic_text diagnostic)

unfoldable pub outcome_text : Outcome → List ℕ
outcome_text (Delivery moment user) = delivery_text moment user
outcome_text (NonDelivery reason diagnostic) = failure_text reason diagnostic

-- when the message arrived, and the name of the actual recipient
unfoldable pub arrival_text : ℕ → Attributes → List ℕ
arrival_text moment name = codes " arrived " ++ (moment_text moment ++ (32 ∷ text_form name ++ 10 ∷ []))

unfoldable pub reported_line : ReportedFields → List ℕ
reported_line r = codes "recipient "
    ++ (decimal r.number ++ (32 ∷ bits_text r.indicators
    ++ (32 ∷ outcome_text r.outcome ++ arrival_text r.arrival r.name)))

unfoldable pub reported_lines : List ReportedFields → List ℕ
reported_lines rs = flat_map reported_line rs
