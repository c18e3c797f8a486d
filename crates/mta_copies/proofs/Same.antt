-- A recipient of whom is reported, with equal parts.
use Rattle.std.proofs.Common.{◌≡◌, ℕ, List, Option, ap, ◌∙◌}
use Rattle.mta_names.specs.declared.attributes.Attributes.{Attributes}
use Rattle.mta_fields.specs.declared.extension.ExtFields.{ExtFields}
use Rattle.mta_report_recipient.specs.declared.outcome.Outcome.{Outcome}
use Rattle.mta_report_recipient.specs.declared.reported.ReportedFields.{ReportedFields}

abbrev with_parts : ReportedFields → Attributes → Option (List ℕ) → Outcome → Option Attributes
    → Option (List ℕ) → List ExtFields → ReportedFields
with_parts v name converted outcome intended supplementary extensions = record {
  name = name;
  number = v.number;
  indicators = v.indicators;
  arrival = v.arrival;
  converted = converted;
  outcome = outcome;
  intended = intended;
  supplementary = supplementary;
  extensions = extensions;
}

pub same_parts : (v : ReportedFields) (n : Attributes) (c : Option (List ℕ)) (o : Outcome) (i : Option Attributes)
    (s : Option (List ℕ)) (x : List ExtFields) → n ≡ v.name → c ≡ v.converted → o ≡ v.outcome
    → i ≡ v.intended
    → s ≡ v.supplementary → x ≡ v.extensions → with_parts v n c o i s x ≡ v
same_parts v n c o i s x name converted outcome intended supplementary extensions =
    ap (λ t. with_parts v t c o i s x) name
    ∙ ap (λ t. with_parts v v.name t o i s x) converted
    ∙ ap (λ t. with_parts v v.name v.converted t i s x) outcome
    ∙ ap (λ t. with_parts v v.name v.converted v.outcome t s x) intended
    ∙ ap (λ t. with_parts v v.name v.converted v.outcome v.intended t x) supplementary
    ∙ ap (λ t. with_parts v v.name v.converted v.outcome v.intended v.supplementary t) extensions
