use Rattle.std.proofs.Common.{sym, subst, ◌∙◌}
use Rattle.mta_report_recipient.specs.Values.{IsReported}
use Rattle.mta_copies.proofs.Same.{same_parts}
use Rattle.mta_copies.proofs.reported.copied_recipient.Goals as goal

pub from_fields-requires : goal.from_fields-requires
from_fields-requires c =
    let same = same_parts c.fields-fields.result.now _ _ _ _ _ _ c.in_ok-name.ensures c.in_ok-converted.ensures
    c.copied_outcome.ensures c.in_ok-intended.ensures c.in_ok-supplementary.ensures
    (c.in_ok-extensions.ensures ∙ c.as_slice.ensures) in
    subst IsReported (sym (same ∙ c.fields-fields.ensures.exact)) c.fields-fields.ensures.reported

pub returns : goal.returns
returns c =
    let same = same_parts c.fields-fields.result.now _ _ _ _ _ _ c.in_ok-name.ensures c.in_ok-converted.ensures
    c.copied_outcome.ensures c.in_ok-intended.ensures c.in_ok-supplementary.ensures
    (c.in_ok-extensions.ensures ∙ c.as_slice.ensures) in
    c.from_fields.ensures ∙ same ∙ c.fields-fields.ensures.exact
