use Rattle.mta_fields.specs.ExtensionFields.{canonical_ext}
use Rattle.mta_names.proofs.LengthLaws.{IsToldTo}
use Rattle.mta_envelope_common.proofs.length.fields_length.Given as goal

abbrev pub invariant-loop-field : goal.invariant-loop-field
invariant-loop-field l = IsToldTo canonical_ext l.fields l.field-index l.total
