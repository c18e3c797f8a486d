use Rattle.mta_fields.specs.ExtensionFields.{canonical_ext}
use Rattle.mta_names.proofs.Written.{Left}
use Rattle.mta_envelope_common.proofs.extensions.put_fields.Given as goal

abbrev pub invariant-loop-field : goal.invariant-loop-field
invariant-loop-field l = Left canonical_ext l.fn.w l.fields l.field-index l.w
