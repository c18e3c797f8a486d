-- The parts of an envelope that every copy has in common.
use Rattle.std.specs.Prelude.{◌≡◌}
use Rattle.mta_envelope.specs.declared.envelope.EnvelopeFields.{EnvelopeFields}
use Rattle.mta_copies.specs.declared.envelope.Kept.{Kept}

-- equal parts
pub record IsKept (v : EnvelopeFields) (k : Kept) : Type 0 where
  pub id : k.id ≡ v.id
  pub originator : k.originator ≡ v.originator
  pub eits : k.eits ≡ v.eits
  pub content_kind : k.content_kind ≡ v.content_kind
  pub content_id : k.content_id ≡ v.content_id
  pub bilateral : k.bilateral ≡ v.bilateral
