-- What octets are read as, and what is left of it without them.
use Rattle.std.specs.Prelude.{◌≡◌, ℕ, ◌-◌, ◌≤◌, true, false, List, length, take, drop, Option, Some, None, IfSome}
use Rattle.std.specs.Option.{option_map}
use Rattle.mta_envelope.specs.declared.content.Content.{Content}
use Rattle.mta_envelope.specs.declared.content.Content.TheVariants.{Lent, Joined}
use Rattle.mta_envelope.specs.declared.place.Place.{Place}
use Rattle.mta_envelope.specs.Contents.{ContentValue, content_as}
use Rattle.mta_envelope.specs.Messages.{MessageValue, message_as}
use Rattle.mta_apdu.specs.declared.apdu.Apdu.{Apdu}
use Rattle.mta_apdu.specs.declared.apdu.Apdu.TheVariants as apdus
use Rattle.mta_apdu.specs.Apdus.{ApduValue, apdu_value, message, probe, report}
use Rattle.mta_rules.specs.Cases.{IsBackOf}
use Rattle.mta_machine.specs.Apdu.{value_of}
use Rattle.mta_state.specs.declared.decoded.Decoded.{Decoded}
use Rattle.mta_state.specs.declared.decoded.DecodedApdu.{DecodedApdu}
use Rattle.mta_state.specs.declared.decoded.DecodedApdu.TheVariants as decoded
use Rattle.mta_state.specs.declared.decoded.DecodedContent.{DecodedContent}
use Rattle.mta_state.specs.declared.decoded.DecodedContent.TheVariants as contents
use Rattle.mta_state.specs.declared.decoded.DecodedMessage.{DecodedMessage}
use Rattle.mta_state.specs.declared.readings.Reading.{Reading}

-- the octets are those of `whole` from `from` up to `to`
pub record IsCut (whole octets : List ℕ) (from to : ℕ) : Type 0 where
  pub order : from ≤ to
  pub within : to ≤ length whole
  pub cut : take (to - from) (drop from whole) ≡ octets

-- ---- a reading

-- a content that is lent is of these octets at the place that is told, and one that was joined has no place
abbrev pub IsLentAt : List ℕ → Content → Option Place → Type 0
IsLentAt octets (Lent c) (Some p) = IsCut octets c.now p.from p.to
IsLentAt octets (Lent c) None = ⊥
IsLentAt octets (Joined o) None = Unit {0}
IsLentAt octets (Joined o) (Some p) = ⊥

abbrev pub IsLentIn : List ℕ → Apdu → Type 0
IsLentIn octets (apdus.Message m) = IsLentAt octets m.content m.place
IsLentIn octets (apdus.Probe p) = Unit {0}
IsLentIn octets (apdus.Report r) = Unit {0}

-- what is counted once for all recipients of a message or a probe
abbrev pub IsCounted : Apdu → ℕ → Type 0
IsCounted (apdus.Message m) back = IsBackOf m.envelope back
IsCounted (apdus.Probe p) back = IsBackOf p.envelope back
IsCounted (apdus.Report r) back = Unit {0}

-- the octets are read so: this is the APDU that they spell, or they spell none
pub record IsReadingOf (octets : List ℕ) (r : Reading) : Type 0 where
  pub value : value_of octets ≡ option_map apdu_value r.apdu
  pub lent : IfSome r.apdu (IsLentIn octets)
  pub counted : IfSome r.apdu (λ a. IsCounted a r.back)

-- ---- what is left of it

-- the content lies within the octets
abbrev pub IsWithinContent : List ℕ → DecodedContent → Type 0
IsWithinContent octets (contents.At p) = (p.from ≤ p.to) × (p.to ≤ length octets)
IsWithinContent octets (contents.Joined o) = Unit {0}

abbrev pub content_over : List ℕ → DecodedContent → ContentValue
content_over octets (contents.At p) = content_as true (take (p.to - p.from) (drop p.from octets))
content_over octets (contents.Joined o) = content_as false o

-- it is this content
pub record IsContentOver (octets : List ℕ) (v : ContentValue) (c : DecodedContent) : Type 0 where
  pub value : content_over octets c ≡ v
  pub within : IsWithinContent octets c

abbrev pub message_over : List ℕ → DecodedMessage → MessageValue
message_over octets m = message_as m.envelope (content_over octets m.content)

abbrev pub value_over : List ℕ → DecodedApdu → Option ApduValue
value_over octets decoded.Nothing = None
value_over octets (decoded.Message m) = Some (message (message_over octets m))
value_over octets (decoded.Probe p) = Some (probe p.envelope)
value_over octets (decoded.Report r) = Some (report r)

abbrev pub IsWithin : List ℕ → DecodedApdu → Type 0
IsWithin octets decoded.Nothing = Unit {0}
IsWithin octets (decoded.Message m) = IsWithinContent octets m.content
IsWithin octets (decoded.Probe p) = Unit {0}
IsWithin octets (decoded.Report r) = Unit {0}

abbrev pub IsCountedOver : DecodedApdu → ℕ → Type 0
IsCountedOver decoded.Nothing back = Unit {0}
IsCountedOver (decoded.Message m) back = IsBackOf m.envelope back
IsCountedOver (decoded.Probe p) back = IsBackOf p.envelope back
IsCountedOver (decoded.Report r) back = Unit {0}

-- it is what is left of this APDU
pub record IsDecodedAs (octets : List ℕ) (a : Apdu) (d : DecodedApdu) : Type 0 where
  pub value : value_over octets d ≡ Some (apdu_value a)
  pub within : IsWithin octets d
  pub counted : (back : ℕ) → IsCounted a back → IsCountedOver d back

-- it is what is left of the reading of these octets
pub record IsDecodedOf (octets : List ℕ) (d : Decoded) : Type 0 where
  pub value : value_of octets ≡ value_over octets d.apdu
  pub within : IsWithin octets d.apdu
  pub counted : IsCountedOver d.apdu d.back
