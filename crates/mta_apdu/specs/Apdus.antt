-- APDUs (X.411, MTS-APDU): a message under [0], a report under [1] or a probe under [2], of at most 2,097,152 octets,
-- and nothing behind it.
use Rattle.std.specs.Prelude.{◌≡◌, ℕ, ◌+◌, ◌≤◌, Bool, true, List, [], ◌∷◌, length, Option}
use Rattle.std.specs.Prelude.{Some, None, Result, Ok, nat_le, if◌then◌else◌}
use Rattle.std.specs.Borrow.{Bor}
use Rattle.mta_ber.specs.declared.fault.Fault.{Fault}
use Rattle.mta_ber.specs.declared.fault.Kind.TheVariants.{BadTag, TooLong, Trailing}
use Rattle.mta_ber.specs.declared.tag.Tag.{Tag}
use Rattle.mta_ber.specs.Element.{Part, first, outermost}
use Rattle.mta_ber.specs.Head.{◌>>=◌, fault}
use Rattle.mta_ber.specs.Parts.{is_tag}
use Rattle.mta_ber.specs.Spelling.{Stands}
use Rattle.mta_names.specs.Strings.{Puts}
use Rattle.mta_envelope.specs.declared.envelope.EnvelopeFields.{EnvelopeFields}
use Rattle.mta_envelope.specs.Messages.{MessageValue, message_value, message_in, SpellsMessage, probe_in, SpellsProbe}
use Rattle.mta_envelope.specs.Messages.{canonical_message, canonical_probe}
use Rattle.mta_envelope.specs.Places.{IsBehindEnvelope, IsPlaced}
use Rattle.mta_report.specs.declared.fields.ReportFields.{ReportFields}
use Rattle.mta_report.specs.Reports.{report_in, SpellsReport, canonical_report}
use Rattle.mta_apdu.specs.declared.apdu.Apdu.{Apdu}
use Rattle.mta_apdu.specs.declared.apdu.Apdu.TheVariants as apdu
use Rattle.mta_apdu.specs.declared.kind.ApduKind.{ApduKind}
use Rattle.mta_apdu.specs.declared.kind.ApduKind.TheVariants.{OfMessage, OfReport, OfProbe}

-- ---- values

pub data ApduValue : Type 0 where
  message : MessageValue → ApduValue
  probe : EnvelopeFields → ApduValue
  report : ReportFields → ApduValue

abbrev pub apdu_value : Apdu → ApduValue
apdu_value (apdu.Message m) = message (message_value m)
apdu_value (apdu.Probe p) = probe p.envelope
apdu_value (apdu.Report r) = report r

-- the most octets
abbrev pub longest_apdu : ℕ
longest_apdu = 2097152

-- ---- reading

abbrev pub kind_of : Tag → Option ApduKind
kind_of t = if is_tag 2 0 t then Some OfMessage else if is_tag 2 1 t then Some OfReport else if is_tag 2 2 t then
    Some OfProbe else None

unfoldable pub apdu_as : ApduKind → Part → Result ApduValue Fault
apdu_as OfMessage p = message_in p >>= λ v. Ok (message v)
apdu_as OfReport p = report_in p >>= λ v. Ok (report v)
apdu_as OfProbe p = probe_in p >>= λ v. Ok (probe v)

abbrev pub apdu_of_kind : Option ApduKind → Part → Result ApduValue Fault
apdu_of_kind None p = fault p.at BadTag
apdu_of_kind (Some k) p = apdu_as k p

unfoldable pub apdu_in : Part → Result ApduValue Fault
apdu_in p = apdu_of_kind (kind_of p.tag) p

-- nothing is behind the element
abbrev pub end_at : ℕ → List ℕ → Result (Unit {0}) Fault
end_at at [] = Ok tt
end_at at (b ∷ bs) = fault at Trailing

unfoldable pub ends : Part → Result (Unit {0}) Fault
ends p = end_at (p.at + length p.octets) p.rest

abbrev pub whole_in : Part → Result ApduValue Fault
whole_in p = apdu_in p >>= λ v. ends p >>= λ _. Ok v

abbrev pub front_in : List ℕ → Result ApduValue Fault
front_in bytes = first 0 bytes >>= whole_in

-- the most octets of what is kept: offsets have 32 bits
abbrev pub longest_stored : ℕ
longest_stored = 4294967295

-- what octets that are kept are read as, or their first fault: an APDU that was made here may be longer than one that
-- is submitted or received
unfoldable pub stored_of : List ℕ → Result ApduValue Fault
stored_of bytes = if nat_le (length bytes) longest_stored then front_in bytes else fault longest_stored TooLong

-- what octets that are submitted or received are read as, or their first fault
unfoldable pub apdu_of : List ℕ → Result ApduValue Fault
apdu_of bytes = if nat_le (length bytes) longest_apdu then front_in bytes else fault longest_apdu TooLong

-- ---- what spells an APDU

abbrev pub kind_number : ApduKind → ℕ
kind_number OfMessage = 0
kind_number OfReport = 1
kind_number OfProbe = 2

abbrev pub SpellsKind : ApduKind → ℕ → Tag → List ℕ → ApduValue → Type 0
SpellsKind OfMessage depth tag content v = Puts (SpellsMessage depth tag content) message v
SpellsKind OfReport depth tag content v = Puts (SpellsReport depth tag content) report v
SpellsKind OfProbe depth tag content v = Puts (SpellsProbe depth tag content) probe v

-- The octets are one element, of the tag of its choice. The outermost level of a probe is 2, since no SEQUENCE is
-- around its envelope.
pub record SpellsWhole (bytes : List ℕ) (v : ApduValue) : Type 0 where
  pub tag : Tag
  pub content : List ℕ
  pub stands : Stands (outermost tag) tag content bytes
  pub kind : ApduKind
  pub is_tag_of : is_tag 2 (kind_number kind) tag ≡ true
  pub spelled : SpellsKind kind (outermost tag) tag content v

-- what is submitted or received is of at most so many octets
pub record SpellsApdu (bytes : List ℕ) (v : ApduValue) : Type 0 where
  pub short : length bytes ≤ longest_apdu
  pub whole : SpellsWhole bytes v

-- what is kept may have more, as many as offsets of 32 bits tell
pub record SpellsStored (bytes : List ℕ) (v : ApduValue) : Type 0 where
  pub short : length bytes ≤ longest_stored
  pub whole : SpellsWhole bytes v

-- ---- the place of a content

-- the octets of the content in the octets of a message, at an offset of their own
pub record IsContentOf (bytes octets : List ℕ) (offset : ℕ) : Type 0 where
  pub tag : Tag
  pub content : List ℕ
  pub stands : Stands (outermost tag) tag content bytes
  pub inner_offset : ℕ
  pub inside : IsBehindEnvelope (outermost tag + 1) content octets inner_offset
  pub offset_is : offset ≡ length stands.header + inner_offset

-- a content that is lent is the input's memory at the offset of the content's octets, which the message's place tells;
-- one that was joined has no place
abbrev pub IsPlacedIn : Bor (List ℕ) → Apdu → Type 0
IsPlacedIn whole (apdu.Message m) = IsPlaced IsContentOf 0 whole m.content m.place
IsPlacedIn whole (apdu.Probe p) = Unit {0}
IsPlacedIn whole (apdu.Report r) = Unit {0}

-- the same within an element
abbrev pub IsPlacedInside : ℕ → ℕ → Bor (List ℕ) → Apdu → Type 0
IsPlacedInside depth start content (apdu.Message m) =
    IsPlaced (IsBehindEnvelope (depth + 1)) start content m.content m.place
IsPlacedInside depth start content (apdu.Probe p) = Unit {0}
IsPlacedInside depth start content (apdu.Report r) = Unit {0}

-- ---- the one spelling that is written

abbrev pub canonical_apdu : ApduValue → List ℕ
canonical_apdu (message v) = canonical_message v.envelope v.content.octets
canonical_apdu (probe v) = canonical_probe v
canonical_apdu (report v) = canonical_report v
