-- Laws of APDUs and octets: what is written is read again.
use Rattle.std.specs.Prelude.{◌≡◌, ℕ, ◌≤◌, true, false, List, ◌++◌, length, Ok}
use Rattle.mta_envelope.specs.Contents.{content_as}
use Rattle.mta_envelope.specs.Envelopes.{IsOfKind}
use Rattle.mta_envelope.specs.Laws.{IsWholeEnvelope, KeepsEnvelope}
use Rattle.mta_envelope.specs.Messages.{message_as}
use Rattle.mta_report.specs.Laws.{IsWholeReport, KeepsReport}
use Rattle.mta_apdu.specs.Apdus.{ApduValue, message, probe, report, longest_apdu, longest_stored, stored_of, apdu_of}
use Rattle.mta_apdu.specs.Apdus.{SpellsApdu, SpellsStored, canonical_apdu}

-- an APDU, with the parts that have rules of their own
abbrev pub IsWholeApdu : ApduValue → Type 0
IsWholeApdu (message v) = IsWholeEnvelope v.envelope × IsOfKind false v.envelope
IsWholeApdu (probe v) = IsWholeEnvelope v × IsOfKind true v
IsWholeApdu (report v) = IsWholeReport v

-- what an APDU keeps unread stands in the level of its place: the envelope of a message is in a SEQUENCE, the envelope
-- of a probe is in the level 2 by itself, and a report is in the level 1
abbrev pub KeepsApdu : ApduValue → Type 0
KeepsApdu (message v) = KeepsEnvelope 2 v.envelope
KeepsApdu (probe v) = KeepsEnvelope 2 v
KeepsApdu (report v) = KeepsReport 1 v

-- the same APDU, where the content of a message stands in one piece, as it is written
abbrev pub in_one_piece : ApduValue → ApduValue
in_one_piece (message v) = message (message_as v.envelope (content_as true v.content.octets))
in_one_piece (probe v) = probe v
in_one_piece (report v) = report v

-- an APDU whose canonical octets are not too many is read again from them
abbrev pub ApdusAreReadAgain : Type 0
ApdusAreReadAgain = (v : ApduValue) → IsWholeApdu v → KeepsApdu v → length (canonical_apdu v) ≤ longest_apdu
    → apdu_of (canonical_apdu v) ≡ Ok (in_one_piece v)

-- an APDU that was read keeps what it keeps in the level of its place, and is one
abbrev pub ReadApdusAreKept : Type 0
ReadApdusAreKept = (bytes : List ℕ) (v : ApduValue) → SpellsApdu bytes v → KeepsApdu v × IsWholeApdu v

-- so an APDU that was read is written so that it is read again
abbrev pub ReadApdusAreReadAgain : Type 0
ReadApdusAreReadAgain = (bytes : List ℕ) (v : ApduValue) → SpellsApdu bytes v
    → length (canonical_apdu v) ≤ longest_apdu
    → apdu_of (canonical_apdu v) ≡ Ok (in_one_piece v)

-- an APDU that is kept is read again from its canonical octets, also where they are more than may be submitted
abbrev pub StoredApdusAreReadAgain : Type 0
StoredApdusAreReadAgain = (v : ApduValue) → IsWholeApdu v → KeepsApdu v
    → length (canonical_apdu v) ≤ longest_stored → stored_of (canonical_apdu v) ≡ Ok (in_one_piece v)

abbrev pub StoredApdusAreKept : Type 0
StoredApdusAreKept = (bytes : List ℕ) (v : ApduValue) → SpellsStored bytes v → KeepsApdu v × IsWholeApdu v

-- what is short enough to be submitted is read in the same way once it is kept
abbrev pub SubmittedApdusAreStored : Type 0
SubmittedApdusAreStored = (bytes : List ℕ) → length bytes ≤ longest_apdu → stored_of bytes ≡ apdu_of bytes

-- no spelling begins another, and each is that of one value
abbrev pub NoApduBeginsAnother : Type 0
NoApduBeginsAnother = (e e' x y : List ℕ) (v w : ApduValue) → SpellsApdu e v → SpellsApdu e' w → e ++ x ≡ e'
    ++ y
    → (e ≡ e') × (v ≡ w)
