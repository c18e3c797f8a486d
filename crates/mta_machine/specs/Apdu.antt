-- What the octets of an item spell (X.411, MTS-APDU), and for which recipients this agent is responsible.
use Rattle.std.specs.Prelude.{◌≡◌, Bool, true, false, List, [], ◌∷◌, map, ℕ, Option, Some, None, Result, Ok, Err}
use Rattle.mta_ber.specs.Bits.{bit}
use Rattle.mta_envelope_recipient.specs.declared.recipient.RecipientFields.{RecipientFields}
use Rattle.mta_apdu.specs.Apdus.{ApduValue, message, probe, report, stored_of, SpellsApdu}
use Rattle.mta_apdu.specs.Laws.{IsWholeApdu, KeepsApdu}

-- the value where one is read
abbrev pub value_read : {A E : Type 0} → Result A E → Option A
value_read (Ok v) = Some v
value_read (Err fault) = None

-- the APDU that octets spell which are kept: one that was made here may be longer than one that is submitted or
-- received
unfoldable pub value_of : List ℕ → Option ApduValue
value_of octets = value_read (stored_of octets)

-- the octets spell an APDU that may be submitted or received
abbrev pub IsApdu : List ℕ → Type 0
IsApdu octets = (v : ApduValue) × SpellsApdu octets v

-- Octets that are kept spell this APDU: it is what they are read as, all its parts are in their ranges, and what it
-- keeps unread stands in the level of its place.
pub record IsStoredAs (octets : List ℕ) (v : ApduValue) : Type 0 where
  pub read : value_of octets ≡ Some v
  pub whole : IsWholeApdu v
  pub kept : KeepsApdu v

-- bit 0 of the indicators is the responsibility
abbrev pub is_responsible : RecipientFields → Bool
is_responsible r = bit r.indicators 0

-- for which recipients this agent is responsible; a report has one recipient, to whom it goes, and this agent is
-- responsible for it
unfoldable pub responsible_in : ApduValue → List Bool
responsible_in (message v) = map is_responsible v.envelope.recipients
responsible_in (probe v) = map is_responsible v.recipients
responsible_in (report v) = true ∷ []

abbrev pub is_report : Option ApduValue → Bool
is_report None = false
is_report (Some (message v)) = false
is_report (Some (probe v)) = false
is_report (Some (report v)) = true
