-- What is read of octets that are submitted or received.
use Rattle.std.specs.Prelude.{◌≡◌, ℕ, List, Option, Some, None, Err}
use Rattle.mta_ber.specs.declared.fault.ReadFault.{ReadFault}
use Rattle.mta_ber.specs.declared.fault.ReadFault.TheVariants as ReadFaults
use Rattle.mta_apdu.specs.Apdus.{apdu_of}
use Rattle.mta_machine.specs.Apdu.{IsApdu, value_of}
use Rattle.mta_records.specs.declared.state.Origin.{Origin}
use Rattle.mta_records.specs.declared.state.Status.{Status}
use Rattle.mta_machine.specs.Items.{ItemValue, statuses_read}
use Rattle.mta_machine.specs.Machine.{accepted_item}

-- the octets spell an APDU, and these are the statuses of its recipients at first
abbrev pub AreAccepted : List ℕ → List (Option Status) → Type 0
AreAccepted octets statuses = IsApdu octets × (statuses ≡ statuses_read (value_of octets))

-- the octets spell an APDU, and this is their item
abbrev pub IsItemOf : List ℕ → Origin → ℕ → ItemValue → Type 0
IsItemOf octets origin moment item = IsApdu octets × (item ≡ accepted_item octets origin moment)

-- the item of the octets, or none where they spell no APDU
abbrev pub IsAccepted : List ℕ → Origin → ℕ → Option ItemValue → Type 0
IsAccepted octets origin moment None = IsApdu octets → ⊥
IsAccepted octets origin moment (Some item) = IsItemOf octets origin moment item

-- the octets spell no APDU, and this is their first fault
abbrev pub IsFaultOf : List ℕ → ReadFault → Type 0
IsFaultOf octets (ReadFaults.Bad fault) = (IsApdu octets → ⊥) × (apdu_of octets ≡ Err fault)
IsFaultOf octets ReadFaults.Memory = Unit {0}
