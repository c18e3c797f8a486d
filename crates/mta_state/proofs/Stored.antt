-- What octets that are kept spell.
use Rattle.std.proofs.Common.{◌≡◌, ℕ, List, Option, Some, None, Result, Ok, Err, ap, sym, ◌∙◌}
use Rattle.mta_ber.specs.declared.fault.Fault.{Fault}
use Rattle.mta_ber.specs.declared.fault.ReadFault.{ReadFault}
use Rattle.mta_ber.specs.declared.fault.ReadFault.TheVariants as ReadFaults
use Rattle.mta_ber.specs.Parts.{Fails}
use Rattle.mta_envelope.specs.Contents.{IsSeenAs}
use Rattle.mta_apdu.specs.Apdus.{ApduValue, apdu_of, apdu_value, stored_of, SpellsApdu}
use Rattle.mta_apdu.proofs.ApduLaws.{stored_is}
use Rattle.mta_machine.specs.Apdu.{value_read, value_of}
use Rattle.mta_records.specs.declared.state.Status.{Status}
use Rattle.mta_machine.specs.Items.{statuses_of, statuses_read}
use Rattle.mta_state.specs.Reading.{IsFaultOf}

pub value_stored : (octets : List ℕ) (v : ApduValue) → stored_of octets ≡ Ok v → value_of octets ≡ Some v
unfolding value_of
value_stored octets v read = ap (λ (r : Result ApduValue Fault). value_read r) read

pub no_value : (octets : List ℕ) (f : Fault) → stored_of octets ≡ Err f → value_of octets ≡ None
unfolding value_of
no_value octets f read = ap (λ (r : Result ApduValue Fault). value_read r) read

pub statuses_stored : (octets : List ℕ) (v : ApduValue) (statuses : List (Option Status))
    → apdu_of octets ≡ Ok v → SpellsApdu octets v → statuses ≡ statuses_of v
    → statuses ≡ statuses_read (value_of octets)
statuses_stored octets v statuses read spelled is =
    is ∙ sym (ap statuses_read (value_stored octets v (stored_is octets spelled.short ∙ read)))

-- octets that a reader refuses spell no APDU
pub fault_stored : (octets : List ℕ) (e : ReadFault) → Fails e (apdu_of octets)
    → ((v : ApduValue) → SpellsApdu octets v → IsSeenAs apdu_value (Err e) v) → IsFaultOf octets e
fault_stored octets (ReadFaults.Bad f) exact only = (λ spelled. only spelled.0 spelled.1, exact)
fault_stored octets ReadFaults.Memory exact only = tt
