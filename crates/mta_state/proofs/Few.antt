-- APDUs that are submitted or received have few recipients.
use Rattle.std.proofs.Common.{◌≡◌, ℕ, ◌≤◌, ◌<◌, ◌^◌, List, length, Some, ap, ◌∙◌, arith}
use Rattle.std.proofs.lemmas.List.{length-map}
use Rattle.mta_envelope.specs.Messages.{MessageValue}
use Rattle.mta_apdu.specs.Apdus.{ApduValue, message, probe, report, SpellsApdu}
use Rattle.mta_apdu.specs.Laws.{IsWholeApdu}
use Rattle.mta_apdu.proofs.ApduAgain.{apdus_kept}
use Rattle.mta_apdu.proofs.ApduLaws.{stored_is, apdu_full}
use Rattle.mta_machine.specs.Apdu.{IsApdu, value_of, value_read, responsible_in, is_responsible}
use Rattle.mta_machine.specs.Items.{status_at_first, statuses_of, statuses_read}

-- its recipients have numbers
abbrev pub IsFew : ApduValue → Type 0
IsFew v = length (statuses_of v) < 2 ^ 32

few_map : (v : ApduValue) → length (responsible_in v) < 2 ^ 32 → IsFew v
few_map v few = omega (arith, few, length-map (responsible_in v) status_at_first)

pub few_message : (v : MessageValue) → length v.envelope.recipients ≤ 32767 → IsFew (message v)
unfolding responsible_in
few_message v few = few_map (message v) (omega (arith, few, length-map v.envelope.recipients is_responsible))

-- a report has one
pub few_whole : (v : ApduValue) → IsWholeApdu v → IsFew v
unfolding responsible_in
few_whole (message v) whole = few_message v whole.0.envelope.few_recipients
few_whole (probe e) whole =
    few_map (probe e) (omega (arith, whole.0.envelope.few_recipients, length-map e.recipients is_responsible))
few_whole (report p) whole = few_map (report p) (omega arith)

pub value_is : (octets : List ℕ) (v : ApduValue) → SpellsApdu octets v → value_of octets ≡ Some v
unfolding value_of
value_is octets v spells = ap value_read (stored_is octets spells.short ∙ apdu_full octets v spells)

pub few_accepted : (octets : List ℕ) → IsApdu octets → length (statuses_read (value_of octets)) < 2 ^ 32
few_accepted octets is =
    omega (
      arith,
      few_whole is.0 (apdus_kept octets is.0 is.1).1,
      ap (λ o. length (statuses_read o)) (value_is octets is.0 is.1),
    )
