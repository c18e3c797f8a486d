-- The copies for peers.
use Rattle.std.proofs.Common.{◌≡◌, ℕ, ◌+◌, ◌-◌, ◌<◌, ◌^◌, true, List, [], ◌∷◌}
use Rattle.std.proofs.Common.{◌++◌, length, take, drop, Option, Some, None, refl, sym, ap, ◌∙◌, arith}
use Rattle.std.proofs.Common.{length-append}
use Rattle.std.specs.Option.{option_map}
use Rattle.std.proofs.lemmas.List.{length-take-le, length-drop}
use Rattle.std.proofs.lemmas.Option.{same_Some}
use Rattle.mta_names.specs.declared.attributes.Attributes.{Attributes}
use Rattle.mta_records.specs.Outgoing.{carried}
use Rattle.mta_envelope_recipient.specs.declared.recipient.RecipientFields.{RecipientFields}
use Rattle.mta_envelope.specs.declared.content.Content.{Content}
use Rattle.mta_envelope.specs.declared.content.Content.TheVariants.{Lent, Joined}
use Rattle.mta_envelope.specs.declared.envelope.EnvelopeFields.{EnvelopeFields}
use Rattle.mta_envelope.specs.declared.place.Place.{Place}
use Rattle.mta_envelope.specs.Contents.{octets_of}
use Rattle.mta_envelope.specs.Messages.{MessageValue}
use Rattle.mta_report.specs.declared.fields.ReportFields.{ReportFields}
use Rattle.mta_apdu.specs.declared.apdu.Apdu.{Apdu}
use Rattle.mta_apdu.specs.declared.apdu.Apdu.TheVariants as apdu
use Rattle.mta_apdu.specs.Apdus.{ApduValue, message, probe, report}
use Rattle.mta_tables.specs.Tables.{TablesValue}
use Rattle.mta_procedures.specs.declared.verdict.Verdict.TheVariants as Verdicts
use Rattle.mta_procedures.specs.Copies.{outgoing_message}
use Rattle.mta_procedures.specs.Heads.{outgoing_head}
use Rattle.mta_procedures.specs.Situations.{Situation, situation}
use Rattle.mta_procedures.specs.Verdicts.{length_for_members, verdict_of_probe, verdict_of_report}
use Rattle.mta_procedures.specs.Verdicts.{verdict_on_message}
use Rattle.mta_procedures.proofs.HeadLaws.{head_is_in_front}
use Rattle.mta_procedures.proofs.RelayLaws.{relayed_messages, relayed_probes, relayed_reports}
use Rattle.mta_machine.specs.Items.{numbered}
use Rattle.mta_machine.specs.Rules.{verdict_under}
use Rattle.mta_state.specs.Asked.{Relays}
use Rattle.mta_state.specs.declared.readings.Reading.{Reading}
use Rattle.mta_state.specs.Readings.{IsCut, IsLentAt, IsLentIn, IsReadingOf}
use Rattle.mta_state.proofs.Decodings.{lent_is}
use Rattle.mta_table_rules.specs.Copied.{HasCopy, IsCutAt, IsCutIn}

-- ---- where a content lies

cut_so : (octets : List ℕ) (c : Content) (place : Option Place) → IsLentAt octets c place
    → IsCutAt octets (octets_of c) place
cut_so octets (Lent c) (Some place) h = h
cut_so octets (Lent c) None h = absurd h
cut_so octets (Joined o) None h = tt
cut_so octets (Joined o) (Some place) h = absurd h

lent_so : (octets : List ℕ) (a : Apdu) → IsLentIn octets a → IsCutIn octets a
lent_so octets (apdu.Message m) h = cut_so octets m.content m.place h
lent_so octets (apdu.Probe p) h = tt
lent_so octets (apdu.Report r) h = tt

-- the content of a message that was read lies in the octets
pub cut_in : (octets : List ℕ) (r : Reading) (a : Apdu) → IsReadingOf octets r → r.apdu ≡ Some a → IsCutIn octets a
cut_in octets r a reading is = lent_so octets a (lent_is octets r a reading is)

-- ---- copies that can be sent

by_message : (format : ℕ) (t : TablesValue) (m : MessageValue) (arrival : ℕ) (rs : List ℕ) (moment place : ℕ)
    (o : Option RecipientFields)
    → option_map (verdict_on_message format (situation t arrival moment) m) o ≡ Some (Verdicts.Relay place)
    → HasCopy t (message m) arrival rs moment
by_message format t m arrival rs moment place None e = absurd cc
by_message format t m arrival rs moment place (Some x) e =
    let s : Situation = situation t arrival moment in
    let is = relayed_messages format s s m x (length_for_members s m x) place rs refl refl
    (same_Some (verdict_on_message format s m x) (Verdicts.Relay place) e) in
    record { short_trace = is.short_trace; few = is.few }

by_probe : (format : ℕ) (t : TablesValue) (v : EnvelopeFields) (arrival : ℕ) (rs : List ℕ) (moment place : ℕ)
    (o : Option RecipientFields)
    → option_map (verdict_of_probe format (situation t arrival moment) v) o ≡ Some (Verdicts.Relay place)
    → HasCopy t (probe v) arrival rs moment
by_probe format t v arrival rs moment place None e = absurd cc
by_probe format t v arrival rs moment place (Some x) e =
    let s : Situation = situation t arrival moment in
    let is = relayed_probes format s s v x place rs refl refl
    (same_Some (verdict_of_probe format s v x) (Verdicts.Relay place) e) in
    record { short_trace = is.short_trace; few = is.few }

by_report : (t : TablesValue) (v : ReportFields) (arrival : ℕ) (rs : List ℕ) (moment place : ℕ)
    (o : Option Attributes)
    → option_map (λ (n : Attributes). verdict_of_report (situation t arrival moment) v true) o
    ≡ Some (Verdicts.Relay place)
    → HasCopy t (report v) arrival rs moment
by_report t v arrival rs moment place None e = absurd cc
by_report t v arrival rs moment place (Some n) e =
    let s : Situation = situation t arrival moment in
    let is = relayed_reports s s v true place refl refl
    (same_Some (verdict_of_report s v true) (Verdicts.Relay place) e) in
    record { short_trace = is.short_trace; few = is.few }

-- who is relayed has a copy
pub relayed : (format : ℕ) (t : TablesValue) (v : ApduValue) (arrival r : ℕ) (rs : List ℕ) (moment : ℕ)
    → Relays (verdict_under format t v arrival r moment) → HasCopy t v arrival rs moment
relayed format t (message m) arrival r rs moment h =
    by_message format t m arrival rs moment h.0 (numbered m.envelope.recipients r) h.1
relayed format t (probe v) arrival r rs moment h =
    by_probe format t v arrival rs moment h.0 (numbered v.recipients r) h.1
relayed format t (report v) arrival r rs moment h =
    by_report t v arrival rs moment h.0 (numbered (v.destination ∷ []) r) h.1

-- ---- the copy of a message: a head, and the content

-- the head and the content are as many octets as the copy
pub few_octets : (t : TablesValue) (m : MessageValue) (arrival : ℕ) (rs head rest : List ℕ) (moment from to : ℕ)
    → HasCopy t (message m) arrival rs moment
    → head ≡ outgoing_head (situation t arrival moment) m rs → IsCut rest m.content.octets from to
    → length head + (to - from) < 2 ^ 32
few_octets t m arrival rs head rest moment from to copy e cut =
    let s : Situation = situation t arrival moment in
    let whole = ap length (head_is_in_front s m rs) in
    let both = length-append (outgoing_head s m rs) m.content.octets in
    let long = ap length e in
    let few = copy.few in
    let order = cut.order in
    let within = cut.within in
    let dropped = length-drop from rest in
    let count : length (take (to - from) (drop from rest)) ≡ to - from =
    length-take-le (to - from) (drop from rest) (omega (arith, order, within, dropped)) in
    let same = ap length cut.cut in
    omega (arith, whole, both, long, few, count, same)

pub few_content : (t : TablesValue) (m : MessageValue) (arrival : ℕ) (rs : List ℕ) (moment : ℕ)
    → HasCopy t (message m) arrival rs moment → length m.content.octets < 2 ^ 32
few_content t m arrival rs moment copy =
    let s : Situation = situation t arrival moment in
    let whole = ap length (head_is_in_front s m rs) in
    let both = length-append (outgoing_head s m rs) m.content.octets in
    let few = copy.few in
    omega (arith, whole, both, few)

pub copy_made : (t : TablesValue) (m : MessageValue) (arrival : ℕ) (rs head rest : List ℕ)
    (moment activity from to : ℕ)
    → head ≡ outgoing_head (situation t arrival moment) m rs → IsCut rest m.content.octets from to
    → carried activity head rest from to
    ≡ record { activity = activity; octets = outgoing_message (situation t arrival moment) m rs }
copy_made t m arrival rs head rest moment activity from to e cut =
    let s : Situation = situation t arrival moment in
    ap (λ (xs : List ℕ). record { activity = activity; octets = xs })
    (ap (λ xs. head ++ xs) cut.cut ∙ ap (λ xs. xs ++ m.content.octets) e ∙ sym (head_is_in_front s m rs))
