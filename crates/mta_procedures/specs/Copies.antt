-- The copy of an item that goes to a peer (X.411, clause 14: routing, splitting): responsibility is set for the
-- chosen recipients and clear elsewhere, and an element is appended to the trace. All else is the item's.
use Rattle.std.specs.Prelude.{ℕ, ◌+◌, Bool, false, List, [], ◌∷◌, ◌++◌, Option, Some, None, nat_lt}
use Rattle.std.specs.Prelude.{◌==◌, if◌then◌else◌}
use Rattle.std.specs.List.{list_any}
use Rattle.mta_envelope_recipient.specs.declared.recipient.RecipientFields.{RecipientFields}
use Rattle.mta_envelope.specs.declared.envelope.EnvelopeFields.{EnvelopeFields}
use Rattle.mta_envelope.specs.Messages.{MessageValue, canonical_message, canonical_probe}
use Rattle.mta_report.specs.declared.fields.ReportFields.{ReportFields}
use Rattle.mta_report.specs.Reports.{canonical_report}
use Rattle.mta_procedures.specs.Bits.{with_responsibility}
use Rattle.mta_procedures.specs.Situations.{Situation}
use Rattle.mta_procedures.specs.Traces.{own_trace}

abbrev pub is_chosen : List ℕ → ℕ → Bool
is_chosen chosen k = list_any (λ c. c == k) chosen

abbrev pub responsible_if : Bool → RecipientFields → RecipientFields
responsible_if responsible r = record r { indicators = with_responsibility responsible r.indicators }

-- the recipients, numbered from k
abbrev pub chosen_from : ℕ → List ℕ → List RecipientFields → List RecipientFields
chosen_from k chosen [] = []
chosen_from k chosen (r ∷ rs) = responsible_if (is_chosen chosen k) r ∷ chosen_from (k + 1) chosen rs

-- the recipients, with responsibility for the chosen ones alone; they are numbered from 1
abbrev pub responsible_for : List ℕ → List RecipientFields → List RecipientFields
responsible_for chosen rs = chosen_from 1 chosen rs

-- the moment as deferred time, where the item was deferred behind its arrival
abbrev pub deferred_time : Situation → Option ℕ → Option ℕ
deferred_time s None = None
deferred_time s (Some d) = if nat_lt s.arrival d then Some s.moment else None

abbrev pub outgoing_envelope : Situation → EnvelopeFields → List ℕ → EnvelopeFields
outgoing_envelope s e chosen = record e {
  recipients = responsible_for chosen e.recipients;
  trace = e.trace ++ own_trace s (deferred_time s e.deferral) false ∷ [];
}

abbrev pub outgoing_fields : Situation → ReportFields → ReportFields
outgoing_fields s p = record p { trace = p.trace ++ own_trace s None false ∷ [] }

-- ---- octets

unfoldable pub outgoing_message : Situation → MessageValue → List ℕ → List ℕ
outgoing_message s m chosen = canonical_message (outgoing_envelope s m.envelope chosen) m.content.octets

unfoldable pub outgoing_probe : Situation → EnvelopeFields → List ℕ → List ℕ
outgoing_probe s e chosen = canonical_probe (outgoing_envelope s e chosen)

unfoldable pub outgoing_report : Situation → ReportFields → List ℕ
outgoing_report s p = canonical_report (outgoing_fields s p)

-- the most octets of a copy
abbrev pub longest_copy : ℕ
longest_copy = 2097152

abbrev pub is_long : ℕ → Bool
is_long n = nat_lt longest_copy n
