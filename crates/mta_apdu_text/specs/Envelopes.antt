-- The texts of messages and probes: their lines in order.
use Rattle.std.specs.Prelude.{List, ℕ, [], ◌∷◌, ◌++◌, codes}
use Rattle.std.specs.List.{flat_map}
use Rattle.mta_envelope_recipient.specs.declared.recipient.RecipientFields.{RecipientFields}
use Rattle.mta_envelope.specs.declared.envelope.EnvelopeFields.{EnvelopeFields}
use Rattle.mta_envelope.specs.declared.priority.Priority.{Priority}
use Rattle.mta_envelope.specs.declared.priority.Priority.TheVariants.{Normal, NonUrgent, Urgent}
use Rattle.mta_envelope.specs.Messages.{MessageValue}
use Rattle.mta_apdu_text.specs.Lines.{line_if, id_line, name_line, content_type_line, content_id_line}
use Rattle.mta_apdu_text.specs.Lines.{indicators_line, moment_line, length_line, size_line, trace_lines}
use Rattle.mta_apdu_text.specs.Lines.{extension_lines, recipient_line, content_line}

abbrev pub priority_text : Priority → List ℕ
priority_text Normal = codes "normal"
priority_text NonUrgent = codes "non-urgent"
priority_text Urgent = codes "urgent"

unfoldable pub priority_line : Priority → List ℕ
priority_line p = codes "priority " ++ (priority_text p ++ 10 ∷ [])

-- the originally specified number, the indicators and the name
abbrev pub addressee_line : RecipientFields → List ℕ
addressee_line r = recipient_line r.number r.indicators r.name

unfoldable pub recipient_lines : List RecipientFields → List ℕ
recipient_lines rs = flat_map addressee_line rs

-- what an envelope's text begins with
unfoldable pub front_lines : List ℕ → EnvelopeFields → List ℕ
front_lines word e = id_line word e.id ++ (name_line (codes "originator ") e.originator
    ++ (content_type_line e.content_kind ++ line_if content_id_line e.content_id))

-- and what it ends with
unfoldable pub back_lines : EnvelopeFields → List ℕ
back_lines e = line_if (size_line (codes "types ")) e.eits
    ++ (line_if (size_line (codes "bilateral ")) e.bilateral
    ++ (trace_lines e.trace ++ (extension_lines e.extensions ++ recipient_lines e.recipients)))

-- the deferred delivery time, which no probe has, and the latest delivery time of extension 5
unfoldable pub time_lines : EnvelopeFields → List ℕ
time_lines e = line_if (moment_line (codes "deferred ")) e.deferral ++ line_if (moment_line (codes "latest ")) e.latest

unfoldable pub message_text : MessageValue → List ℕ
message_text m =
    front_lines (codes "message ") m.envelope
    ++ (priority_line m.envelope.priority
    ++ (indicators_line m.envelope.indicators
    ++ (time_lines m.envelope ++ (back_lines m.envelope ++ content_line m.content.octets))))

unfoldable pub probe_text : EnvelopeFields → List ℕ
probe_text e =
    front_lines (codes "probe ") e
    ++ (indicators_line e.indicators ++ (time_lines e ++ (line_if length_line e.length ++ back_lines e)))
