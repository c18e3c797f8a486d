-- The lines of fields, each with the line feed at its end.
use Rattle.std.specs.Prelude.{ℕ, List, [], ◌∷◌, ◌++◌, length, Option, Some, None, codes, decimal}
use Rattle.std.specs.List.{flat_map}
use Rattle.mta_ber.specs.Bits.{BitString}
use Rattle.mta_names.specs.declared.attributes.Attributes.{Attributes}
use Rattle.mta_name_text.specs.Forms.{text_form}
use Rattle.mta_fields.specs.declared.extension.ExtFields.{ExtFields}
use Rattle.mta_fields.specs.declared.extension.ExtKind.{ExtKind}
use Rattle.mta_fields.specs.declared.extension.ExtKind.TheVariants.{Standard, Private}
use Rattle.mta_fields.specs.declared.identifier.MtsIdFields.{MtsIdFields}
use Rattle.mta_fields.specs.declared.supplied.Action.{Action}
use Rattle.mta_fields.specs.declared.supplied.Action.TheVariants.{Relayed, Rerouted}
use Rattle.mta_fields.specs.declared.trace.TraceFields.{TraceFields}
use Rattle.mta_envelope_common.specs.declared.kind.ContentKind.{ContentKind}
use Rattle.mta_envelope_common.specs.declared.kind.ContentKind.TheVariants.{Number, Oid}
use Rattle.mta_apdu_text.specs.Pieces.{hex_text, bit_digit, bits_text, escaped_text}
use Rattle.mta_apdu_text.specs.Pieces.{moment_text, domain_text, id_text, word_if}

-- the line of a part that may be absent
abbrev pub line_if : {A : Type 0} → (A → List ℕ) → Option A → List ℕ
line_if line None = []
line_if line (Some x) = line x

-- message, probe, report or subject, and an identifier
unfoldable pub id_line : List ℕ → MtsIdFields → List ℕ
id_line word i = word ++ (id_text i ++ 10 ∷ [])

-- originator or destination, and a name; the text of a name without a printable part is empty
unfoldable pub name_line : List ℕ → Attributes → List ℕ
name_line word n = word ++ (text_form n ++ 10 ∷ [])

abbrev pub content_kind_text : ContentKind → List ℕ
content_kind_text (Number n) = decimal n
content_kind_text (Oid o) = codes "oid " ++ hex_text o

unfoldable pub content_type_line : ContentKind → List ℕ
content_type_line k = codes "content-type " ++ (content_kind_text k ++ 10 ∷ [])

unfoldable pub content_id_line : List ℕ → List ℕ
content_id_line t = codes "content-identifier " ++ (escaped_text t ++ 10 ∷ [])

unfoldable pub indicators_line : BitString → List ℕ
indicators_line b = codes "indicators " ++ (bits_text b ++ 10 ∷ [])

-- deferred or latest, and the deferred or the latest delivery time
unfoldable pub moment_line : List ℕ → ℕ → List ℕ
moment_line word moment = word ++ (moment_text moment ++ 10 ∷ [])

unfoldable pub length_line : ℕ → List ℕ
length_line n = codes "length " ++ (decimal n ++ 10 ∷ [])

-- types or bilateral, and how many octets the element has that is kept
unfoldable pub size_line : List ℕ → List ℕ → List ℕ
size_line word octets = word ++ (decimal (length octets) ++ (codes " octets" ++ 10 ∷ []))

abbrev pub action_text : Action → List ℕ
action_text Relayed = codes " relayed"
action_text Rerouted = codes " rerouted"

unfoldable pub trace_line : TraceFields → List ℕ
trace_line t =
    codes "trace "
    ++ (domain_text t.domain ++ (32 ∷ moment_text t.supplied.arrival
    ++ (action_text t.supplied.action
    ++ (word_if t.supplied.redirected (codes " redirected") ++ (word_if t.supplied.dl (codes " dl") ++ 10 ∷ [])))))

unfoldable pub trace_lines : List TraceFields → List ℕ
trace_lines ts = flat_map trace_line ts

abbrev pub ext_kind_text : ExtKind → List ℕ
ext_kind_text (Standard n) = decimal n
ext_kind_text (Private o) = codes "oid " ++ hex_text o

-- critical for submission, for transfer and for delivery
abbrev pub criticality_text : ExtFields → List ℕ
criticality_text e = bit_digit e.submission ∷ bit_digit e.transfer ∷ bit_digit e.delivery ∷ []

-- how many octets the value has; 2 where it is the default, NULL
unfoldable pub extension_line : ExtFields → List ℕ
extension_line e = codes "extension "
    ++ (ext_kind_text e.kind ++ (32 ∷ criticality_text e
    ++ (32 ∷ decimal (length e.value) ++ (codes " octets" ++ 10 ∷ []))))

unfoldable pub extension_lines : List ExtFields → List ℕ
extension_lines es = flat_map extension_line es

-- the originally specified number, the indicators and the name
unfoldable pub recipient_line : ℕ → BitString → Attributes → List ℕ
recipient_line number indicators name = codes "recipient "
    ++ (decimal number ++ (32 ∷ bits_text indicators ++ (32 ∷ text_form name ++ 10 ∷ [])))

-- how many octets the content has, and the octets; behind the space stands nothing where there are none
unfoldable pub content_line : List ℕ → List ℕ
content_line content = codes "content " ++ (decimal (length content) ++ (32 ∷ hex_text content ++ 10 ∷ []))
