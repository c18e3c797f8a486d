-- The messages of a drill (X.411, Message), numbered from 1: each is from C=GB;A=GOLD;S=BELL to C=GB;A=GOLD;S=WATT.
use Rattle.std.specs.Prelude.{ℕ, zero, suc, ◌+◌, ◌%◌, true, List, [], ◌∷◌, ◌++◌, codes}
use Rattle.mta_ber.specs.Canon.{element, constructed, primitive}
use Rattle.mta_envelope.specs.declared.envelope.EnvelopeFields.{EnvelopeFields}
use Rattle.mta_envelope.specs.Contents.{content_as}
use Rattle.mta_envelope.specs.Messages.{MessageValue, message_as}
use Rattle.mta_procedures.specs.Copies.{outgoing_envelope, outgoing_message}
use Rattle.mta_procedures.specs.Reports.{digits}
use Rattle.mta_procedures.specs.Rows.{envelope_to, gold, to, watt}
use Rattle.mta_procedures.specs.Situations.{situation}
use Rattle.mta_drill_text.specs.Text.{content_length}
use Rattle.mta_drill_laws.specs.Tables.{first_tables}

-- ---- the content

-- its octet at a place, from 0
abbrev pub octet_at : ℕ → ℕ → ℕ
octet_at i j = (i + j) % 256

-- the first octets of it
unfoldable pub content_up_to : ℕ → ℕ → List ℕ
content_up_to i zero = []
content_up_to i (suc n) = content_up_to i n ++ octet_at i n ∷ []

abbrev pub content_of : ℕ → List ℕ
content_of i = content_up_to i (content_length i)

-- ---- the envelope

-- D and the number of the message in ten digits
abbrev pub identifier_of : ℕ → List ℕ
identifier_of i = 68 ∷ digits 10 i

-- C=GB;A=GOLD
abbrev pub domain_octets : List ℕ
domain_octets = 99 ∷ 14 ∷ 97 ∷ 4 ∷ 19 ∷ 2 ∷ codes "GB" ++ (98 ∷ 6 ∷ 19 ∷ 4 ∷ codes "GOLD")

-- C=GB;A=GOLD;S=BELL as the originator
abbrev pub originator_octets : List ℕ
originator_octets =
    96 ∷ 24 ∷ 48 ∷ 22 ∷ 97 ∷ 4 ∷ 19 ∷ 2 ∷ codes "GB" ++ (98 ∷ 6 ∷ 19 ∷ 4 ∷ codes "GOLD")
    ++ (165 ∷ 6 ∷ 128 ∷ 4 ∷ codes "BELL")

-- content type 22, and a trace without elements
abbrev pub content_type_and_trace : List ℕ
content_type_and_trace = 70 ∷ 1 ∷ 22 ∷ 105 ∷ 0 ∷ []

-- one recipient, C=GB;A=GOLD;S=WATT, of number 1: this agent is responsible, and a report is made only where it is not
-- delivered
abbrev pub recipients_octets : List ℕ
recipients_octets =
    162 ∷ 35 ∷ 49 ∷ 33 ∷ 96 ∷ 24 ∷ 48 ∷ 22 ∷ 97 ∷ 4 ∷ 19 ∷ 2 ∷ codes "GB"
    ++ (98 ∷ 6 ∷ 19 ∷ 4 ∷ codes "GOLD")
    ++ (165 ∷ 6 ∷ 128 ∷ 4 ∷ codes "WATT" ++ (128 ∷ 1 ∷ 1 ∷ 129 ∷ 2 ∷ 0 ∷ 168 ∷ []))

-- the message's identifier: its domain and its local part
unfoldable pub identifier_element : ℕ → List ℕ
identifier_element i = element (constructed 1 4) (domain_octets ++ element (primitive 0 22) (identifier_of i))

-- a SET
unfoldable pub envelope_element : ℕ → List ℕ
envelope_element i = element (constructed 0 17)
    (((originator_octets ++ identifier_element i) ++ content_type_and_trace) ++ recipients_octets)

-- ---- the message

-- a SEQUENCE of its envelope and its content, under [0]
unfoldable pub message_of : ℕ → List ℕ
message_of i = element (constructed 2 0) (envelope_element i ++ element (primitive 0 4) (content_of i))

-- ---- what the octets say

abbrev pub envelope_of : ℕ → EnvelopeFields
envelope_of i = record (envelope_to (to watt 1 ∷ [])) { id = record { domain = gold; local = identifier_of i } }

abbrev pub drilled : ℕ → MessageValue
drilled i = message_as (envelope_of i) (content_as true (content_of i))

-- ---- its copy for the second agent, made at once

abbrev pub copied : ℕ → MessageValue
copied i = message_as (outgoing_envelope (situation first_tables 0 0) (envelope_of i) (1 ∷ []))
    (content_as true (content_of i))

unfoldable pub copy_of : ℕ → List ℕ
copy_of i = outgoing_message (situation first_tables 0 0) (drilled i) (1 ∷ [])
