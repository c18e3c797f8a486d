-- The octets of a drill's messages, and of their copies, are read.
use Rattle.std.proofs.Common.{◌≡◌, ℕ, ◌+◌, ◌≤◌, List, [], ◌∷◌, ◌++◌, length, Some, Ok}
use Rattle.std.proofs.Common.{refl, ap, ◌∙◌, arith}
use Rattle.std.proofs.lemmas.List.{length-append}
use Rattle.mta_ber.specs.Canon.{element, constructed, primitive, ident_octets, length_octets, high_octets}
use Rattle.mta_ber.specs.Contents.{int_content, bits_content, utc_content, civil_of, civil_from}
use Rattle.mta_ber.proofs.RoundTrip.{element_long, element_short}
use Rattle.mta_names.specs.Names.{canonical_name}
use Rattle.mta_fields.specs.Domains.{canonical_domain}
use Rattle.mta_fields.specs.ExtensionFields.{canonical_ext}
use Rattle.mta_fields.specs.Identifiers.{canonical_id}
use Rattle.mta_fields.specs.TraceElements.{canonical_trace}
use Rattle.mta_fields.specs.Traces.{canonical_supplied}
use Rattle.mta_envelope_common.specs.TraceLists.{canonical_trace_list}
use Rattle.mta_envelope_recipient.specs.Recipients.{canonical_recipient}
use Rattle.mta_envelope_recipient.specs.Lists.{canonical_recipients}
use Rattle.mta_envelope.specs.declared.envelope.EnvelopeFields.{EnvelopeFields}
use Rattle.mta_envelope.specs.Envelopes.{envelope_front, envelope_middle, envelope_back, envelope_content}
use Rattle.mta_envelope.specs.Messages.{canonical_message}
use Rattle.mta_apdu.specs.Apdus.{apdu_of, message, longest_apdu}
use Rattle.mta_apdu.proofs.ApduAgain.{apdus_again}
use Rattle.mta_apdu.proofs.ApduLaws.{read_short, stored_is}
use Rattle.mta_procedures.specs.Bits.{with_responsibility}
use Rattle.mta_procedures.specs.Copies.{outgoing_envelope, outgoing_message}
use Rattle.mta_machine.specs.Apdu.{value_of, value_read}
use Rattle.mta_drill_text.specs.Text.{content_length}
use Rattle.mta_drill_laws.specs.Messages.{content_of, copied, copy_of, drilled, envelope_element, envelope_of}
use Rattle.mta_drill_laws.specs.Messages.{identifier_element, message_of}
use Rattle.mta_drill_laws.proofs.Contents.{length_of, short}
use Rattle.mta_drill_laws.proofs.Wholes.{at_first, copy_whole, envelope_keeps, envelope_whole}

-- ---- how long they are

-- a message has its content, and up to 42 octets more than that and what its envelope has
message_long : (v : EnvelopeFields) (c : List ℕ) → length c ≤ length (canonical_message v c)
unfolding canonical_message
message_long v c = omega (
  arith,
  element_long (primitive 0 4) c,
  length-append (element (constructed 0 17) (envelope_content v)) (element (primitive 0 4) c),
  element_long (constructed 2 0) (element (constructed 0 17) (envelope_content v) ++ element (primitive 0 4) c),
)

message_short : (v : EnvelopeFields) (c : List ℕ)
    → length (canonical_message v c) ≤ length (envelope_content v) + length c + 42
unfolding canonical_message
message_short v c = omega (
  arith,
  element_short (primitive 0 4) c,
  element_short (constructed 0 17) (envelope_content v),
  length-append (element (constructed 0 17) (envelope_content v)) (element (primitive 0 4) c),
  element_short (constructed 2 0) (element (constructed 0 17) (envelope_content v) ++ element (primitive 0 4) c),
)

envelope_length : (i : ℕ) → length (envelope_content (envelope_of i)) ≡ 99
unfolding element ident_octets length_octets high_octets int_content bits_content canonical_name canonical_domain
    canonical_id canonical_trace_list canonical_recipient canonical_recipients envelope_front envelope_middle
    envelope_back envelope_content canonical_ext
envelope_length i = refl

copy_length : (i : ℕ) → length (envelope_content (outgoing_envelope at_first (envelope_of i) (1 ∷ []))) ≡ 137
unfolding element ident_octets length_octets high_octets int_content bits_content utc_content civil_of civil_from
    canonical_name canonical_domain canonical_id canonical_trace canonical_supplied canonical_trace_list
    canonical_recipient canonical_recipients envelope_front envelope_middle envelope_back envelope_content canonical_ext
    with_responsibility
copy_length i = refl

-- ---- a message

envelope_spelled : (i : ℕ) → envelope_element i ≡ element (constructed 0 17) (envelope_content (envelope_of i))
unfolding element ident_octets length_octets high_octets int_content bits_content canonical_name canonical_domain
    canonical_id canonical_trace_list canonical_recipient canonical_recipients envelope_front envelope_middle
    envelope_back envelope_content canonical_ext envelope_element identifier_element
envelope_spelled i = refl

pub message_spelled : (i : ℕ) → message_of i ≡ canonical_message (envelope_of i) (content_of i)
unfolding message_of canonical_message
message_spelled i = ap (λ x. element (constructed 2 0) (x ++ element (primitive 0 4) (content_of i)))
    (envelope_spelled i)

pub message_read : (i : ℕ) → apdu_of (message_of i) ≡ Ok (message (drilled i))
message_read i =
    let few : length (canonical_message (envelope_of i) (content_of i)) ≤ longest_apdu = omega (
      arith,
      message_short (envelope_of i) (content_of i),
      envelope_length i,
      length_of i,
      short i,
    ) in
    ap apdu_of (message_spelled i)
    ∙ apdus_again (message (drilled i)) (envelope_whole i, refl) (envelope_keeps i) few

pub message_kept : (i : ℕ) → value_of (message_of i) ≡ Some (message (drilled i))
unfolding value_of
message_kept i =
    let few = read_short (message_of i) (message (drilled i)) (message_read i) in
    ap value_read (stored_is (message_of i) few ∙ message_read i)

-- ---- its copy

copy_is : (i : ℕ) → copy_of i
    ≡ canonical_message (outgoing_envelope at_first (envelope_of i) (1 ∷ [])) (content_of i)
unfolding copy_of outgoing_message
copy_is i = refl

pub copy_long : (i : ℕ) → content_length i ≤ length (copy_of i)
copy_long i =
    let e = ap length (copy_is i) in
    omega (
      arith,
      e,
      message_long (outgoing_envelope at_first (envelope_of i) (1 ∷ [])) (content_of i),
      length_of i,
    )

pub copy_short : (i : ℕ) → length (copy_of i) ≤ content_length i + 300
copy_short i =
    let e = ap length (copy_is i) in
    omega (
      arith,
      e,
      message_short (outgoing_envelope at_first (envelope_of i) (1 ∷ [])) (content_of i),
      copy_length i,
      length_of i,
    )

pub copy_read : (i : ℕ) → apdu_of (copy_of i) ≡ Ok (message (copied i))
copy_read i =
    let c = copy_whole i in
    let e = ap length (copy_is i) in
    let few : length (canonical_message (outgoing_envelope at_first (envelope_of i) (1 ∷ [])) (content_of i))
    ≤ longest_apdu = omega (arith, e, copy_short i, short i) in
    ap apdu_of (copy_is i) ∙ apdus_again (message (copied i)) (c.0, refl) c.1 few

pub copy_kept : (i : ℕ) → value_of (copy_of i) ≡ Some (message (copied i))
unfolding value_of
copy_kept i =
    let few = read_short (copy_of i) (message (copied i)) (copy_read i) in
    ap value_read (stored_is (copy_of i) few ∙ copy_read i)
