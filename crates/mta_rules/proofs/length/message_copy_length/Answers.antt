use Rattle.std.proofs.Common.{◌≡◌, ℕ, List, [], ◌++◌, sym, ap, ◌∙◌}
use Rattle.mta_ber.specs.Canon.{element, constructed, primitive}
use Rattle.mta_ber.specs.Lengths.{octet_length}
use Rattle.mta_envelope.specs.declared.envelope.EnvelopeFields.{EnvelopeFields}
use Rattle.mta_envelope.specs.Contents.{octets_of}
use Rattle.mta_envelope.specs.Envelopes.{envelope_content}
use Rattle.mta_envelope.specs.Messages.{message_value}
use Rattle.mta_procedures.specs.Copies.{outgoing_envelope}
use Rattle.mta_procedures.specs.Situations.{Situation, situation}
use Rattle.mta_rules.proofs.Wholes.{message_is}
use Rattle.mta_rules.proofs.length.message_copy_length.Goals as goal

pub returns : goal.returns
returns c =
    let s : Situation = situation c.args.tables.now c.args.arrival c.args.moment in
    let envelope : List ℕ = envelope_content (outgoing_envelope s c.args.message.now.envelope []) in
    let content : List ℕ = octets_of c.args.message.now.content in
    let set : List ℕ = element (constructed 0 17) envelope in
    let string : List ℕ = element (primitive 0 4) content in
    let envelope-told : c.envelope_length-envelope.result ≡ octet_length envelope =
    c.envelope_length-envelope.ensures
    ∙ ap (λ (v : EnvelopeFields). octet_length (envelope_content (outgoing_envelope s v [])))
    c.fields.ensures.exact in
    let content-told : c.slice_length-content.result ≡ octet_length content =
    c.slice_length-content.ensures ∙ ap octet_length c.as_slice.ensures in
    let set-told : c.element_length-set.result ≡ octet_length set =
    c.element_length-set.ensures envelope envelope-told
    ∙ ap (λ t. octet_length (element t envelope)) c.constructed.ensures in
    let string-told : c.element_length.result ≡ octet_length string =
    c.element_length.ensures content content-told
    ∙ ap (λ t. octet_length (element t content)) c.primitive.ensures in
    let both-told : c.length_of_both-both.result ≡ octet_length (set ++ string) =
    c.length_of_both-both.ensures set string set-told string-told in
    c.element_length-2.ensures (set ++ string) both-told
    ∙ ap (λ t. octet_length (element t (set ++ string))) c.constructed-2.ensures
    ∙ ap octet_length (sym (message_is s (message_value c.args.message.now) []))
