-- Messages and probes that are written are read again.
use Rattle.std.proofs.Common.{ℕ, ◌<◌, ◌^◌, true, false, List, ◌++◌, length, refl, arith}
use Rattle.mta_ber.specs.Canon.{element, constructed, primitive}
use Rattle.mta_ber.proofs.CanonLaws.{lent}
use Rattle.mta_ber.proofs.RoundTrip.{first_again}
use Rattle.mta_ber.proofs.StringLaws.{octets_spelled}
use Rattle.std.proofs.Common.{ap, ◌∙◌}
use Rattle.mta_ber.specs.Head.{◌>>=◌}
use Rattle.mta_ber.specs.Laws.{with_rest, beside}
use Rattle.mta_names.proofs.Again.{low_tag}
use Rattle.mta_names.proofs.Rows.{element_stands, short_inside, short_front, short_back}
use Rattle.mta_envelope.specs.declared.envelope.EnvelopeFields.{EnvelopeFields}
use Rattle.mta_envelope.specs.Contents.{content_as}
use Rattle.mta_envelope.specs.Envelopes.{IsOfKind, envelope_content}
use Rattle.mta_envelope.specs.Laws.{IsWholeEnvelope, KeepsEnvelope, MessagesAreReadAgain, ProbesAreReadAgain}
use Rattle.mta_envelope.specs.Messages.{message_as, SpellsMessage, message_in, probe_in, canonical_message}
use Rattle.mta_envelope.specs.Messages.{canonical_probe}
use Rattle.mta_envelope.proofs.EnvelopeAgain.{envelope_spelled}
use Rattle.mta_envelope.proofs.MessageLaws.{message_full, probe_full}

abbrev set_octets : EnvelopeFields → List ℕ
set_octets v = element (constructed 0 17) (envelope_content v)

abbrev string_octets : List ℕ → List ℕ
string_octets content = element (primitive 0 4) content

message_spelled : (v : EnvelopeFields) (content : List ℕ) → IsWholeEnvelope v → IsOfKind false v → KeepsEnvelope 2 v
    → length (set_octets v ++ string_octets content) < 2 ^ 64
    → SpellsMessage 1 (constructed 2 0) (set_octets v ++ string_octets content) (message_as v (content_as true content))
message_spelled v content h of k short =
    let first = short_front (set_octets v) (string_octets content) short in
    let second = short_back (set_octets v) (string_octets content) short in
    record {
      is_tag_of = refl;
      first = set_octets v;
      second = string_octets content;
      joined = refl;
      envelope = record {
        tag = constructed 0 17;
        content = envelope_content v;
        stands = element_stands 2 (constructed 0 17) (envelope_content v)
            (low_tag 0 17 true (omega arith) (omega arith)) (short_inside (constructed 0 17) (envelope_content v) first)
            (omega arith);
        is_set_tag = refl;
        spelled = envelope_spelled false 2 v h of k (omega arith)
            (short_inside (constructed 0 17) (envelope_content v) first);
      };
      content_of = record {
        tag = primitive 0 4;
        content = content;
        stands = element_stands 2 (primitive 0 4) content (low_tag 0 4 false (omega arith) (omega arith))
            (short_inside (primitive 0 4) content second) (omega arith);
        spelled = record { is_tag_of = refl; spelled = octets_spelled 4 2 content (omega arith); lent = refl };
      };
    }

pub messages_again : MessagesAreReadAgain
unfolding canonical_message
messages_again v content more at h of k short =
    let tag = constructed 2 0 in
    let inside = set_octets v ++ string_octets content in
    let size = short_inside tag inside short in
    ap (λ x. x >>= with_rest message_in)
    (first_again at tag inside more (low_tag 2 0 true (omega arith) (omega arith)) size)
    ∙ ap (λ x. x >>= λ m. beside m more)
    (message_full (message_as v (content_as true content)) (lent at 1 tag inside more)
    (message_spelled v content h of k size))

pub probes_again : ProbesAreReadAgain
unfolding canonical_probe
probes_again v more at h of k short =
    let tag = constructed 2 2 in
    let size = short_inside tag (envelope_content v) short in
    ap (λ x. x >>= with_rest probe_in)
    (first_again at tag (envelope_content v) more (low_tag 2 2 true (omega arith) (omega arith)) size)
    ∙ ap (λ x. x >>= λ m. beside m more)
    (probe_full v (lent at 2 tag (envelope_content v) more)
    (record { is_tag_of = refl; spelled = envelope_spelled true 2 v h of k (omega arith) size }))
