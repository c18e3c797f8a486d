-- Components of the envelopes of reports that are neighbours may change places.
use Rattle.std.proofs.Common.{◌≡◌, ℕ, false, List, refl}
use Rattle.mta_ber.specs.declared.tag.Tag.{Tag}
use Rattle.mta_names.specs.declared.attributes.Attributes.{Attributes}
use Rattle.mta_fields.specs.declared.extension.ExtFields.{ExtFields}
use Rattle.mta_fields.specs.declared.identifier.MtsIdFields.{MtsIdFields}
use Rattle.mta_fields.specs.declared.trace.TraceFields.{TraceFields}
use Rattle.mta_report.specs.declared.envelope.EnvelopePart.{EnvelopePart}
use Rattle.mta_report.specs.declared.envelope.EnvelopePart.TheVariants.{Destination, Identifier, Trace, Extensions}
use Rattle.mta_report.specs.declared.envelope.EnvelopeParts.{EnvelopeParts}
use Rattle.mta_report.specs.ReportEnvelopes.{MakesEnvelope, MakesEnvelopePart, envelope_held, with_destination}
use Rattle.mta_report.specs.ReportEnvelopes.{with_extensions, with_id, with_trace}
use Rattle.mta_set_laws.specs.Orders.{ChangePlaces}
use Rattle.mta_set_laws.proofs.Slots.{Slot, moved, twice}

abbrev destination_slot : Slot EnvelopeParts Attributes
destination_slot = record { put = with_destination; held = envelope_held Destination }

abbrev id_slot : Slot EnvelopeParts MtsIdFields
id_slot = record { put = with_id; held = envelope_held Identifier }

abbrev trace_slot : Slot EnvelopeParts (List TraceFields)
trace_slot = record { put = with_trace; held = envelope_held Trace }

abbrev extensions_slot : Slot EnvelopeParts (List ExtFields)
extensions_slot = record { put = with_extensions; held = envelope_held Extensions }

swapped : (j k : EnvelopePart) (depth : ℕ) (s t u : EnvelopeParts) (tag : Tag) (content octets : List ℕ) (tag' : Tag)
    (content' octets' : List ℕ)
    → MakesEnvelopePart j depth s tag content octets t → MakesEnvelopePart k depth t tag' content' octets' u
    → envelope_held j s ≡ false → envelope_held k t ≡ false
    → (between : EnvelopeParts) × MakesEnvelopePart k depth s tag' content' octets' between
    × (envelope_held k s ≡ false)
    × MakesEnvelopePart j depth between tag content octets u × (envelope_held j between ≡ false)
swapped Destination Destination depth s t u g c o g' c' o' m n f e =
    absurd (twice destination_slot (λ s x. refl) s t m e)
swapped Destination Identifier depth s t u g c o g' c' o' m n f e =
    moved destination_slot id_slot ((λ s x. refl), (λ s y. refl), (λ s x y. refl)) s t u m n f e
swapped Destination Trace depth s t u g c o g' c' o' m n f e =
    moved destination_slot trace_slot ((λ s x. refl), (λ s y. refl), (λ s x y. refl)) s t u m n f e
swapped Destination Extensions depth s t u g c o g' c' o' m n f e =
    moved destination_slot extensions_slot ((λ s x. refl), (λ s y. refl), (λ s x y. refl)) s t u m n f e
swapped Identifier Destination depth s t u g c o g' c' o' m n f e =
    moved id_slot destination_slot ((λ s x. refl), (λ s y. refl), (λ s x y. refl)) s t u m n f e
swapped Identifier Identifier depth s t u g c o g' c' o' m n f e = absurd (twice id_slot (λ s x. refl) s t m e)
swapped Identifier Trace depth s t u g c o g' c' o' m n f e =
    moved id_slot trace_slot ((λ s x. refl), (λ s y. refl), (λ s x y. refl)) s t u m n f e
swapped Identifier Extensions depth s t u g c o g' c' o' m n f e =
    moved id_slot extensions_slot ((λ s x. refl), (λ s y. refl), (λ s x y. refl)) s t u m n f e
swapped Trace Destination depth s t u g c o g' c' o' m n f e =
    moved trace_slot destination_slot ((λ s x. refl), (λ s y. refl), (λ s x y. refl)) s t u m n f e
swapped Trace Identifier depth s t u g c o g' c' o' m n f e =
    moved trace_slot id_slot ((λ s x. refl), (λ s y. refl), (λ s x y. refl)) s t u m n f e
swapped Trace Trace depth s t u g c o g' c' o' m n f e = absurd (twice trace_slot (λ s x. refl) s t m e)
swapped Trace Extensions depth s t u g c o g' c' o' m n f e =
    moved trace_slot extensions_slot ((λ s x. refl), (λ s y. refl), (λ s x y. refl)) s t u m n f e
swapped Extensions Destination depth s t u g c o g' c' o' m n f e =
    moved extensions_slot destination_slot ((λ s x. refl), (λ s y. refl), (λ s x y. refl)) s t u m n f e
swapped Extensions Identifier depth s t u g c o g' c' o' m n f e =
    moved extensions_slot id_slot ((λ s x. refl), (λ s y. refl), (λ s x y. refl)) s t u m n f e
swapped Extensions Trace depth s t u g c o g' c' o' m n f e =
    moved extensions_slot trace_slot ((λ s x. refl), (λ s y. refl), (λ s x y. refl)) s t u m n f e
swapped Extensions Extensions depth s t u g c o g' c' o' m n f e = absurd (twice extensions_slot (λ s x. refl) s t m e)

pub report_envelopes_change : ChangePlaces MakesEnvelope
report_envelopes_change depth s t u a b h k =
    let m = h.made in
    let n = k.made in
    let w = swapped m.part n.part depth s t u h.tag h.content a k.tag k.content b m.made n.made m.absent n.absent in (
      w.0,
      record {
        tag = k.tag;
        content = k.content;
        stands = k.stands;
        made = record { part = n.part; is_tag_of = n.is_tag_of; absent = w.2; made = w.1 };
      },
      record {
        tag = h.tag;
        content = h.content;
        stands = h.stands;
        made = record { part = m.part; is_tag_of = m.is_tag_of; absent = w.4; made = w.3 };
      },
    )
