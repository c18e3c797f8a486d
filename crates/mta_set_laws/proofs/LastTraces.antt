-- Components of last traces that are neighbours may change places.
use Rattle.std.proofs.Common.{◌≡◌, ℕ, false, List, refl}
use Rattle.mta_ber.specs.declared.tag.Tag.{Tag}
use Rattle.mta_report_recipient.specs.declared.outcome.Outcome.{Outcome}
use Rattle.mta_report_recipient.specs.declared.last.LastPart.{LastPart}
use Rattle.mta_report_recipient.specs.declared.last.LastPart.TheVariants.{Arrival, ReportType, Converted}
use Rattle.mta_report_recipient.specs.declared.last.LastParts.{LastParts}
use Rattle.mta_report_recipient.specs.LastTraces.{MakesLast, MakesLastPart, last_held, with_arrival, with_converted}
use Rattle.mta_report_recipient.specs.LastTraces.{with_outcome}
use Rattle.mta_set_laws.specs.Orders.{ChangePlaces}
use Rattle.mta_set_laws.proofs.Slots.{Slot, moved, twice}

abbrev arrival_slot : Slot LastParts ℕ
arrival_slot = record { put = with_arrival; held = last_held Arrival }

abbrev outcome_slot : Slot LastParts Outcome
outcome_slot = record { put = with_outcome; held = last_held ReportType }

abbrev converted_slot : Slot LastParts (List ℕ)
converted_slot = record { put = with_converted; held = last_held Converted }

swapped : (j k : LastPart) (depth : ℕ) (s t u : LastParts) (tag : Tag) (content octets : List ℕ) (tag' : Tag)
    (content' octets' : List ℕ)
    → MakesLastPart j depth s tag content octets t → MakesLastPart k depth t tag' content' octets' u
    → last_held j s ≡ false → last_held k t ≡ false
    → (between : LastParts) × MakesLastPart k depth s tag' content' octets' between × (last_held k s ≡ false)
    × MakesLastPart j depth between tag content octets u × (last_held j between ≡ false)
swapped Arrival Arrival depth s t u g c o g' c' o' m n f e = absurd (twice arrival_slot (λ s x. refl) s t m e)
swapped Arrival ReportType depth s t u g c o g' c' o' m n f e =
    moved arrival_slot outcome_slot ((λ s x. refl), (λ s y. refl), (λ s x y. refl)) s t u m n f e
swapped Arrival Converted depth s t u g c o g' c' o' m n f e =
    moved arrival_slot converted_slot ((λ s x. refl), (λ s y. refl), (λ s x y. refl)) s t u m n f e
swapped ReportType Arrival depth s t u g c o g' c' o' m n f e =
    moved outcome_slot arrival_slot ((λ s x. refl), (λ s y. refl), (λ s x y. refl)) s t u m n f e
swapped ReportType ReportType depth s t u g c o g' c' o' m n f e = absurd (twice outcome_slot (λ s x. refl) s t m e)
swapped ReportType Converted depth s t u g c o g' c' o' m n f e =
    moved outcome_slot converted_slot ((λ s x. refl), (λ s y. refl), (λ s x y. refl)) s t u m n f e
swapped Converted Arrival depth s t u g c o g' c' o' m n f e =
    moved converted_slot arrival_slot ((λ s x. refl), (λ s y. refl), (λ s x y. refl)) s t u m n f e
swapped Converted ReportType depth s t u g c o g' c' o' m n f e =
    moved converted_slot outcome_slot ((λ s x. refl), (λ s y. refl), (λ s x y. refl)) s t u m n f e
swapped Converted Converted depth s t u g c o g' c' o' m n f e = absurd (twice converted_slot (λ s x. refl) s t m e)

pub last_traces_change : ChangePlaces MakesLast
last_traces_change depth s t u a b h k =
    let m = h.made in
    let n = k.made in
    let w = swapped m.part n.part depth s t u h.tag h.content a k.tag k.content b m.made n.made m.absent n.absent in (
      w.0,
      record {
        tag = k.tag;
        content = k.content;
        stands = k.stands;
        made = record { part = n.part; is_tag_of = n.is_tag_of; absent = w.2; made = w.1 };
      },
      record {
        tag = h.tag;
        content = h.content;
        stands = h.stands;
        made = record { part = m.part; is_tag_of = m.is_tag_of; absent = w.4; made = w.3 };
      },
    )
