-- Components of non-deliveries that are neighbours may change places.
use Rattle.std.proofs.Common.{◌≡◌, ℕ, false, List, refl}
use Rattle.mta_ber.specs.declared.tag.Tag.{Tag}
use Rattle.mta_report_recipient.specs.declared.failure.FailurePart.{FailurePart}
use Rattle.mta_report_recipient.specs.declared.failure.FailurePart.TheVariants.{Reason, Diagnostic}
use Rattle.mta_report_recipient.specs.declared.failure.FailureParts.{FailureParts}
use Rattle.mta_report_recipient.specs.Failures.{MakesFailure, MakesFailurePart, failure_held, with_diagnostic}
use Rattle.mta_report_recipient.specs.Failures.{with_reason}
use Rattle.mta_set_laws.specs.Orders.{ChangePlaces}
use Rattle.mta_set_laws.proofs.Slots.{Slot, moved, twice}

abbrev reason_slot : Slot FailureParts ℕ
reason_slot = record { put = with_reason; held = failure_held Reason }

abbrev diagnostic_slot : Slot FailureParts ℕ
diagnostic_slot = record { put = with_diagnostic; held = failure_held Diagnostic }

swapped : (j k : FailurePart) (depth : ℕ) (s t u : FailureParts) (tag : Tag) (content octets : List ℕ) (tag' : Tag)
    (content' octets' : List ℕ)
    → MakesFailurePart j depth s tag content octets t → MakesFailurePart k depth t tag' content' octets' u
    → failure_held j s ≡ false → failure_held k t ≡ false
    → (between : FailureParts) × MakesFailurePart k depth s tag' content' octets' between × (failure_held k s ≡ false)
    × MakesFailurePart j depth between tag content octets u × (failure_held j between ≡ false)
swapped Reason Reason depth s t u g c o g' c' o' m n f e = absurd (twice reason_slot (λ s x. refl) s t m e)
swapped Reason Diagnostic depth s t u g c o g' c' o' m n f e =
    moved reason_slot diagnostic_slot ((λ s x. refl), (λ s y. refl), (λ s x y. refl)) s t u m n f e
swapped Diagnostic Reason depth s t u g c o g' c' o' m n f e =
    moved diagnostic_slot reason_slot ((λ s x. refl), (λ s y. refl), (λ s x y. refl)) s t u m n f e
swapped Diagnostic Diagnostic depth s t u g c o g' c' o' m n f e = absurd (twice diagnostic_slot (λ s x. refl) s t m e)

pub failures_change : ChangePlaces MakesFailure
failures_change depth s t u a b h k =
    let m = h.made in
    let n = k.made in
    let w = swapped m.part n.part depth s t u h.tag h.content a k.tag k.content b m.made n.made m.absent n.absent in (
      w.0,
      record {
        tag = k.tag;
        content = k.content;
        stands = k.stands;
        made = record { part = n.part; is_tag_of = n.is_tag_of; absent = w.2; made = w.1 };
      },
      record {
        tag = h.tag;
        content = h.content;
        stands = h.stands;
        made = record { part = m.part; is_tag_of = m.is_tag_of; absent = w.4; made = w.3 };
      },
    )
