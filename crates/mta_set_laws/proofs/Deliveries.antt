-- Components of deliveries that are neighbours may change places.
use Rattle.std.proofs.Common.{◌≡◌, ℕ, false, List, refl}
use Rattle.mta_ber.specs.declared.tag.Tag.{Tag}
use Rattle.mta_report_recipient.specs.declared.delivery.DeliveryPart.{DeliveryPart}
use Rattle.mta_report_recipient.specs.declared.delivery.DeliveryPart.TheVariants.{Moment, User}
use Rattle.mta_report_recipient.specs.declared.delivery.DeliveryParts.{DeliveryParts}
use Rattle.mta_report_recipient.specs.Deliveries.{MakesDelivery, MakesDeliveryPart, delivery_held, with_moment}
use Rattle.mta_report_recipient.specs.Deliveries.{with_user}
use Rattle.mta_set_laws.specs.Orders.{ChangePlaces}
use Rattle.mta_set_laws.proofs.Slots.{Slot, moved, twice}

abbrev moment_slot : Slot DeliveryParts ℕ
moment_slot = record { put = with_moment; held = delivery_held Moment }

abbrev user_slot : Slot DeliveryParts ℕ
user_slot = record { put = with_user; held = delivery_held User }

swapped : (j k : DeliveryPart) (depth : ℕ) (s t u : DeliveryParts) (tag : Tag) (content octets : List ℕ) (tag' : Tag)
    (content' octets' : List ℕ)
    → MakesDeliveryPart j depth s tag content octets t → MakesDeliveryPart k depth t tag' content' octets' u
    → delivery_held j s ≡ false → delivery_held k t ≡ false
    → (between : DeliveryParts) × MakesDeliveryPart k depth s tag' content' octets' between
    × (delivery_held k s ≡ false)
    × MakesDeliveryPart j depth between tag content octets u × (delivery_held j between ≡ false)
swapped Moment Moment depth s t u g c o g' c' o' m n f e = absurd (twice moment_slot (λ s x. refl) s t m e)
swapped Moment User depth s t u g c o g' c' o' m n f e =
    moved moment_slot user_slot ((λ s x. refl), (λ s y. refl), (λ s x y. refl)) s t u m n f e
swapped User Moment depth s t u g c o g' c' o' m n f e =
    moved user_slot moment_slot ((λ s x. refl), (λ s y. refl), (λ s x y. refl)) s t u m n f e
swapped User User depth s t u g c o g' c' o' m n f e = absurd (twice user_slot (λ s x. refl) s t m e)

pub deliveries_change : ChangePlaces MakesDelivery
deliveries_change depth s t u a b h k =
    let m = h.made in
    let n = k.made in
    let w = swapped m.part n.part depth s t u h.tag h.content a k.tag k.content b m.made n.made m.absent n.absent in (
      w.0,
      record {
        tag = k.tag;
        content = k.content;
        stands = k.stands;
        made = record { part = n.part; is_tag_of = n.is_tag_of; absent = w.2; made = w.1 };
      },
      record {
        tag = h.tag;
        content = h.content;
        stands = h.stands;
        made = record { part = m.part; is_tag_of = m.is_tag_of; absent = w.4; made = w.3 };
      },
    )
