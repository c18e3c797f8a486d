-- Components of domain supplied information that are neighbours may change places.
use Rattle.std.proofs.Common.{ℕ, List, refl}
use Rattle.mta_ber.specs.declared.tag.Tag.{Tag}
use Rattle.mta_ber.specs.Bits.{BitString}
use Rattle.mta_fields.specs.declared.domain.DomainFields.{DomainFields}
use Rattle.mta_fields.specs.declared.supplied.Action.{Action}
use Rattle.mta_fields.specs.declared.supplied.SuppliedPart.{SuppliedPart}
use Rattle.mta_fields.specs.declared.supplied.SuppliedPart.TheVariants.{Arrival, Deferred, Routing, Other, Attempted}
use Rattle.mta_fields.specs.declared.supplied.SuppliedPart.TheVariants.{Converted}
use Rattle.mta_fields.specs.declared.supplied.SuppliedParts.{SuppliedParts}
use Rattle.mta_fields.specs.Traces.{MakesSupplied, MakesSuppliedPart, with_action, with_arrival, with_attempted}
use Rattle.mta_fields.specs.Traces.{with_converted, with_deferred, with_other}
use Rattle.mta_set_laws.specs.Orders.{ChangePlaces}
use Rattle.mta_set_laws.proofs.Slots.{Field, moved_field, twice_in_field}

abbrev arrival_slot : Field SuppliedParts ℕ
arrival_slot = record { put = with_arrival; get = λ s. s.arrival }

abbrev deferred_slot : Field SuppliedParts ℕ
deferred_slot = record { put = with_deferred; get = λ s. s.deferred }

abbrev action_slot : Field SuppliedParts Action
action_slot = record { put = with_action; get = λ s. s.action }

abbrev other_slot : Field SuppliedParts BitString
other_slot = record { put = with_other; get = λ s. s.other }

abbrev attempted_slot : Field SuppliedParts DomainFields
attempted_slot = record { put = with_attempted; get = λ s. s.attempted }

abbrev converted_slot : Field SuppliedParts (List ℕ)
converted_slot = record { put = with_converted; get = λ s. s.converted }

swapped : (j k : SuppliedPart) (depth : ℕ) (s t u : SuppliedParts) (tag : Tag) (content octets : List ℕ)
    (tag' : Tag) (content' octets' : List ℕ)
    → MakesSuppliedPart j depth s tag content octets t → MakesSuppliedPart k depth t tag' content' octets' u
    → (between : SuppliedParts) × MakesSuppliedPart k depth s tag' content' octets' between
    × MakesSuppliedPart j depth between tag content octets u
swapped Arrival Arrival depth s t u g c o g' c' o' m n =
    absurd (twice_in_field arrival_slot (λ s x. refl) s t u m n)
swapped Arrival Deferred depth s t u g c o g' c' o' m n =
    moved_field arrival_slot deferred_slot ((λ s x. refl), (λ s y. refl), (λ s x y. refl)) s t u m n
swapped Arrival Routing depth s t u g c o g' c' o' m n =
    moved_field arrival_slot action_slot ((λ s x. refl), (λ s y. refl), (λ s x y. refl)) s t u m n
swapped Arrival Other depth s t u g c o g' c' o' m n =
    moved_field arrival_slot other_slot ((λ s x. refl), (λ s y. refl), (λ s x y. refl)) s t u m n
swapped Arrival Attempted depth s t u g c o g' c' o' m n =
    moved_field arrival_slot attempted_slot ((λ s x. refl), (λ s y. refl), (λ s x y. refl)) s t u m n
swapped Arrival Converted depth s t u g c o g' c' o' m n =
    moved_field arrival_slot converted_slot ((λ s x. refl), (λ s y. refl), (λ s x y. refl)) s t u m n
swapped Deferred Arrival depth s t u g c o g' c' o' m n =
    moved_field deferred_slot arrival_slot ((λ s x. refl), (λ s y. refl), (λ s x y. refl)) s t u m n
swapped Deferred Deferred depth s t u g c o g' c' o' m n =
    absurd (twice_in_field deferred_slot (λ s x. refl) s t u m n)
swapped Deferred Routing depth s t u g c o g' c' o' m n =
    moved_field deferred_slot action_slot ((λ s x. refl), (λ s y. refl), (λ s x y. refl)) s t u m n
swapped Deferred Other depth s t u g c o g' c' o' m n =
    moved_field deferred_slot other_slot ((λ s x. refl), (λ s y. refl), (λ s x y. refl)) s t u m n
swapped Deferred Attempted depth s t u g c o g' c' o' m n =
    moved_field deferred_slot attempted_slot ((λ s x. refl), (λ s y. refl), (λ s x y. refl)) s t u m n
swapped Deferred Converted depth s t u g c o g' c' o' m n =
    moved_field deferred_slot converted_slot ((λ s x. refl), (λ s y. refl), (λ s x y. refl)) s t u m n
swapped Routing Arrival depth s t u g c o g' c' o' m n =
    moved_field action_slot arrival_slot ((λ s x. refl), (λ s y. refl), (λ s x y. refl)) s t u m n
swapped Routing Deferred depth s t u g c o g' c' o' m n =
    moved_field action_slot deferred_slot ((λ s x. refl), (λ s y. refl), (λ s x y. refl)) s t u m n
swapped Routing Routing depth s t u g c o g' c' o' m n =
    absurd (twice_in_field action_slot (λ s x. refl) s t u m n)
swapped Routing Other depth s t u g c o g' c' o' m n =
    moved_field action_slot other_slot ((λ s x. refl), (λ s y. refl), (λ s x y. refl)) s t u m n
swapped Routing Attempted depth s t u g c o g' c' o' m n =
    moved_field action_slot attempted_slot ((λ s x. refl), (λ s y. refl), (λ s x y. refl)) s t u m n
swapped Routing Converted depth s t u g c o g' c' o' m n =
    moved_field action_slot converted_slot ((λ s x. refl), (λ s y. refl), (λ s x y. refl)) s t u m n
swapped Other Arrival depth s t u g c o g' c' o' m n =
    moved_field other_slot arrival_slot ((λ s x. refl), (λ s y. refl), (λ s x y. refl)) s t u m n
swapped Other Deferred depth s t u g c o g' c' o' m n =
    moved_field other_slot deferred_slot ((λ s x. refl), (λ s y. refl), (λ s x y. refl)) s t u m n
swapped Other Routing depth s t u g c o g' c' o' m n =
    moved_field other_slot action_slot ((λ s x. refl), (λ s y. refl), (λ s x y. refl)) s t u m n
swapped Other Other depth s t u g c o g' c' o' m n =
    absurd (twice_in_field other_slot (λ s x. refl) s t u m n)
swapped Other Attempted depth s t u g c o g' c' o' m n =
    moved_field other_slot attempted_slot ((λ s x. refl), (λ s y. refl), (λ s x y. refl)) s t u m n
swapped Other Converted depth s t u g c o g' c' o' m n =
    moved_field other_slot converted_slot ((λ s x. refl), (λ s y. refl), (λ s x y. refl)) s t u m n
swapped Attempted Arrival depth s t u g c o g' c' o' m n =
    moved_field attempted_slot arrival_slot ((λ s x. refl), (λ s y. refl), (λ s x y. refl)) s t u m n
swapped Attempted Deferred depth s t u g c o g' c' o' m n =
    moved_field attempted_slot deferred_slot ((λ s x. refl), (λ s y. refl), (λ s x y. refl)) s t u m n
swapped Attempted Routing depth s t u g c o g' c' o' m n =
    moved_field attempted_slot action_slot ((λ s x. refl), (λ s y. refl), (λ s x y. refl)) s t u m n
swapped Attempted Other depth s t u g c o g' c' o' m n =
    moved_field attempted_slot other_slot ((λ s x. refl), (λ s y. refl), (λ s x y. refl)) s t u m n
swapped Attempted Attempted depth s t u g c o g' c' o' m n =
    absurd (twice_in_field attempted_slot (λ s x. refl) s t u m n)
swapped Attempted Converted depth s t u g c o g' c' o' m n =
    moved_field attempted_slot converted_slot ((λ s x. refl), (λ s y. refl), (λ s x y. refl)) s t u m n
swapped Converted Arrival depth s t u g c o g' c' o' m n =
    moved_field converted_slot arrival_slot ((λ s x. refl), (λ s y. refl), (λ s x y. refl)) s t u m n
swapped Converted Deferred depth s t u g c o g' c' o' m n =
    moved_field converted_slot deferred_slot ((λ s x. refl), (λ s y. refl), (λ s x y. refl)) s t u m n
swapped Converted Routing depth s t u g c o g' c' o' m n =
    moved_field converted_slot action_slot ((λ s x. refl), (λ s y. refl), (λ s x y. refl)) s t u m n
swapped Converted Other depth s t u g c o g' c' o' m n =
    moved_field converted_slot other_slot ((λ s x. refl), (λ s y. refl), (λ s x y. refl)) s t u m n
swapped Converted Attempted depth s t u g c o g' c' o' m n =
    moved_field converted_slot attempted_slot ((λ s x. refl), (λ s y. refl), (λ s x y. refl)) s t u m n
swapped Converted Converted depth s t u g c o g' c' o' m n =
    absurd (twice_in_field converted_slot (λ s x. refl) s t u m n)

pub supplied_change : ChangePlaces MakesSupplied
supplied_change depth s t u a b h k =
    let m = h.made in
    let n = k.made in
    let w = swapped m.part n.part depth s t u h.tag h.content a k.tag k.content b m.made n.made in (
      w.0,
      record {
        tag = k.tag;
        content = k.content;
        stands = k.stands;
        made = record { part = n.part; is_tag_of = n.is_tag_of; made = w.1 };
      },
      record {
        tag = h.tag;
        content = h.content;
        stands = h.stands;
        made = record { part = m.part; is_tag_of = m.is_tag_of; made = w.2 };
      },
    )
