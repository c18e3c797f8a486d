-- Components of recipients that are neighbours may change places.
use Rattle.std.proofs.Common.{◌≡◌, ℕ, false, List, refl}
use Rattle.mta_ber.specs.declared.tag.Tag.{Tag}
use Rattle.mta_ber.specs.Bits.{BitString}
use Rattle.mta_names.specs.declared.attributes.Attributes.{Attributes}
use Rattle.mta_fields.specs.declared.extension.ExtFields.{ExtFields}
use Rattle.mta_envelope_recipient.specs.declared.parts.RecipientPart.{RecipientPart}
use Rattle.mta_envelope_recipient.specs.declared.parts.RecipientPart.TheVariants.{Addressee, Number, Indicators}
use Rattle.mta_envelope_recipient.specs.declared.parts.RecipientPart.TheVariants.{Conversion, Extensions}
use Rattle.mta_envelope_recipient.specs.declared.parts.RecipientParts.{RecipientParts}
use Rattle.mta_envelope_recipient.specs.Recipients.{MakesRecipient, MakesRecipientPart, with_conversion}
use Rattle.mta_envelope_recipient.specs.Recipients.{with_extensions, with_indicators, with_name, with_number}
use Rattle.mta_set_laws.specs.Orders.{ChangePlaces}
use Rattle.mta_set_laws.proofs.Slots.{Field, moved_field, twice_in_field}

abbrev name_slot : Field RecipientParts Attributes
name_slot = record { put = with_name; get = λ s. s.name }

abbrev number_slot : Field RecipientParts ℕ
number_slot = record { put = with_number; get = λ s. s.number }

abbrev indicators_slot : Field RecipientParts BitString
indicators_slot = record { put = with_indicators; get = λ s. s.indicators }

abbrev conversion_slot : Field RecipientParts (List ℕ)
conversion_slot = record { put = with_conversion; get = λ s. s.conversion }

abbrev extensions_slot : Field RecipientParts (List ExtFields)
extensions_slot = record { put = with_extensions; get = λ s. s.extensions }

swapped : (j k : RecipientPart) (depth : ℕ) (s t u : RecipientParts) (tag : Tag) (content octets : List ℕ) (tag' : Tag)
    (content' octets' : List ℕ)
    → MakesRecipientPart j depth s tag content octets t → MakesRecipientPart k depth t tag' content' octets' u
    → (between : RecipientParts) × MakesRecipientPart k depth s tag' content' octets' between
    × MakesRecipientPart j depth between tag content octets u
swapped Addressee Addressee depth s t u g c o g' c' o' m n = absurd (twice_in_field name_slot (λ s x. refl) s t u m n)
swapped Addressee Number depth s t u g c o g' c' o' m n =
    moved_field name_slot number_slot ((λ s x. refl), (λ s y. refl), (λ s x y. refl)) s t u m n
swapped Addressee Indicators depth s t u g c o g' c' o' m n =
    moved_field name_slot indicators_slot ((λ s x. refl), (λ s y. refl), (λ s x y. refl)) s t u m n
swapped Addressee Conversion depth s t u g c o g' c' o' m n =
    moved_field name_slot conversion_slot ((λ s x. refl), (λ s y. refl), (λ s x y. refl)) s t u m n
swapped Addressee Extensions depth s t u g c o g' c' o' m n =
    moved_field name_slot extensions_slot ((λ s x. refl), (λ s y. refl), (λ s x y. refl)) s t u m n
swapped Number Addressee depth s t u g c o g' c' o' m n =
    moved_field number_slot name_slot ((λ s x. refl), (λ s y. refl), (λ s x y. refl)) s t u m n
swapped Number Number depth s t u g c o g' c' o' m n = absurd (twice_in_field number_slot (λ s x. refl) s t u m n)
swapped Number Indicators depth s t u g c o g' c' o' m n =
    moved_field number_slot indicators_slot ((λ s x. refl), (λ s y. refl), (λ s x y. refl)) s t u m n
swapped Number Conversion depth s t u g c o g' c' o' m n =
    moved_field number_slot conversion_slot ((λ s x. refl), (λ s y. refl), (λ s x y. refl)) s t u m n
swapped Number Extensions depth s t u g c o g' c' o' m n =
    moved_field number_slot extensions_slot ((λ s x. refl), (λ s y. refl), (λ s x y. refl)) s t u m n
swapped Indicators Addressee depth s t u g c o g' c' o' m n =
    moved_field indicators_slot name_slot ((λ s x. refl), (λ s y. refl), (λ s x y. refl)) s t u m n
swapped Indicators Number depth s t u g c o g' c' o' m n =
    moved_field indicators_slot number_slot ((λ s x. refl), (λ s y. refl), (λ s x y. refl)) s t u m n
swapped Indicators Indicators depth s t u g c o g' c' o' m n =
    absurd (twice_in_field indicators_slot (λ s x. refl) s t u m n)
swapped Indicators Conversion depth s t u g c o g' c' o' m n =
    moved_field indicators_slot conversion_slot ((λ s x. refl), (λ s y. refl), (λ s x y. refl)) s t u m n
swapped Indicators Extensions depth s t u g c o g' c' o' m n =
    moved_field indicators_slot extensions_slot ((λ s x. refl), (λ s y. refl), (λ s x y. refl)) s t u m n
swapped Conversion Addressee depth s t u g c o g' c' o' m n =
    moved_field conversion_slot name_slot ((λ s x. refl), (λ s y. refl), (λ s x y. refl)) s t u m n
swapped Conversion Number depth s t u g c o g' c' o' m n =
    moved_field conversion_slot number_slot ((λ s x. refl), (λ s y. refl), (λ s x y. refl)) s t u m n
swapped Conversion Indicators depth s t u g c o g' c' o' m n =
    moved_field conversion_slot indicators_slot ((λ s x. refl), (λ s y. refl), (λ s x y. refl)) s t u m n
swapped Conversion Conversion depth s t u g c o g' c' o' m n =
    absurd (twice_in_field conversion_slot (λ s x. refl) s t u m n)
swapped Conversion Extensions depth s t u g c o g' c' o' m n =
    moved_field conversion_slot extensions_slot ((λ s x. refl), (λ s y. refl), (λ s x y. refl)) s t u m n
swapped Extensions Addressee depth s t u g c o g' c' o' m n =
    moved_field extensions_slot name_slot ((λ s x. refl), (λ s y. refl), (λ s x y. refl)) s t u m n
swapped Extensions Number depth s t u g c o g' c' o' m n =
    moved_field extensions_slot number_slot ((λ s x. refl), (λ s y. refl), (λ s x y. refl)) s t u m n
swapped Extensions Indicators depth s t u g c o g' c' o' m n =
    moved_field extensions_slot indicators_slot ((λ s x. refl), (λ s y. refl), (λ s x y. refl)) s t u m n
swapped Extensions Conversion depth s t u g c o g' c' o' m n =
    moved_field extensions_slot conversion_slot ((λ s x. refl), (λ s y. refl), (λ s x y. refl)) s t u m n
swapped Extensions Extensions depth s t u g c o g' c' o' m n =
    absurd (twice_in_field extensions_slot (λ s x. refl) s t u m n)

pub recipients_change : ChangePlaces MakesRecipient
recipients_change depth s t u a b h k =
    let m = h.made in
    let n = k.made in
    let w = swapped m.part n.part depth s t u h.tag h.content a k.tag k.content b m.made n.made in (
      w.0,
      record {
        tag = k.tag;
        content = k.content;
        stands = k.stands;
        made = record { part = n.part; is_tag_of = n.is_tag_of; made = w.1 };
      },
      record {
        tag = h.tag;
        content = h.content;
        stands = h.stands;
        made = record { part = m.part; is_tag_of = m.is_tag_of; made = w.2 };
      },
    )
