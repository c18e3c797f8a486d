-- Components of recipients of whom is reported that are neighbours may change places.
use Rattle.std.proofs.Common.{◌≡◌, ℕ, false, List, refl}
use Rattle.mta_ber.specs.declared.tag.Tag.{Tag}
use Rattle.mta_ber.specs.Bits.{BitString}
use Rattle.mta_names.specs.declared.attributes.Attributes.{Attributes}
use Rattle.mta_fields.specs.declared.extension.ExtFields.{ExtFields}
use Rattle.mta_report_recipient.specs.declared.reported.ReportedPart.{ReportedPart}
use Rattle.mta_report_recipient.specs.declared.reported.ReportedPart.TheVariants.{Actual, Number, Indicators, Last}
use Rattle.mta_report_recipient.specs.declared.reported.ReportedPart.TheVariants.{Intended, Supplementary, Extensions}
use Rattle.mta_report_recipient.specs.declared.reported.ReportedParts.{ReportedParts}
use Rattle.mta_report_recipient.specs.declared.last.LastTrace.{LastTrace}
use Rattle.mta_report_recipient.specs.ReportedRecipients.{MakesReported, MakesReportedPart, reported_held}
use Rattle.mta_report_recipient.specs.ReportedRecipients.{with_extensions, with_indicators, with_intended, with_last}
use Rattle.mta_report_recipient.specs.ReportedRecipients.{with_name, with_number, with_supplementary}
use Rattle.mta_set_laws.specs.Orders.{ChangePlaces}
use Rattle.mta_set_laws.proofs.Slots.{Slot, moved, twice}

abbrev name_slot : Slot ReportedParts Attributes
name_slot = record { put = with_name; held = reported_held Actual }

abbrev number_slot : Slot ReportedParts ℕ
number_slot = record { put = with_number; held = reported_held Number }

abbrev indicators_slot : Slot ReportedParts BitString
indicators_slot = record { put = with_indicators; held = reported_held Indicators }

abbrev last_slot : Slot ReportedParts LastTrace
last_slot = record { put = with_last; held = reported_held Last }

abbrev intended_slot : Slot ReportedParts Attributes
intended_slot = record { put = with_intended; held = reported_held Intended }

abbrev supplementary_slot : Slot ReportedParts (List ℕ)
supplementary_slot = record { put = with_supplementary; held = reported_held Supplementary }

abbrev extensions_slot : Slot ReportedParts (List ExtFields)
extensions_slot = record { put = with_extensions; held = reported_held Extensions }

swapped : (j k : ReportedPart) (depth : ℕ) (s t u : ReportedParts) (tag : Tag) (content octets : List ℕ) (tag' : Tag)
    (content' octets' : List ℕ)
    → MakesReportedPart j depth s tag content octets t → MakesReportedPart k depth t tag' content' octets' u
    → reported_held j s ≡ false → reported_held k t ≡ false
    → (between : ReportedParts) × MakesReportedPart k depth s tag' content' octets' between
    × (reported_held k s ≡ false)
    × MakesReportedPart j depth between tag content octets u × (reported_held j between ≡ false)
swapped Actual Actual depth s t u g c o g' c' o' m n f e = absurd (twice name_slot (λ s x. refl) s t m e)
swapped Actual Number depth s t u g c o g' c' o' m n f e =
    moved name_slot number_slot ((λ s x. refl), (λ s y. refl), (λ s x y. refl)) s t u m n f e
swapped Actual Indicators depth s t u g c o g' c' o' m n f e =
    moved name_slot indicators_slot ((λ s x. refl), (λ s y. refl), (λ s x y. refl)) s t u m n f e
swapped Actual Last depth s t u g c o g' c' o' m n f e =
    moved name_slot last_slot ((λ s x. refl), (λ s y. refl), (λ s x y. refl)) s t u m n f e
swapped Actual Intended depth s t u g c o g' c' o' m n f e =
    moved name_slot intended_slot ((λ s x. refl), (λ s y. refl), (λ s x y. refl)) s t u m n f e
swapped Actual Supplementary depth s t u g c o g' c' o' m n f e =
    moved name_slot supplementary_slot ((λ s x. refl), (λ s y. refl), (λ s x y. refl)) s t u m n f e
swapped Actual Extensions depth s t u g c o g' c' o' m n f e =
    moved name_slot extensions_slot ((λ s x. refl), (λ s y. refl), (λ s x y. refl)) s t u m n f e
swapped Number Actual depth s t u g c o g' c' o' m n f e =
    moved number_slot name_slot ((λ s x. refl), (λ s y. refl), (λ s x y. refl)) s t u m n f e
swapped Number Number depth s t u g c o g' c' o' m n f e = absurd (twice number_slot (λ s x. refl) s t m e)
swapped Number Indicators depth s t u g c o g' c' o' m n f e =
    moved number_slot indicators_slot ((λ s x. refl), (λ s y. refl), (λ s x y. refl)) s t u m n f e
swapped Number Last depth s t u g c o g' c' o' m n f e =
    moved number_slot last_slot ((λ s x. refl), (λ s y. refl), (λ s x y. refl)) s t u m n f e
swapped Number Intended depth s t u g c o g' c' o' m n f e =
    moved number_slot intended_slot ((λ s x. refl), (λ s y. refl), (λ s x y. refl)) s t u m n f e
swapped Number Supplementary depth s t u g c o g' c' o' m n f e =
    moved number_slot supplementary_slot ((λ s x. refl), (λ s y. refl), (λ s x y. refl)) s t u m n f e
swapped Number Extensions depth s t u g c o g' c' o' m n f e =
    moved number_slot extensions_slot ((λ s x. refl), (λ s y. refl), (λ s x y. refl)) s t u m n f e
swapped Indicators Actual depth s t u g c o g' c' o' m n f e =
    moved indicators_slot name_slot ((λ s x. refl), (λ s y. refl), (λ s x y. refl)) s t u m n f e
swapped Indicators Number depth s t u g c o g' c' o' m n f e =
    moved indicators_slot number_slot ((λ s x. refl), (λ s y. refl), (λ s x y. refl)) s t u m n f e
swapped Indicators Indicators depth s t u g c o g' c' o' m n f e = absurd (twice indicators_slot (λ s x. refl) s t m e)
swapped Indicators Last depth s t u g c o g' c' o' m n f e =
    moved indicators_slot last_slot ((λ s x. refl), (λ s y. refl), (λ s x y. refl)) s t u m n f e
swapped Indicators Intended depth s t u g c o g' c' o' m n f e =
    moved indicators_slot intended_slot ((λ s x. refl), (λ s y. refl), (λ s x y. refl)) s t u m n f e
swapped Indicators Supplementary depth s t u g c o g' c' o' m n f e =
    moved indicators_slot supplementary_slot ((λ s x. refl), (λ s y. refl), (λ s x y. refl)) s t u m n f e
swapped Indicators Extensions depth s t u g c o g' c' o' m n f e =
    moved indicators_slot extensions_slot ((λ s x. refl), (λ s y. refl), (λ s x y. refl)) s t u m n f e
swapped Last Actual depth s t u g c o g' c' o' m n f e =
    moved last_slot name_slot ((λ s x. refl), (λ s y. refl), (λ s x y. refl)) s t u m n f e
swapped Last Number depth s t u g c o g' c' o' m n f e =
    moved last_slot number_slot ((λ s x. refl), (λ s y. refl), (λ s x y. refl)) s t u m n f e
swapped Last Indicators depth s t u g c o g' c' o' m n f e =
    moved last_slot indicators_slot ((λ s x. refl), (λ s y. refl), (λ s x y. refl)) s t u m n f e
swapped Last Last depth s t u g c o g' c' o' m n f e = absurd (twice last_slot (λ s x. refl) s t m e)
swapped Last Intended depth s t u g c o g' c' o' m n f e =
    moved last_slot intended_slot ((λ s x. refl), (λ s y. refl), (λ s x y. refl)) s t u m n f e
swapped Last Supplementary depth s t u g c o g' c' o' m n f e =
    moved last_slot supplementary_slot ((λ s x. refl), (λ s y. refl), (λ s x y. refl)) s t u m n f e
swapped Last Extensions depth s t u g c o g' c' o' m n f e =
    moved last_slot extensions_slot ((λ s x. refl), (λ s y. refl), (λ s x y. refl)) s t u m n f e
swapped Intended Actual depth s t u g c o g' c' o' m n f e =
    moved intended_slot name_slot ((λ s x. refl), (λ s y. refl), (λ s x y. refl)) s t u m n f e
swapped Intended Number depth s t u g c o g' c' o' m n f e =
    moved intended_slot number_slot ((λ s x. refl), (λ s y. refl), (λ s x y. refl)) s t u m n f e
swapped Intended Indicators depth s t u g c o g' c' o' m n f e =
    moved intended_slot indicators_slot ((λ s x. refl), (λ s y. refl), (λ s x y. refl)) s t u m n f e
swapped Intended Last depth s t u g c o g' c' o' m n f e =
    moved intended_slot last_slot ((λ s x. refl), (λ s y. refl), (λ s x y. refl)) s t u m n f e
swapped Intended Intended depth s t u g c o g' c' o' m n f e = absurd (twice intended_slot (λ s x. refl) s t m e)
swapped Intended Supplementary depth s t u g c o g' c' o' m n f e =
    moved intended_slot supplementary_slot ((λ s x. refl), (λ s y. refl), (λ s x y. refl)) s t u m n f e
swapped Intended Extensions depth s t u g c o g' c' o' m n f e =
    moved intended_slot extensions_slot ((λ s x. refl), (λ s y. refl), (λ s x y. refl)) s t u m n f e
swapped Supplementary Actual depth s t u g c o g' c' o' m n f e =
    moved supplementary_slot name_slot ((λ s x. refl), (λ s y. refl), (λ s x y. refl)) s t u m n f e
swapped Supplementary Number depth s t u g c o g' c' o' m n f e =
    moved supplementary_slot number_slot ((λ s x. refl), (λ s y. refl), (λ s x y. refl)) s t u m n f e
swapped Supplementary Indicators depth s t u g c o g' c' o' m n f e =
    moved supplementary_slot indicators_slot ((λ s x. refl), (λ s y. refl), (λ s x y. refl)) s t u m n f e
swapped Supplementary Last depth s t u g c o g' c' o' m n f e =
    moved supplementary_slot last_slot ((λ s x. refl), (λ s y. refl), (λ s x y. refl)) s t u m n f e
swapped Supplementary Intended depth s t u g c o g' c' o' m n f e =
    moved supplementary_slot intended_slot ((λ s x. refl), (λ s y. refl), (λ s x y. refl)) s t u m n f e
swapped Supplementary Supplementary depth s t u g c o g' c' o' m n f e =
    absurd (twice supplementary_slot (λ s x. refl) s t m e)
swapped Supplementary Extensions depth s t u g c o g' c' o' m n f e =
    moved supplementary_slot extensions_slot ((λ s x. refl), (λ s y. refl), (λ s x y. refl)) s t u m n f e
swapped Extensions Actual depth s t u g c o g' c' o' m n f e =
    moved extensions_slot name_slot ((λ s x. refl), (λ s y. refl), (λ s x y. refl)) s t u m n f e
swapped Extensions Number depth s t u g c o g' c' o' m n f e =
    moved extensions_slot number_slot ((λ s x. refl), (λ s y. refl), (λ s x y. refl)) s t u m n f e
swapped Extensions Indicators depth s t u g c o g' c' o' m n f e =
    moved extensions_slot indicators_slot ((λ s x. refl), (λ s y. refl), (λ s x y. refl)) s t u m n f e
swapped Extensions Last depth s t u g c o g' c' o' m n f e =
    moved extensions_slot last_slot ((λ s x. refl), (λ s y. refl), (λ s x y. refl)) s t u m n f e
swapped Extensions Intended depth s t u g c o g' c' o' m n f e =
    moved extensions_slot intended_slot ((λ s x. refl), (λ s y. refl), (λ s x y. refl)) s t u m n f e
swapped Extensions Supplementary depth s t u g c o g' c' o' m n f e =
    moved extensions_slot supplementary_slot ((λ s x. refl), (λ s y. refl), (λ s x y. refl)) s t u m n f e
swapped Extensions Extensions depth s t u g c o g' c' o' m n f e = absurd (twice extensions_slot (λ s x. refl) s t m e)

pub reported_recipients_change : ChangePlaces MakesReported
reported_recipients_change depth s t u a b h k =
    let m = h.made in
    let n = k.made in
    let w = swapped m.part n.part depth s t u h.tag h.content a k.tag k.content b m.made n.made m.absent n.absent in (
      w.0,
      record {
        tag = k.tag;
        content = k.content;
        stands = k.stands;
        made = record { part = n.part; is_tag_of = n.is_tag_of; absent = w.2; made = w.1 };
      },
      record {
        tag = h.tag;
        content = h.content;
        stands = h.stands;
        made = record { part = m.part; is_tag_of = m.is_tag_of; absent = w.4; made = w.3 };
      },
    )
