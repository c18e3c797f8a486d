-- What was read of a recipient of whom is reported stands in the level of its place, so one that was read is written so
-- that it is read again.
use Rattle.std.proofs.Common.{◌≡◌, ℕ, ◌+◌, ◌≤◌, Bool, true, List, [], sym, subst, arith}
use Rattle.std.specs.Prelude.{IfSome}
use Rattle.mta_ber.specs.declared.tag.Tag.{Tag}
use Rattle.mta_ber.specs.Spelling.{Stands}
use Rattle.mta_names.specs.declared.attributes.Attributes.{Attributes}
use Rattle.mta_names.specs.Laws.{IsRawAt, KeepsName}
use Rattle.mta_names.specs.Strings.{AddsItem}
use Rattle.mta_names.specs.Values.{Each, IsName}
use Rattle.mta_names.proofs.Kept.{KeepsAt, spelled_kept, some_so, name_kept}
use Rattle.mta_names.proofs.NameLaws.{name_is}
use Rattle.mta_fields.proofs.Tagged.{none_tagged_begins}
use Rattle.mta_names.proofs.Tools.{each_more}
use Rattle.mta_fields.specs.ExtensionFields.{IsExtField}
use Rattle.mta_fields.specs.Laws.{KeepsExtField}
use Rattle.mta_envelope_common.proofs.Kept.{AreKeptFields, ext_list_kept, fields_or_none_kept}
use Rattle.mta_report_recipient.specs.declared.last.LastPart.{LastPart}
use Rattle.mta_report_recipient.specs.declared.last.LastPart.TheVariants.{Arrival, ReportType, Converted}
use Rattle.mta_report_recipient.specs.declared.last.LastParts.{LastParts}
use Rattle.mta_report_recipient.specs.declared.last.LastTrace.{LastTrace}
use Rattle.mta_report_recipient.specs.declared.reported.ReportedFields.{ReportedFields}
use Rattle.mta_report_recipient.specs.declared.reported.ReportedPart.{ReportedPart}
use Rattle.mta_report_recipient.specs.declared.reported.ReportedPart.TheVariants.{Actual, Number, Indicators, Last}
use Rattle.mta_report_recipient.specs.declared.reported.ReportedPart.TheVariants.{Intended, Supplementary, Extensions}
use Rattle.mta_report_recipient.specs.declared.reported.ReportedParts.{ReportedParts}
use Rattle.mta_report_recipient.specs.LastTraces.{is_last_tag, no_last, MakesLastPart, MakesLast, SpellsLast}
use Rattle.mta_report_recipient.specs.Laws.{IsWholeReported, KeepsReported, ReadRecipientsAreKept}
use Rattle.mta_report_recipient.specs.Laws.{ReadRecipientsAreReadAgain, NoRecipientBeginsAnother}
use Rattle.mta_report_recipient.specs.ReportedRecipients.{is_reported_tag, no_reported, reported, reported_in}
use Rattle.mta_report_recipient.specs.ReportedRecipients.{MakesReportedPart, MakesReported, SpellsReported, is_set}
use Rattle.mta_report_recipient.specs.ReportedRecipients.{SpellsReportedItem, SpellsReportedList}
use Rattle.mta_report_recipient.specs.Values.{IsReported}
use Rattle.mta_report_recipient.proofs.ReportedAgain.{reported_again}
use Rattle.mta_report_recipient.proofs.ReportedLaws.{reported_is, reported_full}

-- ---- last traces

abbrev KeepsConverted : ℕ → LastParts → Type 0
KeepsConverted depth s = IfSome s.converted (IsRawAt depth 1 5)

last_part : (k : LastPart) (depth : ℕ) (s t : LastParts) (tag : Tag) (content octets : List ℕ)
    → is_last_tag k tag ≡ true → Stands depth tag content octets → MakesLastPart k depth s tag content octets t
    → KeepsConverted depth s → KeepsConverted depth t
last_part Arrival depth s t tag content octets is stands m h = subst (KeepsConverted depth) (sym m.after_is) h
last_part ReportType depth s t tag content octets is stands m h = subst (KeepsConverted depth) (sym m.after_is) h
last_part Converted depth s t tag content octets is stands m h =
    subst (KeepsConverted depth) (sym m.after_is)
    (subst (IsRawAt depth 1 5) (sym m.value_spelled)
    (record { tag = tag; content = content; is_tag_of = is; stands = stands }))

last_more : (depth : ℕ) → KeepsAt MakesLast (KeepsConverted depth) depth
last_more depth s t tag content octets stands m h =
    last_part m.part depth s t tag content octets m.is_tag_of stands m.made h

last_kept : (depth : ℕ) (c : Bool) (content : List ℕ) (v : LastTrace) → SpellsLast depth c content v
    → IfSome v.converted (IsRawAt (depth + 1) 1 5)
last_kept depth c content v h =
    let k = spelled_kept MakesLast (KeepsConverted (depth + 1)) depth
    (last_more (depth + 1)) no_last h.parts content h.spelled tt in
    subst (λ (x : LastTrace). IfSome x.converted (IsRawAt (depth + 1) 1 5)) (sym h.value) k

-- ---- recipients

abbrev IsKeptName : ℕ → Attributes → Type 0
IsKeptName depth n = KeepsName depth n × IsName n

abbrev KeepsLast : ℕ → LastTrace → Type 0
KeepsLast depth v = IfSome v.converted (IsRawAt (depth + 1) 1 5)

record Holds (depth : ℕ) (s : ReportedParts) : Type 0 where
  name : IfSome s.name (IsKeptName depth)
  last : IfSome s.last (KeepsLast depth)
  intended : IfSome s.intended (IsKeptName depth)
  supplementary : IfSome s.supplementary (IsRawAt depth 2 5)
  extensions : IfSome s.extensions (AreKeptFields (depth + 1))

part_kept : (k : ReportedPart) (depth : ℕ) (s t : ReportedParts) (tag : Tag) (content octets : List ℕ) → depth + 3 ≤ 16
    → is_reported_tag k tag ≡ true → Stands depth tag content octets → MakesReportedPart k depth s tag content octets t
    → Holds depth s → Holds depth t
part_kept Actual depth s t tag content octets d is stands m h =
    subst (Holds depth) (sym m.after_is)
    (record {
      name = (
        name_kept depth tag.constructed content m.value m.value_spelled,
        name_is depth tag.constructed content m.value m.value_spelled,
      );
      last = h.last;
      intended = h.intended;
      supplementary = h.supplementary;
      extensions = h.extensions;
    })
part_kept Number depth s t tag content octets d is stands m h =
    subst (Holds depth) (sym m.after_is)
    (record {
      name = h.name;
      last = h.last;
      intended = h.intended;
      supplementary = h.supplementary;
      extensions =
          h.extensions;
    })
part_kept Indicators depth s t tag content octets d is stands m h =
    subst (Holds depth) (sym m.after_is)
    (record {
      name = h.name;
      last = h.last;
      intended = h.intended;
      supplementary = h.supplementary;
      extensions =
          h.extensions;
    })
part_kept Last depth s t tag content octets d is stands m h =
    subst (Holds depth) (sym m.after_is)
    (record {
      name = h.name;
      last = last_kept depth tag.constructed content m.value m.value_spelled;
      intended =
          h.intended;
      supplementary = h.supplementary;
      extensions = h.extensions;
    })
part_kept Intended depth s t tag content octets d is stands m h =
    subst (Holds depth) (sym m.after_is)
    (record {
      name = h.name;
      last = h.last;
      intended = (
        name_kept depth tag.constructed content m.value m.value_spelled,
        name_is depth tag.constructed content m.value m.value_spelled,
      );
      supplementary = h.supplementary;
      extensions =
          h.extensions;
    })
part_kept Supplementary depth s t tag content octets d is stands m h =
    subst (Holds depth) (sym m.after_is)
    (record {
      name = h.name;
      last = h.last;
      intended = h.intended;
      supplementary =
          subst (IsRawAt depth 2 5) (sym m.value_spelled)
          (record { tag = tag; content = content; is_tag_of = is; stands = stands });
      extensions = h.extensions;
    })
part_kept Extensions depth s t tag content octets d is stands m h =
    subst (Holds depth) (sym m.after_is)
    (record {
      name = h.name;
      last = h.last;
      intended = h.intended;
      supplementary = h.supplementary;
      extensions =
          ext_list_kept depth tag.constructed content m.value m.value_spelled d;
    })

kept : (depth : ℕ) → depth + 3 ≤ 16 → KeepsAt MakesReported (Holds depth) depth
kept depth d s t tag content octets stands m h =
    part_kept m.part depth s t tag content octets d m.is_tag_of stands m.made h

pub reported_kept : ReadRecipientsAreKept
reported_kept depth c content v h d =
    let k = spelled_kept MakesReported (Holds (depth + 1)) depth
    (kept (depth + 1) (omega arith)) no_reported h.parts content h.spelled
    (record { name = tt; last = tt; intended = tt; supplementary = tt; extensions = tt }) in
    let made = reported h.name h.number h.indicators h.last h.parts in
    let level : depth + 1 + 1 ≡ depth + 2 = omega arith in
    let name : IsKeptName (depth + 1) h.name = subst (λ o. IfSome o (IsKeptName (depth + 1))) h.name_is k.name in
    let last : KeepsLast (depth + 1) h.last = subst (λ o. IfSome o (KeepsLast (depth + 1))) h.last_is k.last in
    let fields = fields_or_none_kept (depth + 1 + 1) h.parts.extensions k.extensions in
    subst (λ (x : ReportedFields). KeepsReported depth x × IsWholeReported x) {x = made} (sym h.value) (
      record {
        name = name.0;
        converted = subst (λ n. IfSome made.converted (IsRawAt n 1 5)) level last;
        intended = some_so (IsKeptName (depth + 1)) (KeepsName (depth + 1)) (λ x i. i.0) h.parts.intended k.intended;
        supplementary = k.supplementary;
        extensions = subst (λ n. Each (KeepsExtField n) made.extensions) level fields.kept;
      },
      record {
        name = name.1;
        reported = subst IsReported h.value (reported_is depth c content v h);
        intended = some_so (IsKeptName (depth + 1)) IsName (λ x i. i.1) h.parts.intended k.intended;
        extensions = fields.fields;
      },
    )

pub read_reported_again : ReadRecipientsAreReadAgain
read_reported_again depth c content v h d = let k = reported_kept depth c content v h (omega arith) in
    reported_again depth v k.1 k.0 d

-- ---- lists of recipients

pub record AreKeptRecipients (depth : ℕ) (vs : List ReportedFields) : Type 0 where
  pub recipients : Each IsWholeReported vs
  pub kept : Each (KeepsReported depth) vs

reported_more : (depth : ℕ) → depth + 4 ≤ 16
    → KeepsAt (AddsItem is_set SpellsReportedItem) (AreKeptRecipients depth) depth
reported_more depth d s t tag content octets stands m h =
    let k = reported_kept depth tag content m.item m.spelled d in
    subst (AreKeptRecipients depth) (sym m.after_is)
    (record {
      recipients = each_more IsWholeReported s m.item h.recipients k.1;
      kept =
          each_more (KeepsReported depth) s m.item h.kept k.0;
    })

pub reported_list_kept : (depth : ℕ) (c : Bool) (content : List ℕ) (vs : List ReportedFields)
    → SpellsReportedList depth c content vs → depth + 5 ≤ 16 → AreKeptRecipients (depth + 1) vs
reported_list_kept depth c content vs h d =
    spelled_kept (AddsItem is_set SpellsReportedItem) (AreKeptRecipients (depth + 1)) depth
    (reported_more (depth + 1) (omega arith)) [] vs content h.spelled (record { recipients = tt; kept = tt })

pub no_reported_begins : NoRecipientBeginsAnother
no_reported_begins = none_tagged_begins reported_in SpellsReported (λ v p d h. reported_full v p h)
