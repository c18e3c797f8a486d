-- A recipient of whom is reported (X.411, PerRecipientReportTransferFields): a SET; and the SEQUENCE of 1 to 32,767 of
-- them.
use Rattle.std.specs.Prelude.{◌≡◌, ℕ, pos, Bool, true, false, List, [], ◌++◌, Option, Some}
use Rattle.std.specs.Prelude.{None, is_some, unwrap_or, Result, Ok, ◌&&◌, if◌then◌else◌}
use Rattle.std.specs.List.{flat_map}
use Rattle.mta_ber.specs.declared.fault.Fault.{Fault}
use Rattle.mta_ber.specs.declared.fault.Kind.TheVariants.{BadTag, Twice}
use Rattle.mta_ber.specs.declared.tag.Tag.{Tag}
use Rattle.mta_ber.specs.Bits.{BitString}
use Rattle.mta_ber.specs.Canon.{element, constructed, primitive, optional}
use Rattle.mta_ber.specs.Components.{SpellsComponents}
use Rattle.mta_ber.specs.Contents.{canon_int}
use Rattle.mta_ber.specs.Element.{Part}
use Rattle.mta_ber.specs.Explicit.{Spells}
use Rattle.mta_ber.specs.Forms.{is_primitive_tag, is_constructed_tag, components_under}
use Rattle.mta_ber.specs.Head.{◌>>=◌, fault}
use Rattle.mta_ber.specs.Parts.{is_tag, required}
use Rattle.mta_names.specs.declared.attributes.Attributes.{Attributes}
use Rattle.mta_names.specs.Lists.{list_in, SpellsList}
use Rattle.mta_names.specs.Names.{name_in, SpellsName, canonical_name, kept}
use Rattle.mta_names.specs.Strings.{Puts, number_in, SpellsNumber, item_step}
use Rattle.mta_fields.specs.declared.extension.ExtFields.{ExtFields}
use Rattle.mta_fields.specs.Traces.{raw_in}
use Rattle.mta_envelope_common.specs.ExtensionLists.{ext_list_in, SpellsExtList, canonical_ext_list}
use Rattle.mta_envelope_common.specs.Indicators.{indicators_in, SpellsIndicators, canonical_indicators}
use Rattle.mta_report_recipient.specs.declared.reported.ReportedPart.{ReportedPart}
use Rattle.mta_report_recipient.specs.declared.reported.ReportedPart.TheVariants.{Actual, Number, Indicators, Last}
use Rattle.mta_report_recipient.specs.declared.reported.ReportedPart.TheVariants.{Intended, Supplementary, Extensions}
use Rattle.mta_report_recipient.specs.declared.reported.ReportedParts.{ReportedParts}
use Rattle.mta_report_recipient.specs.declared.last.LastTrace.{LastTrace}
use Rattle.mta_report_recipient.specs.declared.reported.ReportedFields.{ReportedFields}
use Rattle.mta_report_recipient.specs.LastTraces.{last_in, SpellsLast, canonical_last}

abbrev pub reported_part_of : Tag → Option ReportedPart
reported_part_of t =
    if is_constructed_tag 2 0 t then Some Actual
    else if is_primitive_tag 2 1 t then Some Number
    else if is_tag 2 2 t then Some Indicators
    else if is_constructed_tag 2 3 t then Some Last
    else if is_constructed_tag 2 4 t then Some Intended
    else if is_tag 2 5 t then Some Supplementary
    else if is_constructed_tag 2 6 t then Some Extensions
    else None

-- whether a tag is that of a component
abbrev pub is_reported_tag : ReportedPart → Tag → Bool
is_reported_tag Actual t = is_constructed_tag 2 0 t
is_reported_tag Number t = is_primitive_tag 2 1 t
is_reported_tag Indicators t = is_tag 2 2 t
is_reported_tag Last t = is_constructed_tag 2 3 t
is_reported_tag Intended t = is_constructed_tag 2 4 t
is_reported_tag Supplementary t = is_tag 2 5 t
is_reported_tag Extensions t = is_constructed_tag 2 6 t

-- whether a component is there already
abbrev pub reported_held : ReportedPart → ReportedParts → Bool
reported_held Actual s = is_some s.name
reported_held Number s = is_some s.number
reported_held Indicators s = is_some s.indicators
reported_held Last s = is_some s.last
reported_held Intended s = is_some s.intended
reported_held Supplementary s = is_some s.supplementary
reported_held Extensions s = is_some s.extensions

abbrev pub with_name : ReportedParts → Attributes → ReportedParts
with_name s x = record s { name = Some x }

abbrev pub with_number : ReportedParts → ℕ → ReportedParts
with_number s x = record s { number = Some x }

abbrev pub with_indicators : ReportedParts → BitString → ReportedParts
with_indicators s x = record s { indicators = Some x }

abbrev pub with_last : ReportedParts → LastTrace → ReportedParts
with_last s x = record s { last = Some x }

abbrev pub with_intended : ReportedParts → Attributes → ReportedParts
with_intended s x = record s { intended = Some x }

abbrev pub with_supplementary : ReportedParts → List ℕ → ReportedParts
with_supplementary s x = record s { supplementary = Some x }

abbrev pub with_extensions : ReportedParts → List ExtFields → ReportedParts
with_extensions s x = record s { extensions = Some x }

abbrev pub reported_part_in : ReportedPart → ReportedParts → Part → Result ReportedParts Fault
reported_part_in Actual s p = name_in p >>= λ x. Ok (with_name s x)
reported_part_in Number s p = number_in 1 32767 p >>= λ x. Ok (with_number s x)
reported_part_in Indicators s p = indicators_in p >>= λ x. Ok (with_indicators s x)
reported_part_in Last s p = last_in p >>= λ x. Ok (with_last s x)
reported_part_in Intended s p = name_in p >>= λ x. Ok (with_intended s x)
reported_part_in Supplementary s p = raw_in p >>= λ x. Ok (with_supplementary s x)
reported_part_in Extensions s p = ext_list_in p >>= λ x. Ok (with_extensions s x)

-- each component may stand once
abbrev pub reported_step_of : Option ReportedPart → ReportedParts → Part → Result ReportedParts Fault
reported_step_of None s p = fault p.at BadTag
reported_step_of (Some k) s p = if reported_held k s then fault p.at Twice else reported_part_in k s p

unfoldable pub reported_step : ReportedParts → Part → Result ReportedParts Fault
reported_step s p = reported_step_of (reported_part_of p.tag) s p

abbrev pub no_reported : ReportedParts
no_reported = record {
  name = None;
  number = None;
  indicators = None;
  last = None;
  intended = None;
  supplementary =
      None;
  extensions = None;
}

abbrev pub reported : Attributes → ℕ → BitString → LastTrace → ReportedParts → ReportedFields
reported name number indicators last s = record {
  name = name;
  number = number;
  indicators = indicators;
  arrival = last.arrival;
  converted = last.converted;
  outcome = last.outcome;
  intended = s.intended;
  supplementary = s.supplementary;
  extensions = unwrap_or s.extensions [];
}

-- whether the required components are there
abbrev pub reported_complete : ReportedParts → Bool
reported_complete s = is_some s.name && is_some s.number && is_some s.indicators && is_some s.last

-- the required components are there
abbrev pub reported_from : ReportedParts → ℕ → Result ReportedFields Fault
reported_from s at = required s.name at >>= λ name. required s.number at >>= λ number. required s.indicators at >>=
    λ indicators. required s.last at >>= λ last. Ok (reported name number indicators last s)

unfoldable pub reported_in : Part → Result ReportedFields Fault
reported_in p = components_under 0 17 reported_step no_reported p >>= λ s. reported_from s p.at

-- ---- what spells a recipient of whom is reported

abbrev pub MakesReportedPart : ReportedPart → ℕ → ReportedParts → Tag → List ℕ → List ℕ
    → ReportedParts → Type 0
MakesReportedPart Actual depth s tag content octets after =
    Puts (SpellsName depth tag.constructed content) (with_name s) after
MakesReportedPart Number depth s tag content octets after =
    Puts (SpellsNumber 1 32767 tag.constructed content) (with_number s) after
MakesReportedPart Indicators depth s tag content octets after =
    Puts (SpellsIndicators depth tag.constructed content) (with_indicators s) after
MakesReportedPart Last depth s tag content octets after =
    Puts (SpellsLast depth tag.constructed content) (with_last s) after
MakesReportedPart Intended depth s tag content octets after =
    Puts (SpellsName depth tag.constructed content) (with_intended s) after
MakesReportedPart Supplementary depth s tag content octets after =
    Puts (λ x. x ≡ octets) (with_supplementary s) after
MakesReportedPart Extensions depth s tag content octets after =
    Puts (SpellsExtList depth tag.constructed content) (with_extensions s) after

pub record MakesReported (depth : ℕ) (before : ReportedParts) (tag : Tag) (content octets : List ℕ)
    (after : ReportedParts) : Type 0 where
  pub part : ReportedPart
  pub is_tag_of : is_reported_tag part tag ≡ true
  pub absent : reported_held part before ≡ false
  pub made : MakesReportedPart part depth before tag content octets after

-- a SET of its components in any order, each at most once
pub record SpellsReported (depth : ℕ) (tag : Tag) (content : List ℕ) (v : ReportedFields) : Type 0 where
  pub is_tag_of : is_constructed_tag 0 17 tag ≡ true
  pub parts : ReportedParts
  pub spelled : SpellsComponents MakesReported depth no_reported content parts
  pub name : Attributes
  pub name_is : parts.name ≡ Some name
  pub number : ℕ
  pub number_is : parts.number ≡ Some number
  pub indicators : BitString
  pub indicators_is : parts.indicators ≡ Some indicators
  pub last : LastTrace
  pub last_is : parts.last ≡ Some last
  pub value : v ≡ reported name number indicators last parts

-- ---- lists of them

abbrev pub is_set : Tag → Bool
is_set t = is_tag 0 17 t

abbrev pub reported_list_step : List ReportedFields → Part → Result (List ReportedFields) Fault
reported_list_step vs p = item_step is_set reported_in vs p

unfoldable pub reported_list_in : Part → Result (List ReportedFields) Fault
reported_list_in p = list_in is_set reported_in 1 32767 p

abbrev pub SpellsReportedItem : Spells ReportedFields
SpellsReportedItem depth tag content octets v = SpellsReported depth tag content v

abbrev pub SpellsReportedList : ℕ → Bool → List ℕ → List ReportedFields → Type 0
SpellsReportedList depth constructed content vs =
    SpellsList is_set SpellsReportedItem 1 32767 depth constructed content vs

-- ---- the one spelling that is written

abbrev pub canonical_intended : Attributes → List ℕ
canonical_intended name = canonical_name (constructed 2 4) name

abbrev pub reported_content : ReportedFields → List ℕ
reported_content v =
    canonical_name (constructed 2 0) v.name
    ++ canon_int (primitive 2 1) (pos v.number)
    ++ canonical_indicators (primitive 2 2) v.indicators
    ++ canonical_last v.arrival v.converted v.outcome
    ++ optional canonical_intended v.intended
    ++ optional kept v.supplementary
    ++ canonical_ext_list (constructed 2 6) v.extensions

unfoldable pub canonical_reported : ReportedFields → List ℕ
canonical_reported v = element (constructed 0 17) (reported_content v)

-- the recipients, under [0]
unfoldable pub canonical_reported_list : List ReportedFields → List ℕ
canonical_reported_list vs = element (constructed 2 0) (flat_map canonical_reported vs)
