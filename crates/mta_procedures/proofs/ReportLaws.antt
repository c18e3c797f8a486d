-- A report that is made is one, with all parts in their ranges.
use Rattle.std.proofs.Common.{◌≡◌, ℕ, zero, suc, ◌+◌, ◌/◌, ◌%◌, ◌<◌, Bool, true, false, List, [], ◌∷◌, length, Option}
use Rattle.std.proofs.Common.{Some, None, refl, ◌∙◌, ap, arith, length-append, map}
use Rattle.std.specs.Prelude.{IfSome, reverse, nat_lt, if◌then◌else◌, ◌||◌}
use mathlib.Core.List.{reverse_aux}
use Rattle.std.specs.List.{list_all}
use Rattle.std.specs.Option.{option_map}
use Rattle.std.proofs.lemmas.Bool.{and_from, lt-ltb}
use Rattle.std.proofs.lemmas.List.Folds.{list_all-append}
use Rattle.mta_ber.specs.declared.text.TextClass.TheVariants.{Ia5}
use Rattle.mta_ber.specs.Bits.{BitString, bit}
use Rattle.mta_ber.specs.Strings.{IsText, in_class}
use Rattle.mta_names.specs.declared.attributes.Attributes.{Attributes}
use Rattle.mta_names.specs.Values.{Each, IsName}
use Rattle.mta_fields.specs.declared.expansion.ExpansionFields.{ExpansionFields}
use Rattle.mta_fields.specs.Laws.{IsWholeExpansion}
use Rattle.mta_envelope_common.specs.Indicators.{IsIndicators}
use Rattle.mta_envelope_recipient.specs.declared.recipient.RecipientFields.{RecipientFields}
use Rattle.mta_envelope.specs.declared.envelope.EnvelopeFields.{EnvelopeFields}
use Rattle.mta_report_recipient.specs.declared.outcome.Outcome.{Outcome}
use Rattle.mta_report.specs.declared.fields.ReportFields.{ReportFields}
use Rattle.mta_report.specs.Laws.{IsWholeReport}
use Rattle.mta_tables.specs.declared.entry.MailList.{MailList}
use Rattle.mta_tables.specs.Tables.{TablesValue}
use Rattle.mta_tables.specs.Hops.{list_named}
use Rattle.mta_procedures.specs.Bits.{with_set, reported_indicators}
use Rattle.mta_procedures.specs.Histories.{name_of, lists_behind}
use Rattle.mta_procedures.specs.Laws.{IsReportable}
use Rattle.mta_procedures.specs.Reports.{digits, report_id, report_to, report_of}
use Rattle.mta_procedures.specs.Walks.{walk, walked_to, report_walk}
use Rattle.mta_procedures.proofs.SetLaws.{set_fits}

-- ---- identifiers

length-digits : (k n : ℕ) → length (digits k n) ≡ k
length-digits zero n = refl
length-digits (suc k) n = length-append (digits k (n / 10)) ((48 + n % 10) ∷ [])
    ∙ ap (λ x. x + 1) (length-digits k (n / 10)) ∙ (let e : k + 1 ≡ suc k = omega arith in e)

digits_are_ia5 : (k n : ℕ) → list_all (in_class Ia5) (digits k n) ≡ true
digits_are_ia5 zero n = refl
digits_are_ia5 (suc k) n =
    let small : 48 + n % 10 < 128 = omega arith in
    list_all-append (in_class Ia5) (digits k (n / 10)) ((48 + n % 10) ∷ [])
    ∙ and_from (list_all (in_class Ia5) (digits k (n / 10))) (list_all (in_class Ia5) ((48 + n % 10) ∷ []))
    (digits_are_ia5 k (n / 10)) (and_from (nat_lt (48 + n % 10) 128) true (lt-ltb (48 + n % 10) 128 small) refl)

local_fits : (number : ℕ) → IsText Ia5 1 32 (82 ∷ digits 10 number)
local_fits number = let e = length-digits 10 number in
    record { characters = digits_are_ia5 10 number; at_least = omega (arith, e); at_most = omega (arith, e) }

-- ---- destinations

each_turned : {X : Type 0} (P : X → Type 0) (xs ys : List X) → Each P xs → Each P ys → Each P (reverse_aux xs ys)
each_turned P [] ys h k = k
each_turned P (x ∷ xs) ys h k = each_turned P xs (x ∷ ys) h.1 (h.0, k)

pub each_reversed : {X : Type 0} (P : X → Type 0) (xs : List X) → Each P xs → Each P (reverse xs)
each_reversed P xs h = each_turned P xs [] h tt

names_of : (xs : List ExpansionFields) → Each IsWholeExpansion xs → Each IsName (map name_of xs)
names_of [] h = tt
names_of (x ∷ xs) h = (h.0.name, names_of xs h.1)

kept_or_passed : (back : Bool) (further : Option Attributes) → IfSome further IsName
    → IfSome (if back then further else None) IsName
kept_or_passed true further h = h
kept_or_passed false further h = tt

walked_name : (n : Attributes) (l : Option MailList) (further : Option Attributes) → IsName n → IfSome further IsName
    → IfSome (walked_to n l further) IsName
walked_name n None further name h = name
walked_name n (Some l) further name h = kept_or_passed l.back further h

walk_name : (t : TablesValue) (originator : Attributes) (ns : List Attributes) → IsName originator → Each IsName ns
    → IfSome (walk t originator ns) IsName
walk_name t originator [] o h = o
walk_name t originator (n ∷ ns) o h =
    walked_name n (list_named t n) (walk t originator ns) h.0 (walk_name t originator ns o h.1)

-- ---- indicators

reported_fit : (b : BitString) → IsIndicators b → IsIndicators (reported_indicators b)
unfolding reported_indicators
reported_fit b h = at (bit b 1 || bit b 2) h
  where
    at : (asked : Bool) → IsIndicators b → IsIndicators (if asked then b else with_set 2 b)
    at true i = i
    at false i = set_fits 2 b (omega arith) i

-- ---- reports

pub made_report : (t : TablesValue) (number arrival : ℕ) (e : EnvelopeFields) (r : RecipientFields) (outcome : Outcome)
    (destination : Attributes) → IsReportable t number arrival e r outcome → IsName destination
    → IsWholeReport (report_to t number arrival e r outcome destination)
unfolding report_id
made_report t number arrival e r outcome destination h name = record {
  id = record { domain = h.domain; local = local_fits number };
  destination = name;
  trace = tt;
  extensions = tt;
  subject = h.envelope.id;
  content_extensions = tt;
  recipients = (
    record {
      name = h.recipient.name;
      reported = record {
        number = (h.recipient.recipient.some, h.recipient.recipient.small);
        indicators = reported_fit r.indicators h.recipient.recipient.indicators;
        arrival = h.moment;
        converted = tt;
        outcome = h.outcome_fits;
        supplementary = tt;
      };
      intended = tt;
      extensions = tt;
    },
    tt,
  );
  report = record {
    trace = omega arith;
    subject_trace = tt;
    eits = tt;
    content_kind = h.envelope.envelope.content_kind;
    content_id = h.envelope.envelope.content_id;
    returned = tt;
    additional = tt;
    recipients = record { some = omega arith; few = omega arith };
  };
}

mapped : (walked : Option Attributes) (make : Attributes → ReportFields) → IfSome walked IsName
    → ((d : Attributes) → IsName d → IsWholeReport (make d)) → IfSome (option_map make walked) IsWholeReport
mapped None make h f = tt
mapped (Some d) make h f = f d h

destination_is_name : (t : TablesValue) (e : EnvelopeFields) → IsName e.originator → Each IsWholeExpansion e.history
    → IfSome (report_walk t e) IsName
unfolding report_walk
destination_is_name t e o h = walk_name t e.originator (lists_behind e) o
    (each_reversed IsName (map name_of e.history) (names_of e.history h))

pub made_report_is_whole : (t : TablesValue) (number arrival : ℕ) (e : EnvelopeFields) (r : RecipientFields)
    (outcome : Outcome) → IsReportable t number arrival e r outcome
    → IfSome (report_of t number arrival e r outcome) IsWholeReport
unfolding report_of
made_report_is_whole t number arrival e r outcome h =
    mapped (report_walk t e) (report_to t number arrival e r outcome)
    (destination_is_name t e h.envelope.originator h.history)
    (λ d name. made_report t number arrival e r outcome d h name)
