-- What may be done with an item of each kind; reports and expansions come to an end.
use Rattle.std.proofs.Common.{◌≡◌, ℕ, ◌<◌, ◌≤◌, Bool, true, false, List, [], ◌∷◌, length, Option, Some, None, refl, sym}
use Rattle.std.proofs.Common.{◌∙◌, ap, subst, ◌&&◌, arith}
use Rattle.std.specs.Prelude.{unwrap_or}
use Rattle.std.specs.Option.{option_map}
use Rattle.std.proofs.lemmas.Bool.{both_ways, leb-false}
use Rattle.mta_names.specs.declared.attributes.Attributes.{Attributes}
use Rattle.mta_envelope_recipient.specs.declared.recipient.RecipientFields.{RecipientFields}
use Rattle.mta_envelope.specs.declared.envelope.EnvelopeFields.{EnvelopeFields}
use Rattle.mta_envelope.specs.Messages.{MessageValue}
use Rattle.mta_report_recipient.specs.declared.outcome.Outcome.{Outcome}
use Rattle.mta_report.specs.declared.fields.ReportFields.{ReportFields}
use Rattle.mta_tables.specs.declared.hop.Hop.{Hop}
use Rattle.mta_tables.specs.declared.hop.Hop.TheVariants as Hops
use Rattle.mta_tables.specs.Hops.{best_hop}
use Rattle.mta_tables.specs.Tables.{TablesValue}
use Rattle.mta_procedures.specs.declared.case.Case.{Case}
use Rattle.mta_procedures.specs.declared.case.Case.TheVariants.{Looped, CriticalExtension, NoRoute, Expired, Deferred}
use Rattle.mta_procedures.specs.declared.case.Case.TheVariants.{ListInHistory, ListProhibited, PosterNotPermitted}
use Rattle.mta_procedures.specs.declared.case.Case.TheVariants.{FullHistory, LongMembersCopy, ToList, ToMailbox}
use Rattle.mta_procedures.specs.declared.case.Case.TheVariants.{LongCopy, ToPeer}
use Rattle.mta_procedures.specs.declared.verdict.Verdict.{Verdict}
use Rattle.mta_procedures.specs.declared.verdict.Verdict.TheVariants.{Deliver, Expand, Back}
use Rattle.mta_procedures.specs.Copies.{longest_copy}
use Rattle.mta_procedures.specs.Ends.{IsOfMessages, IsOfProbes, IsOfReports, MessagesHaveTheirVerdicts}
use Rattle.mta_procedures.specs.Ends.{ProbesHaveTheirVerdicts, ReportsMakeNoReports, DeliveredMessagesAreAtMailboxes}
use Rattle.mta_procedures.specs.Ends.{DeliveredReportsAreAtMailboxes, PassedReportsHaveDestinations, IsExpanded}
use Rattle.mta_procedures.specs.Ends.{ExpandedMessagesHaveRoom, MakesReportTo, ReportsGoWhereTheWalkEnds}
use Rattle.mta_procedures.specs.Facts.{Facts, facts_of_message, facts_of_probe, facts_of_report}
use Rattle.mta_procedures.specs.Histories.{is_in_history, longest_history}
use Rattle.mta_procedures.specs.Reports.{report_to, report_of}
use Rattle.mta_procedures.specs.Situations.{Situation}
use Rattle.mta_procedures.specs.Traces.{longest_trace}
use Rattle.mta_procedures.specs.Verdicts.{applies, cases, first_case, leads_to_list, leads_to_mailbox, place_of}
use Rattle.mta_procedures.specs.Verdicts.{message_column, probe_column, report_column, verdict_of_message}
use Rattle.mta_procedures.specs.Verdicts.{verdict_of_probe, verdict_of_report}
use Rattle.mta_procedures.specs.Walks.{report_walk}
use Rattle.mta_procedures.proofs.CaseLaws.{first_applies}
use Rattle.mta_procedures.proofs.RelayLaws.{not_passed, not_looped, short_copy, short_trace}

-- ---- kinds

of_messages : (hop : Hop) (deferral : ℕ) (c : Case) → IsOfMessages (message_column hop deferral c)
of_messages hop deferral Looped = tt
of_messages hop deferral any2 = tt

of_probes : (hop : Hop) (c : Case) → IsOfProbes (probe_column hop c)
of_probes hop Looped = tt
of_probes hop any1 = tt

of_reports : (hop : Hop) (back : Bool) (c : Case) → IsOfReports (report_column hop back c)
of_reports hop true ToList = tt
of_reports hop false ToList = tt
of_reports hop back any2 = tt

pub messages_have_theirs : MessagesHaveTheirVerdicts
unfolding verdict_of_message
messages_have_theirs format s m r members =
    of_messages (best_hop s.tables r.name) (unwrap_or m.envelope.deferral 0)
    (first_case (facts_of_message format s m r members))

pub probes_have_theirs : ProbesHaveTheirVerdicts
unfolding verdict_of_probe
probes_have_theirs format s e r = of_probes (best_hop s.tables r.name) (first_case (facts_of_probe format s e r))

pub no_reports_on_reports : ReportsMakeNoReports
unfolding verdict_of_report
no_reports_on_reports s p back = of_reports (best_hop s.tables p.destination) back (first_case (facts_of_report s p))

-- ---- mailboxes

mailbox_is : (hop : Hop) → leads_to_mailbox hop ≡ true → hop ≡ Hops.Local (place_of hop)
mailbox_is (Hops.Local place) e = refl
mailbox_is any0 e = absurd cc

message_delivered : (hop : Hop) (deferral place : ℕ) (c : Case) → message_column hop deferral c ≡ Deliver place
    → (c ≡ ToMailbox) × (place_of hop ≡ place)
message_delivered hop deferral place ToMailbox e = (refl, cc)
message_delivered hop deferral place any3 e = absurd cc

report_delivered : (hop : Hop) (back : Bool) (place : ℕ) (c : Case) → report_column hop back c ≡ Deliver place
    → (c ≡ ToMailbox) × (place_of hop ≡ place)
report_delivered hop true place ToList e = absurd cc
report_delivered hop false place ToList e = absurd cc
report_delivered hop back place ToMailbox e = (refl, cc)
report_delivered hop back place any3 e = absurd cc

at_mailbox : (f : Facts) (place : ℕ) → (first_case f ≡ ToMailbox) × (place_of f.hop ≡ place) → f.hop ≡ Hops.Local place
at_mailbox f place h =
    let i = first_applies f in
    mailbox_is f.hop (sym (ap (applies f) h.0) ∙ i.applies_so) ∙ ap (λ p. Hops.Local p) h.1

pub messages_at_mailboxes : DeliveredMessagesAreAtMailboxes
unfolding verdict_of_message
messages_at_mailboxes format s m r members place e =
    let f = facts_of_message format s m r members in
    at_mailbox f place (message_delivered (best_hop s.tables r.name) (unwrap_or m.envelope.deferral 0) place
    (first_case f) e)

pub reports_at_mailboxes : DeliveredReportsAreAtMailboxes
unfolding verdict_of_report
reports_at_mailboxes s p back place e =
    let f = facts_of_report s p in
    at_mailbox f place (report_delivered (best_hop s.tables p.destination) back place (first_case f) e)

-- ---- reports that are passed back

column_passed : (hop : Hop) (back : Bool) (c : Case) → report_column hop back c ≡ Back → back ≡ true
column_passed hop true c e = refl
column_passed hop false Looped e = absurd cc
column_passed hop false any2 e = absurd cc

pub passed_reports : PassedReportsHaveDestinations
unfolding verdict_of_report
passed_reports s p back e = column_passed (best_hop s.tables p.destination) back (first_case (facts_of_report s p)) e

-- ---- expansions

-- a case in which a list is expanded
abbrev is_expansion : Case → Bool
is_expansion ListInHistory = true
is_expansion ToList = true
is_expansion _ = false

-- the cases of lists that prevent that one is expanded that was not expanded before
abbrev is_prevention : Case → Bool
is_prevention ToList = false
is_prevention _ = true

-- what a case of an expansion is
data IsExpansion (c : Case) : Type 0 where
  again : c ≡ ListInHistory → IsExpansion c
  once : c ≡ ToList → IsExpansion c

message_expanded : (hop : Hop) (deferral place : ℕ) (c : Case) → message_column hop deferral c ≡ Expand place
    → IsExpansion c × (place_of hop ≡ place)
message_expanded hop deferral place ListInHistory e = (again refl, cc)
message_expanded hop deferral place ToList e = (once refl, cc)
message_expanded hop deferral place any3 e = absurd cc

list_is : (hop : Hop) → leads_to_list hop ≡ true → hop ≡ Hops.List (place_of hop)
list_is (Hops.List place) e = refl
list_is any0 e = absurd cc

first_of_two : (x y : Bool) → (x && y) ≡ true → x ≡ true
first_of_two true y e = refl
first_of_two false y e = absurd cc

second_of_two : (x y : Bool) → (x && y) ≡ true → y ≡ true
second_of_two true y e = e
second_of_two false y e = absurd cc

no_second : (x y : Bool) → x ≡ true → (x && y) ≡ false → y ≡ false
no_second true y h e = e
no_second false y h e = absurd cc

-- the first case is one of a list
leads_to_one : (f : Facts) → IsExpansion (first_case f) → leads_to_list f.hop ≡ true
leads_to_one f (again e) = let i = first_applies f in first_of_two (leads_to_list f.hop) f.in_history
    (sym (ap (applies f) e) ∙ i.applies_so)
leads_to_one f (once e) = let i = first_applies f in sym (ap (applies f) e) ∙ i.applies_so

no_loop : (f : Facts) → IsExpansion (first_case f) → f.looped ≡ false
no_loop f (again e) = not_looped f ListInHistory e refl
no_loop f (once e) = not_looped f ToList e refl

no_full_history : (f : Facts) → IsExpansion (first_case f) → f.in_history ≡ false → f.full_history ≡ false
no_full_history f (again e) none = let i =
    first_applies f in absurd (both_ways f.in_history none
    (second_of_two (leads_to_list f.hop) f.in_history (sym (ap (applies f) e) ∙ i.applies_so)))
no_full_history f (once e) none =
    let i = first_applies f in
    no_second (leads_to_list f.hop) f.full_history (sym (ap (applies f) e) ∙ i.applies_so)
    (not_passed f is_prevention (Looped ∷ CriticalExtension ∷ NoRoute ∷ Expired ∷ Deferred ∷ ListInHistory
    ∷ ListProhibited ∷ PosterNotPermitted ∷ []) (LongMembersCopy ∷ ToList ∷ ToMailbox ∷ LongCopy ∷ ToPeer ∷ [])
    FullHistory refl refl refl (ap is_prevention e))

no_long_members : (f : Facts) → IsExpansion (first_case f) → f.in_history ≡ false → f.long_members ≡ false
no_long_members f (again e) none = let i =
    first_applies f in absurd (both_ways f.in_history none
    (second_of_two (leads_to_list f.hop) f.in_history (sym (ap (applies f) e) ∙ i.applies_so)))
no_long_members f (once e) none =
    let i = first_applies f in
    no_second (leads_to_list f.hop) f.long_members (sym (ap (applies f) e) ∙ i.applies_so)
    (not_passed f is_prevention (Looped ∷ CriticalExtension ∷ NoRoute ∷ Expired ∷ Deferred ∷ ListInHistory
    ∷ ListProhibited ∷ PosterNotPermitted ∷ FullHistory ∷ []) (ToList ∷ ToMailbox ∷ LongCopy ∷ ToPeer ∷ [])
    LongMembersCopy refl refl refl (ap is_prevention e))

pub expanded_have_room : ExpandedMessagesHaveRoom
unfolding verdict_of_message
expanded_have_room format s m r members place h =
    let f = facts_of_message format s m r members in
    let k = message_expanded (best_hop s.tables r.name) (unwrap_or m.envelope.deferral 0) place (first_case f) h in
    record {
      leads = list_is f.hop (leads_to_one f k.0) ∙ ap (λ p. Hops.List p) k.1;
      short_trace = short_trace s m.envelope.trace (no_loop f k.0);
      short_history = λ none. leb-false longest_history (length m.envelope.history) (no_full_history f k.0 none);
      short_copy = λ none. short_copy members (no_long_members f k.0 none);
    }

-- ---- reports that are made

mapped : (walked : Option Attributes) (make : Attributes → ReportFields) (t : TablesValue) (e : EnvelopeFields)
    → ((d : Attributes) → (make d).destination ≡ d) → report_walk t e ≡ walked
    → MakesReportTo (option_map make walked) t e
mapped None make t e same h = h
mapped (Some d) make t e same h = h ∙ ap (λ x. Some x) (sym (same d))

pub reports_go : ReportsGoWhereTheWalkEnds
unfolding report_of
reports_go t number arrival e r outcome =
    mapped (report_walk t e) (report_to t number arrival e r outcome) t e (λ d. refl) refl
