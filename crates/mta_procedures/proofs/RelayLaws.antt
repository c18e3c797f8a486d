-- What is relayed has a copy that can be sent.
use Rattle.std.proofs.Common.{◌≡◌, ℕ, ◌+◌, ◌<◌, ◌≤◌, Bool, true, false, List, [], ◌∷◌, ◌++◌, length, Option, Some, refl}
use Rattle.std.proofs.Common.{sym, ◌∙◌, ap, subst, ◌&&◌, ◌||◌, cond, arith}
use Rattle.std.specs.Prelude.{unwrap_or, nat_le}
use Rattle.std.specs.List.{find, list_all}
use Rattle.std.proofs.lemmas.Bool.{and_parts, both_ways, or_parts, ltb-false, leb-false}
use Rattle.mta_ber.specs.Canon.{element, constructed}
use Rattle.mta_ber.proofs.RoundTrip.{element_long}
use Rattle.mta_fields.specs.declared.trace.TraceFields.{TraceFields}
use Rattle.mta_envelope_recipient.specs.declared.recipient.RecipientFields.{RecipientFields}
use Rattle.mta_envelope.specs.declared.envelope.EnvelopeFields.{EnvelopeFields}
use Rattle.mta_envelope.specs.Messages.{MessageValue, canonical_message, canonical_probe}
use Rattle.mta_report.specs.declared.fields.ReportFields.{ReportFields}
use Rattle.mta_report.specs.Reports.{canonical_report}
use Rattle.mta_tables.specs.declared.hop.Hop.{Hop}
use Rattle.mta_tables.specs.declared.hop.Hop.TheVariants as Hops
use Rattle.mta_tables.specs.Hops.{best_hop}
use Rattle.mta_tables.specs.Tables.{TablesValue}
use Rattle.mta_procedures.specs.declared.case.Case.{Case}
use Rattle.mta_procedures.specs.declared.case.Case.TheVariants.{Looped, CriticalExtension, NoRoute, Expired, Deferred}
use Rattle.mta_procedures.specs.declared.case.Case.TheVariants.{ListInHistory, ListProhibited, PosterNotPermitted}
use Rattle.mta_procedures.specs.declared.case.Case.TheVariants.{FullHistory, LongMembersCopy, ToList, ToMailbox}
use Rattle.mta_procedures.specs.declared.case.Case.TheVariants.{LongCopy, ToPeer}
use Rattle.mta_procedures.specs.declared.verdict.Verdict.TheVariants.{Relay}
use Rattle.mta_procedures.specs.Copies.{outgoing_envelope, outgoing_fields, outgoing_message, outgoing_probe}
use Rattle.mta_procedures.specs.Copies.{outgoing_report, is_long, longest_copy}
use Rattle.mta_procedures.specs.Facts.{Facts, facts_of_message, facts_of_probe, facts_of_report}
use Rattle.mta_procedures.specs.Relays.{IsRelayed, RelayedMessagesHaveCopies, RelayedProbesHaveCopies}
use Rattle.mta_procedures.specs.Relays.{RelayedReportsHaveCopies, ReportCopiesAreTheSame}
use Rattle.mta_procedures.specs.Situations.{Situation}
use Rattle.mta_procedures.specs.Traces.{comes_back, has_looped, longest_trace}
use Rattle.mta_procedures.specs.Verdicts.{applies, cases, first_case, leads_to_peer, place_of, message_column}
use Rattle.mta_procedures.specs.Verdicts.{probe_column, report_column, verdict_of_message, verdict_of_probe}
use Rattle.mta_procedures.specs.Verdicts.{verdict_of_report}
use Rattle.mta_procedures.proofs.CaseLaws.{first_applies}
use Rattle.mta_procedures.proofs.LongLaws.{messages_long, probes_long}

-- ---- cases that were passed

chosen : (is : Case → Bool) (b : Bool) (x d : Case) (o : Option Case) → is x ≡ true → is (unwrap_or o d) ≡ true
    → is (unwrap_or (cond b (Some x) o) d) ≡ true
chosen is true x d o e h = e
chosen is false x d o e h = h

taken : (b : Bool) (c d : Case) (o : Option Case) → b ≡ true → unwrap_or (cond b (Some c) o) d ≡ c
taken true c d o e = refl
taken false c d o e = absurd cc

-- where a case applies, the first that applies is this or one before it
found_before : (p is : Case → Bool) (xs ys : List Case) (c d : Case) → p c ≡ true → list_all is xs ≡ true → is c ≡ true
    → is (unwrap_or (find p (xs ++ c ∷ ys)) d) ≡ true
found_before p is [] ys c d e all one = ap is (taken (p c) c d (find p ys) e) ∙ one
found_before p is (x ∷ xs) ys c d e all one =
    let parts = and_parts (is x) (list_all is xs) all in
    chosen is (p x) x d (find p (xs ++ c ∷ ys)) parts.0 (found_before p is xs ys c d e parts.1 one)

-- a case does not apply before which the first one does not stand
pub not_passed : (f : Facts) (is : Case → Bool) (xs ys : List Case) (c : Case) → cases ≡ xs ++ c ∷ ys
    → list_all is xs ≡ true → is c ≡ true → is (first_case f) ≡ false → applies f c ≡ false
unfolding first_case
not_passed f is xs ys c split all one behind = at (applies f c) refl
  where
    at : (b : Bool) → applies f c ≡ b → applies f c ≡ false
    at false e = e
    at true e =
        let found : is (unwrap_or (find (applies f) cases) ToPeer) ≡ true =
        ap (λ cs. is (unwrap_or (find (applies f) cs) ToPeer)) split
        ∙ found_before (applies f) is xs ys c ToPeer e all one in
        absurd (both_ways (is (unwrap_or (find (applies f) cases) ToPeer)) behind found)

abbrev pub is_looped : Case → Bool
is_looped Looped = true
is_looped _ = false

-- a case other than the last
abbrev is_other : Case → Bool
is_other ToPeer = false
is_other _ = true

abbrev before_long_copy : List Case
before_long_copy = Looped ∷ CriticalExtension ∷ NoRoute ∷ Expired ∷ Deferred ∷ ListInHistory ∷ ListProhibited ∷
    PosterNotPermitted ∷ FullHistory ∷ LongMembersCopy ∷ ToList ∷ ToMailbox ∷ []

-- ---- what the facts say of what is relayed

pub not_looped : (f : Facts) (c : Case) → first_case f ≡ c → is_looped c ≡ false → f.looped ≡ false
not_looped f c e other = not_passed f is_looped [] (CriticalExtension ∷ NoRoute ∷ Expired ∷ Deferred ∷ ListInHistory ∷
    ListProhibited ∷ PosterNotPermitted ∷ FullHistory ∷ LongMembersCopy ∷ ToList ∷ ToMailbox ∷ LongCopy ∷ ToPeer ∷ [])
    Looped refl refl refl (ap is_looped e ∙ other)

leads_there : (f : Facts) → first_case f ≡ ToPeer → leads_to_peer f.hop ≡ true
leads_there f e = let i = first_applies f in sym (ap (applies f) e) ∙ i.applies_so

is_short : (f : Facts) → first_case f ≡ ToPeer → f.long_copy ≡ false
is_short f e =
    let none : applies f LongCopy ≡ false = not_passed f is_other before_long_copy (ToPeer ∷ []) LongCopy refl refl refl
    (ap is_other e) in
    sym (ap (λ b. b && f.long_copy) (leads_there f e)) ∙ none

peer_is : (hop : Hop) → leads_to_peer hop ≡ true → hop ≡ Hops.Peer (place_of hop)
peer_is (Hops.Peer place) e = refl
peer_is any0 e = absurd cc

pub short_trace : (s : Situation) (trace : List TraceFields) → has_looped s trace ≡ false → length trace < longest_trace
short_trace s trace e = leb-false longest_trace (length trace)
    (or_parts (comes_back s.tables.domain trace) (nat_le longest_trace (length trace)) e).1

pub short_copy : (n : ℕ) → is_long n ≡ false → n ≤ longest_copy
short_copy n e = ltb-false longest_copy n e

-- ---- which case relays

message_relayed : (hop : Hop) (deferral place : ℕ) (c : Case) → message_column hop deferral c ≡ Relay place
    → (c ≡ ToPeer) × (place_of hop ≡ place)
message_relayed hop deferral place ToPeer e = (refl, cc)
message_relayed hop deferral place any3 e = absurd cc

probe_relayed : (hop : Hop) (place : ℕ) (c : Case) → probe_column hop c ≡ Relay place → (c ≡ ToPeer)
    × (place_of hop ≡ place)
probe_relayed hop place ToPeer e = (refl, cc)
probe_relayed hop place any2 e = absurd cc

report_relayed : (hop : Hop) (back : Bool) (place : ℕ) (c : Case) → report_column hop back c ≡ Relay place
    → (c ≡ ToPeer) × (place_of hop ≡ place)
report_relayed hop true place ToList e = absurd cc
report_relayed hop false place ToList e = absurd cc
report_relayed hop back place ToPeer e = (refl, cc)
report_relayed hop back place any3 e = absurd cc

-- ---- copies

goes : (f : Facts) (c : Case) (place : ℕ) → first_case f ≡ c → (c ≡ ToPeer) × (place_of f.hop ≡ place)
    → f.hop ≡ Hops.Peer place
goes f c place e h = peer_is f.hop (leads_there f (e ∙ h.0)) ∙ ap (λ p. Hops.Peer p) h.1

some_octets : (n : ℕ) (content : List ℕ) → 1 ≤ length (element (constructed 2 n) content)
some_octets n content = let long = element_long (constructed 2 n) content in omega (arith, long)

pub relayed_messages : RelayedMessagesHaveCopies
unfolding verdict_of_message outgoing_message canonical_message
relayed_messages format s t m r members place chosen tables arrival h =
    let f = facts_of_message format s m r members in
    let k = message_relayed (best_hop s.tables r.name) (unwrap_or m.envelope.deferral 0) place (first_case f) h in
    let same = messages_long t s m chosen [] (sym tables) (sym arrival) in
    let few = short_copy (length (outgoing_message s m [])) (is_short f k.0) in
    record {
      leads = goes f (first_case f) place refl k;
      short_trace = short_trace s m.envelope.trace (not_looped f ToPeer k.0 refl);
      some = some_octets 0 _;
      few = subst (λ n. n ≤ longest_copy) (sym same) few;
    }

pub relayed_probes : RelayedProbesHaveCopies
unfolding verdict_of_probe outgoing_probe canonical_probe
relayed_probes format s t e r place chosen tables arrival h =
    let f = facts_of_probe format s e r in
    let k = probe_relayed (best_hop s.tables r.name) place (first_case f) h in
    let same = probes_long t s e chosen [] (sym tables) (sym arrival) in
    let few = short_copy (length (outgoing_probe s e [])) (is_short f k.0) in
    record {
      leads = goes f (first_case f) place refl k;
      short_trace = short_trace s e.trace (not_looped f ToPeer k.0 refl);
      some = some_octets 2 _;
      few = subst (λ n. n ≤ longest_copy) (sym same) few;
    }

-- a report has no deferral, so the moment does not count
pub report_copies_same : ReportCopiesAreTheSame
unfolding outgoing_report
report_copies_same s t p tables arrival =
    let copy : TablesValue → ℕ → List ℕ =
    λ a b. canonical_report (outgoing_fields (record { tables = a; arrival = b; moment = t.moment }) p) in
    ap (λ a. copy a s.arrival) tables ∙ ap (copy t.tables) arrival

pub relayed_reports : RelayedReportsHaveCopies
unfolding verdict_of_report outgoing_report canonical_report
relayed_reports s t p back place tables arrival h =
    let f = facts_of_report s p in
    let k = report_relayed (best_hop s.tables p.destination) back place (first_case f) h in
    let same : outgoing_report t p ≡ outgoing_report s p = report_copies_same t s p (sym tables) (sym arrival) in
    let few = short_copy (length (outgoing_report s p)) (is_short f k.0) in
    record {
      leads = goes f (first_case f) place refl k;
      short_trace = short_trace s p.trace (not_looped f ToPeer k.0 refl);
      some = some_octets 1 _;
      few = subst (λ (o : List ℕ). length o ≤ longest_copy) (sym same) few;
    }
