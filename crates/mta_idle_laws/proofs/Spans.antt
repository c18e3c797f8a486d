-- What is relayed is so within its span, and along the best route.
use Rattle.std.proofs.Common.{◌≡◌, ℕ, ◌≤◌, Bool, true, false, List, [], ◌∷◌, Option, Some, None}
use Rattle.std.proofs.Common.{refl, ap, ◌∙◌, zero, suc, map, arith}
use Rattle.std.specs.Prelude.{unwrap_or, option_and_then, nat_lt}
use Rattle.std.specs.Option.{option_map, option_map_or}
use Rattle.std.proofs.lemmas.Bool.{leb-false, ltb-false}
use Rattle.mta_names.specs.declared.attributes.Attributes.{Attributes}
use Rattle.mta_envelope_recipient.specs.declared.recipient.RecipientFields.{RecipientFields}
use Rattle.mta_envelope.specs.declared.envelope.EnvelopeFields.{EnvelopeFields}
use Rattle.mta_envelope.specs.Messages.{MessageValue}
use Rattle.mta_report.specs.declared.fields.ReportFields.{ReportFields}
use Rattle.mta_apdu.specs.Apdus.{ApduValue, message, probe, report}
use Rattle.mta_tables.specs.declared.hop.Hop.{Hop}
use Rattle.mta_tables.specs.declared.hop.Hop.TheVariants as Hops
use Rattle.mta_tables.specs.Hops.{best_hop}
use Rattle.mta_tables.specs.Tables.{TablesValue}
use Rattle.mta_procedures.specs.declared.case.Case.{Case}
use Rattle.mta_procedures.specs.declared.case.Case.TheVariants.{Looped, CriticalExtension, NoRoute, Expired, Deferred}
use Rattle.mta_procedures.specs.declared.case.Case.TheVariants.{ListInHistory, ListProhibited, PosterNotPermitted}
use Rattle.mta_procedures.specs.declared.case.Case.TheVariants.{FullHistory, LongMembersCopy, ToList, ToMailbox}
use Rattle.mta_procedures.specs.declared.case.Case.TheVariants.{LongCopy, ToPeer}
use Rattle.mta_procedures.specs.declared.terms.Terms.{Terms}
use Rattle.mta_procedures.specs.declared.verdict.Verdict.{Verdict}
use Rattle.mta_procedures.specs.declared.verdict.Verdict.TheVariants as Verdicts
use Rattle.mta_procedures.specs.declared.verdict.Verdict.TheVariants.{Relay}
use Rattle.mta_procedures.specs.Facts.{Facts, facts_of_message, facts_of_probe, facts_of_report}
use Rattle.mta_procedures.specs.Situations.{Situation, situation, terms_of, report_terms, is_deferred}
use Rattle.mta_procedures.specs.Situations as situations
use Rattle.mta_procedures.specs.Verdicts.{first_case, message_column, probe_column, report_column, length_for_members}
use Rattle.mta_procedures.specs.Verdicts.{verdict_of_message, verdict_on_message, verdict_of_probe, verdict_of_report}
use Rattle.mta_procedures.proofs.RelayLaws.{not_passed, relayed_messages, relayed_probes, relayed_reports}
use Rattle.mta_machine.specs.Apdu.{value_of}
use Rattle.mta_machine.specs.Items.{numbered}
use Rattle.mta_machine.specs.Machine.{relay_by}
use Rattle.mta_machine.specs.Rules.{name_of, names_in, peer_at, peer_on, peer_word, read_both, route_under, route_word}
use Rattle.mta_machine.specs.Rules.{tables_value, terms_in, verdict_of, verdict_under}
use Rattle.mta_idle_laws.specs.Spans.{IsWithin, RelaysAreRouted, RelaysWithin, relay_span, span_in, span_under}

-- ---- the case of what is relayed

abbrev is_other : Case → Bool
is_other ToPeer = false
is_other _ = true

unexpired : (f : Facts) → first_case f ≡ ToPeer → f.expired ≡ false
unexpired f e = not_passed f is_other (Looped ∷ CriticalExtension ∷ NoRoute ∷ [])
    (Deferred ∷ ListInHistory ∷ ListProhibited ∷ PosterNotPermitted ∷ FullHistory ∷ LongMembersCopy ∷ ToList ∷
    ToMailbox ∷ LongCopy ∷ ToPeer ∷ []) Expired refl refl refl (ap is_other e)

undeferred : (f : Facts) → first_case f ≡ ToPeer → f.deferred ≡ false
undeferred f e = not_passed f is_other (Looped ∷ CriticalExtension ∷ NoRoute ∷ Expired ∷ [])
    (ListInHistory ∷ ListProhibited ∷ PosterNotPermitted ∷ FullHistory ∷ LongMembersCopy ∷ ToList ∷ ToMailbox ∷
    LongCopy ∷ ToPeer ∷ []) Deferred refl refl refl (ap is_other e)

message_case : (hop : Hop) (deferral place : ℕ) (c : Case) → message_column hop deferral c ≡ Relay place → c ≡ ToPeer
message_case hop deferral place ToPeer e = refl
message_case hop deferral place any3 e = absurd cc

probe_case : (hop : Hop) (place : ℕ) (c : Case) → probe_column hop c ≡ Relay place → c ≡ ToPeer
probe_case hop place ToPeer e = refl
probe_case hop place any2 e = absurd cc

report_case : (hop : Hop) (place : ℕ) (c : Case) → report_column hop true c ≡ Relay place → c ≡ ToPeer
report_case hop place ToPeer e = refl
report_case hop place any2 e = absurd cc

-- ---- what a verdict that relays says

-- the verdict relays within the span, along the best hop
record IsRelayOf (s : Situation) (t : Terms) (hop : Hop) (place : ℕ) : Type 0 where
  begun : is_deferred s t ≡ false
  unexpired : situations.is_expired s t ≡ false
  leads : hop ≡ Hops.Peer place

message_relay : (format : ℕ) (s : Situation) (v : MessageValue) (x : RecipientFields) (place : ℕ)
    → verdict_on_message format s v x ≡ Relay place
    → IsRelayOf s (terms_of format v.envelope) (best_hop s.tables x.name) place
unfolding verdict_of_message
message_relay format s v x place h =
    let f : Facts = facts_of_message format s v x (length_for_members s v x) in
    let to_peer : first_case f ≡ ToPeer =
    message_case (best_hop s.tables x.name) (unwrap_or v.envelope.deferral 0) place (first_case f) h in
    record {
      begun = undeferred f to_peer;
      unexpired = unexpired f to_peer;
      leads = (relayed_messages format s s v x (length_for_members s v x) place [] refl refl h).leads;
    }

probe_relay : (format : ℕ) (s : Situation) (e : EnvelopeFields) (x : RecipientFields) (place : ℕ)
    → verdict_of_probe format s e x ≡ Relay place
    → IsRelayOf s (terms_of format e) (best_hop s.tables x.name) place
unfolding verdict_of_probe
probe_relay format s e x place h =
    let f : Facts = facts_of_probe format s e x in
    let to_peer : first_case f ≡ ToPeer = probe_case (best_hop s.tables x.name) place (first_case f) h in
    record {
      begun = undeferred f to_peer;
      unexpired = unexpired f to_peer;
      leads = (relayed_probes format s s e x place [] refl refl h).leads;
    }

report_relay : (s : Situation) (p : ReportFields) (place : ℕ) → verdict_of_report s p true ≡ Relay place
    → IsRelayOf s report_terms (best_hop s.tables p.destination) place
unfolding verdict_of_report
report_relay s p place h =
    let f : Facts = facts_of_report s p in
    let to_peer : first_case f ≡ ToPeer = report_case (best_hop s.tables p.destination) place (first_case f) h in
    record {
      begun = refl;
      unexpired = unexpired f to_peer;
      leads = (relayed_reports s s p true place refl refl h).leads;
    }

-- ---- a recipient

-- the recipient of this number has a name, whose best hop leads to the place, within the span
record IsRelayUnder (format : ℕ) (t : TablesValue) (v : ApduValue) (arrival r moment place : ℕ) : Type 0 where
  name : Attributes
  name_is : numbered (names_in v) r ≡ Some name
  relay : IsRelayOf (situation t arrival moment) (terms_in format v) (best_hop t name) place

names_map : (xs : List RecipientFields) (r : ℕ) (x : RecipientFields) → numbered xs r ≡ Some x
    → numbered (map name_of xs) r ≡ Some x.name
names_map xs zero x e = absurd cc
names_map [] (suc n) x e = absurd cc
names_map (y ∷ xs) (suc zero) x e = ap (option_map name_of) e
names_map (y ∷ xs) (suc (suc n)) x e = names_map xs (suc n) x e

under_message : (format : ℕ) (t : TablesValue) (v : MessageValue) (arrival r moment place : ℕ)
    → (o : Option RecipientFields) → numbered v.envelope.recipients r ≡ o
    → option_map (verdict_on_message format (situation t arrival moment) v) o ≡ Some (Relay place)
    → IsRelayUnder format t (message v) arrival r moment place
under_message format t v arrival r moment place None e h = absurd cc
under_message format t v arrival r moment place (Some x) e h = record {
  name = x.name;
  name_is = names_map v.envelope.recipients r x e;
  relay = message_relay format (situation t arrival moment) v x place cc;
}

under_probe : (format : ℕ) (t : TablesValue) (v : EnvelopeFields) (arrival r moment place : ℕ)
    → (o : Option RecipientFields) → numbered v.recipients r ≡ o
    → option_map (verdict_of_probe format (situation t arrival moment) v) o ≡ Some (Relay place)
    → IsRelayUnder format t (probe v) arrival r moment place
under_probe format t v arrival r moment place None e h = absurd cc
under_probe format t v arrival r moment place (Some x) e h = record {
  name = x.name;
  name_is = names_map v.recipients r x e;
  relay = probe_relay format (situation t arrival moment) v x place cc;
}

under_report : (format : ℕ) (t : TablesValue) (p : ReportFields) (arrival r moment place : ℕ)
    → (o : Option Attributes) → numbered (p.destination ∷ []) r ≡ o
    → option_map (λ (n : Attributes). verdict_of_report (situation t arrival moment) p true) o ≡ Some (Relay place)
    → IsRelayUnder format t (report p) arrival r moment place
under_report format t p arrival zero moment place o e h = absurd cc
under_report format t p arrival (suc zero) moment place None e h = absurd cc
under_report format t p arrival (suc zero) moment place (Some n) e h = record {
  name = p.destination;
  name_is = refl;
  relay = report_relay (situation t arrival moment) p place cc;
}
under_report format t p arrival (suc (suc n)) moment place None e h = absurd cc
under_report format t p arrival (suc (suc n)) moment place (Some x) e h = absurd cc

relay_under : (format : ℕ) (t : TablesValue) (v : ApduValue) (arrival r moment place : ℕ)
    → verdict_under format t v arrival r moment ≡ Some (Relay place)
    → IsRelayUnder format t v arrival r moment place
relay_under format t (message v) arrival r moment place h =
    under_message format t v arrival r moment place (numbered v.envelope.recipients r) refl h
relay_under format t (probe v) arrival r moment place h =
    under_probe format t v arrival r moment place (numbered v.recipients r) refl h
relay_under format t (report v) arrival r moment place h =
    under_report format t v arrival r moment place (numbered (v.destination ∷ []) r) refl h

-- ---- the place of a verdict that relays to a peer

pub record HasPlace (text : List ℕ) (verdict : Option Verdict) (peer : List ℕ) : Type 0 where
  pub place : ℕ
  pub verdict_is : verdict ≡ Some (Relay place)
  pub word : peer_word text place ≡ Some peer

pub place_of_relay : (text : List ℕ) (verdict : Option Verdict) (peer : List ℕ) → relay_by text verdict ≡ Some peer
    → HasPlace text verdict peer
place_of_relay text None peer h = absurd cc
place_of_relay text (Some (Verdicts.Deliver place)) peer h = absurd cc
place_of_relay text (Some (Verdicts.Expand place)) peer h = absurd cc
place_of_relay text (Some (Verdicts.Relay place)) peer h = record { place = place; verdict_is = refl; word = h }
place_of_relay text (Some Verdicts.Affirm) peer h = absurd cc
place_of_relay text (Some (Verdicts.NonDeliver reason diagnostic)) peer h = absurd cc
place_of_relay text (Some (Verdicts.Hold until)) peer h = absurd cc
place_of_relay text (Some Verdicts.Back) peer h = absurd cc
place_of_relay text (Some Verdicts.Discard) peer h = absurd cc

-- ---- the span

begun_since : (d : Option ℕ) (moment : ℕ) → option_map_or (λ n. nat_lt moment n) d false ≡ false
    → unwrap_or d 0 ≤ moment
begun_since None moment e = omega arith
begun_since (Some n) moment e = ltb-false moment n e

within_span : (format : ℕ) (t : TablesValue) (v : ApduValue) (arrival moment : ℕ) (hop : Hop) (place : ℕ)
    → IsRelayOf (situation t arrival moment) (terms_in format v) hop place
    → IsWithin moment (Some (span_in (situation t arrival arrival) (terms_in format v)))
within_span format t v arrival moment hop place is = (
  begun_since (terms_in format v).deferral moment is.begun,
  leb-false (situations.expiry (situation t arrival arrival) (terms_in format v)) moment is.unexpired,
)

read_within : (format : ℕ) (a : Option TablesValue) (b : Option ApduValue) (arrival r moment place : ℕ)
    → read_both a b (λ t v. verdict_under format t v arrival r moment) ≡ Some (Relay place)
    → IsWithin moment (span_under format a b arrival)
read_within format None b arrival r moment place h = absurd cc
read_within format (Some t) None arrival r moment place h = absurd cc
read_within format (Some t) (Some v) arrival r moment place h =
    let is = relay_under format t v arrival r moment place h in
    within_span format t v arrival moment (best_hop t is.name) place is.relay

pub relays_within : RelaysWithin
unfolding verdict_of relay_span
relays_within format text octets arrival r moment peer h =
    let at = place_of_relay text (verdict_of format text octets arrival r moment) peer h in
    read_within format (tables_value text) (value_of octets) arrival r moment at.place at.verdict_is

-- ---- the route

read_routed : (format : ℕ) (a : Option TablesValue) (b : Option ApduValue) (arrival r moment place : ℕ)
    (peer : List ℕ)
    → read_both a b (λ t v. verdict_under format t v arrival r moment) ≡ Some (Relay place)
    → option_and_then (λ (t : TablesValue). peer_at t place) a ≡ Some peer
    → read_both a b (λ t v. route_under t v r) ≡ Some peer
read_routed format None b arrival r moment place peer h word = absurd cc
read_routed format (Some t) None arrival r moment place peer h word = absurd cc
read_routed format (Some t) (Some v) arrival r moment place peer h word =
    let is = relay_under format t v arrival r moment place h in
    ap (option_and_then (λ (n : Attributes). peer_on t (best_hop t n))) is.name_is
    ∙ ap (peer_on t) is.relay.leads ∙ word

pub relays_are_routed : RelaysAreRouted
unfolding verdict_of route_word peer_word
relays_are_routed format text octets arrival r moment peer h =
    let at = place_of_relay text (verdict_of format text octets arrival r moment) peer h in
    read_routed format (tables_value text) (value_of octets) arrival r moment at.place peer at.verdict_is at.word
