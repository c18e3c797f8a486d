-- What an expansion makes: the members' copy and the report of the list, each written so that it is read again.
use Rattle.std.proofs.Common.{◌≡◌, ℕ, ◌<◌, ◌≤◌, ◌+◌, ◌^◌, Bool, true, false, List, [], ◌∷◌, ◌++◌, length}
use Rattle.std.proofs.Common.{Option, Some, None, Ok, refl, arith, ap, ◌∙◌, length-append}
use Rattle.std.specs.Prelude.{IfSome, option_to_list, if◌then◌else◌, ◌==◌}
use Rattle.std.specs.List.{AllByRecursion}
use Rattle.std.specs.Option.{option_map, option_map_or}
use Rattle.std.proofs.lemmas.Bool.{or_parts}
use Rattle.std.proofs.lemmas.Option.{same_Some}
use Rattle.mta_ber.specs.Times.{last_moment}
use Rattle.mta_fields.specs.Domains.{IsDomain}
use Rattle.mta_envelope_recipient.specs.declared.recipient.RecipientFields.{RecipientFields}
use Rattle.mta_envelope_recipient.specs.Laws.{IsWholeRecipient}
use Rattle.mta_envelope.specs.Messages.{MessageValue, message_as}
use Rattle.mta_apdu.specs.Apdus.{ApduValue, message, probe, report}
use Rattle.mta_tables.specs.declared.entry.MailList.{MailList}
use Rattle.mta_tables.specs.declared.hop.Hop.{Hop}
use Rattle.mta_tables.specs.declared.hop.Hop.TheVariants as Hops
use Rattle.mta_tables.specs.Hops.{best_hop}
use Rattle.mta_tables.specs.Tables.{TablesValue, tables_of}
use Rattle.mta_tables.proofs.Wholes.{are_whole}
use Rattle.mta_procedures.specs.declared.verdict.Verdict.TheVariants as Verdicts
use Rattle.mta_procedures.specs.Copies.{longest_copy}
use Rattle.mta_procedures.specs.Ends.{IsExpanded}
use Rattle.mta_procedures.specs.Facts.{list_at, of_list}
use Rattle.mta_procedures.specs.Histories.{is_in_history, longest_history}
use Rattle.mta_procedures.specs.Laws.{IsExpandable, IsWritable}
use Rattle.mta_procedures.specs.Members.{has_no_copy, members_copy, members_envelope, members_length, message_octets}
use Rattle.mta_procedures.specs.Readings.{IsWritableList}
use Rattle.mta_procedures.specs.Reports as reports
use Rattle.mta_procedures.specs.Situations.{Situation, situation}
use Rattle.mta_procedures.specs.Traces.{longest_trace}
use Rattle.mta_procedures.specs.Verdicts.{length_for_members, verdict_on_message}
use Rattle.mta_procedures.proofs.EndLaws.{expanded_have_room}
use Rattle.mta_procedures.proofs.ExpandedLaws.{members_whole}
use Rattle.mta_procedures.proofs.ToldLaws.{lists_writable}
use Rattle.mta_machine.specs.Apdu.{value_of}
use Rattle.mta_machine.specs.Items.{ItemValue, numbered}
use Rattle.mta_machine.specs.Rules.{expanded_for, expanded_to, expansion, expansion_under, read_both, tables_value}
use Rattle.mta_machine.specs.Rules.{verdict_of, verdict_under}
use Rattle.mta_histories.specs.Items.{IsWritten}
use Rattle.mta_histories.specs.Sound.{IsSoundItem}
use Rattle.mta_histories.proofs.SoundItems.{all-append}
use Rattle.mta_sound_laws.proofs.Domains.{tables-domain}
use Rattle.mta_sound_laws.proofs.Lengths.{history-within}
use Rattle.mta_sound_laws.proofs.Read.{envelope-read, item-written, tables-read}
use Rattle.mta_sound_laws.proofs.Reports.{each-numbered, list-report-written, written-if}

-- ---- lists

-- the list of tables that were read
record IsListOf (t : TablesValue) (l : MailList) : Type 0 where
  writable : IsWritableList l
  few : length l.members ≤ 1000

list-of : (text : List ℕ) (t : TablesValue) (hop : Hop) (l : MailList) → tables_of text ≡ Ok t
    → list_at t hop ≡ Some l → IsListOf t l
list-of text t (Hops.Local place) l e at = absurd cc
list-of text t (Hops.List place) l e at = record {
  writable = lists_writable text t place l e at;
  few = (are_whole text t e).few_members place l (record { found = at });
}
list-of text t (Hops.Peer place) l e at = absurd cc
list-of text t Hops.None l e at = absurd cc

-- ---- the members' copy

-- what a verdict says that expands: the trace has room, and where the list was not expanded before the history has
-- room, and the copy is not too long
record HasRoom (s : Situation) (l : MailList) (m : MessageValue) (x : RecipientFields) : Type 0 where
  trace : length m.envelope.trace < longest_trace
  history : is_in_history l m.envelope ≡ false → length m.envelope.history < longest_history
  copy : is_in_history l m.envelope ≡ false → members_length s l m x ≤ longest_copy

room-of : (format : ℕ) (s : Situation) (m : MessageValue) (x : RecipientFields) (l : MailList) (place : ℕ)
    → verdict_on_message format s m x ≡ Verdicts.Expand place
    → list_at s.tables (best_hop s.tables x.name) ≡ Some l → HasRoom s l m x
room-of format s m x l place e at =
    let hop : Hop = best_hop s.tables x.name in
    let is : IsExpanded s m hop (length_for_members s m x) place =
    expanded_have_room format s m x (length_for_members s m x) place e in
    let listed : of_list s.tables hop (λ y. is_in_history y m.envelope) ≡ is_in_history l m.envelope =
    ap (λ (o : Option MailList). option_map_or (λ y. is_in_history y m.envelope) o false) at in
    let long : length_for_members s m x ≡ members_length s l m x =
    ap (λ (o : Option MailList). option_map_or (λ y. members_length s y m x) o 0) at in
    record {
      trace = is.short_trace;
      history = λ none. is.short_history (listed ∙ none);
      copy = λ none. (let few = is.short_copy (listed ∙ none) in omega (arith, few, long));
    }

some-members : {A : Type 0} (xs : List A) → (length xs == 0) ≡ false → 1 ≤ length xs
some-members [] e = absurd cc
some-members (x ∷ xs) e = omega arith

expandable : (s : Situation) (l : MailList) (m : MessageValue) (x : RecipientFields) → IsWritable s
    → IsListOf s.tables l → HasRoom s l m x → IsWholeRecipient x → has_no_copy l m.envelope ≡ false
    → IsExpandable s l m.envelope x
unfolding members_copy
expandable s l m x writable list room recipient e =
    let parts = or_parts (length l.members == 0) (is_in_history l m.envelope) e in
    let copy : MessageValue = message_as (members_envelope s l m.envelope x) m.content in
    let is : members_length s l m x ≡ length (message_octets copy) =
    ap (λ (b : Bool). option_map_or (λ c. length (message_octets c)) (if b then None else Some copy) 0) e in
    let within = history-within s l m.envelope x m.content.octets in
    let few = room.copy parts.1 in
    record {
      writable = writable;
      short_trace = room.trace;
      short_history = room.history parts.1;
      name = list.writable.name;
      name_kept = list.writable.name_kept 8;
      some_members = some-members l.members parts.0;
      few_members = list.few;
      members = list.writable.members;
      members_kept = list.writable.members_kept 5;
      recipient = recipient;
      counted = omega (arith, is, within, few);
    }

copy-written : (s : Situation) (l : MailList) (m : MessageValue) (x : RecipientFields) → IsWritable s
    → IsListOf s.tables l → HasRoom s l m x → IsWholeRecipient x → IsWritten (message m)
    → IfSome (option_map message (members_copy s l m x)) IsWritten
unfolding members_copy
copy-written s l m x writable list room recipient written = by_test (has_no_copy l m.envelope) refl
  where
    copy : MessageValue
    copy = message_as (members_envelope s l m.envelope x) m.content

    by_test : (b : Bool) → has_no_copy l m.envelope ≡ b
        → IfSome (option_map message (if b then None else Some copy)) IsWritten
    by_test true e = tt
    by_test false e =
        let w = members_whole s l m.envelope x (expandable s l m x writable list room recipient e) written.0.0
        written.1 in
        ((w.0, written.0.1), w.1)

-- ---- in their order

listed : (o : Option ApduValue) → IfSome o IsWritten → AllByRecursion IsWritten (option_to_list o)
listed None h = tt
listed (Some v) h = (h, tt)

-- one that is counted
pub counted : (o : Option ApduValue) → (1 ≤ length (option_to_list o) → IfSome o IsWritten)
    → AllByRecursion IsWritten (option_to_list o)
counted None h = tt
counted (Some v) h = (h (omega arith), tt)

-- what is made behind items whose number is told, and how many items there are with it
both-made : (n : ℕ) (copies : List ApduValue) (o : Option ApduValue) → AllByRecursion IsWritten copies
    → length (copies ++ option_to_list o) + n < 2 ^ 32
    → (n + 1 + length copies < 2 ^ 32 → IfSome o IsWritten)
    → AllByRecursion IsWritten (copies ++ option_to_list o)
both-made n copies o written few h =
    all-append IsWritten copies (option_to_list o) written
    (counted o (λ one. h (omega (arith, few, one, length-append copies (option_to_list o)))))

-- where a message is expanded for a recipient: under tables that were read, at a moment that may be written
record IsAt (text : List ℕ) (t : TablesValue) (arrival : ℕ) (m : MessageValue) (moment : ℕ) : Type 0 where
  tables : tables_of text ≡ Ok t
  arrived : arrival ≤ last_moment
  timely : moment ≤ last_moment
  written : IsWritten (message m)

to-written : (format : ℕ) (text : List ℕ) (t : TablesValue) (n arrival : ℕ) (m : MessageValue) (r : ℕ)
    (x : RecipientFields) (place moment : ℕ) (o : Option MailList) → IsAt text t arrival m moment
    → numbered m.envelope.recipients r ≡ Some x
    → verdict_on_message format (situation t arrival moment) m x ≡ Verdicts.Expand place
    → list_at t (best_hop t x.name) ≡ o
    → length (expanded_to t (n + 1) arrival m x o moment) + n < 2 ^ 32
    → AllByRecursion IsWritten (expanded_to t (n + 1) arrival m x o moment)
to-written format text t n arrival m r x place moment None at named e is few = tt
to-written format text t n arrival m r x place moment (Some l) at named e is few =
    let s : Situation = situation t arrival moment in
    let domain : IsDomain t.domain = tables-domain text t at.tables in
    let copies : List ApduValue = option_to_list (option_map message (members_copy s l m x)) in
    both-made n copies
    (option_map report (reports.expansion_report t (n + 1 + length copies) arrival m.envelope x l moment))
    (listed (option_map message (members_copy s l m x))
    (copy-written s l m x (record { domain = domain; arrival = at.arrived; moment = at.timely })
    (list-of text t (best_hop t x.name) l at.tables is) (room-of format s m x l place e is)
    (each-numbered IsWholeRecipient m.envelope.recipients r x at.written.0.0.recipients named) at.written))
    few
    (λ small. written-if (reports.expansion_report t (n + 1 + length copies) arrival m.envelope x l moment)
    (list-report-written t (n + 1 + length copies) arrival m.envelope r x l moment domain small at.arrived at.timely
    (envelope-read (message m) at.written) named))

for-written : (format : ℕ) (text : List ℕ) (t : TablesValue) (n arrival : ℕ) (m : MessageValue) (r place moment : ℕ)
    (o : Option RecipientFields) → IsAt text t arrival m moment → numbered m.envelope.recipients r ≡ o
    → option_map (verdict_on_message format (situation t arrival moment) m) o ≡ Some (Verdicts.Expand place)
    → length (expanded_for t (n + 1) arrival m o moment) + n < 2 ^ 32
    → AllByRecursion IsWritten (expanded_for t (n + 1) arrival m o moment)
for-written format text t n arrival m r place moment None at named e few = tt
for-written format text t n arrival m r place moment (Some x) at named e few =
    to-written format text t n arrival m r x place moment (list_at t (best_hop t x.name)) at named
    (same_Some (verdict_on_message format (situation t arrival moment) m x) (Verdicts.Expand place) e) refl few

-- ---- the expansion of an item

under-written : (format : ℕ) (text : List ℕ) (to : Option TablesValue) (n arrival : ℕ) (vo : Option ApduValue)
    (r place moment : ℕ) → ((t : TablesValue) → to ≡ Some t → tables_of text ≡ Ok t)
    → ((v : ApduValue) → vo ≡ Some v → IsWritten v) → arrival ≤ last_moment → moment ≤ last_moment
    → read_both to vo (λ t v. verdict_under format t v arrival r moment) ≡ Some (Verdicts.Expand place)
    → length (expansion_under to (n + 1) arrival vo r moment) + n < 2 ^ 32
    → AllByRecursion IsWritten (expansion_under to (n + 1) arrival vo r moment)
under-written format text None n arrival vo r place moment tables written arrived timely e few = tt
under-written format text (Some t) n arrival None r place moment tables written arrived timely e few = tt
under-written format text (Some t) n arrival (Some (message m)) r place moment tables written arrived timely e few =
    for-written format text t n arrival m r place moment (numbered m.envelope.recipients r)
    (record { tables = tables t refl; arrived = arrived; timely = timely; written = written (message m) refl })
    refl e few
under-written format text (Some t) n arrival (Some (probe v)) r place moment tables written arrived timely e few = tt
under-written format text (Some t) n arrival (Some (report p)) r place moment tables written arrived timely e few = tt

pub expansion-written : (format : ℕ) (text : List ℕ) (n : ℕ) (item : ItemValue) (r place moment : ℕ)
    → IsSoundItem moment item → moment ≤ last_moment
    → verdict_of format text item.octets item.arrival r moment ≡ Some (Verdicts.Expand place)
    → length (expansion text (n + 1) item r moment) + n < 2 ^ 32
    → AllByRecursion IsWritten (expansion text (n + 1) item r moment)
unfolding expansion verdict_of
expansion-written format text n item r place moment sound timely e few =
    under-written format text (tables_value text) n item.arrival (value_of item.octets) r place moment
    (λ t told. tables-read text t told) (λ v is. item-written moment item v sound is)
    (omega (arith, sound.arrived, timely)) timely e few
