-- What the expansion of a list makes.
use Rattle.std.proofs.Common.{◌≡◌, ℕ, ◌+◌, false, List, [], ◌++◌, length, map}
use Rattle.std.proofs.Common.{Option, Some, None, refl, sym, ap, ◌∙◌}
use Rattle.std.specs.Prelude.{option_to_list, slice_get}
use Rattle.std.specs.Option.{option_map, option_map_or}
use Rattle.std.proofs.lemmas.List.{map-append}
use Rattle.std.proofs.lemmas.Option.{same_Some}
use Rattle.mta_envelope_recipient.specs.declared.recipient.RecipientFields.{RecipientFields}
use Rattle.mta_envelope.specs.Messages.{MessageValue}
use Rattle.mta_report.specs.declared.fields.ReportFields.{ReportFields}
use Rattle.mta_apdu.specs.Apdus.{ApduValue, message, report}
use Rattle.mta_tables.specs.declared.entry.MailList.{MailList}
use Rattle.mta_tables.specs.declared.hop.Hop.{Hop}
use Rattle.mta_tables.specs.declared.hop.Hop.TheVariants as Hops
use Rattle.mta_tables.specs.Hops.{best_hop}
use Rattle.mta_tables.specs.Tables.{TablesValue}
use Rattle.mta_procedures.specs.declared.verdict.Verdict.TheVariants as Verdicts
use Rattle.mta_procedures.specs.Ends.{IsExpanded}
use Rattle.mta_procedures.specs.Facts.{list_at}
use Rattle.mta_procedures.specs.Histories.{is_in_history}
use Rattle.mta_procedures.specs.Members.{members_copy}
use Rattle.mta_procedures.specs.Reports.{expansion_report}
use Rattle.mta_procedures.specs.Situations.{Situation, situation}
use Rattle.mta_procedures.specs.Verdicts.{length_for_members, verdict_on_message}
use Rattle.mta_procedures.proofs.EndLaws.{expanded_have_room}
use Rattle.mta_machine.specs.Items.{ItemValue, numbered}
use Rattle.mta_machine.specs.Machine.{own_item}
use Rattle.mta_machine.specs.Rules.{expanded_for, expanded_to, verdict_under}
use Rattle.mta_state.specs.Asked.{Expands}
use Rattle.mta_table_rules.specs.Counts.{HasRoom}

-- ---- what is made, in its order

one_mapped : {A B : Type 0} (f : A → B) (o : Option A) → option_to_list (option_map f o) ≡ map f (option_to_list o)
one_mapped f None = refl
one_mapped f (Some x) = refl

one_long : {A B : Type 0} (f : A → B) (o : Option A)
    → length (option_to_list (option_map f o)) ≡ length (option_to_list o)
one_long f None = refl
one_long f (Some x) = refl

both_made : {B : Type 0} (f : ApduValue → B) (copy : Option ApduValue) (about : ℕ → Option ApduValue) (number n : ℕ)
    (first second : Option B) → first ≡ option_map f copy → n ≡ number + length (option_to_list first)
    → second ≡ option_map f (about n)
    → option_to_list first ++ option_to_list second
    ≡ map f (option_to_list copy ++ option_to_list (about (number + length (option_to_list copy))))
both_made {B} f copy about number n first second e h k =
    let count : n ≡ number + length (option_to_list copy) =
    h ∙ ap (λ (o : Option B). number + length (option_to_list o)) e
    ∙ ap (λ c. number + c) (one_long f copy) in
    ap (λ (o : Option B). option_to_list o ++ option_to_list second) e
    ∙ ap (λ xs. xs ++ option_to_list second) (one_mapped f copy)
    ∙ ap (λ (o : Option B). map f (option_to_list copy) ++ option_to_list o) k
    ∙ ap (λ c. map f (option_to_list copy) ++ option_to_list (option_map f (about c))) count
    ∙ ap (λ xs. map f (option_to_list copy) ++ xs) (one_mapped f (about (number + length (option_to_list copy))))
    ∙ sym (map-append f (option_to_list copy) (option_to_list (about (number + length (option_to_list copy)))))

pub made_is : (t : TablesValue) (number arrival : ℕ) (m : MessageValue) (x : RecipientFields) (l : MailList)
    (moment n : ℕ) (first second : Option ItemValue) (about : Option ReportFields)
    → first ≡ option_map (own_item moment) (option_map message (members_copy (situation t arrival moment) l m x))
    → n ≡ number + length (option_to_list first)
    → about ≡ expansion_report t n arrival m.envelope x l moment
    → second ≡ option_map (own_item moment) (option_map report about)
    → option_to_list first ++ option_to_list second
    ≡ map (own_item moment) (expanded_to t number arrival m x (Some l) moment)
made_is t number arrival m x l moment n first second about e h a k =
    both_made (own_item moment) (option_map message (members_copy (situation t arrival moment) l m x))
    (λ c. option_map report (expansion_report t c arrival m.envelope x l moment)) number n first second e h
    (k ∙ ap (λ (o : Option ReportFields). option_map (own_item moment) (option_map report o)) a)

-- ---- what was found

pub to_list : (t : TablesValue) (number arrival : ℕ) (m : MessageValue) (o : Option RecipientFields)
    (x : RecipientFields) (place : ℕ) (l : Option MailList) (moment : ℕ) → Some x ≡ o
    → Hops.List place ≡ best_hop t x.name → l ≡ slice_get t.lists place
    → expanded_to t number arrival m x l moment ≡ expanded_for t number arrival m o moment
to_list t number arrival m o x place l moment e h k =
    ap (λ (y : Option MailList). expanded_to t number arrival m x y moment) k
    ∙ ap (λ (y : Hop). expanded_to t number arrival m x (list_at t y) moment) h
    ∙ ap (λ (y : Option RecipientFields). expanded_for t number arrival m y moment) e

pub no_list : (t : TablesValue) (number arrival : ℕ) (m : MessageValue) (o : Option RecipientFields)
    (x : RecipientFields) (place moment : ℕ) → Some x ≡ o → Hops.List place ≡ best_hop t x.name
    → None ≡ slice_get t.lists place
    → [] ≡ map (own_item moment) (expanded_for t number arrival m o moment)
no_list t number arrival m o x place moment e h k =
    ap (λ (xs : List ApduValue). map (own_item moment) xs)
    (to_list t number arrival m o x place None moment e h k)

pub no_one : (t : TablesValue) (number arrival : ℕ) (m : MessageValue) (o : Option RecipientFields) (moment : ℕ)
    → None ≡ o → [] ≡ map (own_item moment) (expanded_for t number arrival m o moment)
no_one t number arrival m o moment e =
    ap (λ (y : Option RecipientFields). map (own_item moment) (expanded_for t number arrival m y moment)) e

-- ---- room

expanded_by : (format : ℕ) (s : Situation) (m : MessageValue) (o : Option RecipientFields) (x : RecipientFields)
    (place : ℕ)
    → Some x ≡ o → option_map (verdict_on_message format s m) o ≡ Some (Verdicts.Expand place)
    → verdict_on_message format s m x ≡ Verdicts.Expand place
expanded_by format s m o x place e h =
    same_Some (verdict_on_message format s m x) (Verdicts.Expand place)
    (ap (λ (y : Option RecipientFields). option_map (verdict_on_message format s m) y) e ∙ h)

pub has_room : (format : ℕ) (t : TablesValue) (m : MessageValue) (arrival r moment : ℕ) (x : RecipientFields)
    (place : ℕ)
    (l : MailList) → Some x ≡ numbered m.envelope.recipients r
    → Expands (verdict_under format t (message m) arrival r moment) → Hops.List place ≡ best_hop t x.name
    → Some l ≡ slice_get t.lists place → HasRoom l m.envelope
has_room format t m arrival r moment x place l e expands h k =
    let s : Situation = situation t arrival moment in
    let is : IsExpanded s m (best_hop t x.name) (length_for_members s m x) expands.0 =
    expanded_have_room format s m x (length_for_members s m x) expands.0
    (expanded_by format s m (numbered m.envelope.recipients r) x expands.0 e expands.1) in
    let there : Some l ≡ list_at t (best_hop t x.name) = k ∙ ap (list_at t) h in
    record {
      short_trace = is.short_trace;
      short_history = λ no. is.short_history
          (sym (ap (λ (o : Option MailList). option_map_or (λ y. is_in_history y m.envelope) o false) there) ∙ no);
    }
