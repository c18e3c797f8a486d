-- What is stored keeps its bounds: each item arrived up to the last moment of 2049, and its recipients have numbers.
use Rattle.std.proofs.Common.{◌≡◌, ℕ, zero, suc, ◌+◌, ◌≤◌, Bool, true, false, cond, List, [], ◌∷◌, length}
use Rattle.std.proofs.Common.{map, get_or, Option, Some, None, Result, Ok, Err, refl, subst, ◌∙◌, arith}
use Rattle.std.specs.Prelude.{slice_get, option_to_list, option_and_then, option_map, IfSome}
use Rattle.std.specs.List.{All}
use Rattle.std.proofs.lemmas.List.Elements.{All-nil, All-cons, All-set, All-append, All-push, All-map}
use Rattle.std.proofs.lemmas.List.{length-map}
use Rattle.std.proofs.lemmas.Option.{slice_get_within}
use Rattle.mta_ber.specs.Times.{last_moment}
use Rattle.mta_envelope_recipient.specs.declared.recipient.RecipientFields.{RecipientFields}
use Rattle.mta_envelope.specs.Messages.{MessageValue}
use Rattle.mta_report.specs.declared.fields.ReportFields.{ReportFields}
use Rattle.mta_apdu.specs.Apdus.{ApduValue, message, probe, report}
use Rattle.mta_tables.specs.declared.entry.MailList.{MailList}
use Rattle.mta_tables.specs.Whole.{AreTables}
use Rattle.mta_tables.specs.Hops.{best_hop}
use Rattle.mta_tables.specs.declared.hop.Hop.{Hop}
use Rattle.mta_tables.specs.declared.hop.Hop.TheVariants as Hops
use Rattle.mta_tables.specs.Tables.{TablesValue, tables_of}
use Rattle.mta_tables.proofs.Wholes.{are_whole}
use Rattle.mta_procedures.specs.Facts.{list_at}
use Rattle.mta_procedures.specs.Members.{members_copy}
use Rattle.mta_procedures.specs.Situations.{Situation, situation}
use Rattle.mta_procedures.specs.Reports as reports
use Rattle.mta_procedures.specs.Walks.{passed_to}
use Rattle.mta_procedures.specs.Walks as walks
use Rattle.mta_names.specs.declared.attributes.Attributes.{Attributes}
use Rattle.mta_envelope.specs.declared.envelope.EnvelopeFields.{EnvelopeFields}
use Rattle.mta_procedures.proofs.MembersLaws.{members_copy_is_one}
use Rattle.mta_machine.specs.Apdu.{IsApdu, value_of, value_read, is_report, responsible_in}
use Rattle.mta_records.specs.declared.state.Status.{Status}
use Rattle.mta_records.specs.declared.state.Origin.{Origin}
use Rattle.mta_machine.specs.Items.{ItemValue, Machine, numbered, set_numbered, status_at_first}
use Rattle.mta_machine.specs.Rules.{tables_value, expansion, expansion_under, expanded_for, expanded_to}
use Rattle.mta_machine.specs.Rules.{delivery_report, non_delivery_report, passed_back, report_on, read_both}
use Rattle.mta_machine.specs.Rules.{envelope_in}
use Rattle.mta_machine.specs.Rules.{passed_under, is_own, accepted_in, reason_of, diagnostic_of}
use Rattle.mta_machine.specs.Machine.{MachineStep, set_tables, set_format, accept, discharge, Discharge, delivered}
use Rattle.mta_machine.specs.Machine.{expanded, affirmed, not_delivered, failed, discarded, passed, sent, machine_after}
use Rattle.mta_machine.specs.Machine.{machine_run}
use Rattle.mta_machine.specs.Machine.{with_statuses, discharged_item, items_after, made_by, made_for, own_item}
use Rattle.mta_machine.specs.Machine.{accepted_item, unless_report, last_tables, status_after}
use Rattle.mta_machine.proofs.Later.{length-set_numbered}
use Rattle.mta_state.proofs.Few.{IsFew, few_message, few_accepted}
use Rattle.mta_state.specs.Asked.{IsStored}

-- ---- what is made has few recipients

few-report : (p : ReportFields) → IsFew (report p)
unfolding responsible_in
few-report p = omega (arith, length-map (responsible_in (report p)) status_at_first)

abbrev AreFew : List ApduValue → Type 0
AreFew vs = All IsFew vs

few-listed : (o : Option ApduValue) → IfSome o IsFew → AreFew (option_to_list o)
few-listed None few = All-nil IsFew
few-listed (Some v) few = All-cons IsFew v [] few (All-nil IsFew)

few-unless : (item : ItemValue) (o : Option ApduValue) → IfSome o IsFew → AreFew (unless_report item o)
few-unless item o few = by_test (is_report (value_of item.octets))
  where
    by_test : (b : Bool) → AreFew (cond b [] (option_to_list o))
    by_test true = All-nil IsFew
    by_test false = few-listed o few

few-reports : (o : Option ReportFields) → IfSome (option_map report o) IsFew
few-reports None = tt
few-reports (Some p) = few-report p

few-on : (make : EnvelopeFields → RecipientFields → Option ReportFields) (r : ℕ) (v : ApduValue)
    → IfSome (report_on make r v) IsFew
few-on make r v = few-reports
    (option_and_then (λ (e : EnvelopeFields). option_and_then (make e) (numbered e.recipients r)) (envelope_in v))

few-both : (a : Option TablesValue) (b : Option ApduValue) (give : TablesValue → ApduValue → Option ApduValue)
    → ((t : TablesValue) (v : ApduValue) → IfSome (give t v) IsFew) → IfSome (read_both a b give) IsFew
few-both None b give few = tt
few-both (Some t) None give few = tt
few-both (Some t) (Some v) give few = few t v

few-delivery : (text : List ℕ) (number : ℕ) (item : ItemValue) (r moment : ℕ)
    → IfSome (delivery_report text number item r moment) IsFew
unfolding delivery_report
few-delivery text number item r moment =
    few-both (tables_value text) (value_of item.octets)
    (λ t v. report_on (λ e x. reports.delivery_report t number item.arrival e x moment) r v)
    (λ t v. few-on (λ e x. reports.delivery_report t number item.arrival e x moment) r v)

few-non-delivery : (text : List ℕ) (number : ℕ) (item : ItemValue) (r reason : ℕ) (diagnostic : Option ℕ)
    → IfSome (non_delivery_report text number item r reason diagnostic) IsFew
unfolding non_delivery_report
few-non-delivery text number item r reason diagnostic =
    few-both (tables_value text) (value_of item.octets)
    (λ t v. report_on (λ e x. reports.non_delivery_report t number item.arrival e x reason diagnostic) r v)
    (λ t v. few-on (λ e x. reports.non_delivery_report t number item.arrival e x reason diagnostic) r v)

few-renamed : (s : Situation) (p : ReportFields) (o : Option Attributes)
    → IfSome (option_map (λ (n : Attributes). report (walks.passed_back s p n)) o) IsFew
few-renamed s p None = tt
few-renamed s p (Some n) = few-report (walks.passed_back s p n)

few-passed-under : (items : List ItemValue) (origin : Origin) (arrival : ℕ) (t : TablesValue) (v : ApduValue)
    → IfSome (passed_under items origin arrival t v) IsFew
few-passed-under items origin arrival t (message v) = tt
few-passed-under items origin arrival t (probe e) = tt
few-passed-under items origin arrival t (report p) =
    few-renamed (situation t arrival 0) p (passed_to t (is_own origin) p (accepted_in items))

few-passed : (text : List ℕ) (items : List ItemValue) (item : ItemValue) → IfSome (passed_back text items item) IsFew
unfolding passed_back
few-passed text items item =
    few-both (tables_value text) (value_of item.octets) (passed_under items item.origin item.arrival)
    (few-passed-under items item.origin item.arrival)

-- ---- expansions: a list has few members

read-ok : {A E : Type 0} (r : Result A E) (x : A) → value_read r ≡ Some x → r ≡ Ok x
read-ok (Ok y) x e = cc
read-ok (Err fault) x e = absurd cc

whole-tables : (text : List ℕ) (t : TablesValue) → tables_value text ≡ Some t → AreTables t
unfolding tables_value
whole-tables text t is = are_whole text t (read-ok (tables_of text) t is)

few-members : (t : TablesValue) (hop : Hop) (l : MailList) → AreTables t → list_at t hop ≡ Some l
    → length l.members ≤ 1000
few-members t (Hops.Local place) l whole is = absurd cc
few-members t (Hops.List place) l whole is = whole.few_members place l (record { found = is })
few-members t (Hops.Peer place) l whole is = absurd cc
few-members t Hops.None l whole is = absurd cc

few-copy : (s : Situation) (l : MailList) (v : MessageValue) (x : RecipientFields) → length l.members ≤ 1000
    → IfSome (option_map message (members_copy s l v x)) IsFew
few-copy s l v x few = by_copy (members_copy s l v x) refl
  where
    by_copy : (o : Option MessageValue) → members_copy s l v x ≡ o → IfSome (option_map message o) IsFew
    by_copy None is = tt
    by_copy (Some copy) is =
        few_message copy (omega (arith, few, (members_copy_is_one s l v copy x is).as_many))

few-to : (t : TablesValue) (number arrival : ℕ) (v : MessageValue) (x : RecipientFields) (o : Option MailList)
    (moment : ℕ) → ((l : MailList) → o ≡ Some l → length l.members ≤ 1000)
    → AreFew (expanded_to t number arrival v x o moment)
few-to t number arrival v x None moment few = All-nil IsFew
few-to t number arrival v x (Some l) moment few =
    let copies : List ApduValue =
    option_to_list (option_map message (members_copy (situation t arrival moment) l v x)) in
    let said : Option ReportFields =
    reports.expansion_report t (number + length copies) arrival v.envelope x l moment in
    All-append IsFew copies (option_to_list (option_map report said))
    (few-listed (option_map message (members_copy (situation t arrival moment) l v x))
    (few-copy (situation t arrival moment) l v x (few l refl)))
    (few-listed (option_map report said) (few-reports said))

few-for : (t : TablesValue) (number arrival : ℕ) (v : MessageValue) (o : Option RecipientFields) (moment : ℕ)
    → AreTables t → AreFew (expanded_for t number arrival v o moment)
few-for t number arrival v None moment whole = All-nil IsFew
few-for t number arrival v (Some x) moment whole =
    few-to t number arrival v x (list_at t (best_hop t x.name)) moment
    (λ l is. few-members t (best_hop t x.name) l whole is)

few-expanded : (a : Option TablesValue) (number arrival : ℕ) (b : Option ApduValue) (r moment : ℕ)
    → ((t : TablesValue) → a ≡ Some t → AreTables t) → AreFew (expansion_under a number arrival b r moment)
few-expanded None number arrival b r moment whole = All-nil IsFew
few-expanded (Some t) number arrival None r moment whole = All-nil IsFew
few-expanded (Some t) number arrival (Some (message v)) r moment whole =
    few-for t number arrival v (numbered v.envelope.recipients r) moment (whole t refl)
few-expanded (Some t) number arrival (Some (probe e)) r moment whole = All-nil IsFew
few-expanded (Some t) number arrival (Some (report p)) r moment whole = All-nil IsFew

few-expansion : (text : List ℕ) (number : ℕ) (item : ItemValue) (r moment : ℕ)
    → AreFew (expansion text number item r moment)
unfolding expansion
few-expansion text number item r moment =
    few-expanded (tables_value text) number item.arrival (value_of item.octets) r moment (whole-tables text)

-- ---- what a discharge makes

few-made : (m : Machine) (item : ItemValue) (text : List ℕ) (r : ℕ) (how : Discharge) (moment : ℕ)
    → AreFew (made_by m item text r how moment)
few-made m item text r delivered moment =
    few-unless item (delivery_report text (length m.items + 1) item r moment)
    (few-delivery text (length m.items + 1) item r moment)
few-made m item text r expanded moment = few-expansion text (length m.items + 1) item r moment
few-made m item text r affirmed moment =
    few-unless item (delivery_report text (length m.items + 1) item r moment)
    (few-delivery text (length m.items + 1) item r moment)
few-made m item text r (not_delivered reason diagnostic) moment =
    few-unless item (non_delivery_report text (length m.items + 1) item r reason (Some diagnostic))
    (few-non-delivery text (length m.items + 1) item r reason (Some diagnostic))
few-made m item text r (failed failure) moment =
    few-unless item
    (non_delivery_report text (length m.items + 1) item r (reason_of failure) (diagnostic_of failure))
    (few-non-delivery text (length m.items + 1) item r (reason_of failure) (diagnostic_of failure))
few-made m item text r discarded moment = All-nil IsFew
few-made m item text r passed moment = few-listed (passed_back text m.items item) (few-passed text m.items item)
few-made m item text r (sent peer tables decided format) moment = All-nil IsFew

few-made-for : (m : Machine) (item : ItemValue) (o : Option (List ℕ)) (rs : List ℕ) (how : Discharge) (moment : ℕ)
    → AreFew (made_for m item o rs how moment)
few-made-for m item None rs how moment = All-nil IsFew
few-made-for m item (Some text) [] how moment = All-nil IsFew
few-made-for m item (Some text) (r ∷ rs) how moment = few-made m item text r how moment

-- ---- items

own-stored : (vs : List ApduValue) (moment : ℕ) → moment ≤ last_moment → AreFew vs
    → All IsStored (map (own_item moment) vs)
own-stored vs moment fits few =
    All-map IsStored (own_item moment) vs (λ k d within. record { arrived = fits; few = few k d within })

get-is : (xs : List ItemValue) (k : ℕ) (x : ItemValue) → slice_get xs k ≡ Some x → get_or xs k x ≡ x
get-is [] k x e = refl
get-is (y ∷ xs) zero x e = cc
get-is (y ∷ xs) (suc k) x e = get-is xs k x e

stored-at : (items : List ItemValue) (i : ℕ) (item : ItemValue) → All IsStored items → numbered items i ≡ Some item
    → IsStored item
stored-at items zero item stored e = absurd cc
stored-at items (suc k) item stored e =
    subst IsStored (get-is items k item e) (stored k item (slice_get_within items k item e))

length-with : (ss : List (Option Status)) (rs : List ℕ) (s : Status) → length (with_statuses ss rs s) ≡ length ss
length-with ss [] s = refl
length-with ss (r ∷ rs) s =
    length-with (set_numbered ss r (Some s)) rs s ∙ length-set_numbered ss r (Some s)

discharged-stored : (item : ItemValue) (rs : List ℕ) (how : Discharge) (moment : ℕ) → IsStored item
    → IsStored (discharged_item item rs how moment)
discharged-stored item rs how moment stored = record {
  arrived = stored.arrived;
  few = omega (
    arith,
    stored.few,
    length-with item.statuses rs (status_after (is_report (value_of item.octets)) how moment),
  );
}

set-stored : (items : List ItemValue) (i : ℕ) (item : ItemValue) → IsStored item → All IsStored items
    → All IsStored (set_numbered items i item)
set-stored items zero item new stored = stored
set-stored items (suc k) item new stored = All-set IsStored items k item new stored

-- ---- steps of the machine

-- the step sets neither tables nor a format, its moment is in its range, and what it accepts is an APDU
abbrev pub Fits : MachineStep → Type 0
Fits (set_tables text) = ⊥
Fits set_format = ⊥
Fits (accept octets origin moment) = IsApdu octets × (moment ≤ last_moment)
Fits (discharge i rs how moment) = moment ≤ last_moment

abbrev pub EachFits : List MachineStep → Type 0
EachFits [] = Unit {0}
EachFits (step ∷ steps) = Fits step × EachFits steps

stored-discharged : (m : Machine) (i : ℕ) (rs : List ℕ) (how : Discharge) (moment : ℕ) → moment ≤ last_moment
    → All IsStored m.items → All IsStored (machine_after m (discharge i rs how moment)).items
stored-discharged m i rs how moment fits stored = by_item (numbered m.items i) refl
  where
    by_item : (o : Option ItemValue) → numbered m.items i ≡ o → All IsStored (items_after m o i rs how moment)
    by_item None is = stored
    by_item (Some item) is =
        let made : List ApduValue = made_for m item (numbered m.tables (last_tables m)) rs how moment in
        All-append IsStored (set_numbered m.items i (discharged_item item rs how moment)) (map (own_item moment) made)
        (set-stored m.items i (discharged_item item rs how moment)
        (discharged-stored item rs how moment (stored-at m.items i item stored is)) stored)
        (own-stored made moment fits (few-made-for m item (numbered m.tables (last_tables m)) rs how moment))

stored-one : (m : Machine) (step : MachineStep) → Fits step → All IsStored m.items
    → All IsStored (machine_after m step).items
stored-one m (set_tables text) fits stored = absurd fits
stored-one m set_format fits stored = absurd fits
stored-one m (accept octets origin moment) fits stored =
    All-push IsStored m.items (accepted_item octets origin moment) stored
    (record { arrived = fits.1; few = few_accepted octets fits.0 })
stored-one m (discharge i rs how moment) fits stored = stored-discharged m i rs how moment fits stored

pub stored-run : (m : Machine) (steps : List MachineStep) → EachFits steps → All IsStored m.items
    → All IsStored (machine_run m steps).items
stored-run m [] fits stored = stored
stored-run m (step ∷ steps) fits stored =
    stored-run (machine_after m step) steps fits.1 (stored-one m step fits.0 stored)

-- the machine has the tables and the format of another
pub record HasRulesOf (m now : Machine) : Type 0 where
  pub tables : now.tables ≡ m.tables
  pub format : now.format ≡ m.format

same-rules : (m : Machine) (step : MachineStep) → Fits step → HasRulesOf m (machine_after m step)
same-rules m (set_tables text) fits = absurd fits
same-rules m set_format fits = absurd fits
same-rules m (accept octets origin moment) fits = record { tables = refl; format = refl }
same-rules m (discharge i rs how moment) fits = record { tables = refl; format = refl }

pub rules-stay : (m : Machine) (steps : List MachineStep) → EachFits steps → HasRulesOf m (machine_run m steps)
rules-stay m [] fits = record { tables = refl; format = refl }
rules-stay m (step ∷ steps) fits =
    let first = same-rules m step fits.0 in
    let more = rules-stay (machine_after m step) steps fits.1 in
    record { tables = more.tables ∙ first.tables; format = more.format ∙ first.format }
