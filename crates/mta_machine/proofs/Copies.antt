-- What is relayed has a copy that can be sent, and an expansion makes two items at most.
use Rattle.std.proofs.Common.{◌≡◌, ◌≤◌, ◌+◌, ℕ, true, List, [], ◌∷◌, length}
use Rattle.std.proofs.Common.{Option, Some, None, refl, arith, subst, length-append}
use Rattle.std.specs.Prelude.{option_map, option_to_list}
use Rattle.mta_names.specs.declared.attributes.Attributes.{Attributes}
use Rattle.mta_envelope_recipient.specs.declared.recipient.RecipientFields.{RecipientFields}
use Rattle.mta_envelope.specs.Messages.{MessageValue}
use Rattle.mta_apdu.specs.Apdus.{ApduValue, message, probe, report}
use Rattle.mta_tables.specs.declared.entry.MailList.{MailList}
use Rattle.mta_tables.specs.Hops.{best_hop}
use Rattle.mta_tables.specs.Tables.{TablesValue}
use Rattle.mta_procedures.specs.declared.verdict.Verdict.{Verdict}
use Rattle.mta_procedures.specs.declared.verdict.Verdict.TheVariants as Verdicts
use Rattle.mta_procedures.specs.Facts.{list_at}
use Rattle.mta_procedures.specs.Members.{members_copy}
use Rattle.mta_procedures.specs.Reports as reports
use Rattle.mta_procedures.specs.Situations.{situation}
use Rattle.mta_procedures.specs.Verdicts.{verdict_on_message, verdict_of_probe, verdict_of_report, length_for_members}
use Rattle.mta_procedures.proofs.RelayLaws.{relayed_messages, relayed_probes, relayed_reports}
use Rattle.mta_machine.specs.Apdu.{value_of}
use Rattle.mta_machine.specs.Items.{ItemValue, numbered}
use Rattle.mta_machine.specs.Rules.{tables_value, read_both, verdict_under, verdict_of, copy_under, outgoing_copy}
use Rattle.mta_machine.specs.Rules.{expanded_to, expanded_for, expansion_under, expansion}

-- ---- copies

-- a value that is given under a test was given of something
mapped-is : {A B : Type 0} (f : A → B) (o : Option A) (v : B) → option_map f o ≡ Some v → (x : A) × (f x ≡ v)
mapped-is f None v e = absurd cc
mapped-is f (Some x) v e = (x, some-same (f x) v e)
  where
    some-same : {C : Type 0} (a b : C) → Some a ≡ Some b → a ≡ b
    some-same a b e = cc

-- each copy of what is relayed has an octet, and not too many
abbrev Fits : List ℕ → Type 0
Fits octets = (1 ≤ length octets) × (length octets ≤ 2097152)

under-fits : (format : ℕ) (t : TablesValue) (v : ApduValue) (arrival r place d : ℕ) (rs : List ℕ) (moment : ℕ)
    → verdict_under format t v arrival r d ≡ Some (Verdicts.Relay place) → Fits (copy_under t v arrival rs moment)
under-fits format t (message v) arrival r place d rs moment e =
    let x = mapped-is (verdict_on_message format (situation t arrival d) v) (numbered v.envelope.recipients r)
    (Verdicts.Relay place) e in
    let relayed = relayed_messages format (situation t arrival d) (situation t arrival moment) v x.0
    (length_for_members (situation t arrival d) v x.0) place rs refl refl x.1 in
    (relayed.some, relayed.few)
under-fits format t (probe v) arrival r place d rs moment e =
    let x = mapped-is (verdict_of_probe format (situation t arrival d) v) (numbered v.recipients r)
    (Verdicts.Relay place) e in
    let relayed = relayed_probes format (situation t arrival d) (situation t arrival moment) v x.0 place rs refl refl
    x.1 in
    (relayed.some, relayed.few)
under-fits format t (report v) arrival r place d rs moment e =
    let x = mapped-is (λ (n : Attributes). verdict_of_report (situation t arrival d) v true)
    (numbered (v.destination ∷ []) r) (Verdicts.Relay place) e in
    let relayed = relayed_reports (situation t arrival d) (situation t arrival moment) v true place refl refl x.1 in
    (relayed.some, relayed.few)

copies-fit : (format : ℕ) (a : Option TablesValue) (b : Option ApduValue) (arrival r place d : ℕ) (rs : List ℕ)
    (moment : ℕ) (copy : List ℕ)
    → read_both a b (λ t v. verdict_under format t v arrival r d) ≡ Some (Verdicts.Relay place)
    → read_both a b (λ t v. Some (copy_under t v arrival rs moment)) ≡ Some copy → Fits copy
copies-fit format None b arrival r place d rs moment copy relayed e = absurd cc
copies-fit format (Some t) None arrival r place d rs moment copy relayed e = absurd cc
copies-fit format (Some t) (Some v) arrival r place d rs moment copy relayed e =
    let same : copy_under t v arrival rs moment ≡ copy = some-same (copy_under t v arrival rs moment) copy e in
    subst Fits same (under-fits format t v arrival r place d rs moment relayed)
  where
    some-same : {C : Type 0} (a b : C) → Some a ≡ Some b → a ≡ b
    some-same a b e = cc

-- the copy for a peer to whom the verdict relays has an octet, and not too many
pub copies_fit : (format : ℕ) (text octets : List ℕ) (arrival r place d : ℕ) (rs : List ℕ) (moment : ℕ) (copy : List ℕ)
    → verdict_of format text octets arrival r d ≡ Some (Verdicts.Relay place)
    → outgoing_copy text octets arrival rs moment ≡ Some copy → (1 ≤ length copy)
    × (length copy ≤ 2097152)
unfolding outgoing_copy verdict_of
copies_fit format text octets arrival r place d rs moment copy relayed e =
    copies-fit format (tables_value text) (value_of octets) arrival r place d rs moment copy relayed e

copies-are : (format : ℕ) (a : Option TablesValue) (b : Option ApduValue) (arrival r d : ℕ) (v : Verdict) (rs : List ℕ)
    (moment : ℕ) → read_both a b (λ t x. verdict_under format t x arrival r d) ≡ Some v
    → (copy : List ℕ) × (read_both a b (λ t x. Some (copy_under t x arrival rs moment)) ≡ Some copy)
copies-are format None b arrival r d v rs moment e = absurd cc
copies-are format (Some t) None arrival r d v rs moment e = absurd cc
copies-are format (Some t) (Some x) arrival r d v rs moment e = (copy_under t x arrival rs moment, refl)

-- where there is a verdict there is a copy
pub copies_are_made : (format : ℕ) (text octets : List ℕ) (arrival r d : ℕ) (v : Verdict) (rs : List ℕ) (moment : ℕ)
    → verdict_of format text octets arrival r d ≡ Some v
    → (copy : List ℕ) × (outgoing_copy text octets arrival rs moment ≡ Some copy)
unfolding outgoing_copy verdict_of
copies_are_made format text octets arrival r d v rs moment e =
    copies-are format (tables_value text) (value_of octets) arrival r d v rs moment e

-- ---- expansions

listed-most : {A : Type 0} (o : Option A) → length (option_to_list o) ≤ 1
listed-most None = omega arith
listed-most (Some v) = omega arith

to-most : (t : TablesValue) (number arrival : ℕ) (v : MessageValue) (x : RecipientFields) (o : Option MailList)
    (moment : ℕ) → length (expanded_to t number arrival v x o moment) ≤ 2
to-most t number arrival v x None moment = omega arith
to-most t number arrival v x (Some l) moment =
    let copies : List ApduValue =
    option_to_list (option_map message (members_copy (situation t arrival moment) l v x)) in
    let said : Option ApduValue =
    option_map report (reports.expansion_report t (number + length copies) arrival v.envelope x l moment) in
    let both = length-append copies (option_to_list said) in
    let first = listed-most (option_map message (members_copy (situation t arrival moment) l v x)) in
    let second = listed-most said in
    omega (arith, both, first, second)

for-most : (t : TablesValue) (number arrival : ℕ) (v : MessageValue) (o : Option RecipientFields) (moment : ℕ)
    → length (expanded_for t number arrival v o moment) ≤ 2
for-most t number arrival v None moment = omega arith
for-most t number arrival v (Some x) moment = to-most t number arrival v x (list_at t (best_hop t x.name)) moment

expansion-most : (a : Option TablesValue) (number arrival : ℕ) (b : Option ApduValue) (r moment : ℕ)
    → length (expansion_under a number arrival b r moment) ≤ 2
expansion-most None number arrival b r moment = omega arith
expansion-most (Some t) number arrival None r moment = omega arith
expansion-most (Some t) number arrival (Some (message v)) r moment =
    for-most t number arrival v (numbered v.envelope.recipients r) moment
expansion-most (Some t) number arrival (Some (probe v)) r moment = omega arith
expansion-most (Some t) number arrival (Some (report v)) r moment = omega arith

-- an expansion makes a members' copy and a report at most
pub expansions_are_few : (text : List ℕ) (number : ℕ) (item : ItemValue) (r moment : ℕ)
    → length (expansion text number item r moment) ≤ 2
unfolding expansion
expansions_are_few text number item r moment =
    expansion-most (tables_value text) number item.arrival (value_of item.octets) r moment
