-- What becomes of a drill's message at the first agent.
use Rattle.std.proofs.Common.{◌≡◌, ℕ, ◌≤◌, false, [], ◌∷◌, length, Option, Some, refl, sym}
use Rattle.std.proofs.Common.{ap, subst, ◌∙◌, arith}
use Rattle.std.specs.Prelude.{nat_lt}
use Rattle.std.proofs.lemmas.Bool.Decides.{nat_tests}
use Rattle.mta_names.specs.Normal.{normal_text, is_same_name}
use Rattle.mta_tables.specs.Hops.{is_best, best_hop}
use Rattle.mta_tables.specs.Tables.{TablesValue}
use Rattle.mta_procedures.specs.declared.case.Case.TheVariants.{ToPeer}
use Rattle.mta_procedures.specs.declared.verdict.Verdict.TheVariants.{Relay}
use Rattle.mta_procedures.specs.Copies.{is_long, outgoing_message}
use Rattle.mta_procedures.specs.Facts.{Facts, facts_of_message}
use Rattle.mta_procedures.specs.Rows.{to, watt}
use Rattle.mta_procedures.specs.Verdicts.{first_case, length_for_members, message_column, verdict_of_message}
use Rattle.mta_procedures.proofs.LongLaws.{messages_long}
use Rattle.mta_records.specs.declared.state.Status.TheVariants.{Pending}
use Rattle.mta_apdu.specs.Apdus.{ApduValue, message}
use Rattle.mta_machine.specs.Apdu.{responsible_in, value_of}
use Rattle.mta_machine.specs.Items.{statuses_read}
use Rattle.mta_machine.specs.Rules.{is_expired, outgoing_copy, read_both}
use Rattle.mta_machine.specs.Rules.{route_word}
use Rattle.mta_machine.specs.Rules.{expired_under, tables_value, verdict_of, verdict_under}
use Rattle.mta_drill_laws.specs.Laws.{MessagesAreRelayed}
use Rattle.mta_drill_laws.specs.Messages.{copy_of, drilled, message_of}
use Rattle.mta_drill_laws.specs.Tables.{east, first_tables, first_text}
use Rattle.mta_drill_laws.proofs.Contents.{short}
use Rattle.mta_drill_laws.proofs.Read.{copy_long, copy_short, message_kept, message_read}
use Rattle.mta_drill_laws.proofs.Wholes.{at_first}
use Rattle.mta_drill_laws.proofs.TablesRead.{first_is_read}

-- ---- what is said of a text and of octets that are read

pub read_so : {A : Type 0} (t : Option TablesValue) (v : Option ApduValue) (x : TablesValue) (y : ApduValue)
    (give : TablesValue → ApduValue → Option A) → t ≡ Some x → v ≡ Some y → read_both t v give ≡ give x y
read_so t v x y give p q = rw (p, q) refl

-- ---- the verdict

-- the copy is not long
not_long : (i : ℕ) → is_long (length (outgoing_message at_first (drilled i) [])) ≡ false
unfolding copy_of
not_long i =
    let same = messages_long at_first at_first (drilled i) [] (1 ∷ []) refl refl in
    let few : length (outgoing_message at_first (drilled i) []) ≤ 4000 = omega (arith, same, copy_short i, short i) in
    below (length (outgoing_message at_first (drilled i) [])) few
  where
    below : (n : ℕ) → n ≤ 4000 → nat_lt 2097152 n ≡ false
    below n le = grind (arith, nat_tests)

case_of_short : (f : Facts) → f.long_copy ≡ false → first_case (record f { long_copy = false }) ≡ ToPeer
    → first_case f ≡ ToPeer
case_of_short f e h = subst (λ b. first_case (record f { long_copy = b }) ≡ ToPeer) (sym e) h

abbrev members : ℕ → ℕ
members i = length_for_members at_first (drilled i) (to watt 1)

case_is : (i : ℕ) → first_case (facts_of_message 2 at_first (drilled i) (to watt 1) (members i)) ≡ ToPeer
unfolding is_same_name normal_text is_best best_hop first_case
case_is i = case_of_short (facts_of_message 2 at_first (drilled i) (to watt 1) (members i)) (not_long i) refl

column_is : message_column (best_hop first_tables watt) 0 ToPeer ≡ Relay 0
unfolding is_same_name normal_text is_best best_hop
column_is = refl

relayed : (i : ℕ) → verdict_under 2 first_tables (message (drilled i)) 0 1 0 ≡ Some (Relay 0)
unfolding verdict_of_message
relayed i = ap (λ c. Some (message_column (best_hop first_tables watt) 0 c)) (case_is i) ∙ ap Some column_is

verdict_is : (i : ℕ) → verdict_of 2 first_text (message_of i) 0 1 0 ≡ Some (Relay 0)
unfolding verdict_of
verdict_is i = read_so (tables_value first_text) (value_of (message_of i)) first_tables (message (drilled i))
    (λ t v. verdict_under 2 t v 0 1 0) first_is_read (message_kept i) ∙ relayed i

-- ---- the rest

statuses_are : (i : ℕ) → statuses_read (value_of (message_of i)) ≡ Some Pending ∷ []
unfolding responsible_in
statuses_are i = ap statuses_read (message_kept i)

route_is : (i : ℕ) → route_word first_text (message_of i) 1 ≡ Some east
unfolding route_word is_same_name normal_text is_best best_hop east
route_is i = read_so (tables_value first_text) (value_of (message_of i)) first_tables (message (drilled i)) _
    first_is_read (message_kept i)

pub expired_so : (t : Option TablesValue) (v : Option ApduValue) (x : TablesValue) (y : ApduValue) → t ≡ Some x
    → v ≡ Some y → expired_under 2 t v 0 0 ≡ expired_under 2 (Some x) (Some y) 0 0
expired_so t v x y p q = rw (p, q) refl

in_time : (i : ℕ) → is_expired 2 first_text (message_of i) 0 0 ≡ false
unfolding is_expired
in_time i = expired_so (tables_value first_text) (value_of (message_of i)) first_tables (message (drilled i))
    first_is_read (message_kept i)

copy_made : (i : ℕ) → outgoing_copy first_text (message_of i) 0 (1 ∷ []) 0 ≡ Some (copy_of i)
unfolding outgoing_copy copy_of
copy_made i = read_so (tables_value first_text) (value_of (message_of i)) first_tables (message (drilled i)) _
    first_is_read (message_kept i)

pub messages_relayed : MessagesAreRelayed
messages_relayed i = record {
  read = message_read i;
  kept = message_kept i;
  statuses = statuses_are i;
  verdict = verdict_is i;
  route = route_is i;
  in_time = in_time i;
  copy = copy_made i;
  some_octets = copy_long i;
  few_octets = copy_short i;
}
