-- What becomes of a copy at the second agent.
use Rattle.std.proofs.Common.{◌≡◌, ℕ, false, [], ◌∷◌, Some, None, refl, ap, ◌∙◌}
use Rattle.mta_names.specs.Normal.{normal_text, is_same_name}
use Rattle.mta_tables.specs.Hops.{is_best, best_hop}
use Rattle.mta_procedures.specs.declared.verdict.Verdict.TheVariants.{Deliver}
use Rattle.mta_procedures.specs.Bits.{with_responsibility}
use Rattle.mta_procedures.specs.Verdicts.{first_case, verdict_of_message}
use Rattle.mta_records.specs.declared.state.Status.TheVariants.{Pending}
use Rattle.mta_apdu.specs.Apdus.{message}
use Rattle.mta_machine.specs.Apdu.{responsible_in, value_of}
use Rattle.mta_machine.specs.Items.{ItemValue, statuses_read}
use Rattle.mta_machine.specs.Rules.{delivery_report, is_expired, tables_value, verdict_of, verdict_under}
use Rattle.mta_drill_laws.specs.Laws.{CopiesAreDelivered}
use Rattle.mta_drill_laws.specs.Messages.{copied, copy_of}
use Rattle.mta_drill_laws.specs.Tables.{second_tables, second_text}
use Rattle.mta_drill_laws.proofs.Read.{copy_kept, copy_read}
use Rattle.mta_drill_laws.proofs.Relayed.{expired_so, read_so}
use Rattle.mta_drill_laws.proofs.TablesRead.{second_is_read}

delivered : (i : ℕ) → verdict_under 2 second_tables (message (copied i)) 0 1 0 ≡ Some (Deliver 0)
unfolding is_same_name normal_text is_best best_hop first_case verdict_of_message with_responsibility
delivered i = refl

verdict_is : (i : ℕ) → verdict_of 2 second_text (copy_of i) 0 1 0 ≡ Some (Deliver 0)
unfolding verdict_of
verdict_is i = read_so (tables_value second_text) (value_of (copy_of i)) second_tables (message (copied i))
    (λ t v. verdict_under 2 t v 0 1 0) second_is_read (copy_kept i) ∙ delivered i

statuses_are : (i : ℕ) → statuses_read (value_of (copy_of i)) ≡ Some Pending ∷ []
unfolding responsible_in with_responsibility
statuses_are i = ap statuses_read (copy_kept i)

in_time : (i : ℕ) → is_expired 2 second_text (copy_of i) 0 0 ≡ false
unfolding is_expired
in_time i = expired_so (tables_value second_text) (value_of (copy_of i)) second_tables (message (copied i))
    second_is_read (copy_kept i)

no_report : (i number : ℕ) (item : ItemValue) → item.octets ≡ copy_of i
    → delivery_report second_text number item 1 0 ≡ None
unfolding delivery_report with_responsibility
no_report i number item e = read_so (tables_value second_text) (value_of item.octets) second_tables
    (message (copied i)) _ second_is_read (ap value_of e ∙ copy_kept i)

pub copies_delivered : CopiesAreDelivered
copies_delivered i = record {
  read = copy_read i;
  kept = copy_kept i;
  statuses = statuses_are i;
  verdict = verdict_is i;
  in_time = in_time i;
  no_report = no_report i;
}
