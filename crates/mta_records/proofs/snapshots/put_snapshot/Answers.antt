use Rattle.std.proofs.Common.{◌≡◌, ◌++◌, ℕ, List, OnOk, ap, subst, ◌∙◌, eqb}
use Rattle.mta_records.specs.Fields.{string}
use Rattle.mta_records.specs.Form.{listed}
use Rattle.mta_records.specs.Snapshots.{item_form, line_form, lane_form, a_snapshot}
use Rattle.mta_records.specs.State.{Lane, RecordedItem, SnapshotValue}
use Rattle.mta_records.specs.declared.state.MailboxLine.{MailboxLine}
use Rattle.mta_records.proofs.Written.{snapshot_put}
use Rattle.mta_records.proofs.snapshots.put_snapshot.Goals as goal

pub returns : goal.returns
returns c =
    subst (λ (s : SnapshotValue). OnOk c.put_list-4.result
    (c.put_list-4.new.out ≡ c.args.out.now ++ a_snapshot.spelled s))
    c.state.view_is
    (snapshot_put c.put_list-4.result _ c.args.out.now c.put_number.new.out c.put_long_number.new.out c.put_list.new.out
    c.put_list-2.new.out c.put_list-3.new.out c.put_number-2.new.out c.put_list-4.new.out
    c.in_ok-put_number.ensures
    c.in_ok-put_long_number.ensures
    (c.in_ok-put_list.ensures
    ∙ ap (λ (xs : List (List ℕ)). c.put_long_number.new.out ++ listed string xs) c.as_slice.ensures.value)
    (c.in_ok-put_list-2.ensures
    ∙ ap (λ (xs : List RecordedItem). c.put_list.new.out ++ listed item_form.spelled xs) c.as_slice-2.ensures.value)
    (c.in_ok-put_list-3.ensures
    ∙ ap (λ (xs : List MailboxLine). c.put_list-2.new.out ++ listed line_form.spelled xs) c.as_slice-3.ensures.value)
    c.in_ok-put_number-2.ensures
    (subst (λ (xs : List Lane). OnOk c.put_list-4.result
    (c.put_list-4.new.out ≡ c.put_number-2.new.out ++ listed (lane_form (eqb c.state.inside.format 2)).spelled xs))
    c.as_slice-4.ensures.value c.put_list-4.ensures))
