use Rattle.std.proofs.Common.{◌≡◌, ℕ, List, length, ap, subst, ◌∙◌, eqb}
use Rattle.mta_records.specs.Fields.{string}
use Rattle.mta_records.specs.Form.{listed}
use Rattle.mta_records.specs.Sizes.{capped}
use Rattle.mta_records.specs.Snapshots.{item_form, line_form, lane_form, a_snapshot}
use Rattle.mta_records.specs.State.{Lane, RecordedItem, SnapshotValue}
use Rattle.mta_records.specs.declared.state.MailboxLine.{MailboxLine}
use Rattle.mta_records.proofs.Lengths.{snapshot_sized}
use Rattle.mta_records.proofs.snapshot.Snapshot.size.Goals as goal

pub returns : goal.returns
returns c =
    subst (λ (s : SnapshotValue). c.saturating_add-4.result ≡ capped (length (a_snapshot.spelled s))) c.self.view_is
    (snapshot_sized _ c.list_size.result c.list_size-2.result c.list_size-3.result c.list_size-4.result
    c.saturating_add.result c.saturating_add-2.result c.saturating_add-3.result c.saturating_add-4.result
    (c.list_size.ensures
    ∙ ap (λ (xs : List (List ℕ)). capped (length (listed string xs))) c.as_slice.ensures.value)
    (c.list_size-2.ensures
    ∙ ap (λ (xs : List RecordedItem). capped (length (listed item_form.spelled xs))) c.as_slice-2.ensures.value)
    (c.list_size-3.ensures
    ∙ ap (λ (xs : List MailboxLine). capped (length (listed line_form.spelled xs))) c.as_slice-3.ensures.value)
    (c.list_size-4.ensures
    ∙ ap (λ (xs : List Lane). capped (length (listed (lane_form (eqb c.self.inside.format 2)).spelled xs)))
    c.as_slice-4.ensures.value)
    c.saturating_add.ensures c.saturating_add-2.ensures c.saturating_add-3.ensures c.saturating_add-4.ensures)
