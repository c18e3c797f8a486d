use Rattle.std.proofs.Common.{◌≡◌, List, ℕ, length, ap, subst, ◌∙◌}
use Rattle.mta_records.specs.Fields.{numbers}
use Rattle.mta_records.specs.Sizes.{capped}
use Rattle.mta_records.specs.Snapshots.{a_transfer}
use Rattle.mta_records.specs.State.{Transfer}
use Rattle.mta_records.proofs.Lengths.{transfer_sized}
use Rattle.mta_records.proofs.lane_records.transfer_size.Goals as goal

pub returns : goal.returns
returns c =
    subst (λ (t : Transfer). c.saturating_add-2.result ≡ capped (length ((a_transfer c.args.two).spelled t)))
    c.transfer.view_is
    (transfer_sized c.args.two _ c.numbers_size.result c.total.result c.fixed_size.result c.saturating_add.result
    c.saturating_add-2.result
    (c.numbers_size.ensures ∙ ap (λ (xs : List ℕ). capped (length (numbers xs))) c.as_slice.ensures)
    c.total.ensures c.fixed_size.ensures c.saturating_add.ensures c.saturating_add-2.ensures)
