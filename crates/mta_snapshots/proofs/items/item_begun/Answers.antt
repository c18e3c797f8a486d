use Rattle.std.proofs.Common.{◌∙◌, length, ap, subst, arith}
use Rattle.std.specs.Prelude.{IfOk}
use Rattle.std.specs.Global.{Vec}
use Rattle.mta_records.specs.declared.state.Status.{Status}
use Rattle.mta_records.specs.State.{RecordedItem}
use Rattle.mta_snapshots.specs.Items.{ItemBegins}
use Rattle.mta_snapshots.proofs.Listing.{same_item}
use Rattle.mta_snapshots.proofs.items.item_begun.Goals as goal

pub item_of-requires : goal.item_of-requires
item_of-requires c =
    omega (
      arith,
      c.requires,
      ap (λ (i : RecordedItem). length i.octets) c.recorded.view_is,
      ap length c.in_ok-octets.ensures,
    )

pub returns : goal.returns
returns c =
    subst (λ (i : RecordedItem). IfOk c.item_of.result (ItemBegins c.args.moment i))
    (same_item c.recorded.inside.origin c.recorded.inside.arrival c.in_ok-octets.octets.value
    c.recorded.inside.octets.value c.replace-codes.result.items c.recorded.inside.codes.items c.in_ok-octets.ensures
    (ap (λ (v : Vec Status). v.items) c.replace-codes.ensures.value)
    ∙ c.recorded.view_is)
    c.item_of.ensures
