use Rattle.std.proofs.Common.{◌≡◌, Bool, true, not, List, sym, ap, subst, ◌∙◌}
use Rattle.std.specs.Prelude.{◌↔◌}
use Rattle.std.specs.List.{list_any}
use Rattle.mta_histories.specs.Lanes.{Lane, activities_of, holds}
use Rattle.mta_lanes.proofs.Holding.{none_holds}
use Rattle.mta_lanes.proofs.lanes.Lanes.is_free.Goals as goal

pub returns : goal.returns
returns c =
    subst
    (λ (b : Bool). (not b ≡ true) ↔ (activities_of c.args.self.now.open_lanes.items c.args.item c.args.recipient
    ≡ 0))
    (sym
    (c.is_held.ensures
    ∙ ap (λ (ls : List Lane). list_any (holds c.args.item c.args.recipient) ls) c.as_slice.ensures.value))
    (none_holds c.args.item c.args.recipient c.args.self.now.open_lanes.items)
