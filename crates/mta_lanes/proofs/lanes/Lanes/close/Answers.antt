use Rattle.std.proofs.Common.{◌≡◌, List, Some, None, sym, ap, subst, ◌∙◌}
use Rattle.std.specs.List.{position}
use Rattle.mta_histories.specs.Lanes.{Lane}
use Rattle.mta_lanes.specs.Finds.{has_number}
use Rattle.mta_lanes.proofs.Numbering.{lanes_with, is_place, no_place}
use Rattle.mta_lanes.proofs.lanes.Lanes.close.Goals as goal

pub returns-in-Some : goal.returns-in-Some
returns-in-Some c =
    ap (lanes_with c.args.self.now.count)
    (c.remove.ensures.items
    ∙ sym (is_place c.args.number c.args.self.now.open_lanes.items c.in-Some.place c.remove.result
    (subst (λ (ls : List Lane). position (has_number c.args.number) ls ≡ Some c.in-Some.place)
    c.as_slice.ensures.value (sym c.place_of.ensures.exact ∙ c.in-Some.is))).without)

pub returns-in_default : goal.returns-in_default
returns-in_default c =
    ap (lanes_with c.args.self.now.count)
    (sym (no_place c.args.number c.args.self.now.open_lanes.items
    (subst (λ (ls : List Lane). position (has_number c.args.number) ls ≡ None)
    c.as_slice.ensures.value (sym c.place_of.ensures.exact ∙ c.in_default.is))).1)
