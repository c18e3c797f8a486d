use Rattle.std.proofs.Common.{◌≡◌, List, Some, None, sym, ap, subst, ◌∙◌}
use Rattle.std.specs.List.{position}
use Rattle.mta_histories.specs.Lanes.{Lane}
use Rattle.mta_lanes.specs.Finds.{has_number}
use Rattle.mta_lanes.proofs.Numbering.{lanes_with, may_there, changed_there, nothing_there}
use Rattle.mta_lanes.proofs.lanes.Lanes.change.Goals as goal

pub make-requires : goal.make-requires
make-requires c =
    may_there c.args.number c.args.self.now.open_lanes.items c.in-Some.place c.index_mut-lane.result.now c.args.change
    (subst (λ (ls : List Lane). position (has_number c.args.number) ls
    ≡ Some c.in-Some.place) c.as_slice.ensures.value
    (sym c.place_of.ensures.exact ∙ c.in-Some.is))
    c.index_mut-lane.ensures.value c.requires

pub returns-in-Some : goal.returns-in-Some
returns-in-Some c =
    ap (lanes_with c.args.self.now.count)
    (changed_there c.args.number c.args.self.now.open_lanes.items c.in-Some.place c.index_mut-lane.result.now
    c.make.new.self c.args.change
    (subst (λ (ls : List Lane). position (has_number c.args.number) ls ≡ Some c.in-Some.place)
    c.as_slice.ensures.value (sym c.place_of.ensures.exact ∙ c.in-Some.is))
    c.index_mut-lane.ensures.value c.make.ensures)

pub returns-in_default : goal.returns-in_default
returns-in_default c =
    ap (lanes_with c.args.self.now.count)
    (nothing_there c.args.number c.args.self.now.open_lanes.items c.args.change
    (subst (λ (ls : List Lane). position (has_number c.args.number) ls ≡ None)
    c.as_slice.ensures.value (sym c.place_of.ensures.exact ∙ c.in_default.is)))
