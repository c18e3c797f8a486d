use Rattle.std.proofs.Common.{◌≡◌, List, Option, Some, None, sym, subst, ◌∙◌}
use Rattle.std.specs.List.{position}
use Rattle.mta_histories.specs.Lanes.{Lane}
use Rattle.mta_lanes.specs.Finds.{has_number, AreJoinedOn}
use Rattle.mta_lanes.proofs.Numbering.{lane_there, no_place}
use Rattle.mta_lanes.proofs.lanes.Lanes.share.Goals as goal

pub returns-in_default-clause-none : goal.returns-in_default-clause-none
returns-in_default-clause-none c =
    λ e.
    (no_place c.args.lane c.args.self.now.open_lanes.items
    (subst (λ (ls : List Lane). position (has_number c.args.lane) ls ≡ None) c.as_slice.ensures.value
    (sym c.place_of.ensures.exact ∙ c.in_default.is))).0

pub returns-clause-ok : goal.returns-clause-ok
returns-clause-ok c =
    subst
    (λ (l : Option Lane). AreJoinedOn l c.args.number c.args.piece.now c.in_ok-octets.octets.value)
    (sym
    (lane_there c.args.lane c.args.self.now.open_lanes.items c.in-Some.place c.index_mut-opened.result.now
    (subst (λ (ls : List Lane). position (has_number c.args.lane) ls ≡ Some c.in-Some.place)
    c.as_slice.ensures.value (sym c.place_of.ensures.exact ∙ c.in-Some.is))
    c.index_mut-opened.ensures.value))
    c.in_ok-octets.ensures.ok
