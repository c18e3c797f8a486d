-- The place that the index says is the one that a scan finds.
use Rattle.std.proofs.Common.{sym, ◌∙◌}
use Rattle.mta_tables.specs.Fronts.{is_route_of}
use Rattle.mta_tables.specs.Indexes.{route_pattern}
use Rattle.mta_tables.proofs.FrontLaws.{route_front}
use Rattle.mta_tables.proofs.Indexes.{found_by}
use Rattle.mta_tables.proofs.routes.Routes.of_front.Goals as goal

pub returns-then-is_whole : goal.returns-then-is_whole
returns-then-is_whole c =
    let n = c.args.name.now in
    let count = c.args.count in
    let d = c.args.digest in
    found_by (is_route_of count n) route_pattern d c.self.inside.inner.items c.args.self.now c.self.inside.patterns
    c.of.result c.checked_route.result
    c.self.view_is c.self.invariant.2 (sym c.is_whole.ensures ∙ c.if-is_whole.true)
    (route_front n count d c.requires) c.of.ensures c.checked_route.ensures
