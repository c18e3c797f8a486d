use Rattle.std.proofs.Common.{ap, ◌∙◌, ◌∷◌, subst, sym}
use Rattle.mta_units.proofs.AgainLaws.{units_again}
use Rattle.mta_drill_links.specs.Ways.{AreOnWay, WayValue, unit_in}
use Rattle.mta_drill_links.proofs.Ways.{first_comes}
use Rattle.mta_drill_links.proofs.way.Way.next.Goals as goal

pub returns-clause-first : goal.returns-clause-first
returns-clause-first c = λ u us on.
    let came =
    first_comes units_again u us c.self.inside.octets c.in_ok-found.found c.next.new.self
    (subst (λ (w : WayValue). AreOnWay (u ∷ us) w.feed) (sym c.self.view_is) on) c.in_ok-found.ensures.exact in
    (c.unit_in.ensures ∙ ap unit_in came.0, came.1)
