use Rattle.std.proofs.Common.{◌∙◌, subst, sym}
use Rattle.std.proofs.lemmas.Result.{on_ok_weaker}
use Rattle.mta_drill_links.specs.Ways.{AreOnWay, WayValue}
use Rattle.mta_drill_links.proofs.Ways.{put_behind}
use Rattle.mta_drill_links.proofs.way.Way.put.Goals as goal

pub returns-clause-put : goal.returns-clause-put
returns-clause-put c = λ us on.
    on_ok_weaker c.feed.result
    (λ went. put_behind us c.args.unit.now c.self.inside.octets c.feed.new.self c.as_slice.result.now
    (c.as_slice.ensures ∙ c.in_ok-octets.ensures) c.is_read_again.ensures went
    (subst (λ (w : WayValue). AreOnWay us w.feed) (sym c.self.view_is) on)) c.feed.ensures.ok
