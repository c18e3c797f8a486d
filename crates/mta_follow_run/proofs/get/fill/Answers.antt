use Rattle.std.proofs.Common.{arith, refl, rules}
use Rattle.std.proofs.lemmas.Grind.{common_steps}
use Rattle.mta_follow_run.proofs.Getting.{moved_by, over_end, over_failed}
use Rattle.mta_follow_run.proofs.get.fill.Goals as goal

pub returns-in_default-clause-moved : goal.returns-in_default-clause-moved
returns-in_default-clause-moved g c =
    over_failed g.L.Link.model c.args.link.now c.get.new.self c.args.reader.now c.reserve.new.self _
    c.in_ok-reserve.ensures.ok c.in_default.ensures.kept
    c.get.ensures.cause.later c.in_default.ensures.cause.failed

pub returns-then-count-eq0-clause-moved : goal.returns-then-count-eq0-clause-moved
returns-then-count-eq0-clause-moved g c =
    over_end g.L.Link.model c.args.link.now c.get.new.self c.args.reader.now c.reserve.new.self _
    c.in-Ok.count c.get.new.into c.in_ok-reserve.ensures.ok
    c.if-count-eq0.true (first_of (search rules, grind (arith, common_steps)))
    c.in-Ok.ensures.got c.get.ensures.cause.later

pub returns-clause-moved : goal.returns-clause-moved
returns-clause-moved g c =
    moved_by g.L.Link.model c.args.link.now c.get.new.self c.args.reader.now c.reserve.new.self c.feed.new.self
    _ c.in-Ok.count
    c.get.new.into _ c.in_ok-reserve.ensures.ok refl c.if-count-eq0.false c.in-Ok.ensures.bound c.in-Ok.ensures.got
    c.get.ensures.cause.later
    c.in_ok-feed.ensures.ok
