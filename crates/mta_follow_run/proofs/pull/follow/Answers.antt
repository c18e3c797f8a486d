use Rattle.std.proofs.Common.{ap, arith}
use Rattle.mta_follow_units.specs.Feed.{Feed}
use Rattle.mta_follow_run.proofs.Pulling.{pulling_none, pulling_now, pulls_end, pulls_on, rounds_fit}
use Rattle.mta_follow_run.proofs.pull.follow.Goals as goal

pub loop-got-init : goal.loop-got-init
loop-got-init g c =
    pulling_none g.D.Disk.model g.L.Link.model c.args.bodies.now c.args.journal.now c.args.link.now
    g.met.D.Disk.laws c.requires.holds c.requires.plain c.new-reader.result
    (ap (λ (f : Feed). f.at) c.new-reader.ensures) (ap (λ (f : Feed). f.left) c.new-reader.ensures)

pub overflow_add-got : goal.overflow_add-got
overflow_add-got g c =
    let fits = rounds_fit g.D.Disk.model g.L.Link.model c.args.bodies.now c.args.journal.now c.args.link.now
    g.met.D.Disk.laws
    c.loop-got.journal c.loop-got.link c.loop-got.reader c.loop-got.got c.loop-got.invariant
    c.next_round.new.journal c.next_round.new.link c.next_round.new.reader c.in-Kept.ensures in omega (arith, fits)

pub next_round-requires : goal.next_round-requires
next_round-requires g c =
    pulling_now g.D.Disk.model g.L.Link.model c.args.bodies.now c.args.journal.now c.args.link.now c.loop-got.journal
    c.loop-got.link c.loop-got.reader c.loop-got.got c.loop-got.invariant

pub loop-got-preserved : goal.loop-got-preserved
loop-got-preserved g c =
    pulls_on g.D.Disk.model g.L.Link.model c.args.bodies.now c.args.journal.now c.args.link.now g.met.D.Disk.laws
    c.loop-got.journal c.loop-got.link c.loop-got.reader c.loop-got.got c.loop-got.invariant
    c.next_round.new.journal c.next_round.new.link c.next_round.new.reader c.in-Kept.ensures

pub returns-in-Ended : goal.returns-in-Ended
returns-in-Ended g c =
    pulls_end g.D.Disk.model g.L.Link.model c.args.bodies.now c.args.journal.now c.args.link.now g.met.D.Disk.laws
    c.loop-got.journal c.loop-got.link c.loop-got.reader c.loop-got.got c.loop-got.invariant
    c.next_round.new.journal c.next_round.new.link c.next_round.new.reader c.in-Ended.pulled c.in-Ended.ensures
