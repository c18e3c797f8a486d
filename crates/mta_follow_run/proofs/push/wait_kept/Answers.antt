use Rattle.std.proofs.Common.{Bool, Ok, subst, sym}
use Rattle.mta_follow_units.specs.Feed.{Feed}
use Rattle.mta_follow_units.specs.declared.due.Due.TheVariants as due
use Rattle.mta_follow_run.specs.Getting.{Gets}
use Rattle.mta_follow_run.specs.Pushing.{Waits}
use Rattle.mta_follow_run.proofs.Rounds.{came, waited_bad, waited_broken, waited_kept, waited_short}
use Rattle.mta_follow_run.proofs.push.wait_kept.Goals as goal

pub is_kept-requires : goal.is_kept-requires
is_kept-requires g c = c.in-Ok-true.ensures.got.whole c.in-Ok-true.field-0-test

pub returns-in-Ok-false : goal.returns-in-Ok-false
returns-in-Ok-false g c =
    waited_broken g.L.Link.model c.args.link.now c.args.reader.now c.requires c.args.number c.get_unit.new.link
    c.get_unit.new.reader
    (subst (λ (b : Bool). Gets g.L.Link.model (due.Kept c.args.number) b c.args.link.now c.args.reader.now
    c.get_unit.new.link c.get_unit.new.reader) c.in-Ok-false.field-0-test c.in-Ok-false.ensures.got)

pub returns-in-Err : goal.returns-in-Err
returns-in-Err g c =
    waited_short g.L.Link.model c.args.link.now c.args.reader.now c.requires c.args.number c.get_unit.new.link
    c.get_unit.new.reader c.in-Err.ensures.kept

pub returns-then-not-is_kept : goal.returns-then-not-is_kept
returns-then-not-is_kept g c =
    waited_bad g.L.Link.model c.args.link.now c.args.reader.now c.requires c.args.number c.get_unit.new.link
    c.get_unit.new.reader c.at.result
    (came g.L.Link.model c.args.link.now c.args.reader.now c.requires (due.Kept c.args.number) c.in-Ok-true.field-0
    c.get_unit.new.link c.get_unit.new.reader c.in-Ok-true.ensures.got)
    (c.is_kept.ensures.other c.if-not-is_kept.true) c.at.ensures

pub returns : goal.returns
returns g c =
    subst (λ (f : Feed). Waits g.L.Link.model c.args.number c.args.link.now c.args.reader.now c.get_unit.new.link f
    (Ok tt)) (sym c.pass.ensures)
    (waited_kept g.L.Link.model c.args.link.now c.args.reader.now c.requires c.args.number c.get_unit.new.link
    c.get_unit.new.reader
    (came g.L.Link.model c.args.link.now c.args.reader.now c.requires (due.Kept c.args.number) c.in-Ok-true.field-0
    c.get_unit.new.link c.get_unit.new.reader c.in-Ok-true.ensures.got)
    (c.is_kept.ensures.kept c.if-not-is_kept.false))
