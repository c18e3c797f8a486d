use Rattle.std.proofs.Common.{Bool, Err, Ok, Result, ap, subst, sym, ◌∙◌}
use Rattle.std.proofs.lemmas.Result.{err_from_is_err_and}
use Rattle.mta_follow_units.specs.Feed.{Feed}
use Rattle.mta_follow_units.specs.declared.due.Due.TheVariants as due
use Rattle.mta_follow_run.specs.Getting.{Gets}
use Rattle.mta_follow_run.specs.Pulling.{NextOf}
use Rattle.mta_follow_run.specs.Taking.{Takes}
use Rattle.mta_follow_run.specs.declared.stop.Stop.{Stop}
use Rattle.mta_follow_run.proofs.Rounds.{came, next_cut, next_lost, next_none, next_one}
use Rattle.mta_follow_run.proofs.pull.next_record.Goals as goal

pub returns-in-Ok-false : goal.returns-in-Ok-false
returns-in-Ok-false g c =
    next_cut g.L.Link.model c.args.link.now c.args.reader.now c.requires.now.left g.D.Disk.model c.args.kept.now
    c.args.journal.now c.args.got c.get_unit.new.link c.get_unit.new.reader
    (subst (λ (b : Bool). Gets g.L.Link.model (due.Record c.args.got) b c.args.link.now c.args.reader.now
    c.get_unit.new.link c.get_unit.new.reader) c.in-Ok-false.field-0-test c.in-Ok-false.ensures.got)

pub returns-in-Err : goal.returns-in-Err
returns-in-Err g c =
    next_lost g.L.Link.model c.args.link.now c.args.reader.now c.requires.now.left g.D.Disk.model c.args.kept.now
    c.args.journal.now c.args.got c.get_unit.new.link c.get_unit.new.reader
    c.in-Err.ensures.kept

pub take_unit-requires-clause-told : goal.take_unit-requires-clause-told
take_unit-requires-clause-told g c = c.in-Ok-true.ensures.got.whole c.in-Ok-true.field-0-test

pub returns-in_err-is_record : goal.returns-in_err-is_record
returns-in_err-is_record g c =
    let p = err_from_is_err_and c.from_residual.result c.from_residual.ensures.1 in
    subst (λ (r : Result Bool Stop). NextOf g.D.Disk.model g.L.Link.model c.args.kept.now c.args.journal.now
    c.args.link.now c.args.reader.now c.args.got c.take_unit.new.journal c.get_unit.new.link c.get_unit.new.reader r)
    (sym p.1)
    (next_none g.L.Link.model c.args.link.now c.args.reader.now c.requires.now.left g.D.Disk.model c.args.kept.now
    c.args.journal.now c.args.got c.get_unit.new.link c.get_unit.new.reader
    c.take_unit.new.journal p.0
    (came g.L.Link.model c.args.link.now c.args.reader.now c.requires.now.left (due.Record c.args.got)
    c.in-Ok-true.field-0 c.get_unit.new.link c.get_unit.new.reader c.in-Ok-true.ensures.got)
    (subst (λ (r : Result Bool Stop). Takes g.D.Disk.model c.args.kept.now c.args.got c.get_unit.new.reader.at
    c.get_unit.new.reader.left c.args.journal.now c.take_unit.new.journal r)
    (c.in_err-is_record.was ∙ ap Err (sym p.2)) c.take_unit.ensures))

pub returns : goal.returns
returns g c =
    subst (λ (f : Feed). NextOf g.D.Disk.model g.L.Link.model c.args.kept.now c.args.journal.now c.args.link.now
    c.args.reader.now c.args.got c.take_unit.new.journal c.get_unit.new.link f (Ok c.in_ok-is_record.is_record))
    (sym c.pass.ensures)
    (next_one g.L.Link.model c.args.link.now c.args.reader.now c.requires.now.left g.D.Disk.model c.args.kept.now
    c.args.journal.now c.args.got c.get_unit.new.link c.get_unit.new.reader
    c.take_unit.new.journal c.in_ok-is_record.is_record
    (came g.L.Link.model c.args.link.now c.args.reader.now c.requires.now.left (due.Record c.args.got)
    c.in-Ok-true.field-0 c.get_unit.new.link c.get_unit.new.reader c.in-Ok-true.ensures.got)
    (subst (λ (r : Result Bool Stop). Takes g.D.Disk.model c.args.kept.now c.args.got c.get_unit.new.reader.at
    c.get_unit.new.reader.left c.args.journal.now c.take_unit.new.journal r)
    c.in_ok-is_record.was c.take_unit.ensures))
