use Rattle.std.proofs.lemmas.Result.{err_from_is_err_and}
use Rattle.mta_follow_units.specs.Look.{Bad, Done, Record}
use Rattle.mta_follow_units.specs.declared.due.Due.TheVariants as due
use Rattle.mta_follow_run.proofs.Getting.{alone_at}
use Rattle.mta_follow_run.proofs.Taking.{took_bad, took_end, took_fewer, took_none, took_one}
use Rattle.mta_follow_run.proofs.take.take_unit.Goals as goal

pub returns-in_err-keep_record-in-Record : goal.returns-in_err-keep_record-in-Record
returns-in_err-keep_record-in-Record g c =
    let p = err_from_is_err_and c.from_residual.result c.from_residual.ensures.1 in
    took_none g.D.Disk.model c.args.kept.now c.args.got c.args.reader.now.at c.at-at.result c.args.reader.now.left
    c.args.journal.now c.keep_record.new.journal c.at-at.ensures c.in-Record.body.now
    (alone_at (due.Record c.args.got) (Record c.in-Record.body.now) c.args.reader.now.left c.in-Record.ensures.exact
    c.look.ensures.stands)
    c.keep_record.result c.from_residual.result c.in_err-keep_record-in-Record.field-0.0 p.0
    c.in_err-keep_record-in-Record.was p.1 p.2 c.keep_record.ensures

pub returns-in_ok-keep_record-in-Record : goal.returns-in_ok-keep_record-in-Record
returns-in_ok-keep_record-in-Record g c =
    took_one g.D.Disk.model c.args.kept.now c.args.got c.args.reader.now.at c.at-at.result c.args.reader.now.left
    c.args.journal.now c.keep_record.new.journal c.at-at.ensures c.in-Record.body.now
    (alone_at (due.Record c.args.got) (Record c.in-Record.body.now) c.args.reader.now.left c.in-Record.ensures.exact
    c.look.ensures.stands)
    c.keep_record.result c.in_ok-keep_record-in-Record.field-0 c.in_ok-keep_record-in-Record.was c.keep_record.ensures

pub returns-in_err-end_records-in-Done : goal.returns-in_err-end_records-in-Done
returns-in_err-end_records-in-Done g c =
    let p =
    err_from_is_err_and c.from_residual-in_err-end_records-in-Done.result
    c.from_residual-in_err-end_records-in-Done.ensures.1 in
    took_fewer g.D.Disk.model c.args.kept.now c.args.got c.args.reader.now.at c.args.reader.now.left
    c.args.journal.now
    (alone_at (due.Record c.args.got) Done c.args.reader.now.left c.in-Done.ensures.exact c.look.ensures.stands)
    c.end_records.result c.from_residual-in_err-end_records-in-Done.result c.in_err-end_records-in-Done.field-0.0 p.0
    c.in_err-end_records-in-Done.was p.1 p.2 c.end_records.ensures

pub returns-in_ok-end_records-in-Done : goal.returns-in_ok-end_records-in-Done
returns-in_ok-end_records-in-Done g c =
    took_end g.D.Disk.model c.args.kept.now c.args.got c.args.reader.now.at c.args.reader.now.left
    c.args.journal.now
    (alone_at (due.Record c.args.got) Done c.args.reader.now.left c.in-Done.ensures.exact c.look.ensures.stands)
    c.end_records.result c.in_ok-end_records-in-Done.field-0 c.in_ok-end_records-in-Done.was c.end_records.ensures

pub returns-in-Bad : goal.returns-in-Bad
returns-in-Bad g c =
    took_bad g.D.Disk.model c.args.kept.now c.args.got c.args.reader.now.at c.at-at.result c.args.reader.now.left
    c.args.journal.now c.args.journal.now c.at-at.ensures
    (alone_at (due.Record c.args.got) Bad c.args.reader.now.left c.in-Bad.ensures.exact c.look.ensures.stands)
