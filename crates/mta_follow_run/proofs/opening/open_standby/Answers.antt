use Rattle.std.proofs.Common.{ap, subst}
use Rattle.std.specs.Prelude.{is_ok}
use Rattle.std.proofs.lemmas.Result.{err_from_is_err_and}
use Rattle.mta_journal.specs.Shown.{IsPlain}
use Rattle.mta_follow_run.proofs.StandbyOpening.{no_standby, not_moved, not_plain, standby, standby_moved}
use Rattle.mta_follow_run.proofs.opening.open_standby.Goals as goal

pub returns-in_err-records-clause-none : goal.returns-in_err-records-clause-none
returns-in_err-records-clause-none g c =
    let p = err_from_is_err_and c.from_residual.result c.from_residual.ensures.1 in
    rw (p.1, p.2)
    (no_standby g.D.Disk.model c.args.disk c.in_err-records.field-0.0.disk c.in_err-records.field-0.0.stop
    c.in_err-records.ensures.refused)

pub returns-then-is_plain-clause-standby : goal.returns-then-is_plain-clause-standby
returns-then-is_plain-clause-standby g c =
    standby g.D.Disk.model c.args.disk c.in_ok-records.records.journal c.in_ok-records.records.bodies.items
    c.in_ok-records.ensures.opened (subst IsPlain c.first.ensures (c.is_plain.ensures.0 c.if-is_plain.true))

pub returns-in-Ok-clause-standby : goal.returns-in-Ok-clause-standby
returns-in-Ok-clause-standby g c =
    standby_moved g.D.Disk.model c.args.disk c.in_ok-records.records.journal c.settle.new.self
    c.in_ok-records.records.bodies.items c.settle.result c.in_ok-records.ensures.opened
    (not_plain c.first.result c.in_ok-records.records.journal.first c.is_plain.result c.first.ensures
    c.is_plain.ensures.1 c.if-is_plain.false)
    c.settle.ensures (ap is_ok c.in-Ok.is)

pub returns-in-Err-clause-none : goal.returns-in-Err-clause-none
returns-in-Err-clause-none g c =
    rw (c.end.ensures, c.stop_of_append.ensures)
    (not_moved g.D.Disk.model c.args.disk c.in_ok-records.records.journal c.settle.new.self
    c.in_ok-records.records.bodies.items c.settle.result c.in_ok-records.ensures.opened
    (not_plain c.first.result c.in_ok-records.records.journal.first c.is_plain.result c.first.ensures
    c.is_plain.ensures.1 c.if-is_plain.false)
    c.settle.ensures c.in-Err.fault c.in-Err.is)
