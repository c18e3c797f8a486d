use Rattle.std.proofs.Common.{Err, subst, sym}
use Rattle.std.proofs.lemmas.Result.{err_from_is_err_and}
use Rattle.mta_follow_run.specs.Taking.{Adds, added}
use Rattle.mta_follow_run.proofs.Taking.{is_record, not_added, not_judged}
use Rattle.mta_follow_run.proofs.take.append_record.Goals as goal

pub returns-in_err-judge : goal.returns-in_err-judge
returns-in_err-judge g c =
    let p = err_from_is_err_and c.from_residual.result c.from_residual.ensures.1 in
    not_judged g.D.Disk.model c.args.at c.args.body.now c.args.journal.now c.args.journal.now c.judge.result
    c.from_residual.result c.in_err-judge.field-0.0 p.0 c.in_err-judge.was p.1 p.2 c.judge.ensures

pub returns-in-Ok : goal.returns-in-Ok
returns-in-Ok g c =
    added (is_record c.args.at c.args.body.now c.judge.result c.in_ok-judge.field-0 c.in_ok-judge.was c.judge.ensures)
    c.append.result c.in-Ok.is c.append.ensures

pub returns-in-Err : goal.returns-in-Err
returns-in-Err g c =
    subst (λ s. Adds g.D.Disk.model c.args.at c.args.body.now c.args.journal.now c.append.new.self (Err s))
    (sym c.stop_of_append.ensures)
    (not_added g.D.Disk.model c.args.at c.args.body.now c.args.journal.now c.append.new.self c.in-Err.fault
    c.append.result
    (is_record c.args.at c.args.body.now c.judge.result c.in_ok-judge.field-0 c.in_ok-judge.was c.judge.ensures)
    c.in-Err.is c.append.ensures)
