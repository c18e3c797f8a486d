use Rattle.std.proofs.Common.{sym, ◌∙◌}
use Rattle.mta_follow_units.specs.Units.{record_unit}
use Rattle.mta_follow_run.specs.Pushing.{one_put, one_unput}
use Rattle.mta_follow_run.proofs.Carrying.{cut_put, whole_put}
use Rattle.mta_follow_run.proofs.push.push_record.Goals as goal

pub returns-then-is_err : goal.returns-then-is_err
returns-then-is_err g c =
    let k = cut_put g.L.Link.model (record_unit c.args.body.now) c.args.link.now c.put_record.new.link
    c.put_record.result (sym c.is_err.ensures.value ∙ c.if-is_err.true) c.put_record.ensures in
    one_unput k.piece k.front k.talks k.rose

pub returns : goal.returns
returns g c =
    one_put c.put_record.new.link c.wait_kept.result
    (whole_put g.L.Link.model (record_unit c.args.body.now) c.args.link.now c.put_record.new.link c.put_record.result
    (sym c.is_err.ensures.value ∙ c.if-is_err.false) c.put_record.ensures)
    c.wait_kept.ensures
