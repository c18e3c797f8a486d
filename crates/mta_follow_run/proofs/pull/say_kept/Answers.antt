use Rattle.std.proofs.Common.{ap}
use Rattle.std.specs.Prelude.{is_err}
use Rattle.mta_follow_units.specs.Units.{kept_unit}
use Rattle.mta_follow_run.specs.Pulling.{said, unsaid}
use Rattle.mta_follow_run.proofs.Carrying.{all_put, cut_put}
use Rattle.mta_follow_run.proofs.pull.say_kept.Goals as goal

pub returns-in-Ok : goal.returns-in-Ok
returns-in-Ok g c =
    said (all_put g.L.Link.model (kept_unit c.args.number) c.args.link.now c.put_number.new.link c.put_number.result
    c.in-Ok.field-0 c.in-Ok.is c.put_number.ensures)

pub returns-in-Err : goal.returns-in-Err
returns-in-Err g c =
    let k = cut_put g.L.Link.model (kept_unit c.args.number) c.args.link.now c.put_number.new.link c.put_number.result
    (ap is_err c.in-Err.is) c.put_number.ensures in
    unsaid k.piece k.front k.talks k.rose
