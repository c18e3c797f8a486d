use Rattle.mta_marks.proofs.Opened.{settled_opened, settled_refused}
use Rattle.mta_marks.proofs.open.Marks.open.Goals as goal

pub returns-in-Ok-settle-clause-opened : goal.returns-in-Ok-settle-clause-opened
returns-in-Ok-settle-clause-opened g c =
    settled_opened g.E.Disk.model g.met.E.Disk.laws c.args.disk c.in-Ok.found.journal c.in-Ok.found.standings
    c.in-Ok.ensures.found c.settle.new.self c.in-Ok-settle.ensures

pub returns-in-Err-settle-clause-refused : goal.returns-in-Err-settle-clause-refused
returns-in-Err-settle-clause-refused g c =
    rw (c.end.ensures, c.why_of_settle.ensures)
    (settled_refused g.E.Disk.model g.met.E.Disk.laws c.args.disk c.in-Ok.found.journal c.in-Ok.found.standings
    c.in-Ok.ensures.found c.settle.new.self c.in-Err-settle.fault c.in-Err-settle.ensures)
