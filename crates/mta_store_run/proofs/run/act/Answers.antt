use Rattle.mta_marks.specs.Standings.{look_in}
use Rattle.mta_store_run.proofs.Acted.{acted_marked, acted_told, acted_unmarked}
use Rattle.mta_store_run.proofs.Looks.{mark_is}
use Rattle.mta_store_run.proofs.run.act.Goals as goal

pub returns-in-None : goal.returns-in-None
returns-in-None g c = λ old o.
    rw c.end.ensures
    (acted_unmarked g.E.Disk.model g.met.E.Disk.laws c.args.asked.now c.requires.asked c.args.spool.now.current old
    c.args.marks o c.in-Ok.field-0.text (rw c.in-None.is at c.in-Ok.ensures))

pub returns-in-Err : goal.returns-in-Err
returns-in-Err g c = λ old o.
    rw c.end-in-Err.ensures
    (acted_told g.E.Disk.model g.met.E.Disk.laws c.args.asked.now c.requires.asked c.args.spool.now.current old
    c.args.marks o c.in-Err.stop c.in-Err.ensures)

pub mark_with-requires-clause-mark : goal.mark_with-requires-clause-mark
mark_with-requires-clause-mark g c =
    mark_is c.args.asked.now c.args.spool.now.current (look_in c.args.marks.entries) c.in-Ok.field-0.text c.in-Some.mark
    c.requires.asked (rw c.in-Some.is at c.in-Ok.ensures)

pub returns-in-Some : goal.returns-in-Some
returns-in-Some g c = λ old o.
    acted_marked g.E.Disk.model g.met.E.Disk.laws c.args.asked.now c.requires.asked c.args.spool.now.current old
    c.args.marks o c.in-Ok.field-0.text c.in-Some.mark (rw c.in-Some.is at c.in-Ok.ensures) c.mark_with.result.marks
    c.mark_with.result.outcome c.mark_with.ensures
