use Rattle.std.proofs.Common.{Option, map, string_bytes, Global, sym, subst}
use Rattle.std.proofs.Common.{Err}
use Rattle.mta_store_run.specs.declared.stop.Stop.TheVariants as Stops
use Rattle.mta_store_run.specs.Asked.{asked_of}
use Rattle.mta_store_run.specs.Outcome.{HasDone, handed}
use Rattle.mta_store_run.specs.declared.asked.Asked.{Asked}
use Rattle.mta_store_run.proofs.Asking.{asked_is}
use Rattle.mta_store_run.proofs.Done.{done_unasked, done_unread}
use Rattle.mta_store_run.proofs.run.answer.Goals as goal

pub open_both-requires : goal.open_both-requires
open_both-requires g c =
    asked_is (map (string_bytes {Z = Global}) c.args.words.now) c.in-Ok-Some.asked
    (sym (rw c.in-Ok-Some.field-0-is at c.in-Ok-Some.ensures))

pub returns-in-Ok-Some : goal.returns-in-Ok-Some
returns-in-Ok-Some g c =
    subst
    (λ (o : Option Asked).
    HasDone (handed g.D.Disk.model g.E.Disk.model o c.args.spool c.open_both.result.spool c.args.marks
    c.open_both.result.marks) c.open_both.result.outcome)
    (rw c.in-Ok-Some.field-0-is at c.in-Ok-Some.ensures) c.open_both.ensures

pub returns-in-Ok-None : goal.returns-in-Ok-None
returns-in-Ok-None g c =
    subst
    (λ (o : Option Asked).
    HasDone (handed g.D.Disk.model g.E.Disk.model o c.args.spool c.args.spool c.args.marks c.args.marks)
    (Err Stops.Usage))
    (rw c.in-Ok-None.field-0-is at c.in-Ok-None.ensures)
    (done_unasked g.D.Disk.model g.E.Disk.model g.met.D.Disk.laws g.met.E.Disk.laws c.args.spool c.args.marks)

pub returns-in-Err : goal.returns-in-Err
returns-in-Err g c =
    done_unread g.D.Disk.model g.E.Disk.model g.met.D.Disk.laws g.met.E.Disk.laws
    (asked_of (map (string_bytes {Z = Global}) c.args.words.now)) c.args.spool c.args.marks
