use Rattle.std.proofs.Common.{map, string_bytes, Global}
use Rattle.mta_output.specs.Output.{output}
use Rattle.mta_store_run.specs.Asked.{asked_of}
use Rattle.mta_store_run.specs.Outcome.{handed}
use Rattle.mta_store_run.proofs.Statuses.{is_complete, tells_status}
use Rattle.mta_store_run.proofs.run.store_run.Goals as goal

pub returns-clause-ran : goal.returns-clause-ran
returns-clause-ran g c = record { result = _; done = c.answer-outcome.ensures; closed = c.close-status.ensures.closed }

pub returns-clause-tells : goal.returns-clause-tells
returns-clause-tells g c =
    tells_status
    (handed g.D.Disk.model g.E.Disk.model (asked_of (map (string_bytes {Z = Global}) c.args.words.now)) c.args.spool
    c.answer-outcome.result.spool c.args.marks c.answer-outcome.result.marks)
    (output g.O.Sink.model c.args.out.now c.close-status.new.out) c.close-status.result
    (record { result = _; done = c.answer-outcome.ensures; closed = c.close-status.ensures.closed })

pub returns-clause-complete : goal.returns-clause-complete
returns-clause-complete g c =
    is_complete
    (handed g.D.Disk.model g.E.Disk.model (asked_of (map (string_bytes {Z = Global}) c.args.words.now)) c.args.spool
    c.answer-outcome.result.spool c.args.marks c.answer-outcome.result.marks)
    (output g.O.Sink.model c.args.out.now c.close-status.new.out) c.close-status.result
    (record { result = _; done = c.answer-outcome.ensures; closed = c.close-status.ensures.closed })
