use Rattle.std.proofs.Common.{map, string_bytes, Global}
use Rattle.mta_rehearse_run.specs.Asked.{asked_of}
use Rattle.mta_output.specs.Output.{output}
use Rattle.mta_rehearse_run.proofs.Told.{run_tells, run_complete}
use Rattle.mta_rehearse_run.proofs.run.rehearse_run.Goals as goal

pub returns-clause-ran : goal.returns-clause-ran
returns-clause-ran g c = record {
  drawn = c.rehearse-outcome.ensures.drawn;
  untouched = c.rehearse-outcome.ensures.untouched;
  result = c.rehearse-outcome.result;
  outcome = c.rehearse-outcome.ensures.outcome;
  closed = c.close.ensures.closed;
}

pub returns-clause-tells : goal.returns-clause-tells
returns-clause-tells g c =
    run_tells g.I.Source.model (asked_of (map (string_bytes {Z = Global}) c.args.words.now)) c.args.conf.now
    c.rehearse-outcome.new.conf (output g.O.Sink.model c.args.out.now c.close.new.out) c.close.result
    (returns-clause-ran g c)

pub returns-clause-complete : goal.returns-clause-complete
returns-clause-complete g c =
    run_complete g.I.Source.model (asked_of (map (string_bytes {Z = Global}) c.args.words.now)) c.args.conf.now
    c.rehearse-outcome.new.conf (output g.O.Sink.model c.args.out.now c.close.new.out) c.close.result
    (returns-clause-ran g c)
