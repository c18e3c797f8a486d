use Rattle.std.proofs.Common.{map, string_bytes, Global}
use Rattle.mta_audit_run.specs.Outcome.{handed}
use Rattle.mta_output.specs.Output.{output}
use Rattle.mta_audit_run.proofs.Statuses.{run_tells, run_complete}
use Rattle.mta_audit_run.proofs.run.audit_run.Goals as goal

pub returns-clause-ran : goal.returns-clause-ran
returns-clause-ran g c = record {
  first = c.compare-outcome.ensures.first;
  second = c.compare-outcome.ensures.second;
  result = c.compare-outcome.result.outcome;
  outcome = c.compare-outcome.ensures.outcome;
  closed = c.close-status.ensures.closed;
}

pub returns-clause-tells : goal.returns-clause-tells
returns-clause-tells g c =
    run_tells (handed (map (string_bytes {Z = Global}) c.args.words.now) g.D.Disk.model g.E.Disk.model c.args.first
    c.compare-outcome.result.first c.args.second c.compare-outcome.result.second)
    (output g.O.Sink.model c.args.out.now c.close-status.new.out) c.close-status.result (returns-clause-ran g c)

pub returns-clause-complete : goal.returns-clause-complete
returns-clause-complete g c =
    run_complete (handed (map (string_bytes {Z = Global}) c.args.words.now) g.D.Disk.model g.E.Disk.model c.args.first
    c.compare-outcome.result.first c.args.second c.compare-outcome.result.second)
    (output g.O.Sink.model c.args.out.now c.close-status.new.out) c.close-status.result (returns-clause-ran g c)
