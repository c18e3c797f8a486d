use Rattle.mta_output.specs.Output.{output}
use Rattle.mta_commands.proofs.Told.{line_told}
use Rattle.mta_store_run.specs.Stops.{line_of}
use Rattle.mta_store_run.specs.declared.stop.Stop.TheVariants as Stops
use Rattle.mta_store_run.proofs.lines.tell.Goals as goal

pub returns-in-Usage-clause-told : goal.returns-in-Usage-clause-told
unfolding line_of
returns-in-Usage-clause-told g c =
    rw c.in-Usage.is
    (line_told c.from_slice-line.result (line_of Stops.Usage) 1
    (output g.O.Sink.model c.args.out.now c.tell_line.new.out) c.tell_line.result c.from_slice-line.ensures
    c.tell_line.ensures.told)

pub returns-in-Agent-clause-told : goal.returns-in-Agent-clause-told
unfolding line_of
returns-in-Agent-clause-told g c = rw c.in-Agent.is c.tell.ensures.told

pub returns-in-NotFetched-clause-told : goal.returns-in-NotFetched-clause-told
unfolding line_of
returns-in-NotFetched-clause-told g c =
    rw c.in-NotFetched.is
    (line_told c.numbered-in-NotFetched.result (line_of (Stops.NotFetched c.in-NotFetched.number)) 13
    (output g.O.Sink.model c.args.out.now c.tell_line-in-NotFetched.new.out) c.tell_line-in-NotFetched.result
    (rw c.from-in-NotFetched.ensures at c.numbered-in-NotFetched.ensures) c.tell_line-in-NotFetched.ensures.told)
