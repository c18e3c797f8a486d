use Rattle.mta_commands.specs.Lines.{line_of, status_of}
use Rattle.mta_output.specs.Output.{output}
use Rattle.mta_commands.proofs.Told.{line_told}
use Rattle.mta_commands.proofs.lines.tell.Goals as goal

pub returns-clause-told : goal.returns-clause-told
returns-clause-told g c =
    line_told c.line_of-line.result (line_of c.args.stop.now) (status_of c.args.stop.now)
    (output g.O.Sink.model c.args.out.now c.tell_line.new.out) c.tell_line.result c.line_of-line.ensures
    (rw c.status_of.ensures at c.tell_line.ensures.told)
