use Rattle.mta_output.specs.Output.{output}
use Rattle.mta_run.proofs.Drilled.{drill_printed}
use Rattle.mta_run.proofs.drill.drill.Goals as goal

pub returns-clause-drilled : goal.returns-clause-drilled
returns-clause-drilled g c =
    drill_printed c.args.messages (output g.O.Sink.model c.args.out.now c.print.new.out) c.text_of.result
    c.print.result c.text_of.ensures c.print.ensures.printed
