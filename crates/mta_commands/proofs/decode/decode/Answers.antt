use Rattle.std.proofs.Common.{refl}
use Rattle.mta_output.specs.Output.{output}
use Rattle.mta_commands.proofs.Decoded.{decoded, not_decoded}
use Rattle.mta_commands.proofs.decode.decode.Goals as goal

pub returns-in-Ok-clause-decoded : goal.returns-in-Ok-clause-decoded
returns-in-Ok-clause-decoded g c =
    decoded g.I.Source.model c.args.input.now c.octets_of.new.input c.in-Ok.octets
    (output g.O.Sink.model c.args.out.now c.print.new.out) c.text_of.result c.print.result c.in-Ok.ensures
    c.text_of.ensures c.print.ensures.printed

pub returns-in-Err-clause-decoded : goal.returns-in-Err-clause-decoded
returns-in-Err-clause-decoded g c = not_decoded g.I.Source.model c.args.input.now c.octets_of.new.input
    (output g.O.Sink.model c.args.out.now c.args.out.now) c.in-Err.stop refl c.in-Err.ensures
