use Rattle.mta_commands.proofs.LongInput.{long_input}
use Rattle.mta_commands.proofs.inputs.octets_of.Goals as goal

pub returns-in-Err-TooLong : goal.returns-in-Err-TooLong
returns-in-Err-TooLong g c = record {
  drawn = record { later = c.in-Err-TooLong.ensures.cause.later; most = c.in-Err-TooLong.ensures.most };
  read = long_input g.I.Source.model c.args.input.now c.read_all.new.source c.in-Err-TooLong.field-0
      c.in-Err-TooLong.field-0-is c.in-Err-TooLong.ensures.cause;
}
