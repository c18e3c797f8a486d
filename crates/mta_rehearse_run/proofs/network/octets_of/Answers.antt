use Rattle.mta_rehearse_run.proofs.LongTexts.{long_texts}
use Rattle.mta_rehearse_run.proofs.network.octets_of.Goals as goal

pub returns-in-Err-TooLong : goal.returns-in-Err-TooLong
returns-in-Err-TooLong g c = record {
  drawn = record { later = c.in-Err-TooLong.ensures.cause.later; most = c.in-Err-TooLong.ensures.most };
  read = long_texts g.I.Source.model c.args.conf.now c.read_all.new.source c.in-Err-TooLong.field-0
      c.in-Err-TooLong.field-0-is c.in-Err-TooLong.ensures.cause;
}
