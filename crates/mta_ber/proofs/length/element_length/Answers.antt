use Rattle.mta_ber.proofs.LengthLaws.{element_counted}
use Rattle.mta_ber.proofs.length.element_length.Goals as goal

pub returns : goal.returns
returns c = λ octets is. element_counted c.args.tag octets c.args.content c.header_length.result c.saturating_add.result
    c.requires is c.header_length.ensures.exact c.saturating_add.ensures
