use Rattle.std.proofs.Common.{ap, ◌∙◌, arith}
use Rattle.mta_ber.specs.Canon.{element}
use Rattle.mta_ber.specs.Contents.{utc_content}
use Rattle.mta_ber.specs.Lengths.{octet_length}
use Rattle.mta_ber.proofs.TimeAgain.{text_short}
use Rattle.mta_ber.proofs.length.utc_length.Goals as goal

pub returns : goal.returns
returns c =
    c.element_length.ensures (utc_content c.args.moment) (omega (arith, text_short c.args.moment))
    ∙ ap (λ t. octet_length (element t (utc_content c.args.moment))) c.as_primitive_of.ensures
