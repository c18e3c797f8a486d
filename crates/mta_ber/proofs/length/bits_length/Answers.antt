use Rattle.std.proofs.Common.{ap, ◌∙◌, arith}
use Rattle.mta_ber.specs.Canon.{element}
use Rattle.mta_ber.specs.Contents.{bits_content}
use Rattle.mta_ber.specs.Lengths.{octet_length}
use Rattle.mta_ber.proofs.LengthLaws.{bits_size}
use Rattle.mta_ber.proofs.length.bits_length.Goals as goal

pub returns : goal.returns
returns c =
    c.element_length.ensures (bits_content c.args.bits)
    (omega (arith, bits_size c.args.bits, c.count.ensures.exact, c.count.ensures.few))
    ∙ ap (λ t. octet_length (element t (bits_content c.args.bits))) c.as_primitive_of.ensures
