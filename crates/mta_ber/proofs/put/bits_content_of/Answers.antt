use Rattle.mta_ber.proofs.PutLaws.{bits_put}
use Rattle.mta_ber.proofs.put.bits_content_of.Goals as goal

pub returns : goal.returns
returns c =
    bits_put c.args.bits c.padded.result c.count-bit_count.result c.word.result c.to_be_bytes-octets.result
    c.in_ok-content.content c.extend.new.self
    c.count-bit_count.ensures.few c.count-bit_count.ensures.exact c.padded.ensures c.word.ensures.exact
    c.to_be_bytes-octets.ensures c.in_ok-content.ensures c.in_ok-extend.ensures.ok
