use Rattle.std.proofs.Common.{◌≡◌, rules, ap, ◌∙◌}
use Rattle.mta_ber.specs.Canon.{element}
use Rattle.mta_ber.specs.Contents.{as_primitive, int_content}
use Rattle.mta_ber.specs.Lengths.{octet_length}
use Rattle.mta_ber.proofs.length.int_length.Goals as goal

pub returns : goal.returns
unfolding int_content
returns c =
    let content : c.shortest_of.result.now ≡ int_content c.args.n = search rules in
    c.element_length.ensures c.shortest_of.result.now c.slice_length.ensures
    ∙ ap (λ t. octet_length (element t c.shortest_of.result.now)) c.as_primitive_of.ensures
    ∙ ap (λ o. octet_length (element (as_primitive c.args.tag) o)) content
