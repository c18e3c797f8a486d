use Rattle.std.proofs.Common.{refl, sym, ◌∙◌}
use Rattle.mta_ber.specs.Seen.{view}
use Rattle.mta_envelope.proofs.ContentLaws.{lent_in}
use Rattle.mta_envelope.proofs.content.read_content.Goals as goal

pub returns-in-Some-clause-exact : goal.returns-in-Some-clause-exact
returns-in-Some-clause-exact c =
    let v = c.args.part.now in
    lent_in (view v) c.in-Some.octets v.content v.shallow
    (sym c.is_tag_of.ensures ∙ c.if-not-is_tag_of.false) refl c.in-Some.ensures.exact
