use Rattle.std.proofs.Common.{ap, ◌∙◌}
use Rattle.mta_name_text.specs.Routes.{route_attributes, has_parts}
use Rattle.mta_name_text.proofs.RouteLaws.{route_decides}
use Rattle.mta_name_text.proofs.route.has_route.Goals as goal

pub returns : goal.returns
returns c =
    route_decides c.args.name.now c.args.pattern.now c.from_country.result
    (c.from_country.ensures ∙ ap (λ ts. has_parts ts (route_attributes c.attributes.result.now)) c.parts.ensures.exact
    ∙ ap (λ n. has_parts c.args.pattern.now (route_attributes n)) c.attributes.ensures.exact)
