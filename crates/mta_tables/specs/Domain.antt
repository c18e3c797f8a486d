-- The agent's own domain: a country, an administration domain and a private domain that may be absent (X.402, 14.1).
use Rattle.std.specs.Prelude.{Bool, true, false, List, [], ◌∷◌, Option, Some, None, is_none, ◌&&◌}
use Rattle.std.specs.Prelude.{if◌then◌else◌}
use Rattle.mta_fields.specs.declared.domain.DomainFields.{DomainFields}
use Rattle.mta_names.specs.declared.attributes.Attributes.{Attributes}
use Rattle.mta_names.specs.declared.attributes.Label.{Label}
use Rattle.mta_names.specs.Values.{nothing}

-- the name that has the labels of a domain and nothing else
abbrev pub name_of_domain : DomainFields → Attributes
name_of_domain d = record nothing { country = Some d.country; admd = Some d.admd; prmd = d.prmd }

abbrev pub has_none : {X : Type 0} → List X → Bool
has_none [] = true
has_none (x ∷ xs) = false

-- it has at most a country, an administration domain and a private domain
abbrev pub is_bare : Attributes → Bool
is_bare n =
    is_none n.network && is_none n.terminal && is_none n.organization && is_none n.user && is_none n.person
    && has_none n.units && has_none n.pairs && is_none n.common && has_none n.extras
    && is_none n.directory

abbrev pub domain_from : Option Label → Option Label → Option Label → Option DomainFields
domain_from (Some c) (Some a) p = Some (record { country = c; admd = a; prmd = p })
domain_from (Some c) None p = None
domain_from None a p = None

-- the domain of a name that has the labels of one and nothing else
abbrev pub domain_of : Attributes → Option DomainFields
domain_of n = if is_bare n then domain_from n.country n.admd n.prmd else None
