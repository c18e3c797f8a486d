-- A test that holds exactly where a fact does is the test of that fact.
use Rattle.std.proofs.Common.{◌≡◌, Bool, true, false, List, ℕ, refl, sym, ◌↔◌}
use Rattle.std.specs.Prelude.{IsTrue}
use Rattle.mta_names.specs.declared.attributes.Attributes.{Attributes}
use Rattle.mta_names.specs.Normal.{is_same_name, IsSameName}
use Rattle.mta_names.proofs.NormalLaws.{name_decides}
use Rattle.mta_name_text.specs.Routes.{HasRoute, has_parts, route_attributes}
use Rattle.mta_name_text.proofs.RouteLaws.{route_decides}
use Rattle.mta_fields.specs.declared.domain.DomainFields.{DomainFields}
use Rattle.mta_fields.specs.Domains.{is_same_domain, IsSameDomain}
use Rattle.mta_fields.proofs.DomainLaws.{same_decides}

both : {P : Type 0} (r b : Bool) → (IsTrue r ↔ P) → ((b ≡ true) ↔ P) → r ≡ b
both true true h k = refl
both true false h k = sym (k.1 (h.0 refl))
both false true h k = h.1 (k.0 refl)
both false false h k = refl

pub same_is : (m n : Attributes) (r : Bool) → (IsTrue r ↔ IsSameName m n) → r ≡ is_same_name m n
same_is m n r h = both r (is_same_name m n) h (name_decides m n)

pub route_is : (n : Attributes) (parts : List (List ℕ)) (r : Bool) → (IsTrue r ↔ HasRoute n parts)
    → r ≡ has_parts parts (route_attributes n)
route_is n parts r h = both r (has_parts parts (route_attributes n)) h
    (route_decides n parts (has_parts parts (route_attributes n)) refl)

pub domain_is : (v w : DomainFields) (r : Bool) → (IsTrue r ↔ IsSameDomain v w) → r ≡ is_same_domain v w
domain_is v w r h = both r (is_same_domain v w) h (same_decides v w (is_same_domain v w) refl)
