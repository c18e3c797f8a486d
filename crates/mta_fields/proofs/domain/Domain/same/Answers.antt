use Rattle.std.proofs.Common.{◌≡◌, true, subst, ◌↔◌}
use Rattle.mta_fields.specs.Domains.{IsSameDomain}
use Rattle.mta_fields.proofs.DomainLaws.{same_decides}
use Rattle.mta_fields.proofs.domain.Domain.same.Goals as goal

pub returns : goal.returns
returns c =
    subst (λ m. (c.is_same.result ≡ true) ↔ IsSameDomain m c.args.other.now) c.self.view_is
    (subst (λ n. (c.is_same.result ≡ true) ↔ IsSameDomain c.self.inside.fields n) c.other.view_is
    (same_decides c.self.inside.fields c.other.inside.fields c.is_same.result c.is_same.ensures))
