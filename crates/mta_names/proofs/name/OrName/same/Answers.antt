use Rattle.std.proofs.Common.{◌≡◌, true, subst, ◌↔◌}
use Rattle.mta_names.specs.Normal.{IsSameName}
use Rattle.mta_names.proofs.NormalLaws.{same_decides}
use Rattle.mta_names.proofs.name.OrName.same.Goals as goal

pub returns : goal.returns
returns c =
    subst (λ m. (c.is_same.result ≡ true) ↔ IsSameName m c.args.other.now) c.self.view_is
    (subst (λ n. (c.is_same.result ≡ true) ↔ IsSameName c.self.inside.attributes n) c.other.view_is
    (same_decides c.self.inside.attributes c.other.inside.attributes c.is_same.result c.is_same.ensures))
