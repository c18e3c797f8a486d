use Rattle.std.proofs.Common.{◌≡◌, true, subst, ◌↔◌}
use Rattle.mta_fields.specs.Identifiers.{IsSameId}
use Rattle.mta_fields.proofs.IdentifierLaws.{id_decides}
use Rattle.mta_fields.proofs.identifier.MtsId.same.Goals as goal

pub returns : goal.returns
returns c =
    subst (λ m. (c.are_same.result ≡ true) ↔ IsSameId m c.args.other.now) c.self.view_is
    (subst (λ n. (c.are_same.result ≡ true) ↔ IsSameId c.self.inside.fields n) c.other.view_is
    (id_decides c.self.inside.fields c.other.inside.fields c.are_same.result c.are_same.ensures))
