use Rattle.std.proofs.Common.{List, ℕ, subst, sym}
use Rattle.mta_names.specs.Bounded.{IsExtra}
use Rattle.mta_names.proofs.same.copied_extra.Goals as goal

pub from_fields-requires : goal.from_fields-requires
from_fields-requires c =
    let extra : IsExtra c.fields-fields.result.now =
    subst IsExtra (sym c.fields-fields.ensures.exact) c.fields-fields.ensures.extra in
    subst (λ (r : List ℕ). IsExtra (record { number = c.fields-fields.result.now.number; raw = r }))
    (sym c.in_ok-raw.ensures) extra
