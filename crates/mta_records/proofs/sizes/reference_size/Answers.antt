use Rattle.std.proofs.Common.{List, ℕ, Option, length, ap, ◌∙◌}
use Rattle.mta_records.specs.Fields.{string, additional}
use Rattle.mta_records.specs.Sizes.{capped}
use Rattle.mta_records.proofs.Lengths.{reference_sized}
use Rattle.mta_records.proofs.sizes.reference_size.Goals as goal

pub returns : goal.returns
returns c =
    reference_sized c.args.reference.now c.string_size.result c.additional_size.result c.saturating_add.result
    c.saturating_add-2.result
    (c.string_size.ensures ∙ ap (λ (s : List ℕ). capped (length (string s))) c.calling.ensures.exact)
    (c.additional_size.ensures ∙ ap (λ (o : Option (List ℕ)). capped (length (additional o)))
    c.additional.ensures.exact)
    c.saturating_add.ensures c.saturating_add-2.ensures
