-- A whole body fits the octets, and what follows it is their end.
use Rattle.std.proofs.Common.{List, ℕ, ap, ◌∙◌, arith}
use Rattle.mta_units.specs.Look.{look, look_behind, with_body, Reads}
use Rattle.mta_units.proofs.FrontLaws.{whole_end}
use Rattle.mta_units.proofs.look.look_at.Goals as goal

pub read_body-requires : goal.read_body-requires
read_body-requires c = omega (
  arith,
  (whole_end c.args.octets.now c.in-Whole.kind c.in-Whole.body.now c.in-Whole.rest.now
      c.in-Whole.ensures.exact).small,
)

pub overflow_sub-result : goal.overflow_sub-result
overflow_sub-result c = (whole_end c.args.octets.now c.in-Whole.kind c.in-Whole.body.now c.in-Whole.rest.now
    c.in-Whole.ensures.exact).within

pub returns-in-Ok-clause-exact : goal.returns-in-Ok-clause-exact
unfolding look
returns-in-Ok-clause-exact c =
    let w = whole_end c.args.octets.now c.in-Whole.kind c.in-Whole.body.now c.in-Whole.rest.now
    c.in-Whole.ensures.exact in (
      ap look_behind c.in-Whole.ensures.exact
          ∙ ap (λ r. with_body r c.in-Whole.rest.now) c.in-Ok.ensures.exact
          ∙ ap (λ (l : List ℕ). Reads c.in-Ok.unit l) w.rest_is,
      omega (arith, w.within),
    )
