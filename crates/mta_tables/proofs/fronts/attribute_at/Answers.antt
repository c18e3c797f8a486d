-- The fifth part and those behind it are units.
use Rattle.std.proofs.Common.{ℕ, ◌-◌, ◌≤◌, List, sym, ap, ◌∙◌, arith}
use Rattle.std.specs.Prelude.{slice_get}
use Rattle.std.specs.Option.{option_map}
use Rattle.mta_name_text.specs.Forms.{label_text}
use Rattle.mta_tables.proofs.FrontLaws.{unit_behind}
use Rattle.mta_tables.proofs.fronts.attribute_at.Goals as goal

pub returns-else-place-eq3 : goal.returns-else-place-eq3
returns-else-place-eq3 c =
    let n = c.args.n.now in
    let a = c.if-place-eq0.false in
    let b = c.if-place-eq1.false in
    let d = c.if-place-eq2.false in
    let e = c.if-place-eq3.false in
    let four : 4 ≤ c.args.place = omega (arith, a, b, d, e) in
    c.unit_at.ensures ∙ ap (λ (us : List (List ℕ)). slice_get us (c.args.place - 4)) c.as_slice.ensures
    ∙ sym (unit_behind (option_map label_text n.country) (option_map label_text n.admd)
    (option_map label_text n.prmd) n.organization n.units c.args.place four)
