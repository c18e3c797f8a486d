use Rattle.std.proofs.Common.{◌∙◌, FitsSigned, w64}
use Rattle.std.proofs.lemmas.Int.{to_z-of_z}
use Rattle.mta_ber.specs.Int.{int_in, SpellsInteger}
use Rattle.mta_ber.proofs.IntLaws.{int_sound, int_full}
use Rattle.mta_ber.proofs.StringLaws.{given_found}
use Rattle.mta_ber.proofs.view.View.int.Goals as goal

pub returns-clause-found : goal.returns-clause-found
returns-clause-found c =
    let v = c.args.self.now in
    let low : FitsSigned w64 c.args.low = c.ranges.low in
    let high : FitsSigned w64 c.args.high = c.ranges.high in
    let exact = simp to_z-of_z at c.int_of.ensures.exact in
    given_found (SpellsInteger c.args.low c.args.high v.tag.constructed v.content.now) c.int_of.result
    (int_in v.at v.tag.constructed c.args.low c.args.high v.content.now) exact
    (λ n e. int_sound v.at v.tag.constructed c.args.low c.args.high v.content.now n e)

pub returns-clause-only : goal.returns-clause-only
returns-clause-only c = λ n h.
    let v = c.args.self.now in
    let low : FitsSigned w64 c.args.low = c.ranges.low in
    let high : FitsSigned w64 c.args.high = c.ranges.high in
    let exact = simp to_z-of_z at c.int_of.ensures.exact in
    exact ∙ int_full v.at v.tag.constructed c.args.low c.args.high v.content.now n h
