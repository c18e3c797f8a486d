use Rattle.std.proofs.Common.{◌∙◌}
use Rattle.mta_ber.specs.Seen.{view}
use Rattle.mta_ber.proofs.StringLaws.{given_found}
use Rattle.mta_envelope_common.specs.Indicators.{IsIndicators, indicators_in, SpellsIndicators}
use Rattle.mta_envelope_common.proofs.IndicatorLaws.{indicators_sound, indicators_full, indicators_are}
use Rattle.mta_envelope_common.proofs.indicators.read_indicators.Goals as goal

pub returns-clause-fits : goal.returns-clause-fits
returns-clause-fits c =
    let v = c.args.part.now in
    given_found IsIndicators c.indicators_of.result (indicators_in (view v)) c.indicators_of.ensures
    (λ b e. indicators_are v.depth v.tag.constructed v.content.now b
    (indicators_sound b (view v) v.shallow v.bytes e))

pub returns-clause-found : goal.returns-clause-found
returns-clause-found c =
    let v = c.args.part.now in
    given_found (SpellsIndicators v.depth v.tag.constructed v.content.now) c.indicators_of.result
    (indicators_in (view v)) c.indicators_of.ensures (λ b e. indicators_sound b (view v) v.shallow v.bytes e)

pub returns-clause-only : goal.returns-clause-only
returns-clause-only c = λ b h. let v = c.args.part.now in c.indicators_of.ensures
    ∙ indicators_full b (view v) v.shallow h
