use Rattle.std.proofs.Common.{◌∙◌}
use Rattle.mta_ber.specs.Seen.{view}
use Rattle.mta_ber.specs.Times.{utc_in}
use Rattle.mta_ber.specs.Moments.{SpellsMoment}
use Rattle.mta_ber.proofs.MomentLaws.{utc_sound, utc_full}
use Rattle.mta_ber.proofs.StringLaws.{given_found}
use Rattle.mta_ber.proofs.view.View.utc.Goals as goal

pub returns-clause-found : goal.returns-clause-found
returns-clause-found c =
    let v = c.args.self.now in
    given_found (SpellsMoment v.depth v.tag.constructed v.content.now) c.utc_of.result
    (utc_in (view v)) c.utc_of.ensures.exact (λ m e. utc_sound (view v) m v.shallow v.bytes e)

pub returns-clause-only : goal.returns-clause-only
returns-clause-only c = λ m h. let v = c.args.self.now in c.utc_of.ensures.exact ∙ utc_full (view v) m v.shallow h
