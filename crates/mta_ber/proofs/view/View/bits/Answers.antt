use Rattle.std.proofs.Common.{◌∙◌}
use Rattle.mta_ber.specs.Seen.{view}
use Rattle.mta_ber.specs.Bits.{bits_in}
use Rattle.mta_ber.specs.Segmented.{SpellsBits}
use Rattle.mta_ber.proofs.StringLaws.{bits_in_sound, bits_in_full, given_found}
use Rattle.mta_ber.proofs.view.View.bits.Goals as goal

pub returns-clause-found : goal.returns-clause-found
returns-clause-found c =
    let v = c.args.self.now in
    given_found (SpellsBits v.depth v.tag.constructed v.content.now) c.bits_of.result
    (bits_in (view v)) c.bits_of.ensures (λ b e. bits_in_sound (view v) b v.shallow v.bytes e)

pub returns-clause-only : goal.returns-clause-only
returns-clause-only c = λ b h. let v = c.args.self.now in c.bits_of.ensures ∙ bits_in_full (view v) b v.shallow h
