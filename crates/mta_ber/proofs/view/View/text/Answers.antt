use Rattle.mta_ber.specs.Seen.{view}
use Rattle.mta_ber.specs.Strings.{text_in}
use Rattle.mta_ber.specs.Segmented.{SpellsText}
use Rattle.mta_ber.proofs.StringLaws.{text_sound, text_full, reads_found, reads_as}
use Rattle.mta_ber.proofs.view.View.text.Goals as goal

pub returns-clause-found : goal.returns-clause-found
returns-clause-found c =
    let v = c.args.self.now in
    reads_found (SpellsText c.args.class c.args.low c.args.high v.depth v.tag.constructed v.content.now)
    c.text_of.result (text_in c.args.class c.args.low c.args.high (view v)) c.text_of.ensures.exact
    (λ t e. text_sound c.args.class c.args.low c.args.high (view v) t v.shallow v.bytes e)

pub returns-clause-only : goal.returns-clause-only
returns-clause-only c = λ t h. let v = c.args.self.now in
    reads_as c.text_of.result (text_in c.args.class c.args.low c.args.high (view v)) t c.text_of.ensures.exact
    (text_full c.args.class c.args.low c.args.high (view v) t v.shallow h)
