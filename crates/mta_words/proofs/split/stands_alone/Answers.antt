use Rattle.std.proofs.Common.{◌∙◌, ap, map, string_bytes, subst, Global}
use Rattle.clap.specs.Words.{App, is_simple_and_free}
use Rattle.mta_words.specs.Split.{IsMatched}
use Rattle.mta_words.proofs.BareLaws.{bare_simple, bare_known}
use Rattle.mta_words.proofs.split.stands_alone.Goals as goal

pub matched-requires : goal.matched-requires
matched-requires c = ap is_simple_and_free c.new-command.ensures.app ∙ bare_simple

pub returns : goal.returns
returns c =
    let texts = map (string_bytes {Z = Global}) c.args.words.now in
    let o = c.in_ok-matched.field-0 in
    c.is_some.ensures ∙ bare_known texts o c.requires
    (subst (λ (a : App). IsMatched a texts o) c.new-command.ensures.app c.in_ok-matched.ensures)
