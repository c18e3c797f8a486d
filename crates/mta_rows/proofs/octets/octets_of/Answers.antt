use Rattle.std.proofs.Common.{map, ap, ◌∙◌, lit<}
use Rattle.std.proofs.lemmas.Result.{err_from_is_err_and}
use Rattle.mta_rows.specs.Texts.{SpellsWord}
use Rattle.mta_rows.specs.Texts.{words_between}
use Rattle.mta_rows.proofs.Joined.{joined_next, none_joined}
use Rattle.mta_rows.proofs.octets.octets_of.Goals as goal

pub returns-in_err-put_word-clause-refused : goal.returns-in_err-put_word-clause-refused
returns-in_err-put_word-clause-refused c =
    let p = err_from_is_err_and c.from_residual-in_err-put_word.result c.from_residual-in_err-put_word.ensures.1 in
    rw (p.1, p.2) (λ bad octets means. none_joined SpellsWord c.as_slice-word-items.result.now
    (words_between 32 c.args.text.now) c.loop-word.word-index _ octets c.loop-word-test.true
    (ap (map (λ x. x.now)) c.as_slice-word-items.ensures.value ∙ c.in_ok-words.ensures (lit< tt))
    (c.in_err-put_word.ensures.refused bad) means)

pub loop-word-preserved : goal.loop-word-preserved
loop-word-preserved c =
    joined_next SpellsWord c.as_slice-word-items.result.now c.loop-word.word-index _ c.loop-word.octets.items
    c.put_word.new.octets.items c.loop-word-test.true c.loop-word.invariant c.in_ok-put_word.ensures.put
