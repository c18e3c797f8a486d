use Rattle.std.proofs.Common.{map, ap, ◌∙◌, lit<}
use Rattle.std.proofs.lemmas.Result.{err_from_is_err_and}
use Rattle.mta_rows.specs.Named.{MeansWord}
use Rattle.mta_rows.specs.Texts.{words_between}
use Rattle.mta_rows.proofs.Joined.{joined_next, none_joined}
use Rattle.mta_rows.proofs.names.Names.octets.Goals as goal

pub returns-in_err-put-clause-refused : goal.returns-in_err-put-clause-refused
returns-in_err-put-clause-refused c =
    let p = err_from_is_err_and c.from_residual-in_err-put.result c.from_residual-in_err-put.ensures.1 in
    rw (p.1, p.2) (λ bad octets means. none_joined (MeansWord c.args.self.now.all.items)
    c.as_slice-word-items.result.now (words_between 32 c.args.text.now) c.loop-word.word-index _ octets
    c.loop-word-test.true (ap (map (λ x. x.now)) c.as_slice-word-items.ensures.value ∙ c.in_ok-words.ensures (lit< tt))
    (c.in_err-put.ensures.refused bad) means)

pub loop-word-preserved : goal.loop-word-preserved
loop-word-preserved c =
    joined_next (MeansWord c.args.self.now.all.items) c.as_slice-word-items.result.now c.loop-word.word-index _
    c.loop-word.octets.items c.put.new.octets.items c.loop-word-test.true c.loop-word.invariant c.in_ok-put.ensures.put
