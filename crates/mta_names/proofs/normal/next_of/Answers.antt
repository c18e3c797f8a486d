-- A run of spaces, with or without a character behind it.
use Rattle.std.proofs.Common.{length, ◌∙◌, sym}
use Rattle.std.proofs.lemmas.Bool.{eqb-true, eqb-false}
use Rattle.mta_names.proofs.NormalLaws.{spaces_first, spaced_none, spaced_some}
use Rattle.mta_names.proofs.normal.next_of.Goals as goal

pub returns-then-is_empty-clause-exact : goal.returns-then-is_empty-clause-exact
returns-then-is_empty-clause-exact c =
    let behind = c.unspaced_of-behind.result.now in
    spaces_first c.args.text.now behind c.in-len1-up.len_at_least c.if-c-ne32.false c.unspaced_of-behind.ensures.exact
    ∙ spaced_none behind (eqb-true (length behind) 0 (sym c.is_empty.ensures ∙ c.if-is_empty.true))

pub returns-else-is_empty-clause-exact : goal.returns-else-is_empty-clause-exact
returns-else-is_empty-clause-exact c =
    let behind = c.unspaced_of-behind.result.now in
    spaces_first c.args.text.now behind c.in-len1-up.len_at_least c.if-c-ne32.false c.unspaced_of-behind.ensures.exact
    ∙ spaced_some behind (eqb-false (length behind) 0 (sym c.is_empty.ensures ∙ c.if-is_empty.false))
