use Rattle.std.proofs.Common.{lit<, rules}
use Rattle.std.proofs.lemmas.Iterator.Search.{any_from_yields_List}
use Rattle.std.proofs.lemmas.Iterator.Splits.{YieldsList-from_str_split}
use Rattle.std.specs.Str.{bytes_eq}
use Rattle.mta_rows.proofs.fields.is_said.Goals as goal

pub returns : goal.returns
returns c =
    any_from_yields_List (bytes_eq c.args.said.now) _ _ _ c.any.ensures.ran
    (YieldsList-from_str_split 9 c.args.fields.now (lit< tt) c.split.ensures.text c.split.ensures.has_more
    c.split.ensures.pattern) (λ x b q k. search rules)
