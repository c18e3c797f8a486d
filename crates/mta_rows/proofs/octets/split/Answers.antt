use Rattle.std.proofs.Common.{◌≡◌, ◌<◌, map}
use Rattle.std.proofs.lemmas.Iterator.Consumers.{map_from_collect}
use Rattle.std.proofs.lemmas.Iterator.Splits.{YieldsList-from_str_split}
use Rattle.mta_rows.specs.Texts.{words_between}
use Rattle.mta_rows.proofs.Parts.{ok_under}
use Rattle.mta_rows.proofs.octets.split.Goals as goal

pub returns : goal.returns
returns c =
    ok_under (c.args.between < 128)
    (λ v. map (λ x. x.now) v.items ≡ words_between c.args.between c.args.text.now) c.collect.result
    (λ less. map_from_collect _ c.collect.ensures.ran (YieldsList-from_str_split c.args.between c.args.text.now less
    c.split.ensures.text c.split.ensures.has_more c.split.ensures.pattern))
