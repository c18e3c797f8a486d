use Rattle.std.proofs.Common.{◌∙◌, rules, tests}
use Rattle.std.specs.Iterator.Adapters.{zip_first, zip_second}
use Rattle.std.proofs.lemmas.Iterator.{YieldsList-from_slice, YieldsList-from_zip}
use Rattle.std.proofs.lemmas.Iterator.Search.{any_from_yields_List}
use Rattle.mta_table_rules.proofs.Walking.{expanded_here, is_expanded_here}
use Rattle.mta_table_rules.proofs.passing.was_expanded.Goals as goal

pub returns : goal.returns
returns c =
    any_from_yields_List (is_expanded_here c.args.list.now) c.any.new.self _ c.any.result c.any.ensures.ran
    (YieldsList-from_zip {s = c.zip.result}
    (YieldsList-from_slice {s = zip_first c.zip.result} c.args.recipients.now cc)
    (YieldsList-from_slice {s = zip_second c.zip.result} c.args.statuses.now cc))
    (λ x b q k. search (rules, tests))
    ∙ expanded_here c.args.list.now c.args.recipients.now c.args.statuses.now
