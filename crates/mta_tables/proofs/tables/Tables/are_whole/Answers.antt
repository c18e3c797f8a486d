use Rattle.std.proofs.Common.{ap, sym, ◌∙◌}
use Rattle.mta_tables.specs.Tables.{tables_of}
use Rattle.mta_tables.proofs.Wholes.{are_whole}
use Rattle.mta_tables.proofs.tables.Tables.are_whole.Goals as goal

pub returns : goal.returns
returns c = are_whole c.args.self.now.text c.args.self.now
    (ap tables_of (sym c.text-text.ensures.exact) ∙ c.text-text.ensures.read)
