use Rattle.std.proofs.Common.{ap, sym, ◌∙◌}
use Rattle.mta_tables.specs.Tables.{tables_of}
use Rattle.mta_worker.proofs.peer_line.have_lines.Goals as goal

pub returns : goal.returns
returns c =
    let read = ap tables_of (sym c.text-text.ensures.exact) ∙ c.text-text.ensures.read in
    c.tables_of_a_text_have_lines.ensures c.args.tables.now.text c.args.tables.now read
