-- What is read of a text is what the grammar says of it.
use Rattle.mta_tables.proofs.Grammars.{read_only, read_found, read_fault, read_refused}
use Rattle.mta_tables.proofs.tables.Tables.read.Goals as goal

pub returns : goal.returns
returns c =
    let text = c.args.text.now in
    let r = c.read_tables.result in
    let exact = c.read_tables.ensures in
    record {
      exact = exact;
      found = read_found text r exact;
      only = read_only text r exact;
      fault = read_fault text r exact;
      refused = read_refused text r exact;
    }
