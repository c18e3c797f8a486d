-- The place of a word is that of the one peer that has it.
use Rattle.std.proofs.Common.{subst, sym, ap, ◌∙◌}
use Rattle.mta_tables.specs.Hops.{IsPeerAt}
use Rattle.mta_tables.specs.Tables.{TablesValue, tables, peer_of}
use Rattle.mta_tables.specs.Whole.{AreTables}
use Rattle.mta_tables.proofs.HopLaws.{peer_found, peer_one}
use Rattle.mta_tables.proofs.Wholes.{are_whole}
use Rattle.mta_tables.proofs.tables.Tables.peer.Goals as goal

pub returns : goal.returns
returns c =
    let t = c.args.self.now in
    let w = c.args.word.now in
    let exact = c.of_word.ensures ∙ ap (λ (t : TablesValue). peer_of t w) c.self.view_is in
    let whole = subst AreTables c.self.view_is
    (are_whole c.self.inside.text (tables c.self.inside.text c.self.inside.lines) c.self.invariant) in
    let found = subst (IsPeerAt t w) (sym exact) (peer_found t w) in
    record {
      exact = exact;
      found = found;
      only = λ place h. peer_one t w c.of_word.result place whole found h;
    }
