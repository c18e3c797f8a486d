-- The hop that is answered is the best one, and there is no other.
use Rattle.std.proofs.Common.{subst, sym, ◌∙◌}
use Rattle.mta_tables.specs.Laws.{IsBestHop}
use Rattle.mta_tables.proofs.HopLaws.{hop_found, one_hop}
use Rattle.mta_tables.proofs.tables.Tables.route.Goals as goal

pub returns : goal.returns
returns c =
    let t = c.args.self.now in
    let n = c.args.name.now in
    let exact = c.hop_of.ensures in
    let whole = c.are_whole.ensures in
    record {
      exact = exact;
      found = subst (IsBestHop t n) (sym exact) (hop_found t n);
      only = λ hop h. exact ∙ sym (one_hop t n hop whole h);
    }
