use Rattle.std.proofs.Common.{refl, sym, ap, ◌∙◌}
use Rattle.mta_worker.specs.PeerLines.{line_in}
use Rattle.mta_worker.specs.Proposals.{Without, No_tables, No_line}
use Rattle.mta_worker.proofs.Proposing.{next_is_of_lane, next_is_of_none}
use Rattle.mta_worker.proofs.proposal.next_with.Goals as goal

pub returns-in_default-clause-exact : goal.returns-in_default-clause-exact
returns-in_default-clause-exact g c = Without (No_tables c.in_default.ensures)

pub returns-in_default-2-clause-exact : goal.returns-in_default-2-clause-exact
returns-in_default-2-clause-exact g c =
    Without (No_line c.in-Some.tables.now c.in-Some.ensures
    (ap (line_in c.in-Some.tables.now) (sym c.as_slice.ensures.exact)
    ∙ (sym c.in_ok-line.ensures.exact ∙ c.in_default-2.is)))

pub returns-in-Some-open_lane-clause-exact : goal.returns-in-Some-open_lane-clause-exact
returns-in-Some-open_lane-clause-exact g c =
    next_is_of_lane c.args.spool.now.current c.args.peer.now c.in-Some.tables.now c.in-Some-2.line
    c.in-Some-open_lane.lane.now c.next_of_lane.result
    (record {
      recorded = c.in-Some.ensures;
      line_is = ap (line_in c.in-Some.tables.now) (sym c.as_slice.ensures.exact)
          ∙ (sym c.in_ok-line.ensures.exact ∙ c.in-Some-2.is);
    })
    c.in-Some-open_lane.ensures.first c.next_of_lane.ensures.exact

pub returns-in-None-clause-exact : goal.returns-in-None-clause-exact
returns-in-None-clause-exact g c =
    next_is_of_none c.args.spool.now.current c.args.peer.now c.in-Some.tables.now c.in-Some-2.line
    c.next_of_none.result c.moment.result c.lane_count.result
    (record {
      recorded = c.in-Some.ensures;
      line_is = ap (line_in c.in-Some.tables.now) (sym c.as_slice.ensures.exact)
          ∙ (sym c.in_ok-line.ensures.exact ∙ c.in-Some-2.is);
    })
    (c.in-None.ensures.none refl) c.moment.ensures.exact c.lane_count.ensures c.next_of_none.ensures.exact
