use Rattle.mta_audit_run.proofs.Endings.{endings_on, endings_ascend}
use Rattle.mta_audit_run.proofs.accounts.note_endings.Goals as goal

pub loop-lane-preserved : goal.loop-lane-preserved
loop-lane-preserved c = record {
  so_far = endings_on c.args.open_lanes.now c.loop-lane.lane-index c.lane-item.result c.loop-lane.accounts.items
      c.note_ending.new.accounts.items _ c.loop-lane.invariant.so_far c.lane-item.is c.loop-lane-test.true
      c.in_ok-note_ending.ensures;
  ascending = endings_ascend c.lane-item.result c.loop-lane.accounts.items c.note_ending.new.accounts.items
      c.loop-lane.invariant.ascending c.in_ok-note_ending.ensures;
}
