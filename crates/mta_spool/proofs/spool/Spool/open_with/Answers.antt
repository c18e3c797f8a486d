use Rattle.std.proofs.Common.{arith}
use Rattle.mta_spool.proofs.Opened.{few_with}
use Rattle.mta_spool.proofs.spool.Spool.open_with.Goals as goal

pub overflow_cast-result : goal.overflow_cast-result
overflow_cast-result g c =
    omega (
      arith,
      c.count_with.ensures,
      few_with c.args.role c.args.peer.now c.self.inside.replay.kept.lanes.open_lanes.items
          c.self.inside.replay.kept.lanes.count c.self.invariant.sound.of_history.numbered_lanes,
      c.count_fits.ensures,
    )
