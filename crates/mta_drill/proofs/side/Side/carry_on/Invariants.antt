use Rattle.std.proofs.Common.{◌≡◌, ◌≤◌}
use Rattle.mta_session.specs.Rank.{calls_left}
use Rattle.mta_session_run.specs.Running.{IsCalled}
use Rattle.mta_drill_stage_laws.specs.World.{Link, Party}
use Rattle.mta_drill.specs.Acts.{HasGone, IsSide}
use Rattle.mta_drill.proofs.side.Side.carry_on.Given as goal

abbrev pub invariant-loop-next : goal.invariant-loop-next
invariant-loop-next l = record {
  called : IsCalled l.self.session l.action;
  left : calls_left l.self.session ≤ calls_left l.fn.self.session;
  went : (p : Party) (m : Link) → IsSide l.fn.self l.fn.spool l.fn.first l.fn.breaks p m →
      HasGone p m l.action l.self l.spool l.breaks l.fn.other.feed l.other.feed;
  alike : l.fn.other.is_broken ≡ l.fn.self.came.is_broken → l.other.is_broken ≡ l.self.came.is_broken;
}

abbrev pub decreases-loop-next : goal.decreases-loop-next
decreases-loop-next l = calls_left l.self.session
