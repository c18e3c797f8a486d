use Rattle.std.proofs.Common.{ℕ, subst}
use Rattle.mta_spool.specs.Turning.{Turns}
use Rattle.mta_spool.proofs.Turns.{turns_along, turns_no_lane}
use Rattle.mta_spool.proofs.spool.Spool.turn.Goals as goal

pub returns-clause-turned : goal.returns-clause-turned
returns-clause-turned g c =
    let m = c.step_moment-moment.ensures.moment in
    let rest = c.step_moment-moment.ensures.rest in
    record {
      told = m.told;
      tells = m.tells;
      at = subst (λ (n : ℕ). Turns g.D.Disk.model n c.args.self.now c.turn_at.new.self c.turn_at.result) m.at
          (turns_along g.D.Disk.model c.step_moment-moment.result c.args.self.now c.step_moment-moment.new.self
          c.turn_at.new.self c.turn_at.result rest c.turn_at.ensures.turned);
    }

pub returns-clause-no_lane : goal.returns-clause-no_lane
returns-clause-no_lane g c =
    turns_no_lane g.D.Disk.model c.step_moment-moment.result c.step_moment-moment.new.self c.turn_at.new.self
    c.turn_at.result c.turn_at.ensures.turned
