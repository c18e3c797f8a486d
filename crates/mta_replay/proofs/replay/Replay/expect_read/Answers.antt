use Rattle.std.proofs.Common.{Option, subst}
use Rattle.mta_replay.specs.declared.replay.InForce.{InForce}
use Rattle.mta_replay.specs.Sound.{IsSound}
use Rattle.mta_replay.proofs.Sounds.{sound_queued}
use Rattle.mta_replay.proofs.replay.Replay.expect_read.Goals as goal

pub returns-in-Some-clause-sound : goal.returns-in-Some-clause-sound
returns-in-Some-clause-sound g c =
    let kept = c.args.self.now.kept in
    let force = c.in-Some.force in
    let sound = subst (λ (o : Option (InForce g.row.R.Denot)). IsSound g.R.Rules.format g.R.Rules.text kept o)
    c.in-Some.is c.requires.sound in
    sound_queued g.R.Rules.format g.R.Rules.text kept force c.expect_read.new.self c.expect_read.ensures.rules
    c.expect_read.ensures.index c.expect_read.ensures.queued sound
