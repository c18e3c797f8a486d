use Rattle.std.proofs.Common.{List, ℕ, Option, subst}
use Rattle.std.specs.Option.{option_copied}
use Rattle.mta_histories.specs.Due.{HasQueue}
use Rattle.mta_state.specs.Kept.{state_of}
use Rattle.mta_replay.specs.declared.replay.InForce.{InForce}
use Rattle.mta_replay.specs.Sound.{IsSound}
use Rattle.mta_replay.proofs.Waiting.{has_queue}
use Rattle.mta_replay.proofs.replay.Replay.waiting.Goals as goal

pub returns-in-Some : goal.returns-in-Some
returns-in-Some g c =
    let kept = c.args.self.now.kept in
    let force = c.in-Some.force in
    let sound = subst (λ (o : Option (InForce g.row.R.Denot)). IsSound g.R.Rules.format g.R.Rules.text kept o)
    c.in-Some.is c.requires.sound in
    subst (λ (w : List ℕ). HasQueue (state_of kept) w (option_copied c.get.result)) c.as_slice.ensures.exact
    (has_queue (g.R.Rules.text force.rules) (state_of kept) force.queues c.as_slice.result.now c.get.result
    sound.queued sound.last.last c.get.ensures.some c.get.ensures.none)
