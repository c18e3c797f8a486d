use Rattle.std.proofs.Common.{Bor, List, ℕ, Option, Some, None, subst}
use Rattle.std.specs.Option.{option_copied}
use Rattle.mta_histories.specs.Due.{HasQueue}
use Rattle.mta_state.specs.Kept.{state_of}
use Rattle.mta_replay.proofs.Waiting.{has_queue, unnamed_not_relayed}
use Rattle.mta_replay.proofs.replay.InForce.batch_for.Goals as goal

pub returns-in-None-clause-batch : goal.returns-in-None-clause-batch
returns-in-None-clause-batch g c =
    let s = state_of c.args.kept.now in
    let force = c.args.self.now in
    let text = g.R.Rules.text force.rules in
    let found = has_queue text s force.queues c.as_slice.result.now c.get.result c.requires.queued c.requires.text
    c.get.ensures.some c.get.ensures.none in
    let none = subst (λ (o : Option (Bor (List ℕ))). HasQueue s c.as_slice.result.now (option_copied o)) c.in-None.is
    found in
    unnamed_not_relayed s (g.R.Rules.format force.rules) text c.args.peer.now c.args.moment c.requires.text
    c.requires.format (subst (λ (w : List ℕ). HasQueue s w None) c.as_slice.ensures.exact none)

pub batch_for-requires-clause-queue : goal.batch_for-requires-clause-queue
batch_for-requires-clause-queue g c =
    let s = state_of c.args.kept.now in
    let force = c.args.self.now in
    let text = g.R.Rules.text force.rules in
    let found = has_queue text s force.queues c.as_slice.result.now c.get.result c.requires.queued c.requires.text
    c.get.ensures.some c.get.ensures.none in
    let some = subst (λ (o : Option (Bor (List ℕ))). HasQueue s c.as_slice.result.now (option_copied o)) c.in-Some.is
    found in
    (subst (λ (w : List ℕ). HasQueue s w (Some c.in-Some.queue.now)) c.as_slice.ensures.exact some).0
