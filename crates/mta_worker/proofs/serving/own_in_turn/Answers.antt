use Rattle.std.proofs.Common.{◌≡◌, refl}
use Rattle.mta_worker.specs.Served.{IsOwnName}
use Rattle.mta_worker.proofs.Turning.{in_turn}
use Rattle.mta_worker.proofs.serving.own_in_turn.Goals as goal

pub returns-clause-own : goal.returns-clause-own
returns-clause-own g c =
    in_turn g.D.Disk.model g.C.Clock.model (λ s t. IsOwnName s.current c.own_of-own.result × (t ≡ s))
    c.args.pass.now _
    c.give.new.pass c.take-turn.result.value c.take-turn.result.value c.take-turn.ensures.history
    c.take-turn.ensures.fact.0 c.take-turn.ensures.turn.0 c.give.ensures.given (c.own_of-own.ensures.own, refl)
