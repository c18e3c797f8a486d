use Rattle.mta_worker.specs.Working.{TurnsOnce}
use Rattle.mta_worker.proofs.Turning.{gives_fact, in_turn, worked_turn}
use Rattle.mta_worker.proofs.Workings.{given_grows, turned_grows}
use Rattle.mta_worker.proofs.worker.due_turn.Goals as goal

pub give-requires-clause-history : goal.give-requires-clause-history
give-requires-clause-history g c =
    given_grows g.D.Disk.model g.C.Clock.model _ c.args.pass.now c.take-turn.result.value c.turn-turned.new.self
    c.take-turn.ensures.turn.0
    (turned_grows g.D.Disk.model g.C.Clock.model c.take-turn.result.value c.turn-turned.new.self
    c.turn-turned.result c.turn-turned.ensures.turned)

pub give-requires-clause-fact : goal.give-requires-clause-fact
give-requires-clause-fact g c =
    gives_fact g.D.Disk.model g.C.Clock.model c.args.pass.now _ c.take-turn.result.value c.turn-turned.new.self
    c.take-turn.ensures.turn.0 c.take-turn.ensures.fact.0 c.take-turn.ensures.fact.1 c.turn-turned.ensures.keeps

pub returns-clause-worked : goal.returns-clause-worked
returns-clause-worked g c =
    worked_turn c.args.pass.now _ c.give.new.pass c.take-turn.result.value.entries c.turn-turned.new.self.entries
    c.requires.ready.1 c.take-turn.ensures.history c.take-turn.ensures.turn.0
    (turned_grows g.D.Disk.model g.C.Clock.model c.take-turn.result.value c.turn-turned.new.self
    c.turn-turned.result c.turn-turned.ensures.turned) c.give.ensures.given

pub returns-clause-turned : goal.returns-clause-turned
returns-clause-turned g c =
    in_turn g.D.Disk.model g.C.Clock.model
    (λ s t. TurnsOnce g.D.Disk.model g.C.Clock.model s c.turn-turned.result t) c.args.pass.now _ c.give.new.pass
    c.take-turn.result.value c.turn-turned.new.self c.take-turn.ensures.history c.take-turn.ensures.fact.0
    c.take-turn.ensures.turn.0 c.give.ensures.given c.turn-turned.ensures.turned
