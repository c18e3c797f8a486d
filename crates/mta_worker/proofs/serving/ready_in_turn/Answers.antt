use Rattle.mta_worker.specs.Readying.{IsReadied}
use Rattle.mta_worker.proofs.Turning.{gives_fact, grows_from, in_turn, worked_turn}
use Rattle.mta_worker.proofs.serving.ready_in_turn.Goals as goal

pub give-requires-clause-fact : goal.give-requires-clause-fact
give-requires-clause-fact g c =
    gives_fact g.D.Disk.model g.C.Clock.model c.args.pass.now _ c.take-turn.result.value c.get_ready-ready.new.spool
    c.take-turn.ensures.turn.0 c.take-turn.ensures.fact.0 c.take-turn.ensures.fact.1 c.get_ready-ready.ensures.keeps

pub give-requires-clause-history : goal.give-requires-clause-history
give-requires-clause-history g c =
    grows_from c.args.pass.now _ c.take-turn.result.value.entries c.get_ready-ready.new.spool.entries
    c.take-turn.ensures.turn.0 c.get_ready-ready.ensures.grows

pub returns-clause-worked : goal.returns-clause-worked
returns-clause-worked g c =
    worked_turn c.args.pass.now _ c.give.new.pass c.take-turn.result.value.entries c.get_ready-ready.new.spool.entries
    c.requires.ready.1 c.take-turn.ensures.history c.take-turn.ensures.turn.0 c.get_ready-ready.ensures.grows
    c.give.ensures.given

pub returns-clause-readied : goal.returns-clause-readied
returns-clause-readied g c =
    let halt = c.get_ready-ready.new.halt in
    in_turn g.D.Disk.model g.C.Clock.model
    (λ s t. IsReadied g.D.Disk.model g.C.Clock.model c.args.peer.now c.args.limits.now.units s c.args.halt.now t halt
    c.get_ready-ready.result)
    c.args.pass.now _ c.give.new.pass c.take-turn.result.value c.get_ready-ready.new.spool c.take-turn.ensures.history
    c.take-turn.ensures.fact.0 c.take-turn.ensures.turn.0 c.give.ensures.given c.get_ready-ready.ensures.readied
