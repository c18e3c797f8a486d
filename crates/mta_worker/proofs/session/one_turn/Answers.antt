use Rattle.mta_worker.specs.Turns.{HasAnswered, IsLost}
use Rattle.mta_worker.proofs.Turning.{gives_fact, grows_from, in_turn_err, in_turn_ok, worked_turn}
use Rattle.mta_worker.proofs.session.one_turn.Goals as goal

pub give-requires-clause-fact : goal.give-requires-clause-fact
give-requires-clause-fact g c =
    gives_fact g.D.Disk.model g.C.Clock.model c.args.pass.now _ c.take-turn.result.value c.answer_all-answered.new.spool
    c.take-turn.ensures.turn.0 c.take-turn.ensures.fact.0 c.take-turn.ensures.fact.1 c.answer_all-answered.ensures.keeps

pub give-requires-clause-history : goal.give-requires-clause-history
give-requires-clause-history g c =
    grows_from c.args.pass.now _ c.take-turn.result.value.entries c.answer_all-answered.new.spool.entries
    c.take-turn.ensures.turn.0 c.answer_all-answered.ensures.grows

pub returns-clause-worked : goal.returns-clause-worked
returns-clause-worked g c =
    worked_turn c.args.pass.now _ c.give.new.pass c.take-turn.result.value.entries
    c.answer_all-answered.new.spool.entries c.requires.ready.1 c.take-turn.ensures.history c.take-turn.ensures.turn.0
    c.answer_all-answered.ensures.grows c.give.ensures.given

pub returns-clause-answered : goal.returns-clause-answered
returns-clause-answered g c =
    let u = c.answer_all-answered.new.session in
    let halt = c.answer_all-answered.new.halt in
    in_turn_ok g.D.Disk.model g.C.Clock.model
    (λ a s t. HasAnswered g.D.Disk.model g.C.Clock.model c.args.ask s c.args.session.now c.args.halt.now t u a halt)
    c.args.pass.now _ c.give.new.pass c.take-turn.result.value c.answer_all-answered.new.spool
    c.answer_all-answered.result c.take-turn.ensures.history c.take-turn.ensures.fact.0 c.take-turn.ensures.turn.0
    c.give.ensures.given c.answer_all-answered.ensures.answered

pub returns-clause-lost : goal.returns-clause-lost
returns-clause-lost g c =
    let u = c.answer_all-answered.new.session in
    let halt = c.answer_all-answered.new.halt in
    in_turn_err g.D.Disk.model g.C.Clock.model
    (λ e s t. IsLost g.D.Disk.model g.C.Clock.model c.args.ask s c.args.session.now c.args.halt.now t u halt e)
    c.args.pass.now _ c.give.new.pass c.take-turn.result.value c.answer_all-answered.new.spool
    c.answer_all-answered.result c.take-turn.ensures.history c.take-turn.ensures.fact.0 c.take-turn.ensures.turn.0
    c.give.ensures.given c.answer_all-answered.ensures.lost
