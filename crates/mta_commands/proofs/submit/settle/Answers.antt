use Rattle.std.proofs.Common.{◌++◌, ◌∷◌, [], Ok, ◌∙◌, subst}
use Rattle.mta_spool.specs.declared.spool.Turned.{Turned}
use Rattle.mta_spool.specs.Stands.{step_moment}
use Rattle.mta_spool.specs.Turning.{Turns}
use Rattle.mta_commands.proofs.Settled.{settling_none, settling_more, settling_refused, settled, less_room}
use Rattle.mta_commands.proofs.submit.settle.Goals as goal

pub loop-step-init : goal.loop-step-init
loop-step-init g c = (
  [],
  settling_none g.D.Disk.model g.met.D.Disk.laws g.C.Clock.model c.args.spool.now c.requires.going
      c.requires.stands,
)

pub returns-in-Ok-Quiet-clause-settled : goal.returns-in-Ok-Quiet-clause-settled
returns-in-Ok-Quiet-clause-settled g c =
    let i = c.loop-step.invariant in
    let t = c.in-Ok-Quiet.ensures.turned in
    let q = subst (λ (x : Turned). Turns g.D.Disk.model (step_moment t.told c.loop-step.spool.current.moment)
    c.loop-step.spool c.turn.new.self (Ok x)) c.in-Ok-Quiet.field-0-is t.at in
    settled g.D.Disk.model g.met.D.Disk.laws g.C.Clock.model c.args.spool.now c.loop-step.spool c.turn.new.self i.0
    t.told i.1 t.tells q.2 q.3

pub returns-in-Err-clause-settled : goal.returns-in-Err-clause-settled
returns-in-Err-clause-settled g c =
    let i = c.loop-step.invariant in
    let t = c.in-Err.ensures.turned in
    settling_refused g.D.Disk.model g.met.D.Disk.laws g.C.Clock.model c.args.spool.now c.loop-step.spool
    c.turn.new.self i.0 t.told c.in-Err.fault i.1 t.tells c.in-Err.ensures.no_lane t.at

pub loop-step-smaller : goal.loop-step-smaller
loop-step-smaller g c =
    let i = c.loop-step.invariant in
    let t = c.in-Ok-Did.ensures.turned in
    let moment = step_moment t.told c.loop-step.spool.current.moment in
    let q = subst (λ (x : Turned). Turns g.D.Disk.model moment c.loop-step.spool c.turn.new.self (Ok x))
    c.in-Ok-Did.field-0-is t.at in
    less_room g.D.Disk.model g.met.D.Disk.laws g.C.Clock.model c.loop-step.spool c.turn.new.self c.in-Ok-Did.step
    i.1.going i.1.stands q.1

pub loop-step-preserved : goal.loop-step-preserved
loop-step-preserved g c =
    let i = c.loop-step.invariant in
    let t = c.in-Ok-Did.ensures.turned in
    let moment = step_moment t.told c.loop-step.spool.current.moment in
    let q = subst (λ (x : Turned). Turns g.D.Disk.model moment c.loop-step.spool c.turn.new.self (Ok x))
    c.in-Ok-Did.field-0-is t.at in (
      i.0 ++ c.in-Ok-Did.step ∷ [],
      settling_more g.D.Disk.model g.met.D.Disk.laws g.C.Clock.model c.args.spool.now
          c.loop-step.spool c.turn.new.self i.0 c.in-Ok-Did.step t.told i.1 t.tells
          q.0 q.1 c.in-Ok-Did.ensures.clock c.in-Ok-Did.ensures.opened c.in-Ok-Did.ensures.keeps,
    )

pub returns-in-Ok-Quiet-clause-clock : goal.returns-in-Ok-Quiet-clause-clock
returns-in-Ok-Quiet-clause-clock g c m t = c.loop-step.invariant.1.clock m (c.turn.ensures.clock m t)

pub returns-in-Ok-Quiet-clause-opened : goal.returns-in-Ok-Quiet-clause-opened
returns-in-Ok-Quiet-clause-opened g c = c.turn.ensures.opened ∙ c.loop-step.invariant.1.opened

pub returns-in-Ok-Quiet-clause-keeps : goal.returns-in-Ok-Quiet-clause-keeps
returns-in-Ok-Quiet-clause-keeps g c base k = c.turn.ensures.keeps base (c.loop-step.invariant.1.keeps base k)

pub returns-in-Err-clause-clock : goal.returns-in-Err-clause-clock
returns-in-Err-clause-clock g c m t = c.loop-step.invariant.1.clock m (c.turn.ensures.clock m t)

pub returns-in-Err-clause-opened : goal.returns-in-Err-clause-opened
returns-in-Err-clause-opened g c = c.turn.ensures.opened ∙ c.loop-step.invariant.1.opened

pub returns-in-Err-clause-keeps : goal.returns-in-Err-clause-keeps
returns-in-Err-clause-keeps g c base k = c.turn.ensures.keeps base (c.loop-step.invariant.1.keeps base k)
