use Rattle.std.proofs.Common.{◌+◌, length, inl}
use Rattle.mta_edge.specs.Outside.{Goes-then, Torn}
use Rattle.mta_edge.proofs.Moments.{weaken, joined}
use Rattle.mta_journal.specs.Bodies.{HasOrOneMore}
use Rattle.mta_journal.proofs.Appended.{behind_gate, at_gate, appended, long_enough}
use Rattle.mta_journal.proofs.journal.put_record.Goals as goal

pub returns-in_err-put_closed-clause-images : goal.returns-in_err-put_closed-clause-images
returns-in_err-put_closed-clause-images g c = λ f told first bodies can has.
    weaken g.D.Disk.model (Torn (c.args.gate + 1) (length c.args.body.now + 5) f)
    (HasOrOneMore first bodies c.args.body.now)
    _ _
    (λ h torn. inl (behind_gate first c.args.gate bodies c.args.body.now can _ f h has torn))
    (c.put_closed.ensures.images f told)

pub returns-in_err-lift_gate-clause-images : goal.returns-in_err-lift_gate-clause-images
returns-in_err-lift_gate-clause-images g c = λ f told first bodies can has.
    let next = c.in_ok-put_closed.ensures.put.each f told in
    joined g.D.Disk.model (HasOrOneMore first bodies c.args.body.now) _ c.put_closed.new.disk _
    (weaken g.D.Disk.model (Torn (c.args.gate + 1) (length c.args.body.now + 5) f)
    (HasOrOneMore first bodies c.args.body.now)
    _ _
    (λ h torn. inl (behind_gate first c.args.gate bodies c.args.body.now can _ f h has torn))
    (c.put_closed.ensures.images f told))
    (weaken g.D.Disk.model (Torn c.args.gate 1 next.0) (HasOrOneMore first bodies c.args.body.now) _ _
    (λ h torn. at_gate first c.args.gate bodies c.args.body.now can f next.0 h (c.requires.within f told) has next.2
    torn) (c.lift_gate.ensures.images next.0 next.1))

pub returns-clause-put : goal.returns-clause-put
returns-clause-put g c = λ first bodies can.
    Goes-then (λ f h k told put lifted has. appended first c.args.gate bodies c.args.body.now can f h k
    (c.requires.within f told) has put lifted)
    c.in_ok-put_closed.ensures.put c.in_ok-lift_gate.ensures.lifted

pub returns-clause-longer : goal.returns-clause-longer
returns-clause-longer g c =
    Goes-then (λ f h k told put lifted. long_enough c.args.gate c.args.body.now f h k (c.requires.within f told) put
    lifted)
    c.in_ok-put_closed.ensures.put c.in_ok-lift_gate.ensures.lifted

pub returns-clause-images : goal.returns-clause-images
returns-clause-images g c = λ f told first bodies can has.
    let next = c.in_ok-put_closed.ensures.put.each f told in
    joined g.D.Disk.model (HasOrOneMore first bodies c.args.body.now) _ c.put_closed.new.disk _
    (weaken g.D.Disk.model (Torn (c.args.gate + 1) (length c.args.body.now + 5) f)
    (HasOrOneMore first bodies c.args.body.now)
    _ _
    (λ h torn. inl (behind_gate first c.args.gate bodies c.args.body.now can _ f h has torn))
    (c.put_closed.ensures.images f told))
    (weaken g.D.Disk.model (Torn c.args.gate 1 next.0) (HasOrOneMore first bodies c.args.body.now) _ _
    (λ h torn. at_gate first c.args.gate bodies c.args.body.now can f next.0 h (c.requires.within f told) has next.2
    torn) (c.lift_gate.ensures.images next.0 next.1))
