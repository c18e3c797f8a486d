use Rattle.std.proofs.Common.{subst}
use Rattle.mta_units.specs.declared.next.Next.{Next}
use Rattle.mta_units.specs.Reading.{Says}
use Rattle.mta_session_run.proofs.Talks.{fill_ends}
use Rattle.mta_session_run.proofs.get.get_unit.Goals as goal

pub returns-in-Bad-clause-ends : goal.returns-in-Bad-clause-ends
returns-in-Bad-clause-ends g c =
    let said = subst (λ (n : Next). Says n c.read_next.new.frames) c.in-Bad.is c.in_ok-unit.ensures.says in
    (c.in-Bad.kind, said.1)

pub returns-then-not-branch-clause-ends : goal.returns-then-not-branch-clause-ends
returns-then-not-branch-clause-ends g c =
    let said = subst (λ (n : Next). Says n c.read_next.new.frames) c.in-More.is c.in_ok-unit.ensures.says in
    fill_ends g.L.Link.model (g.L.Link.model.faults c.args.link.now)
    (g.L.Link.model.faults c.loop-unit.link) c.in_ok-fill-in-More.field-0 c.read_next.new.frames c.fill.new.frames
    c.fill.new.link
    c.loop-unit.invariant.later c.if-not-branch.true said c.in_ok-fill-in-More.ensures.fed
    c.in_ok-fill-in-More.ensures.over
