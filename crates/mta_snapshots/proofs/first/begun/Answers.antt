use Rattle.std.proofs.Common.{Option, subst}
use Rattle.mta_state.specs.declared.kept.Kept.{Kept}
use Rattle.mta_snapshots.specs.Begins.{Stands}
use Rattle.mta_snapshots.proofs.Beginning.{has_form, none_stands, have_arrived, moment_fits, does_begin, does_not}
use Rattle.mta_snapshots.proofs.first.begun.Goals as goal

pub stood-requires : goal.stood-requires
stood-requires g c = record { form = has_form c.args.state c.requires.fields }

pub returns-in_default : goal.returns-in_default
returns-in_default g c =
    none_stands c.args.state
    (subst (λ (o : Option Kept). Stands c.args.state o) c.in_default.is c.in_ok-kept.ensures)

pub fit_together-requires-clause-arrived : goal.fit_together-requires-clause-arrived
fit_together-requires-clause-arrived g c =
    have_arrived c.args.state (has_form c.args.state c.requires.fields) c.in-Some.kept
    (subst (λ (o : Option Kept). Stands c.args.state o) c.in-Some.is c.in_ok-kept.ensures)

pub fit_together-requires-clause-fits : goal.fit_together-requires-clause-fits
fit_together-requires-clause-fits g c =
    moment_fits c.args.state (has_form c.args.state c.requires.fields) c.in-Some.kept
    (subst (λ (o : Option Kept). Stands c.args.state o) c.in-Some.is c.in_ok-kept.ensures)

pub returns-then-branch : goal.returns-then-branch
returns-then-branch g c =
    does_begin c.args.state (has_form c.args.state c.requires.fields) c.in-Some.kept
    (subst (λ (o : Option Kept). Stands c.args.state o) c.in-Some.is c.in_ok-kept.ensures)
    c.in_ok-fit_together.field-0 c.in_ok-fit_together.ensures c.if-branch.true

pub returns-else-branch : goal.returns-else-branch
returns-else-branch g c =
    does_not c.args.state (has_form c.args.state c.requires.fields) c.in-Some.kept
    (subst (λ (o : Option Kept). Stands c.args.state o) c.in-Some.is c.in_ok-kept.ensures)
    c.in_ok-fit_together.field-0 c.in_ok-fit_together.ensures c.if-branch.false
