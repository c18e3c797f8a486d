use Rattle.std.proofs.Common.{Option, subst}
use Rattle.mta_state.specs.declared.kept.Kept.{Kept}
use Rattle.mta_state.specs.Kept.{state_of}
use Rattle.mta_snapshots.specs.Begins.{Begins}
use Rattle.mta_replay.proofs.RulesMade.{begins_numbers, begins_reads, snapshot_ready}
use Rattle.mta_replay.proofs.anew.ready_snapshot.Goals as goal

pub rules_in-requires : goal.rules_in-requires
rules_in-requires g c =
    let begins = subst (λ (o : Option Kept). Begins c.args.state o) c.in-Some.is c.in_ok-begun.ensures in
    record {
      reads = begins_reads c.args.state c.in-Some.begun begins;
      numbers = begins_numbers c.args.state c.in-Some.begun c.requires.fields begins;
    }

pub returns-clause-ready : goal.returns-clause-ready
returns-clause-ready g c =
    snapshot_ready (state_of c.args.kept.now) c.args.state c.requires.of_history c.if-kept.false g.R.Rules.format
    g.R.Rules.text c.in-Some.begun c.in_ok-rules.rules c.requires.fields
    (subst (λ (o : Option Kept). Begins c.args.state o) c.in-Some.is c.in_ok-begun.ensures)
    c.in_ok-rules.ensures.rules c.in_ok-rules.ensures.fresh c.in_ok-rules.ensures.queued
