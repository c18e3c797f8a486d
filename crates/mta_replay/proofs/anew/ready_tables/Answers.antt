use Rattle.std.proofs.Common.{◌≡◌, true, List, ℕ, Option, refl, sym, ap, subst, ◌∙◌}
use Rattle.mta_records.specs.declared.step.Step.TheVariants.{Tables}
use Rattle.mta_machine.specs.Rules.{is_tables_text}
use Rattle.mta_histories.specs.History.{after_step}
use Rattle.mta_state.specs.Asked.{AreUnder}
use Rattle.mta_state.specs.Kept.{state_of}
use Rattle.mta_replay.specs.Queued.{AreQueued}
use Rattle.mta_replay.proofs.PutDown.{queued_by}
use Rattle.mta_replay.proofs.RulesMade.{recorded}
use Rattle.mta_replay.proofs.anew.ready_tables.Goals as goal

pub returns-in-Some-prepare_tables-clause-ready : goal.returns-in-Some-prepare_tables-clause-ready
returns-in-Some-prepare_tables-clause-ready g c =
    let under = subst
    (λ (o : Option g.row.R.Denot).
    AreUnder g.R.Rules.format g.R.Rules.text c.args.kept.now.parts.format c.as_slice.result.now o) c.in-Some.is
    c.in_ok-rules.ensures in
    let s = state_of c.args.kept.now in
    let force = c.in_ok-force.force in
    record {
      is_change = c.in-Some-prepare_tables.ensures (state_of c.args.kept.now) c.requires.numbers;
      under = recorded (state_of c.args.kept.now).machine (g.R.Rules.format force.rules) (g.R.Rules.text force.rules)
          c.args.text (ap g.R.Rules.format c.in_ok-force.ensures.rules ∙ under.0)
          (ap g.R.Rules.text c.in_ok-force.ensures.rules ∙ (under.1 ∙ c.as_slice.ensures))
          (subst (λ (t : List ℕ). is_tables_text t ≡ true) c.as_slice.ensures under.2);
      fresh = (
        c.in_ok-force.ensures.known,
        c.in_ok-force.ensures.spans,
        c.in_ok-force.ensures.hand,
        c.in_ok-force.ensures.looked,
      );
      queued = queued_by (g.R.Rules.text force.rules) s (after_step s (Tables c.args.text)) force.queues refl refl
          (subst (λ (r : g.row.R.Denot). AreQueued (g.R.Rules.text r) s force.queues)
          (sym c.in_ok-force.ensures.rules) c.in_ok-force.ensures.queued);
    }
