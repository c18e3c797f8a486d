use Rattle.std.proofs.Common.{◌≡◌, ℕ, eqb, true, false, List, ◌++◌, ◌∷◌, [], Ok, Err, refl, sym, ap, subst, ◌∙◌}
use Rattle.std.proofs.lemmas.Bool.{ne_eqb}
use Rattle.mta_records.specs.declared.step.Step.{Step}
use Rattle.mta_records.specs.declared.step.Step.TheVariants as Steps
use Rattle.mta_histories.specs.Lanes.{State}
use Rattle.mta_histories.specs.History.{after, IsPossible}
use Rattle.mta_state.specs.Kept.{state_of}
use Rattle.mta_spool.specs.GoingOn.{Becomes}
use Rattle.mta_spool.proofs.Compacted.{format_possible, in_format_more, in_format_same}
use Rattle.mta_spool.proofs.Continuing.{becomes_made, becomes_next, becomes_same, becomes_unmade}
use Rattle.mta_spool.proofs.going_on.set_format.Goals as goal

-- the state has another format
older : (s : State) (steps : List Step) → (s.machine.format ≡ 2 → ⊥) → s ≡ after steps
    → eqb (after steps).machine.format 2 ≡ false
older s steps other there =
    ap (λ (x : State). eqb x.machine.format 2) (sym there) ∙ ne_eqb s.machine.format 2 other

pub returns-then-not-older-clause-formatted : goal.returns-then-not-older-clause-formatted
returns-then-not-older-clause-formatted g c = λ steps held.
    subst
    (λ (next : List Step).
    Becomes g.D.Disk.model steps next c.args.journal.now c.args.journal.now (state_of c.args.replay.now.kept)
    (Ok c.of.result))
    (sym (in_format_same steps (ap (λ (x : State). eqb x.machine.format 2) (sym held.state_is)
    ∙ ap (λ (n : ℕ). eqb n 2) c.if-not-older.true)))
    (becomes_same g.D.Disk.model g.met.D.Disk.laws steps c.args.journal.now _ held c.args.journal.now
    (state_of c.args.replay.now.kept) c.of.result refl refl)

pub make-requires-clause-possible : goal.make-requires-clause-possible
make-requires-clause-possible g c =
    let h = c.requires.of_history in
    subst (λ (s : State). IsPossible s (Steps.Format 2)) (sym h.1.state_is)
    (format_possible h.0 h.1.each h.1.history
    (older (state_of c.args.replay.now.kept) h.0 c.if-not-older.false h.1.state_is))

pub returns-in-Ok-clause-formatted : goal.returns-in-Ok-clause-formatted
returns-in-Ok-clause-formatted g c = λ steps held.
    subst
    (λ (next : List Step).
    Becomes g.D.Disk.model steps next c.args.journal.now c.make.new.journal (state_of c.make.new.replay.kept)
    (Ok c.of-in-Ok.result))
    (sym (in_format_more steps (older (state_of c.args.replay.now.kept) steps c.if-not-older.false held.state_is)))
    (becomes_made g.D.Disk.model g.met.D.Disk.laws steps c.args.journal.now _ held (Steps.Format 2) _ _
    c.make.new.journal _ _ c.in-Ok.ensures.made)

pub returns-in-Err-clause-formatted : goal.returns-in-Err-clause-formatted
returns-in-Err-clause-formatted g c = λ steps held.
    rw c.why_of_step.ensures
    (becomes_next g.D.Disk.model steps _ _ c.args.journal.now c.make.new.journal _ _
    (in_format_more steps (older (state_of c.args.replay.now.kept) steps c.if-not-older.false held.state_is))
    (becomes_unmade g.D.Disk.model g.met.D.Disk.laws steps c.args.journal.now _ held (Steps.Format 2) _ _
    c.make.new.journal _ c.in-Err.fault c.in-Err.ensures.made))
