use Rattle.std.proofs.Common.{inl, List, ℕ, None, Ok, Err, sym, ap, subst, ◌∙◌}
use Rattle.mta_journal.specs.Appending.{Appends as JournalAppends}
use Rattle.mta_records.specs.declared.step.Step.{Step}
use Rattle.mta_histories.specs.Lanes.{State}
use Rattle.mta_histories.specs.History.{after_step}
use Rattle.mta_state.specs.Kept.{state_of}
use Rattle.mta_table_rules.specs.Text.{format_of, text_of}
use Rattle.mta_replay.specs.Ready.{IsReady}
use Rattle.mta_spool.specs.Stands.{Makes}
use Rattle.mta_spool.proofs.Making.{made, refused}
use Rattle.mta_spool.proofs.make.keep.Goals as goal

pub append-requires-clause-short : goal.append-requires-clause-short
append-requires-clause-short g c = inl c.requires.short

pub returns-in-Ok-append-clause-made : goal.returns-in-Ok-append-clause-made
returns-in-Ok-append-clause-made g c = λ step fields body longer ready numbers.
    let held = subst
    (λ (s : State). IsReady format_of text_of s step c.args.ready.change c.args.ready.rules)
    (sym c.reserve.ensures.same) ready in
    subst
    (λ (entries : List Step).
    Makes g.D.Disk.model step c.args.journal.now (state_of c.args.replay.now.kept) c.args.entries.now.steps
    c.append.new.self (state_of c.commit.new.self.kept) entries None)
    (sym longer)
    (made g.D.Disk.model step g.met.D.Disk.laws c.args.journal.now c.append.new.self
    (state_of c.args.replay.now.kept) (state_of c.commit.new.self.kept) c.requires.plain
    (subst
    (λ (b : List ℕ). JournalAppends {T = Unit {0}} g.D.Disk.model b c.args.journal.now c.append.new.self (Ok tt)) body
    c.in-Ok-append.ensures)
    c.requires.going fields ready.is_change.possible numbers
    (c.commit.ensures.made step held ∙ ap (λ (s : State). after_step s step) c.reserve.ensures.same)
    c.args.entries.now.steps)

pub returns-in-Err-clause-made : goal.returns-in-Err-clause-made
returns-in-Err-clause-made g c = λ step fields body longer ready numbers.
    rw c.step_fault.ensures
    (refused g.D.Disk.model step g.met.D.Disk.laws c.in-Err.fault c.args.journal.now c.append.new.self
    (state_of c.args.replay.now.kept) (state_of c.reserve.new.self.kept) c.requires.plain
    (subst
    (λ (b : List ℕ).
    JournalAppends {T = Unit {0}} g.D.Disk.model b c.args.journal.now c.append.new.self (Err c.in-Err.fault)) body
    c.in-Err.ensures)
    c.requires.going fields ready.is_change.possible numbers c.reserve.ensures.same
    c.args.entries.now.steps)
