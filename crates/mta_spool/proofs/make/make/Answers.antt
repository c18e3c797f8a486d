use Rattle.std.proofs.Common.{sym, subst, ◌∙◌}
use Rattle.mta_state.specs.declared.kept.Kept.{Kept}
use Rattle.mta_state.specs.Kept.{state_of}
use Rattle.mta_table_rules.specs.Text.{format_of, text_of}
use Rattle.mta_replay.specs.Ready.{IsReady}
use Rattle.mta_spool.specs.Stands.{fault_of, IsSpent, Makes}
use Rattle.mta_spool.proofs.make.make.Goals as goal

pub returns-clause-made : goal.returns-clause-made
returns-clause-made g c =
    let same = c.ready.ensures.same in
    let ready = c.in-Ok-ready.ready in
    subst
    (λ (k : Kept).
    Makes g.D.Disk.model c.args.step c.args.journal.now (state_of k) c.args.entries.now.steps c.keep.new.journal
    (state_of c.keep.new.replay.kept) c.keep.new.entries.steps (fault_of c.keep.result))
    same
    (c.keep.ensures.made c.args.step c.requires.fields (c.as_slice.ensures ∙ c.in-Ok.ensures) c.with-longer.ensures
    (subst (λ (k : Kept). IsReady format_of text_of (state_of k) c.args.step ready.change ready.rules) (sym same)
    c.in-Ok-ready.ensures.ready)
    (subst (λ (k : Kept). IsSpent (state_of k) c.args.step → ⊥) (sym same) c.requires.numbers))
