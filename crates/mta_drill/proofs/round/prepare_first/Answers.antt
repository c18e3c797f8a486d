use Rattle.std.proofs.Common.{◌≡◌, ℕ, List, ap, subst, ◌∙◌}
use Rattle.mta_records.specs.declared.step.Step.TheVariants as step
use Rattle.mta_histories.specs.Lanes.{State}
use Rattle.mta_tables.specs.Tables.{tables_of}
use Rattle.mta_drill_laws.specs.Tables.{first_tables, first_text}
use Rattle.mta_drill.specs.Calls.{HasMade}
use Rattle.mta_drill.proofs.Calling.{first_read, none_taken}
use Rattle.mta_drill.proofs.round.prepare_first.Goals as goal

pub returns : goal.returns
returns c = λ few works is.
    let old = c.args.spool.now in
    let new = c.give_tables.new.spool in
    let spelled : c.first_text.result.now ≡ first_text = c.first_text.ensures in
    let made =
    c.in_ok-give_tables.ensures first_tables (ap (λ (text : List ℕ). tables_of text) spelled ∙ first_read)
    (ap (λ (s : State). s.machine.tables) is) works in
    c.accept_all.ensures few
    (none_taken old new c.args.before is
    (subst (λ (text : List ℕ). HasMade (step.Tables text) old new) spelled made))
