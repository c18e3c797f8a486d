use Rattle.std.proofs.Common.{◌≡◌, ℕ, List, ap, subst, ◌∙◌}
use Rattle.std.proofs.lemmas.Result.{on_ok_weaker}
use Rattle.mta_records.specs.declared.step.Step.TheVariants as step
use Rattle.mta_histories.specs.Lanes.{State}
use Rattle.mta_tables.specs.Tables.{tables_of}
use Rattle.mta_drill_laws.specs.Tables.{second_tables, second_text}
use Rattle.mta_drill.specs.Calls.{HasMade}
use Rattle.mta_drill.proofs.Calling.{none_got, second_read}
use Rattle.mta_drill.proofs.round.prepare_second.Goals as goal

pub returns : goal.returns
returns c = λ before works is.
    let old = c.args.spool.now in
    let new = c.give_tables.new.spool in
    let spelled : c.second_text.result.now ≡ second_text = c.second_text.ensures in
    on_ok_weaker c.give_tables.result
    (λ made. none_got old new before is (subst (λ (text : List ℕ). HasMade (step.Tables text) old new) spelled made))
    (c.give_tables.ensures second_tables (ap (λ (text : List ℕ). tables_of text) spelled ∙ second_read)
    (ap (λ (s : State). s.machine.tables) is) works)
