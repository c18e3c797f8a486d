use Rattle.std.proofs.Common.{◌≡◌, List, Ok, Err, ℕ, rules, subst}
use Rattle.std.proofs.lemmas.Result.{on_ok_weaker}
use Rattle.mta_records.specs.declared.step.Step.TheVariants as step
use Rattle.mta_drill.specs.Calls.{HasMade}
use Rattle.mta_drill.proofs.Calling.{clear_err, clear_now, clear_ok, has_recorded}
use Rattle.mta_drill.proofs.round.give_tables.Goals as goal

pub returns-in-Ok : goal.returns-in-Ok
returns-in-Ok c = λ t read none works.
    let old = c.args.spool.now in
    let new = c.set_tables.new.self in
    let is : c.in-Some.tables.text ≡ c.args.text.now = search rules in
    subst (λ (text : List ℕ). HasMade (step.Tables text) old new) is
    (has_recorded old new c.in-Some.tables.text (Ok tt) c.in-Ok.ensures.records none c.in-Ok.ensures.no_lane
    (clear_ok tt) works c.in-Ok.ensures.clock)

pub returns : goal.returns
returns c = λ t read none works.
    let old = c.args.spool.now in
    let new = c.set_tables.new.self in
    let is : c.in-Some.tables.text ≡ c.args.text.now = search rules in
    on_ok_weaker c.check.result
    (λ clear. subst (λ (text : List ℕ). HasMade (step.Tables text) old new) is
    (has_recorded old new c.in-Some.tables.text (Err c.in-Err.fault) c.in-Err.ensures.records none
    c.in-Err.ensures.no_lane
    (clear_err c.in-Err.fault (clear_now c.in-Err.fault c.halt_of.result c.halt_of.ensures clear)) works
    c.in-Err.ensures.clock))
    c.check.ensures
