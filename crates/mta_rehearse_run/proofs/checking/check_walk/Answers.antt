-- All parts are as they are in the walk.
use Rattle.std.proofs.Common.{ℕ, ◌-◌, List, length, get_or, ◌↔◌, refl, sym, subst, ◌∙◌}
use Rattle.std.specs.Prelude.{IsTrue}
use Rattle.mta_rehearse_run.specs.Turns.{turn_of}
use Rattle.mta_rehearse_run.specs.Walks.{IsWalkBy}
use Rattle.mta_rehearse_run.proofs.Checked.{walk_checked}
use Rattle.mta_rehearse_run.proofs.checking.check_walk.Goals as goal
use Rattle.mta_rehearse_run.proofs.checking.check_walk.Goals.{then-begins_at, else-begins_at, then-each_goes_on}
use Rattle.mta_rehearse_run.proofs.checking.check_walk.Goals.{else-each_goes_on}

pub returns-then-all_differ : goal.returns-then-all_differ
returns-then-all_differ c =
    let turn = turn_of c.args.agents.now c.args.name.now in
    let start = c.args.start in
    let xs = c.as_slice-walked.result.now in
    let end = c.args.walk.now.end in
    let r = c.ends_behind.result in
    elim c.if-each_goes_on.branch [
      | else-each_goes_on w ↦ absurd cc
      | then-each_goes_on w ↦ elim c.if-begins_at.branch [
        | else-begins_at v ↦ absurd cc
        | then-begins_at v ↦
            subst (λ (ys : List ℕ). IsTrue r ↔ IsWalkBy turn start ys end) c.as_slice-walked.ensures
            (walk_checked turn start xs end (get_or xs (length xs - 1) 0) r
            (c.begins_at.ensures.0 v.if-begins_at.true)
            (v.each_goes_on.ensures.0 (sym v.value-is ∙ w.if-each_goes_on.true))
            (w.all_differ.ensures.0 (sym w.value-is ∙ c.if-all_differ.true))
            refl c.ends_behind.ensures)
      ]
    ]
