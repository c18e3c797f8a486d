use Rattle.std.proofs.Common.{Option, length, subst}
use Rattle.mta_records.specs.declared.step.Step.{Step}
use Rattle.mta_state.specs.Kept.{state_of}
use Rattle.mta_dues.specs.Answers.{IsFirstOf}
use Rattle.mta_dues.proofs.Passed.{nothing_between}
use Rattle.mta_dues.proofs.Scans.{first_item, no_item, nothing_further, NothingDueBetween}
use Rattle.mta_dues.proofs.scan.first_due.Goals as goal

pub loop-number-preserved : goal.loop-number-preserved
loop-number-preserved g c =
    let s = state_of c.args.kept.now in
    let between = subst (NothingDueBetween s c.loop-number.after c.args.moment) c.in-Some.is
    (nothing_between s (g.R.Rules.format c.args.rules.now) (g.R.Rules.text c.args.rules.now) c.loop-number.index
    c.loop-number.after c.args.moment
    c.next.result c.requires.kept c.requires.text c.requires.format c.loop-number.invariant.indexed
    c.loop-number.invariant.called
    c.next.ensures) in
    record {
      none = nothing_further s c.loop-number.after c.in-Some.number c.args.moment c.loop-number.invariant.none between
          (subst (λ (d : Option Step). IsFirstOf s c.in-Some.number c.args.moment d) c.in-None.is
          c.in_ok-look.ensures.first);
      called = c.look.ensures.called (length c.args.kept.now.parts.items.items) c.loop-number.invariant.called;
      indexed = c.look.ensures.indexed;
    }

pub returns-in-Some-2-clause-next : goal.returns-in-Some-2-clause-next
returns-in-Some-2-clause-next g c =
    let s = state_of c.args.kept.now in
    let between = subst (NothingDueBetween s c.loop-number.after c.args.moment) c.in-Some.is
    (nothing_between s (g.R.Rules.format c.args.rules.now) (g.R.Rules.text c.args.rules.now) c.loop-number.index
    c.loop-number.after c.args.moment
    c.next.result c.requires.kept c.requires.text c.requires.format c.loop-number.invariant.indexed
    c.loop-number.invariant.called
    c.next.ensures) in
    first_item s c.loop-number.after c.in-Some.number c.args.moment c.in-Some-2.due c.loop-number.invariant.none
    between
    (subst (λ (d : Option Step). IsFirstOf s c.in-Some.number c.args.moment d) c.in-Some-2.is
    c.in_ok-look.ensures.first)

pub returns-clause-next : goal.returns-clause-next
returns-clause-next g c =
    let s = state_of c.args.kept.now in
    let between = subst (NothingDueBetween s c.loop-number.after c.args.moment) c.in_default.is
    (nothing_between s (g.R.Rules.format c.args.rules.now) (g.R.Rules.text c.args.rules.now) c.loop-number.index
    c.loop-number.after c.args.moment
    c.next.result c.requires.kept c.requires.text c.requires.format c.loop-number.invariant.indexed
    c.loop-number.invariant.called
    c.next.ensures) in
    no_item s c.loop-number.after c.args.moment c.loop-number.invariant.none between
