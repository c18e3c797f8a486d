use Rattle.std.proofs.Common.{arith, subst}
use Rattle.mta_drill.specs.declared.side.Done.{Done}
use Rattle.mta_drill.specs.Acts.{HasDone}
use Rattle.mta_drill.specs.Sides.{GoesOn}
use Rattle.mta_drill.proofs.Going.{comes_to_rest, none_yet, one_more_act}
use Rattle.mta_drill.proofs.side.Side.carry_on.Goals as goal

pub loop-next-init : goal.loop-next-init
loop-next-init c = record {
  called = c.requires.called;
  left = omega arith;
  went = λ p m is.
      none_yet c.args.self.now c.args.spool.now c.args.first c.args.breaks.now p m c.args.other.now.feed is;
  alike = λ e. e;
}

pub loop-next-preserved : goal.loop-next-preserved
loop-next-preserved c =
    let done =
    subst (λ (d : Done). GoesOn c.loop-next.self.session d c.act.new.self.session) c.in-Told.is
    c.in_ok-next.ensures.done in
    record {
      called = done.0;
      left = omega (arith, c.loop-next.invariant.left, done.1);
      went = λ p m is.
          one_more_act p m c.loop-next.action c.loop-next.self c.act.new.self c.loop-next.spool c.act.new.spool
          c.loop-next.breaks c.act.new.breaks c.args.other.now.feed c.loop-next.other.feed c.act.new.other.feed
          (c.loop-next.invariant.went p m is) c.in-Told.next
          (λ q n side. subst (λ (d : Done). HasDone q n d c.act.new.self c.act.new.spool c.act.new.breaks
          c.loop-next.other.feed c.act.new.other.feed) c.in-Told.is (c.in_ok-next.ensures.acts q n side));
      alike = λ e. c.act.ensures.alike (c.loop-next.invariant.alike e);
    }

pub returns-in-Rests-clause-came : goal.returns-in-Rests-clause-came
returns-in-Rests-clause-came c = λ p l is.
    comes_to_rest p l c.loop-next.action c.loop-next.self c.act.new.self c.loop-next.spool c.act.new.spool
    c.loop-next.breaks c.act.new.breaks c.args.other.now.feed c.loop-next.other.feed c.act.new.other.feed
    (c.loop-next.invariant.went p l is) c.in-Rests.rest
    (λ q n side. subst (λ (d : Done). HasDone q n d c.act.new.self c.act.new.spool c.act.new.breaks
    c.loop-next.other.feed c.act.new.other.feed) c.in-Rests.is (c.in_ok-next.ensures.acts q n side))
