use Rattle.std.proofs.Common.{◌∙◌, inl, inr, refl, subst, sym}
use Rattle.mta_drill.specs.declared.side.Done.{Done}
use Rattle.mta_drill.specs.declared.side.Side.{Side}
use Rattle.mta_drill.specs.Acts.{HasDone}
use Rattle.mta_drill.specs.Sides.{GoesOn}
use Rattle.mta_drill.proofs.Running.{begins, both_rest, one_round}
use Rattle.mta_drill.proofs.session.run.Goals as goal

pub loop-next-init : goal.loop-next-init
loop-next-init c = record {
  called = c.requires.calls;
  waits = c.in_ok-listening.ensures.rested.0;
  ran = λ w calling listening.
      let moved : Side = record { session = c.args.caller.now.session; came = c.carry_on.new.other } in
      begins w c.args.caller.now moved c.carry_on.new.self c.args.first.now c.carry_on.new.spool c.args.calls
      c.in_ok-listening.listening c.args.breaks.now c.carry_on.new.breaks calling refl
      (c.in_ok-listening.ensures.came w.listening w.link listening)
      (c.in_ok-listening.ensures.alike (sym calling.broken ∙ listening.broken));
}

pub loop-next-preserved : goal.loop-next-preserved
loop-next-preserved c =
    let done =
    subst (λ (d : Done). GoesOn c.loop-next.caller.session d c.act.new.self.session) c.in-Told.is
    c.in_ok-next.ensures.done in
    record {
      called = done.0;
      waits = c.in_ok-rests.ensures.rested;
      ran = λ w calling listening.
          let behind : Side = record { session = c.loop-next.listener.session; came = c.act.new.other } in
          let moved : Side = record { session = c.act.new.self.session; came = c.go_on.new.other } in
          elim (c.loop-next.invariant.ran w calling listening) [
            | inr gave ↦ inr gave
            | inl run ↦
                one_round w c.loop-next.caller c.act.new.self moved c.loop-next.listener behind c.go_on.new.self
                c.loop-next.first c.act.new.spool c.loop-next.second c.go_on.new.spool c.loop-next.action c.in-Told.next
                c.loop-next.listening c.in_ok-rests.rests c.loop-next.breaks c.act.new.breaks c.go_on.new.breaks run
                (λ q n side. subst (λ (d : Done). HasDone q n d c.act.new.self c.act.new.spool c.act.new.breaks
                c.loop-next.listener.came.feed c.act.new.other.feed) c.in-Told.is
                (c.in_ok-next.ensures.acts q n side))
                refl c.act.ensures.alike c.in_ok-rests.ensures.came refl c.in_ok-rests.ensures.alike
          ];
    }

pub returns-in-Rests-clause-ran : goal.returns-in-Rests-clause-ran
returns-in-Rests-clause-ran c = λ w calling listening.
    let behind : Side = record { session = c.loop-next.listener.session; came = c.act.new.other } in
    elim (c.loop-next.invariant.ran w calling listening) [
      | inr gave ↦ inr gave
      | inl run ↦
          both_rest w c.loop-next.caller c.act.new.self c.loop-next.listener behind c.loop-next.first c.act.new.spool
          c.loop-next.second c.loop-next.action c.in-Rests.calling c.loop-next.listening c.loop-next.breaks
          c.act.new.breaks run
          (λ q n side. subst (λ (d : Done). HasDone q n d c.act.new.self c.act.new.spool c.act.new.breaks
          c.loop-next.listener.came.feed c.act.new.other.feed) c.in-Rests.is
          (c.in_ok-next.ensures.acts q n side))
          refl c.act.ensures.alike
    ]
