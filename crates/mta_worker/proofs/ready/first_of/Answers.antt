use Rattle.std.proofs.Common.{refl, ◌∙◌}
use Rattle.mta_worker.specs.Readying.{Without_memory}
use Rattle.mta_worker.proofs.Readied.{begins_so, initiator_begun}
use Rattle.mta_worker.proofs.ready.first_of.Goals as goal

pub answer_looks-requires : goal.answer_looks-requires
answer_looks-requires g c =
    let n = c.requires.new in
    record {
      called = initiator_begun n.0 n.1 c.args.session.now c.in-Ok.action c.tell.new.session n.3 n.2
          c.in-Ok.ensures.told;
    }

pub returns-in-Ok-clause-begins : goal.returns-in-Ok-clause-begins
returns-in-Ok-clause-begins g c = λ plan units e.
    begins_so g.D.Disk.model g.C.Clock.model c.args.spool.now plan units c.args.halt.now c.args.session.now
    c.tell.new.session c.answer_looks.new.session c.in-Ok.action c.answer_looks.new.halt c.answer_looks.result e
    c.in-Ok.ensures.told.turn c.answer_looks.ensures.looked c.answer_looks.ensures.all c.answer_looks.ensures.lost

pub returns-in-Err-clause-begins : goal.returns-in-Err-clause-begins
returns-in-Err-clause-begins g c = λ plan units e. Without_memory (c.in-Err.ensures.err ∙ e) refl
