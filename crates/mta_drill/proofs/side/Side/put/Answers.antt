use Rattle.std.proofs.lemmas.Result.{IfOk-weaker}
use Rattle.mta_drill.proofs.Telling.{put_answers, put_called, put_falls}
use Rattle.mta_drill.proofs.side.Side.put.Goals as goal

pub tell-requires : goal.tell-requires
tell-requires c =
    let s = c.args.self.now in
    record {
      answers =
          put_answers s.session c.args.unit s.came.is_broken c.in_ok-event.event c.requires.called
          c.in_ok-event.ensures.event;
    }

pub returns-clause-called : goal.returns-clause-called
returns-clause-called c =
    let s = c.args.self.now in
    IfOk-weaker c.tell.result _ _
    (λ a told. put_called s.session c.args.unit s.came.is_broken c.in_ok-event.event c.requires.called
    c.in_ok-event.ensures.event a c.tell.new.session told)
    c.tell.ensures.told

pub returns-clause-falls : goal.returns-clause-falls
returns-clause-falls c =
    let s = c.args.self.now in
    IfOk-weaker c.tell.result _ _
    (λ a told. put_falls s.session c.args.unit s.came.is_broken c.in_ok-event.event c.requires.called
    c.in_ok-event.ensures.event a c.tell.new.session told)
    c.tell.ensures.told
