use Rattle.mta_output.specs.Output.{output}
use Rattle.mta_commands.proofs.Finishing.{finished, settles_no_lane, unfinished}
use Rattle.mta_commands.proofs.serving.finish.Goals as goal

pub outcome_of-requires : goal.outcome_of-requires
outcome_of-requires g c = record {
  no_lane = settles_no_lane g.D.Disk.model (g.C.Clock.model.tells c.args.spool.now.clock) c.args.spool.now
      c.settle_behind-settled.new.spool c.settle_behind-settled.result c.settle_behind-settled.ensures.settled;
}

pub returns-in-Ok-clause-finished : goal.returns-in-Ok-clause-finished
returns-in-Ok-clause-finished g c =
    finished g.D.Disk.model (g.C.Clock.model.tells c.args.spool.now.clock) c.args.ends.now
    (output g.O.Sink.model c.args.out.now c.tell_stations.new.out) c.args.spool.now c.settle_behind-settled.new.spool
    c.settle_behind-settled.result c.settle_behind-settled.ensures.settled c.outcome_of.result
    c.in-Ok.ensures.told c.outcome_of.ensures

pub returns-in-Err-clause-finished : goal.returns-in-Err-clause-finished
returns-in-Err-clause-finished g c =
    unfinished g.D.Disk.model (g.C.Clock.model.tells c.args.spool.now.clock) c.args.ends.now
    (output g.O.Sink.model c.args.out.now c.tell_stations.new.out) c.args.spool.now c.settle_behind-settled.new.spool
    c.settle_behind-settled.result c.settle_behind-settled.ensures.settled c.in-Err.stop c.in-Err.ensures.told
