use Rattle.std.proofs.Common.{ap}
use Rattle.mta_stations.specs.Stations.{roles_in}
use Rattle.mta_words.specs.declared.words.Words.TheVariants as Say
use Rattle.mta_output.specs.Output.{output}
use Rattle.mta_run.proofs.Commanded.{commanded_alone, commanded_serving}
use Rattle.mta_run.proofs.Drilled.{drill_ended, some_messages}
use Rattle.mta_commands.proofs.Decoded.{decode_ended}
use Rattle.mta_commands.proofs.ShownSpool.{shown_ended}
use Rattle.mta_run.proofs.command.perform.Goals as goal

pub returns-in-Submit-clause-ended : goal.returns-in-Submit-clause-ended
returns-in-Submit-clause-ended g c =
    commanded_alone g.D.Disk.model g.C.Clock.model g.I.Source.model g.S.Link.Link.model g.S.Station.model
    c.args.words Say.Submit c.in-Submit.is (λ s. s) c.args.conf.now c.submit.new.conf c.args.input.now
    c.submit.new.input
    c.args.disk c.args.clock c.args.stations.items c.alone.result.stations.items
    (output g.O.Sink.model c.args.out.now c.submit.new.out) c.submit.result
    c.alone.result.ended c.alone.ensures.ended (ap (λ v. v.items) c.alone.ensures.stations) c.submit.ensures.ended

pub returns-in-Serve-clause-ended : goal.returns-in-Serve-clause-ended
returns-in-Serve-clause-ended g c =
    commanded_serving g.D.Disk.model g.C.Clock.model g.I.Source.model g.S.Link.Link.model g.S.Station.model
    c.args.words c.in-Serve.sessions c.in-Serve.stations c.in-Serve.is c.requires.said
    (roles_in g.S.Station.model c.args.stations.items) c.requires.theirs c.args.conf.now c.serve.new.conf
    c.args.input.now c.args.disk c.serve.result.ended.disk c.args.clock c.args.stations.items
    c.serve.result.stations.items (output g.O.Sink.model c.args.out.now c.serve.new.out)
    c.serve.result.ended.outcome c.serve.ensures.ended

pub returns-in-Queue-clause-ended : goal.returns-in-Queue-clause-ended
returns-in-Queue-clause-ended g c =
    commanded_alone g.D.Disk.model g.C.Clock.model g.I.Source.model g.S.Link.Link.model g.S.Station.model
    c.args.words Say.Queue c.in-Queue.is (λ s. s) c.args.conf.now c.args.conf.now c.args.input.now c.args.input.now
    c.args.disk c.args.clock c.args.stations.items c.alone-in-Queue.result.stations.items
    (output g.O.Sink.model c.args.out.now c.queue.new.out) c.queue.result
    c.alone-in-Queue.result.ended c.alone-in-Queue.ensures.ended (ap (λ v. v.items) c.alone-in-Queue.ensures.stations)
    (shown_ended g.D.Disk.model g.C.Clock.model g.I.Source.model Say.Queue c.args.conf.now c.args.input.now
    c.args.disk c.queue.result.disk c.args.clock (output g.O.Sink.model c.args.out.now c.queue.new.out)
    c.queue.result.outcome tt (λ r. r) (λ r. r) c.queue.ensures.done)

pub returns-in-Mailbox-clause-ended : goal.returns-in-Mailbox-clause-ended
returns-in-Mailbox-clause-ended g c =
    commanded_alone g.D.Disk.model g.C.Clock.model g.I.Source.model g.S.Link.Link.model g.S.Station.model
    c.args.words (Say.Mailbox c.in-Mailbox.name) c.in-Mailbox.is (λ s. s) c.args.conf.now c.args.conf.now
    c.args.input.now c.args.input.now
    c.args.disk c.args.clock c.args.stations.items c.alone-in-Mailbox.result.stations.items
    (output g.O.Sink.model c.args.out.now c.mailbox.new.out) c.mailbox.result
    c.alone-in-Mailbox.result.ended c.alone-in-Mailbox.ensures.ended
    (ap (λ v. v.items) c.alone-in-Mailbox.ensures.stations)
    (shown_ended g.D.Disk.model g.C.Clock.model g.I.Source.model (Say.Mailbox c.in-Mailbox.name) c.args.conf.now
    c.args.input.now c.args.disk c.mailbox.result.disk c.args.clock
    (output g.O.Sink.model c.args.out.now c.mailbox.new.out) c.mailbox.result.outcome tt (λ r. r) (λ r. r)
    c.mailbox.ensures.done)

pub returns-in-Decode-clause-ended : goal.returns-in-Decode-clause-ended
returns-in-Decode-clause-ended g c =
    commanded_alone g.D.Disk.model g.C.Clock.model g.I.Source.model g.S.Link.Link.model g.S.Station.model
    c.args.words Say.Decode c.in-Decode.is (λ s. s) c.args.conf.now c.args.conf.now c.args.input.now
    c.decode-outcome.new.input
    c.args.disk c.args.clock c.args.stations.items c.alone-in-Decode.result.stations.items
    (output g.O.Sink.model c.args.out.now c.decode-outcome.new.out)
    (record { disk = c.args.disk; outcome = c.decode-outcome.result })
    c.alone-in-Decode.result.ended c.alone-in-Decode.ensures.ended
    (ap (λ v. v.items) c.alone-in-Decode.ensures.stations)
    (decode_ended g.D.Disk.model c.outside_laws.ensures.disks g.C.Clock.model g.I.Source.model c.args.conf.now
    c.args.input.now c.decode-outcome.new.input c.args.disk c.args.clock
    (output g.O.Sink.model c.args.out.now c.decode-outcome.new.out) c.decode-outcome.result
    c.decode-outcome.ensures.decoded)

pub drill-outcome-requires : goal.drill-outcome-requires
drill-outcome-requires g c = record {
  some = some_messages c.args.words c.in-Drill.messages c.in-Drill.is c.requires.said;
}

pub returns-clause-ended : goal.returns-clause-ended
returns-clause-ended g c =
    commanded_alone g.D.Disk.model g.C.Clock.model g.I.Source.model g.S.Link.Link.model g.S.Station.model
    c.args.words (Say.Drill c.in-Drill.messages) c.in-Drill.is (λ s. s) c.args.conf.now c.args.conf.now
    c.args.input.now c.args.input.now c.args.disk c.args.clock c.args.stations.items
    c.alone-in-Drill.result.stations.items (output g.O.Sink.model c.args.out.now c.drill-outcome.new.out)
    (record { disk = c.args.disk; outcome = c.drill-outcome.result })
    c.alone-in-Drill.result.ended c.alone-in-Drill.ensures.ended
    (ap (λ v. v.items) c.alone-in-Drill.ensures.stations)
    (drill_ended g.D.Disk.model c.outside_laws.ensures.disks g.C.Clock.model g.I.Source.model c.in-Drill.messages
    c.args.conf.now c.args.input.now c.args.disk c.args.clock
    (output g.O.Sink.model c.args.out.now c.drill-outcome.new.out) c.drill-outcome.result
    c.drill-outcome.ensures.drilled)
