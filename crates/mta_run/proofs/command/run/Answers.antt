use Rattle.std.proofs.Common.{map, string_bytes, Global}
use Rattle.mta_stations.specs.Stations.{roles_in}
use Rattle.mta_words.specs.Words.{command_of}
use Rattle.mta_commands.specs.Handed.{handed}
use Rattle.mta_output.specs.Output.{output}
use Rattle.mta_run.specs.Runs.{sessions_in}
use Rattle.mta_run.specs.Served.{StationsLeft}
use Rattle.mta_commands.specs.Words.{words_with}
use Rattle.mta_run.proofs.RanFields.{ran}
use Rattle.mta_run.proofs.Statuses.{ended_complete, ended_tells}
use Rattle.mta_run.proofs.command.run.Goals as goal

pub returns-clause-ran : goal.returns-clause-ran
returns-clause-ran g c =
    let h = handed g.D.Disk.model g.C.Clock.model g.I.Source.model
    (words_with (roles_in g.S.Station.model c.args.stations.items)
    (command_of (map (string_bytes {Z = Global}) c.args.words.now)))
    c.args.conf.now c.command-ended.new.conf c.args.input.now c.command-ended.new.input c.args.disk
    c.command-ended.result.ended.disk c.args.clock in
    ran h g.O.Sink.model c.args.out.now c.command-ended.new.out c.close-status.new.out
    c.command-ended.result.ended.outcome c.close-status.result
    (StationsLeft h g.S.Link.Link.model g.S.Station.model
    (sessions_in (words_with (roles_in g.S.Station.model c.args.stations.items)
    (command_of (map (string_bytes {Z = Global}) c.args.words.now))))
    c.args.stations.items c.command-ended.result.stations.items)
    c.command-ended.ensures.ended c.close-status.ensures.closed c.command-ended.ensures.later
    c.close-status.ensures.later

pub returns-clause-complete : goal.returns-clause-complete
returns-clause-complete g c =
    let r = returns-clause-ran g c in
    let h = handed g.D.Disk.model g.C.Clock.model g.I.Source.model
    (words_with (roles_in g.S.Station.model c.args.stations.items)
    (command_of (map (string_bytes {Z = Global}) c.args.words.now)))
    c.args.conf.now c.command-ended.new.conf c.args.input.now c.command-ended.new.input c.args.disk
    c.command-ended.result.ended.disk c.args.clock in
    ended_complete h r.ends r.added r.opening (output g.O.Sink.model c.args.out.now c.close-status.new.out)
    c.close-status.result r.printed

pub returns-clause-tells : goal.returns-clause-tells
returns-clause-tells g c =
    let r = returns-clause-ran g c in
    let h = handed g.D.Disk.model g.C.Clock.model g.I.Source.model
    (words_with (roles_in g.S.Station.model c.args.stations.items)
    (command_of (map (string_bytes {Z = Global}) c.args.words.now)))
    c.args.conf.now c.command-ended.new.conf c.args.input.now c.command-ended.new.input c.args.disk
    c.command-ended.result.ended.disk c.args.clock in
    ended_tells h r.ends r.added r.opening (output g.O.Sink.model c.args.out.now c.close-status.new.out)
    c.close-status.result r.uncalled_unless r.disk_stands.untouched r.printed
