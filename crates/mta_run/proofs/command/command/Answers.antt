use Rattle.std.proofs.Common.{map, string_bytes, Global, Ok, refl, sym, ap, ◌∙◌}
use Rattle.mta_stations.specs.Stations.{roles_in}
use Rattle.mta_words.specs.Words.{command_of}
use Rattle.mta_commands.specs.declared.stop.Stop.TheVariants as Stops
use Rattle.mta_commands.specs.Causes.{memory, usage}
use Rattle.mta_commands.specs.DiskLeft.{uncalled}
use Rattle.mta_output.specs.Output.{output}
use Rattle.mta_commands.specs.Words.{words_with}
use Rattle.mta_run.proofs.Commanded.{early_ended, with_others_as}
use Rattle.mta_run.proofs.OtherPeers.{said_by}
use Rattle.mta_run.proofs.command.command.Goals as goal

pub perform-requires-clause-said : goal.perform-requires-clause-said
perform-requires-clause-said g c κs within =
    said_by (map (string_bytes {Z = Global}) c.args.words.now) c.in-Ok-Some.words
    (c.in-Ok-Some.ensures.found c.in-Ok-Some.words (ap Ok c.in-Ok-Some.field-0-is))

pub returns-else-are_stations_for-clause-ended : goal.returns-else-are_stations_for-clause-ended
returns-else-are_stations_for-clause-ended g c =
    early_ended g.D.Disk.model g.C.Clock.model g.I.Source.model g.S.Link.Link.model g.S.Station.model
    c.outside_laws.ensures.disks
    (words_with (roles_in g.S.Station.model c.args.stations.items)
    (command_of (map (string_bytes {Z = Global}) c.args.words.now)))
    c.args.conf.now c.args.input.now c.args.disk c.args.clock c.args.stations.items
    c.early.result.stations.items (output g.O.Sink.model c.args.out.now c.args.out.now) Stops.Usage
    c.early.result.ended.disk c.early.result.ended.outcome c.early.ensures.disk c.early.ensures.outcome
    (ap (λ v. v.items) c.early.ensures.stations) refl
    (usage (with_others_as g.S.Station.model c.args.stations.items c.as_slice.result.now
    (command_of (map (string_bytes {Z = Global}) c.args.words.now)) c.in-Ok-Some.words c.as_slice.ensures.value
    (sym c.in-Ok-Some.ensures.exact ∙ c.in-Ok-Some.field-0-is)
    (sym c.are_stations_for.ensures ∙ c.if-are_stations_for.false)))

pub returns-in-Ok-None-clause-ended : goal.returns-in-Ok-None-clause-ended
returns-in-Ok-None-clause-ended g c =
    early_ended g.D.Disk.model g.C.Clock.model g.I.Source.model g.S.Link.Link.model g.S.Station.model
    c.outside_laws.ensures.disks
    (words_with (roles_in g.S.Station.model c.args.stations.items)
    (command_of (map (string_bytes {Z = Global}) c.args.words.now)))
    c.args.conf.now c.args.input.now c.args.disk c.args.clock c.args.stations.items
    c.early-in-Ok-None.result.stations.items (output g.O.Sink.model c.args.out.now c.args.out.now) Stops.Usage
    c.early-in-Ok-None.result.ended.disk c.early-in-Ok-None.result.ended.outcome c.early-in-Ok-None.ensures.disk
    c.early-in-Ok-None.ensures.outcome
    (ap (λ v. v.items) c.early-in-Ok-None.ensures.stations) refl
    (usage (ap (words_with (roles_in g.S.Station.model c.args.stations.items))
    (sym c.in-Ok-None.ensures.exact ∙ c.in-Ok-None.field-0-is)))

pub returns-in-Err-clause-ended : goal.returns-in-Err-clause-ended
returns-in-Err-clause-ended g c =
    early_ended g.D.Disk.model g.C.Clock.model g.I.Source.model g.S.Link.Link.model g.S.Station.model
    c.outside_laws.ensures.disks
    (words_with (roles_in g.S.Station.model c.args.stations.items)
    (command_of (map (string_bytes {Z = Global}) c.args.words.now)))
    c.args.conf.now c.args.input.now c.args.disk c.args.clock c.args.stations.items
    c.early-in-Err.result.stations.items (output g.O.Sink.model c.args.out.now c.args.out.now) Stops.Memory
    c.early-in-Err.result.ended.disk c.early-in-Err.result.ended.outcome c.early-in-Err.ensures.disk
    c.early-in-Err.ensures.outcome
    (ap (λ v. v.items) c.early-in-Err.ensures.stations) refl
    (memory uncalled)
