use Rattle.std.proofs.Common.{Ok, Err, refl}
use Rattle.mta_stations.specs.Stations.{roles_in}
use Rattle.mta_output.specs.Output.{output}
use Rattle.mta_run.proofs.ServedAll.{lent_roles, not_open, not_tabled, serve_named, served_over}
use Rattle.mta_run.proofs.serve.serve.Goals as goal

pub returns-in-Err-clause-ended : goal.returns-in-Err-clause-ended
returns-in-Err-clause-ended g c input named e others =
    not_tabled g.D.Disk.model c.outside_laws.ensures.disks g.C.Clock.model c.outside_laws.ensures.clocks
    g.I.Source.model g.S.Link.Link.model
    g.S.Station.model c.args.sessions named c.args.conf.now c.tables_for.new.conf input c.args.clock
    (output g.O.Sink.model c.args.out.now c.args.out.now) c.args.disk c.args.stations.items c.args.stations.items
    (roles_in g.S.Station.model c.args.stations.items) c.in-Err.stop e refl refl
    (lent_roles g.S.Station.model g.I.Source.model c.args.conf.now c.tables_for.new.conf c.as_slice.result.now
    c.args.stations.items (Err c.in-Err.stop) c.as_slice.ensures.value c.in-Err.ensures)

pub returns-in-Err-open-clause-ended : goal.returns-in-Err-open-clause-ended
returns-in-Err-open-clause-ended g c input named e others =
    let t = serve_named g.I.Source.model c.args.conf.now c.tables_for.new.conf
    (roles_in g.S.Station.model c.args.stations.items) c.in-Ok.tables
    (lent_roles g.S.Station.model g.I.Source.model c.args.conf.now c.tables_for.new.conf c.as_slice.result.now
    c.args.stations.items (Ok c.in-Ok.tables) c.as_slice.ensures.value c.in-Ok.ensures) in
    rw (c.refused.ensures.0, c.refused.ensures.1)
    (not_open g.D.Disk.model c.outside_laws.ensures.disks g.C.Clock.model c.outside_laws.ensures.clocks
    g.I.Source.model g.S.Link.Link.model
    g.S.Station.model c.args.sessions named c.args.conf.now c.tables_for.new.conf input c.args.clock
    (output g.O.Sink.model c.args.out.now c.args.out.now) c.args.disk
    (roles_in g.S.Station.model c.args.stations.items) e c.in-Ok.tables t.0 c.in-Err-open.why.disk
    c.args.stations.items c.args.stations.items c.in-Err-open.why.why refl refl c.in-Err-open.ensures.refused)

pub returns-clause-ended : goal.returns-clause-ended
returns-clause-ended g c input named e others =
    let t = serve_named g.I.Source.model c.args.conf.now c.tables_for.new.conf
    (roles_in g.S.Station.model c.args.stations.items) c.in-Ok.tables
    (lent_roles g.S.Station.model g.I.Source.model c.args.conf.now c.tables_for.new.conf c.as_slice.result.now
    c.args.stations.items (Ok c.in-Ok.tables) c.as_slice.ensures.value c.in-Ok.ensures) in
    served_over g.D.Disk.model c.outside_laws.ensures.disks g.C.Clock.model c.outside_laws.ensures.clocks
    g.I.Source.model g.S.Link.Link.model
    g.S.Station.model c.args.sessions named c.args.conf.now c.tables_for.new.conf input c.args.clock
    (output g.O.Sink.model c.args.out.now c.serve_spool.new.out) c.args.disk
    (roles_in g.S.Station.model c.args.stations.items) e c.in-Ok.tables t.0 t.1
    c.in-Ok-open.spool c.in-Ok-open.ensures.opened c.in-Ok-open.ensures.clock c.in-Ok-open.ensures.handed_clock
    (record {
      tells = c.reading_tells.ensures;
      agree = c.ends_agree.ensures;
      lanes = c.lanes_agree.ensures;
      called = c.called_lanes_agree.ensures;
    })
    c.serve_spool.result.ended.disk c.args.stations.items c.serve_spool.result.stations.items
    c.serve_spool.result.ended.outcome refl others c.serve_spool.ensures.served
