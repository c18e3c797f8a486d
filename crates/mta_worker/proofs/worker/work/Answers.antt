use Rattle.std.proofs.Common.{◌≡◌, ◌<◌, ◌+◌, ◌++◌, ◌∷◌, ◌∙◌, Bool, Option, [], refl, sym, subst}
use Rattle.std.proofs.Common.{arith}
use Rattle.std.specs.Prelude.{if◌then◌else◌}
use Rattle.mta_stations.specs.declared.end.Halt.{Halt}
use Rattle.mta_links.specs.Links.{LeadsNext, one_more_out}
use Rattle.mta_worker.specs.Working.{At_limit, Behind, Halted, No_link, Station_failed}
use Rattle.mta_worker.proofs.Working.{served_more, serves}
use Rattle.mta_worker.proofs.Turning.{worked_self, worked_trans}
use Rattle.mta_worker.proofs.worker.work.Goals.{then-is_closed, else-is_closed}
use Rattle.mta_worker.proofs.worker.work.Goals as goal

pub loop-sessions-init : goal.loop-sessions-init
loop-sessions-init g c = record {
  ready = c.requires.ready;
  worked = worked_self c.args.pass.now c.requires.ready.1;
  out = refl;
  few = omega arith;
  most = omega arith;
  served = ([], refl);
}

pub returns-in-Ok-None-clause-worked : goal.returns-in-Ok-None-clause-worked
returns-in-Ok-None-clause-worked g c = c.loop-sessions.invariant.worked

pub returns-in-Ok-None-clause-did : goal.returns-in-Ok-None-clause-did
returns-in-Ok-None-clause-did g c =
    let i = c.loop-sessions.invariant in
    No_link i.served.0 (record {
      station = c.loop-sessions.station;
      pass = c.loop-sessions.pass;
      sessions = c.loop-sessions.sessions;
      closed = c.loop-sessions.closed;
    }) i.served.1 (subst (λ (r : Option g.row.S-Link.Denot). LeadsNext g.S.Link.Link.model r
    (g.S.Station.model.served c.loop-sessions.station) (g.S.Station.model.served c.next.new.self))
    c.in-Ok-None.field-0-is c.in-Ok-None.ensures.given) refl

pub returns-in-Err-clause-worked : goal.returns-in-Err-clause-worked
returns-in-Err-clause-worked g c = c.loop-sessions.invariant.worked

pub returns-in-Err-clause-did : goal.returns-in-Err-clause-did
returns-in-Err-clause-did g c =
    let i = c.loop-sessions.invariant in
    Station_failed i.served.0 (record {
      station = c.loop-sessions.station;
      pass = c.loop-sessions.pass;
      sessions = c.loop-sessions.sessions;
      closed = c.loop-sessions.closed;
    }) i.served.1 c.in-Err.ensures.cause.failed c.in-Err.ensures.kept refl

pub returns-in-Some-clause-worked : goal.returns-in-Some-clause-worked
returns-in-Some-clause-worked g c =
    worked_trans c.args.pass.now c.loop-sessions.pass c.settle_behind.new.pass c.loop-sessions.invariant.worked
    (worked_trans c.loop-sessions.pass c.serve_link-end.new.pass c.settle_behind.new.pass
    c.serve_link-end.ensures.worked c.settle_behind.ensures.worked)

pub returns-clause-worked : goal.returns-clause-worked
returns-clause-worked g c = c.loop-sessions.invariant.worked

pub returns-clause-out : goal.returns-clause-out
returns-clause-out g c = c.loop-sessions.invariant.out

pub returns-clause-did : goal.returns-clause-did
returns-clause-did g c =
    let i = c.loop-sessions.invariant in
    At_limit i.served.0 (record {
      station = c.loop-sessions.station;
      pass = c.loop-sessions.pass;
      sessions = c.loop-sessions.sessions;
      closed = c.loop-sessions.closed;
    }) i.served.1 (omega (arith, c.loop-sessions-test.false, c.most_links-most.ensures, i.most)) refl refl

pub returns-in-Some-clause-did : goal.returns-in-Some-clause-did
returns-in-Some-clause-did g c =
    let i = c.loop-sessions.invariant in
    let room : c.loop-sessions.sessions < c.args.limits.now.sessions =
    omega (arith, c.loop-sessions-test.true, c.most_links-most.ensures) in
    let behind = subst (λ (h : Option Halt). Behind g.D.Disk.model g.C.Clock.model c.serve_link-end.new.pass
    c.serve_link-end.result.halt c.settle_behind.new.pass h) c.in-Some.is c.settle_behind.ensures.behind in
    let next = subst (λ (r : Option g.row.S-Link.Denot). LeadsNext g.S.Link.Link.model r
    (g.S.Station.model.served c.loop-sessions.station) (g.S.Station.model.served c.next.new.self))
    c.in-Ok-Some.field-0-is c.in-Ok-Some.ensures.given in
    let more = subst (λ (r : Option g.row.S-Link.Denot). g.S.Station.model.out c.next.new.self
    ≡ one_more_out r (g.S.Station.model.out c.loop-sessions.station))
    c.in-Ok-Some.field-0-is c.in-Ok-Some.ensures.out in
    let count : c.if-is_closed.closed ≡ (if c.is_closed.result then c.loop-sessions.closed + 1
    else c.loop-sessions.closed) = elim c.if-is_closed.branch [
      | then-is_closed w ↦ subst (λ (b : Bool). c.if-is_closed.closed
          ≡ (if b then c.loop-sessions.closed + 1 else c.loop-sessions.closed)) (sym w.if-is_closed.true) w.closed-is
      | else-is_closed w ↦ subst (λ (b : Bool). c.if-is_closed.closed
          ≡ (if b then c.loop-sessions.closed + 1 else c.loop-sessions.closed)) (sym w.if-is_closed.false) w.closed-is
    ] in
    Halted i.served.0 (record {
      station = c.loop-sessions.station;
      pass = c.loop-sessions.pass;
      sessions = c.loop-sessions.sessions;
      closed = c.loop-sessions.closed;
    }) (record {
      station = c.back.new.self;
      pass = c.settle_behind.new.pass;
      sessions = c.loop-sessions.sessions + 1;
      closed = c.if-is_closed.closed;
    }) c.in-Some.halt i.served.1
    (serves g.D.Disk.model g.C.Clock.model g.S.Link.Link.model g.S.Station.model c.args.limits.now _ _ _
    c.next.new.self c.in-Ok-Some.link c.serve_link-end.new.link c.serve_link-end.new.pass c.serve_link-end.result
    c.role.result.now c.is_closed.result room next more c.next.ensures.role c.role.ensures
    c.serve_link-end.ensures.served c.back.ensures.over c.back.ensures.out c.back.ensures.role refl
    c.is_closed.ensures count behind)
    refl refl

pub loop-sessions-preserved : goal.loop-sessions-preserved
loop-sessions-preserved g c =
    let i = c.loop-sessions.invariant in
    let served = c.serve_link-end.ensures.worked in
    let settled = c.settle_behind.ensures.worked in
    let room : c.loop-sessions.sessions < c.args.limits.now.sessions =
    omega (arith, c.loop-sessions-test.true, c.most_links-most.ensures) in
    let behind = subst (λ (h : Option Halt). Behind g.D.Disk.model g.C.Clock.model c.serve_link-end.new.pass
    c.serve_link-end.result.halt c.settle_behind.new.pass h) c.in_default.is c.settle_behind.ensures.behind in
    let next = subst (λ (r : Option g.row.S-Link.Denot). LeadsNext g.S.Link.Link.model r
    (g.S.Station.model.served c.loop-sessions.station) (g.S.Station.model.served c.next.new.self))
    c.in-Ok-Some.field-0-is c.in-Ok-Some.ensures.given in
    let more = subst (λ (r : Option g.row.S-Link.Denot). g.S.Station.model.out c.next.new.self
    ≡ one_more_out r (g.S.Station.model.out c.loop-sessions.station))
    c.in-Ok-Some.field-0-is c.in-Ok-Some.ensures.out in
    let count : c.if-is_closed.closed ≡ (if c.is_closed.result then c.loop-sessions.closed + 1
    else c.loop-sessions.closed) = elim c.if-is_closed.branch [
      | then-is_closed w ↦ subst (λ (b : Bool). c.if-is_closed.closed
          ≡ (if b then c.loop-sessions.closed + 1 else c.loop-sessions.closed)) (sym w.if-is_closed.true) w.closed-is
      | else-is_closed w ↦ subst (λ (b : Bool). c.if-is_closed.closed
          ≡ (if b then c.loop-sessions.closed + 1 else c.loop-sessions.closed)) (sym w.if-is_closed.false) w.closed-is
    ] in
    record {
      ready = (settled.lock ∙ served.lock ∙ i.ready.0, settled.rests);
      worked = worked_trans c.args.pass.now c.loop-sessions.pass c.settle_behind.new.pass i.worked
          (worked_trans c.loop-sessions.pass c.serve_link-end.new.pass c.settle_behind.new.pass served settled);
      out = omega (arith, c.back.ensures.out, more, i.out);
      few = elim c.if-is_closed.branch [
        | then-is_closed w ↦ omega (arith, i.few, w.closed-is)
        | else-is_closed w ↦ omega (arith, i.few, w.closed-is)
      ];
      most = omega (arith, room);
      served = (
        i.served.0 ++ record {
          station = c.back.new.self;
          pass = c.settle_behind.new.pass;
          sessions = c.loop-sessions.sessions + 1;
          closed = c.if-is_closed.closed;
        } ∷ [],
        served_more g.D.Disk.model g.C.Clock.model g.S.Link.Link.model g.S.Station.model c.args.limits.now _
            i.served.0 _ _ i.served.1
            (serves g.D.Disk.model g.C.Clock.model g.S.Link.Link.model g.S.Station.model c.args.limits.now _ _ _
            c.next.new.self c.in-Ok-Some.link c.serve_link-end.new.link c.serve_link-end.new.pass
            c.serve_link-end.result c.role.result.now c.is_closed.result room next more c.next.ensures.role
            c.role.ensures
            c.serve_link-end.ensures.served c.back.ensures.over c.back.ensures.out c.back.ensures.role refl
            c.is_closed.ensures count behind),
      );
    }
