use Rattle.mta_marks.proofs.Opened.{IsOpened, not_opened, not_replayed, replayed}
use Rattle.mta_marks.proofs.open.find.Goals as goal

pub returns-in-Err-clause-refused : goal.returns-in-Err-clause-refused
returns-in-Err-clause-refused g c =
    not_opened g.E.Disk.model g.met.E.Disk.laws c.args.disk c.in-Err.field-0.disk c.in-Err.field-0.why
    c.in-Err.ensures.refused c.in-Err.ensures.refused_kept c.in-Err.ensures.refused_told
    c.in-Err.ensures.refused_images c.in-Err.ensures.refused_left

pub returns-in-Ok-replay-clause-found : goal.returns-in-Ok-replay-clause-found
returns-in-Ok-replay-clause-found g c =
    let o : IsOpened g.E.Disk.model c.args.disk c.in-Ok.opened.journal c.in-Ok.opened.bodies.items
    c.in-Ok.opened.synced.value =
    record {
      holds = c.in-Ok.ensures.holds;
      stood = c.in-Ok.ensures.stands;
      some = c.in-Ok.ensures.some;
      later = c.in-Ok.ensures.later;
      told = c.in-Ok.ensures.told;
      kept = c.in-Ok.ensures.kept;
      images = c.in-Ok.ensures.images;
      since = c.in-Ok.ensures.since;
      sync = c.in-Ok.ensures.sync;
    } in
    let r = c.in-Ok-replay.ensures.replayed in
    replayed g.E.Disk.model g.met.E.Disk.laws c.args.disk c.in-Ok.opened.journal c.in-Ok.opened.bodies.items _ o
    c.in-Ok-replay.standings r.0 r.1

pub returns-in-Err-replay-clause-refused : goal.returns-in-Err-replay-clause-refused
returns-in-Err-replay-clause-refused g c =
    let o : IsOpened g.E.Disk.model c.args.disk c.in-Ok.opened.journal c.in-Ok.opened.bodies.items
    c.in-Ok.opened.synced.value =
    record {
      holds = c.in-Ok.ensures.holds;
      stood = c.in-Ok.ensures.stands;
      some = c.in-Ok.ensures.some;
      later = c.in-Ok.ensures.later;
      told = c.in-Ok.ensures.told;
      kept = c.in-Ok.ensures.kept;
      images = c.in-Ok.ensures.images;
      since = c.in-Ok.ensures.since;
      sync = c.in-Ok.ensures.sync;
    } in
    rw c.end.ensures
    (not_replayed g.E.Disk.model g.met.E.Disk.laws c.args.disk c.in-Ok.opened.journal c.in-Ok.opened.bodies.items _ o
    c.in-Ok.opened.first c.in-Ok.ensures.first c.in-Err-replay.why c.in-Err-replay.ensures.stopped)
