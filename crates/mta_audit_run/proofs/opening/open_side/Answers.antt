use Rattle.std.proofs.Common.{◌≡◌, false, true, ℕ, refl, subst, sym}
use Rattle.mta_spool.specs.Finding.{MayStand}
use Rattle.mta_spool.proofs.Openings.{IsOpened as JournalOpened}
use Rattle.mta_audit_run.proofs.Kept.{side_opened, side_other, side_refused, side_stopped}
use Rattle.mta_audit_run.proofs.opening.open_side.Goals as goal

pub returns-in-Err-clause-refused : goal.returns-in-Err-clause-refused
returns-in-Err-clause-refused g c =
    side_refused g.D.Disk.model c.args.disk c.in-Err.field-0.disk c.in-Err.field-0.why c.in-Err.ensures.refused
    c.in-Err.ensures.refused_kept c.in-Err.ensures.refused_told c.in-Err.ensures.refused_images
    c.in-Err.ensures.refused_left

pub returns-then-not-may_stand-clause-refused : goal.returns-then-not-may_stand-clause-refused
returns-then-not-may_stand-clause-refused g c =
    let o : JournalOpened g.D.Disk.model c.args.disk c.in-Ok.opened.journal c.in-Ok.opened.bodies.items
    c.in-Ok.opened.synced.value =
    record {
      holds = c.in-Ok.ensures.holds;
      stood = c.in-Ok.ensures.stands;
      some = c.in-Ok.ensures.some;
      later = c.in-Ok.ensures.later;
      told = c.in-Ok.ensures.told;
      kept = c.in-Ok.ensures.kept;
      images = c.in-Ok.ensures.images;
      since = c.in-Ok.ensures.since;
      sync = c.in-Ok.ensures.sync;
    } in
    rw c.end.ensures
    (side_other g.D.Disk.model c.args.disk c.in-Ok.opened.journal c.in-Ok.opened.bodies.items _ o c.in-Ok.opened.first
    c.in-Ok.ensures.first
    (λ may.
    let e : false ≡ true = c.if-not-may_stand.ensures.1
    (subst (MayStand c.in-Ok.opened.first) (sym c.as_slice.ensures.value) may) in absurd cc))

pub returns-in-Ok-side_of_bodies-clause-opened : goal.returns-in-Ok-side_of_bodies-clause-opened
returns-in-Ok-side_of_bodies-clause-opened g c =
    let o : JournalOpened g.D.Disk.model c.args.disk c.in-Ok.opened.journal c.in-Ok.opened.bodies.items
    c.in-Ok.opened.synced.value =
    record {
      holds = c.in-Ok.ensures.holds;
      stood = c.in-Ok.ensures.stands;
      some = c.in-Ok.ensures.some;
      later = c.in-Ok.ensures.later;
      told = c.in-Ok.ensures.told;
      kept = c.in-Ok.ensures.kept;
      images = c.in-Ok.ensures.images;
      since = c.in-Ok.ensures.since;
      sync = c.in-Ok.ensures.sync;
    } in
    rw c.end-in-Ok-side_of_bodies.ensures
    (side_opened g.D.Disk.model c.args.disk c.in-Ok.opened.journal c.in-Ok.opened.bodies.items _ o
    (subst (λ (n : ℕ). MayStand n c.in-Ok.opened.bodies.items) c.in-Ok.ensures.first
    (subst (MayStand c.in-Ok.opened.first) c.as_slice.ensures.value (c.if-not-may_stand.ensures.0 refl)))
    c.in-Ok-side_of_bodies.side c.in-Ok-side_of_bodies.ensures.side)

pub returns-in-Err-side_of_bodies-clause-refused : goal.returns-in-Err-side_of_bodies-clause-refused
returns-in-Err-side_of_bodies-clause-refused g c =
    let o : JournalOpened g.D.Disk.model c.args.disk c.in-Ok.opened.journal c.in-Ok.opened.bodies.items
    c.in-Ok.opened.synced.value =
    record {
      holds = c.in-Ok.ensures.holds;
      stood = c.in-Ok.ensures.stands;
      some = c.in-Ok.ensures.some;
      later = c.in-Ok.ensures.later;
      told = c.in-Ok.ensures.told;
      kept = c.in-Ok.ensures.kept;
      images = c.in-Ok.ensures.images;
      since = c.in-Ok.ensures.since;
      sync = c.in-Ok.ensures.sync;
    } in
    rw c.end-in-Err-side_of_bodies.ensures
    (side_stopped g.D.Disk.model c.args.disk c.in-Ok.opened.journal c.in-Ok.opened.bodies.items _ o c.in-Ok.opened.first
    c.in-Ok.ensures.first c.in-Err-side_of_bodies.why c.in-Err-side_of_bodies.ensures.stopped)
