use Rattle.std.proofs.Common.{◌≡◌, false, true, List, ℕ, Vec, Global, refl, ap, subst, sym}
use Rattle.mta_state.specs.Kept.{state_of}
use Rattle.mta_spool.specs.Finding.{MayStand}
use Rattle.mta_spool.specs.GoingOn.{HasFound}
use Rattle.mta_spool.proofs.Openings.{IsOpened, has_found, open_refused, other_refused, replay_refused}
use Rattle.mta_spool.proofs.find.find.Goals as goal

pub returns-in-Err-clause-refused : goal.returns-in-Err-clause-refused
returns-in-Err-clause-refused g c =
    open_refused g.D.Disk.model c.args.disk c.in-Err.field-0.disk c.in-Err.field-0.why c.in-Err.ensures.refused
    c.in-Err.ensures.refused_kept c.in-Err.ensures.refused_told c.in-Err.ensures.refused_images
    c.in-Err.ensures.refused_left

pub returns-then-not-may_stand-clause-refused : goal.returns-then-not-may_stand-clause-refused
returns-then-not-may_stand-clause-refused g c =
    let o : IsOpened g.D.Disk.model c.args.disk c.in-Ok.opened.journal c.in-Ok.opened.bodies.items
    c.in-Ok.opened.synced.value =
    record {
      holds = c.in-Ok.ensures.holds;
      stood = c.in-Ok.ensures.stands;
      some = c.in-Ok.ensures.some;
      later = c.in-Ok.ensures.later;
      told = c.in-Ok.ensures.told;
      kept = c.in-Ok.ensures.kept;
      images = c.in-Ok.ensures.images;
      since = c.in-Ok.ensures.since;
      sync = c.in-Ok.ensures.sync;
    } in
    rw c.end.ensures
    (other_refused g.D.Disk.model c.args.disk c.in-Ok.opened.journal c.in-Ok.opened.bodies.items _ o
    c.in-Ok.opened.first c.in-Ok.ensures.first
    (λ may.
    let e : false ≡ true = c.if-not-may_stand.ensures.1
    (subst (MayStand c.in-Ok.opened.first) (sym c.as_slice.ensures.value) may) in absurd cc))

pub returns-in-Ok-replay-clause-found : goal.returns-in-Ok-replay-clause-found
returns-in-Ok-replay-clause-found g c =
    let o : IsOpened g.D.Disk.model c.args.disk c.in-Ok.opened.journal c.in-Ok.opened.bodies.items
    c.in-Ok.opened.synced.value =
    record {
      holds = c.in-Ok.ensures.holds;
      stood = c.in-Ok.ensures.stands;
      some = c.in-Ok.ensures.some;
      later = c.in-Ok.ensures.later;
      told = c.in-Ok.ensures.told;
      kept = c.in-Ok.ensures.kept;
      images = c.in-Ok.ensures.images;
      since = c.in-Ok.ensures.since;
      sync = c.in-Ok.ensures.sync;
    } in
    let r = c.in-Ok-replay.ensures.replayed in
    subst
    (λ (bodies : List (List ℕ)).
    HasFound g.D.Disk.model c.args.disk c.in-Ok.opened.journal (state_of c.in-Ok-replay.replay.kept) bodies
    c.in-Ok.opened.synced.value)
    (sym (ap (λ (v : Vec (List ℕ) Global). v.items) c.of-found.ensures))
    (has_found g.D.Disk.model c.args.disk c.in-Ok.opened.journal c.in-Ok.opened.bodies.items _ o
    (state_of c.in-Ok-replay.replay.kept) r.0 r.1
    (subst (λ (n : ℕ). MayStand n c.in-Ok.opened.bodies.items) c.in-Ok.ensures.first
    (subst (MayStand c.in-Ok.opened.first) c.as_slice.ensures.value (c.if-not-may_stand.ensures.0 refl))))

pub returns-in-Err-replay-clause-refused : goal.returns-in-Err-replay-clause-refused
returns-in-Err-replay-clause-refused g c =
    let o : IsOpened g.D.Disk.model c.args.disk c.in-Ok.opened.journal c.in-Ok.opened.bodies.items
    c.in-Ok.opened.synced.value =
    record {
      holds = c.in-Ok.ensures.holds;
      stood = c.in-Ok.ensures.stands;
      some = c.in-Ok.ensures.some;
      later = c.in-Ok.ensures.later;
      told = c.in-Ok.ensures.told;
      kept = c.in-Ok.ensures.kept;
      images = c.in-Ok.ensures.images;
      since = c.in-Ok.ensures.since;
      sync = c.in-Ok.ensures.sync;
    } in
    rw c.end-in-Err-replay.ensures
    (replay_refused g.D.Disk.model c.args.disk c.in-Ok.opened.journal c.in-Ok.opened.bodies.items _ o
    c.in-Ok.opened.first
    c.in-Ok.ensures.first c.in-Err-replay.why c.in-Err-replay.ensures.stopped)
