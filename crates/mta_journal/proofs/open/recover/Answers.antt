use Rattle.std.proofs.Common.{ℕ, List, refl, ◌≡◌, ◌⊎◌, inl, inr, ⊎_elim, ◌∙◌, sym, subst, arith}
use Rattle.mta_edge.specs.Crashes.{Crash, Settled, Stays}
use Rattle.mta_edge.specs.Views.{DiskLaws, DiskView, WhereTold}
use Rattle.mta_edge.proofs.Moments.{joined, weaken}
use Rattle.mta_journal.specs.Opening.{BeforeOrSame, IsSame, IsSameFrom, IsSynced, synced, unsynced}
use Rattle.mta_journal.proofs.OpenedDisk.{sound_found}
use Rattle.mta_journal.proofs.open.recover.Goals as goal

module _ {D : Type 0} (model : DiskView D) (laws : DiskLaws model) (old first : D)
    (crash : Crash model Stays old first) where
  -- what a crash during the sync leaves, one before it might have left
  left_before : (g : List ℕ) → model.left_since first (model.moment old) g → model.may_leave old g
  left_before g left =
      ⊎_elim {C = model.may_leave old g} (laws.only_now old g)
      (λ now. let from = crash.image g now in subst (model.may_leave old) (sym from.2) from.1)
      (crash.since (model.moment old) g (omega arith) left)

  -- and of no earlier moment anything is lost or added
  synced_there : model.content first ≡ model.content old → Settled model first → IsSynced model old first
  synced_there reads settled = record {
    reads = reads;
    settled = settled;
    until = record {
      later = crash.later;
      each = left_before;
      since = λ t g before left. ⊎_elim {C = model.left_since old t g ⊎ model.may_leave old g} (λ was. inl was)
          (λ now. let from = crash.image g now in inr (subst (model.may_leave old) (sym from.2) from.1))
          (crash.since t g before left);
      kept = crash.kept;
    };
  }

pub returns-in_err-sync-clause-left : goal.returns-in_err-sync-clause-left
returns-in_err-sync-clause-left g c = λ f told.
    unsynced c.sync.ensures.content
    (left_before g.D.Disk.model g.met.D.Disk.laws c.args.disk.now c.sync.new.self c.sync.ensures.crash)

pub returns-in_err-placed-clause-left : goal.returns-in_err-placed-clause-left
returns-in_err-placed-clause-left g c = λ f told.
    let images = c.find.ensures.images f (c.sync.ensures.content ∙ told) in
    synced (record {
      first = c.sync.new.self;
      sync = synced_there g.D.Disk.model g.met.D.Disk.laws c.args.disk.now c.sync.new.self c.sync.ensures.crash
          c.sync.ensures.content c.in_ok-sync.ensures.settled;
      same = record { from = c.sync.ensures.crash.later; until = images.later; same = images.each };
    })

pub returns-clause-since : goal.returns-clause-since
returns-clause-since g c =
    subst
    (λ (d : g.row.D.Denot).
    WhereTold g.D.Disk.model c.args.disk.now
    (λ f. IsSameFrom g.D.Disk.model f c.args.disk.now c.find.new.disk (g.D.Disk.model.moment d)))
    (sym c.of-synced.ensures)
    (λ f told.
    let images = c.find.ensures.images f (c.sync.ensures.content ∙ told) in
    record { from = c.sync.ensures.crash.later; until = images.later; same = images.each })

pub returns-clause-sync : goal.returns-clause-sync
returns-clause-sync g c =
    subst (IsSynced g.D.Disk.model c.args.disk.now) (sym c.of-synced.ensures)
    (synced_there g.D.Disk.model g.met.D.Disk.laws c.args.disk.now c.sync.new.self c.sync.ensures.crash
    c.sync.ensures.content c.in_ok-sync.ensures.settled)

pub returns-clause-left : goal.returns-clause-left
returns-clause-left g c = λ f told.
    let images = c.find.ensures.images f (c.sync.ensures.content ∙ told) in
    synced (record {
      first = c.sync.new.self;
      sync = synced_there g.D.Disk.model g.met.D.Disk.laws c.args.disk.now c.sync.new.self c.sync.ensures.crash
          c.sync.ensures.content c.in_ok-sync.ensures.settled;
      same = record { from = c.sync.ensures.crash.later; until = images.later; same = images.each };
    })

pub returns-clause-holds : goal.returns-clause-holds
returns-clause-holds g c = record {
  file = c.in_ok-placed.ensures.placed.file;
  size = c.in_ok-placed.ensures.placed.size_is;
  going = refl;
  settled = c.in_ok-placed.ensures.settled;
}

pub returns-clause-sound : goal.returns-clause-sound
returns-clause-sound g c =
    sound_found g.D.Disk.model c.find.new.disk _ _ _ _ c.in_ok-placed.ensures.placed c.in_ok-placed.ensures.some
    c.in_ok-placed.ensures.settled

pub returns-in_err-placed-clause-images : goal.returns-in_err-placed-clause-images
returns-in_err-placed-clause-images g c = λ f told.
    joined g.D.Disk.model (BeforeOrSame g.D.Disk.model c.args.disk.now f) _ c.sync.new.self _
    (weaken g.D.Disk.model (g.D.Disk.model.may_leave c.args.disk.now) (BeforeOrSame g.D.Disk.model c.args.disk.now f) _
    _ (λ h left. inl left)
    (synced_there g.D.Disk.model g.met.D.Disk.laws c.args.disk.now c.sync.new.self c.sync.ensures.crash
    c.sync.ensures.content c.in_ok-sync.ensures.settled).until)
    (weaken g.D.Disk.model (IsSame f) (BeforeOrSame g.D.Disk.model c.args.disk.now f) _ _ (λ h same. inr same)
    (c.find.ensures.images f (c.sync.ensures.content ∙ told)))

pub returns-clause-images : goal.returns-clause-images
returns-clause-images g c = λ f told.
    joined g.D.Disk.model (BeforeOrSame g.D.Disk.model c.args.disk.now f) _ c.sync.new.self _
    (weaken g.D.Disk.model (g.D.Disk.model.may_leave c.args.disk.now) (BeforeOrSame g.D.Disk.model c.args.disk.now f) _
    _ (λ h left. inl left)
    (synced_there g.D.Disk.model g.met.D.Disk.laws c.args.disk.now c.sync.new.self c.sync.ensures.crash
    c.sync.ensures.content c.in_ok-sync.ensures.settled).until)
    (weaken g.D.Disk.model (IsSame f) (BeforeOrSame g.D.Disk.model c.args.disk.now f) _ _ (λ h same. inr same)
    (c.find.ensures.images f (c.sync.ensures.content ∙ told)))
