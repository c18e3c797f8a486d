use Rattle.std.proofs.Common.{⊎_elim, ◌≡◌, Err, refl, sym, ap, subst, arith}
use Rattle.mta_journal.specs.Shown.{Shown, IsPlain}
use Rattle.mta_journal.specs.Appending.{IsShortEnough}
use Rattle.mta_journal.proofs.Answered.{Takes, answers_full, answers_memory, answers_disk, answers_ok}
use Rattle.mta_journal.proofs.journal.Journal.append.Goals as goal

pub returns-then-need-saturating_sub : goal.returns-then-need-saturating_sub
returns-then-need-saturating_sub g c =
    rw (sym c.self.view_is)
    (answers_full g.D.Disk.model c.args.body.now _ g.met.D.Disk.laws _ _ c.if-self.false refl refl (omega arith))

pub returns-in-Ok : goal.returns-in-Ok
returns-in-Ok g c =
    let takes : Takes c.args.body.now (record {
      disk = c.self.inside.disk;
      first = c.self.inside.first;
      size = c.self.inside.size;
      ended =
          c.self.inside.ended;
    }) = record {
      plain = subst (λ (n : Shown g.row.D.Denot). IsPlain n.first) (sym c.self.view_is) c.requires.plain;
      some = c.self.invariant.some;
      short = subst (λ (n : Shown g.row.D.Denot). IsShortEnough n.first n.size c.args.body.now) (sym c.self.view_is)
          c.requires.short;
    } in
    rw (sym c.self.view_is)
    (answers_ok g.D.Disk.model c.args.body.now _ takes _ _ refl c.if-self.false c.if-self.false refl (omega arith)
    c.in-Ok.ensures.cause.later c.in-Ok.ensures.put c.in-Ok.ensures.settled c.in-Ok.ensures.told c.in-Ok.ensures.images)

pub returns-in-Err-Memory : goal.returns-in-Err-Memory
returns-in-Err-Memory g c =
    let same = c.in-Err-Memory.ensures.memory (ap Err c.in-Err-Memory.field-0-is) in
    let whole : ◌≡◌ {A = Shown g.row.D.Denot}
    (record {
      disk = c.put_record.new.disk;
      first = c.self.inside.first;
      size = c.self.inside.size;
      ended =
          c.self.inside.ended;
    }) (record {
      disk = c.self.inside.disk;
      first = c.self.inside.first;
      size =
          c.self.inside.size;
      ended = c.self.inside.ended;
    }) =
    ap (λ (d : g.row.D.Denot). record {
      disk = d;
      first = c.self.inside.first;
      size = c.self.inside.size;
      ended =
          c.self.inside.ended;
    }) same in
    rw (sym c.self.view_is)
    (answers_memory g.D.Disk.model c.args.body.now _ g.met.D.Disk.laws _ whole c.if-self.false (omega arith))

pub returns-in-Err-Disk : goal.returns-in-Err-Disk
returns-in-Err-Disk g c =
    let takes : Takes c.args.body.now (record {
      disk = c.self.inside.disk;
      first = c.self.inside.first;
      size = c.self.inside.size;
      ended =
          c.self.inside.ended;
    }) = record {
      plain = subst (λ (n : Shown g.row.D.Denot). IsPlain n.first) (sym c.self.view_is) c.requires.plain;
      some = c.self.invariant.some;
      short = subst (λ (n : Shown g.row.D.Denot). IsShortEnough n.first n.size c.args.body.now) (sym c.self.view_is)
          c.requires.short;
    } in
    rw (sym c.self.view_is)
    (answers_disk g.D.Disk.model c.args.body.now _ takes _ refl c.if-self.false refl (omega arith)
    c.in-Err-Disk.ensures.cause.later (c.in-Err-Disk.ensures.cause.disk (ap Err c.in-Err-Disk.field-0-is))
    c.in-Err-Disk.ensures.told c.in-Err-Disk.ensures.images)

pub invariant_of-self : goal.invariant_of-self
invariant_of-self g c =
    let plain : IsPlain c.self.inside.first =
    subst (λ (n : Shown g.row.D.Denot). IsPlain n.first) (sym c.self.view_is) c.requires.plain in
    record {
      begun = omega (arith, c.self.invariant.begun);
      some = λ e. let past = c.self.invariant.some e in omega (arith, past);
      within = λ going f told. let from =
          c.in-Ok.ensures.longer.back f told in omega (arith, from.2, c.self.invariant.begun);
      settled = λ going. c.in-Ok.ensures.settled;
      plain = λ going none. plain;
      second = λ going kept is.
          let was = c.self.invariant.second c.if-self.false kept is in
          absurd (⊎_elim {C = ⊥} (λ (e : c.self.inside.first ≡ 8). omega (arith, e, was.above))
          (λ (e : c.self.inside.first ≡ 23). omega (arith, e, was.above)) plain);
    }
