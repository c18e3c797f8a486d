use Rattle.std.proofs.Common.{inr, true, ◌≡◌, ◌+◌, ◌∷◌, [], length, refl, sym, ap, ◌∙◌, arith}
use Rattle.mta_journal.specs.Stages.{Fits}
use Rattle.mta_journal.specs.Shown.{Shown}
use Rattle.mta_journal.proofs.Rewriting.{rewrites_memory, rewrites_disk, rewrites_ok, compact_images, compact_done}
use Rattle.mta_journal.proofs.journal.Journal.compact.Goals as goal

pub returns-in-Err : goal.returns-in-Err
returns-in-Err g c =
    rw (sym c.self.view_is)
    (rewrites_memory g.D.Disk.model (λ bodies. c.args.body.now ∷ []) _ g.met.D.Disk.laws _ refl c.if-self.false)

pub invariant_of-self : goal.invariant_of-self
invariant_of-self g c =
    let at : c.self.inside.first ≡ 23 = omega
    (arith, c.requires.first, ap (λ (n : Shown g.row.D.Denot). n.first) c.self.view_is) in
    record {
      begun = omega (arith, at);
      some = λ e. absurd (omega (arith, at, e));
      within = λ going f told.
          let le = c.in-Ok-replace.ensures.longer f told in omega
          (arith, le, c.len.ensures, ap length c.as_slice.ensures);
      settled = λ going. c.in-Ok-replace.ensures.settled;
      plain = λ going none. inr at;
      second = λ going kept is. let was =
          c.self.invariant.second c.if-self.false kept is in absurd (omega (arith, was.above, at));
    }

pub returns-in-Ok-replace : goal.returns-in-Ok-replace
returns-in-Ok-replace g c =
    let old : Shown g.row.D.Denot = record {
      disk = c.self.inside.disk;
      first = c.self.inside.first;
      size =
          c.self.inside.size;
      ended = c.self.inside.ended;
    } in
    let new : Shown g.row.D.Denot = record {
      disk = c.replace.new.disk;
      first = c.self.inside.first;
      size = 24
          + c.len.result;
      ended = c.self.inside.ended;
    } in
    let at : c.self.inside.first ≡ 23 = omega
    (arith, c.requires.first, ap (λ (n : Shown g.row.D.Denot). n.first) c.self.view_is) in
    let fits : Fits c.self.inside.size c.as_slice.result.now c.args.body.now = record {
      frame_is = c.as_slice.ensures ∙ c.in-Ok.ensures;
      short = omega (arith, c.requires.limit);
      below = omega (arith, c.requires.shorter, ap (λ (n : Shown g.row.D.Denot). n.size) c.self.view_is);
    } in
    rw (sym c.self.view_is)
    (rewrites_ok g.D.Disk.model (λ bodies. c.args.body.now ∷ []) old new tt c.if-self.false c.if-self.false
    (inr ((λ eight. absurd (omega (arith, at, eight))), at))
    (compact_done g.D.Disk.model c.args.body.now c.as_slice.result.now old at fits new at
    (omega (arith, c.len.ensures, ap length c.as_slice.ensures)) c.if-self.false
    c.in-Ok-replace.ensures.settled c.in-Ok-replace.ensures.replaced)
    c.in-Ok-replace.ensures.cause.later c.in-Ok-replace.ensures.told
    (compact_images g.D.Disk.model c.args.body.now c.as_slice.result.now old at fits c.replace.new.disk
    c.in-Ok-replace.ensures.images))

pub returns : goal.returns
returns g c =
    let old : Shown g.row.D.Denot = record {
      disk = c.self.inside.disk;
      first = c.self.inside.first;
      size =
          c.self.inside.size;
      ended = c.self.inside.ended;
    } in
    let new : Shown g.row.D.Denot = record {
      disk = c.replace.new.disk;
      first = c.self.inside.first;
      size =
          c.self.inside.size;
      ended = true;
    } in
    let at : c.self.inside.first ≡ 23 = omega
    (arith, c.requires.first, ap (λ (n : Shown g.row.D.Denot). n.first) c.self.view_is) in
    let fits : Fits c.self.inside.size c.as_slice.result.now c.args.body.now = record {
      frame_is = c.as_slice.ensures ∙ c.in-Ok.ensures;
      short = omega (arith, c.requires.limit);
      below = omega (arith, c.requires.shorter, ap (λ (n : Shown g.row.D.Denot). n.size) c.self.view_is);
    } in
    rw (sym c.self.view_is)
    (rewrites_disk g.D.Disk.model (λ bodies. c.args.body.now ∷ []) old new c.if-self.false refl
    c.in-Err-replace.ensures.cause.later c.in-Err-replace.ensures.cause.failed c.in-Err-replace.ensures.told
    (compact_images g.D.Disk.model c.args.body.now c.as_slice.result.now old at fits c.replace.new.disk
    c.in-Err-replace.ensures.images))
