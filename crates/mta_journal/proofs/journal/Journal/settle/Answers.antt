use Rattle.std.proofs.Common.{inl, inr, ⊎_elim, true, ◌≡◌, ◌≢◌, ◌⊎◌, ◌+◌, None, Some, length, refl, sym, ap, subst}
use Rattle.std.proofs.Common.{arith}
use Rattle.mta_journal.specs.Shown.{Shown, IsFrameOfSecond}
use Rattle.mta_journal.proofs.Rewriting.{still, rewrites_disk, rewrites_ok, settle_images, settle_done}
use Rattle.mta_journal.proofs.journal.Journal.settle.Goals as goal

pub returns-in-None : goal.returns-in-None
returns-in-None g c =
    let old : Shown g.row.D.Denot = record {
      disk = c.self.inside.disk;
      first = c.self.inside.first;
      size =
          c.self.inside.size;
      ended = c.self.inside.ended;
    } in
    let none : c.self.inside.frame ≡ None = let a = c.replace.ensures.value in let b = c.in-None.is in cc in
    let place : ((old.first ≡ 8) × (old ≡ old)) ⊎ ((old.first ≢ 8) × (old.first ≡ 23)) =
    ⊎_elim (λ (e : old.first ≡ 8). inl (e, refl))
    (λ (e : old.first ≡ 23). inr ((λ eight. absurd (omega (arith, e, eight))), e))
    (c.self.invariant.plain c.if-self.false none) in
    rw (sym c.self.view_is)
    (rewrites_ok g.D.Disk.model (λ bodies. bodies) old old tt c.if-self.false c.if-self.false place
    (λ bodies holds. holds) (omega arith) (λ f told. (f, told))
    (still g.D.Disk.model (λ bodies. bodies) old g.met.D.Disk.laws))

pub returns-in-Ok : goal.returns-in-Ok
returns-in-Ok g c =
    let old : Shown g.row.D.Denot = record {
      disk = c.self.inside.disk;
      first = c.self.inside.first;
      size =
          c.self.inside.size;
      ended = c.self.inside.ended;
    } in
    let new : Shown g.row.D.Denot = record {
      disk = c.move_down.new.disk;
      first = 23;
      size = 24
          + c.len.result;
      ended = c.self.inside.ended;
    } in
    let some : c.self.inside.frame ≡ Some c.in-Some.frame = let a = c.replace.ensures.value in let b =
    c.in-Some.is in cc in
    let kept : IsFrameOfSecond g.D.Disk.model c.self.inside.disk c.self.inside.first c.self.inside.size
    c.as_slice.result.now =
    subst (IsFrameOfSecond g.D.Disk.model c.self.inside.disk c.self.inside.first c.self.inside.size)
    (sym c.as_slice.ensures) (c.self.invariant.second c.if-self.false c.in-Some.frame some) in
    rw (sym c.self.view_is)
    (rewrites_ok g.D.Disk.model (λ bodies. bodies) old new tt c.if-self.false c.if-self.false
    (inr ((λ eight. absurd (omega (arith, kept.above, eight))), refl))
    (settle_done g.D.Disk.model c.as_slice.result.now old kept new refl
    (omega (arith, c.len.ensures, ap length c.as_slice.ensures)) c.if-self.false
    c.in-Ok.ensures.settled c.in-Ok.ensures.moved)
    c.in-Ok.ensures.cause.later c.in-Ok.ensures.told
    (settle_images g.D.Disk.model c.as_slice.result.now old kept c.move_down.new.disk c.in-Ok.ensures.images))

pub returns : goal.returns
returns g c =
    let old : Shown g.row.D.Denot = record {
      disk = c.self.inside.disk;
      first = c.self.inside.first;
      size =
          c.self.inside.size;
      ended = c.self.inside.ended;
    } in
    let new : Shown g.row.D.Denot = record {
      disk = c.move_down.new.disk;
      first = c.self.inside.first;
      size =
          c.self.inside.size;
      ended = true;
    } in
    let some : c.self.inside.frame ≡ Some c.in-Some.frame = let a = c.replace.ensures.value in let b =
    c.in-Some.is in cc in
    let kept : IsFrameOfSecond g.D.Disk.model c.self.inside.disk c.self.inside.first c.self.inside.size
    c.as_slice.result.now =
    subst (IsFrameOfSecond g.D.Disk.model c.self.inside.disk c.self.inside.first c.self.inside.size)
    (sym c.as_slice.ensures) (c.self.invariant.second c.if-self.false c.in-Some.frame some) in
    rw (sym c.self.view_is)
    (rewrites_disk g.D.Disk.model (λ bodies. bodies) old new c.if-self.false refl
    c.in-Err.ensures.cause.later c.in-Err.ensures.cause.failed c.in-Err.ensures.told
    (settle_images g.D.Disk.model c.as_slice.result.now old kept c.move_down.new.disk c.in-Err.ensures.images))
