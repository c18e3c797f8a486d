use Rattle.std.proofs.Common.{◌∙◌, refl, sym, arith}
use Rattle.std.proofs.lemmas.Result.{err_from_is_err_and}
use Rattle.mta_journal.proofs.Reading.{carried}
use Rattle.mta_edge.proofs.Moments.{joined}
use Rattle.mta_disk.proofs.Writing.{goes_still}
use Rattle.mta_journal.specs.Opening.{IsSame}
use Rattle.mta_journal.proofs.AreasFound.{placed_same}
use Rattle.mta_journal.proofs.BegunAreas.{looked, none_placed}
use Rattle.mta_journal.proofs.open.find.Goals as goal

pub begin_again-requires-clause-none : goal.begin_again-requires-clause-none
begin_again-requires-clause-none g c = λ f told.
    none_placed g.D.Disk.model c.size.new.self _ _ _ _ c.in_ok-placed.ensures.placed
    (omega (arith, c.if-placed-eq9.true)) f (sym c.find_area.ensures.content ∙ told)

pub returns-in_err-made-clause-images : goal.returns-in_err-made-clause-images
returns-in_err-made-clause-images g c = λ f told.
    joined g.D.Disk.model (IsSame f) _ c.size.new.self _
    (looked g.D.Disk.model g.met.D.Disk.laws c.args.disk.now c.size.new.self f c.requires.settled told
    c.size.ensures.crash)
    (c.make_areas.ensures.images f (c.size.ensures.content ∙ told))

pub returns-then-size-le9-clause-images : goal.returns-then-size-le9-clause-images
returns-then-size-le9-clause-images g c = λ f told.
    joined g.D.Disk.model (IsSame f) _ c.size.new.self _
    (looked g.D.Disk.model g.met.D.Disk.laws c.args.disk.now c.size.new.self f c.requires.settled told
    c.size.ensures.crash)
    (c.make_areas.ensures.images f (c.size.ensures.content ∙ told))

pub returns-in_err-placed-clause-images : goal.returns-in_err-placed-clause-images
returns-in_err-placed-clause-images g c = λ f told.
    goes_still g.D.Disk.model g.met.D.Disk.laws (IsSame f) _ c.size.new.self _
    (looked g.D.Disk.model g.met.D.Disk.laws c.args.disk.now c.size.new.self f c.requires.settled told
    c.size.ensures.crash) c.find_area.ensures.crash

pub returns-in_err-begun-clause-images : goal.returns-in_err-begun-clause-images
returns-in_err-begun-clause-images g c = λ f told.
    joined g.D.Disk.model (IsSame f) _ c.find_area.new.disk _
    (goes_still g.D.Disk.model g.met.D.Disk.laws (IsSame f) _ c.size.new.self _
    (looked g.D.Disk.model g.met.D.Disk.laws c.args.disk.now c.size.new.self f c.requires.settled told
    c.size.ensures.crash) c.find_area.ensures.crash)
    (c.begin_again.ensures.images f (c.find_area.ensures.content ∙ c.size.ensures.content ∙ told))

pub returns-then-placed-eq9-clause-images : goal.returns-then-placed-eq9-clause-images
returns-then-placed-eq9-clause-images g c = λ f told.
    joined g.D.Disk.model (IsSame f) _ c.find_area.new.disk _
    (goes_still g.D.Disk.model g.met.D.Disk.laws (IsSame f) _ c.size.new.self _
    (looked g.D.Disk.model g.met.D.Disk.laws c.args.disk.now c.size.new.self f c.requires.settled told
    c.size.ensures.crash) c.find_area.ensures.crash)
    (c.begin_again.ensures.images f (c.find_area.ensures.content ∙ c.size.ensures.content ∙ told))

pub returns-clause-placed : goal.returns-clause-placed
returns-clause-placed g c =
    placed_same g.D.Disk.model c.find_area.new.disk c.size.new.self _ _ _ _ (sym c.find_area.ensures.content)
    c.in_ok-placed.ensures.placed

pub returns-clause-images : goal.returns-clause-images
returns-clause-images g c = λ f told.
    goes_still g.D.Disk.model g.met.D.Disk.laws (IsSame f) _ c.size.new.self _
    (looked g.D.Disk.model g.met.D.Disk.laws c.args.disk.now c.size.new.self f c.requires.settled told
    c.size.ensures.crash) c.find_area.ensures.crash

pub returns-in_err-made-clause-kept : goal.returns-in_err-made-clause-kept
returns-in_err-made-clause-kept g c = λ f told filled. c.make_areas.ensures.kept f (c.size.ensures.content ∙ told)
    filled

pub returns-then-size-le9-clause-kept : goal.returns-then-size-le9-clause-kept
returns-then-size-le9-clause-kept g c = λ f told filled. c.make_areas.ensures.kept f (c.size.ensures.content ∙ told)
    filled

pub returns-in_err-placed-clause-kept : goal.returns-in_err-placed-clause-kept
returns-in_err-placed-clause-kept g c = λ f told filled. c.find_area.ensures.content ∙ c.size.ensures.content ∙ told

pub returns-in_err-begun-clause-kept : goal.returns-in_err-begun-clause-kept
returns-in_err-begun-clause-kept g c = λ f told filled.
    c.begin_again.ensures.kept f (c.find_area.ensures.content ∙ c.size.ensures.content ∙ told) filled

pub returns-then-placed-eq9-clause-kept : goal.returns-then-placed-eq9-clause-kept
returns-then-placed-eq9-clause-kept g c = λ f told filled.
    c.begin_again.ensures.kept f (c.find_area.ensures.content ∙ c.size.ensures.content ∙ told) filled

pub returns-clause-some : goal.returns-clause-some
returns-clause-some g c = λ eight. omega (arith, eight, c.in_ok-placed.ensures.placed.size_is, c.if-placed-eq9.false)

pub returns-clause-kept : goal.returns-clause-kept
returns-clause-kept g c = λ f told filled. c.find_area.ensures.content ∙ c.size.ensures.content ∙ told

pub returns-in_err-placed-clause-refused : goal.returns-in_err-placed-clause-refused
returns-in_err-placed-clause-refused g c =
    let p = err_from_is_err_and c.from_residual-in_err-placed.result c.from_residual-in_err-placed.ensures.1 in
    λ q e. record {
      each = λ f told. (
        f,
        c.find_area.ensures.content ∙ c.size.ensures.content
            ∙ told,
        (
          refl,
          c.find_area.ensures.not_spool q (carried _ _ _ _ _ c.in_err-placed.was p.1 p.2 e) f
              (c.size.ensures.content ∙ told),
        ),
      );
      back = λ f now.
          let told = sym c.size.ensures.content ∙ sym c.find_area.ensures.content ∙ now in (
            f,
            told,
            (
              refl,
              c.find_area.ensures.not_spool q (carried _ _ _ _ _ c.in_err-placed.was p.1 p.2 e) f
                  (c.size.ensures.content ∙ told),
            ),
          );
    }
