use Rattle.std.proofs.Common.{inr, sym, subst, arith}
use Rattle.mta_journal.specs.Bodies.{HasBodies}
use Rattle.mta_journal.specs.Opening.{IsSame, KeepsNone}
use Rattle.mta_journal.proofs.PartsLaws.{less_images}
use Rattle.mta_journal.proofs.BegunAreas.{placed_none, stands_none}
use Rattle.mta_journal.proofs.open.begin_again.Goals as goal

pub begin_areas-requires-clause-within : goal.begin_areas-requires-clause-within
begin_areas-requires-clause-within g c = λ f told. let long = c.requires.long f told in omega (arith, long)

pub returns-in_err-begin_areas-clause-images : goal.returns-in_err-begin_areas-clause-images
returns-in_err-begin_areas-clause-images g c =
    less_images g.D.Disk.model KeepsNone IsSame _ _ c.begin_areas.ensures.images
    (λ f h told keeps. let has = c.requires.none f told in inr
    (inr (c.requires.long f told, (8, has)), stands_none h (keeps has)))

pub returns-clause-stands : goal.returns-clause-stands
returns-clause-stands g c = λ f told.
    inr (c.requires.long f told, subst (HasBodies f) (sym c.no_bodies.ensures.bodies) (8, c.requires.none f told))

pub returns-clause-placed : goal.returns-clause-placed
returns-clause-placed g c =
    placed_none g.D.Disk.model c.begin_areas.new.disk _ _ _ _ c.no_bodies.ensures.first c.no_bodies.ensures.size
    c.no_bodies.ensures.bodies c.no_bodies.ensures.frame
    (λ h told. let from = c.in_ok-begin_areas.ensures.begun.back h told in from.2 (c.requires.none from.0 from.1))

pub returns-clause-images : goal.returns-clause-images
returns-clause-images g c =
    less_images g.D.Disk.model KeepsNone IsSame _ _ c.begin_areas.ensures.images
    (λ f h told keeps. let has = c.requires.none f told in inr
    (inr (c.requires.long f told, (8, has)), stands_none h (keeps has)))

pub returns-in_err-begin_areas-clause-kept : goal.returns-in_err-begin_areas-clause-kept
returns-in_err-begin_areas-clause-kept g c = λ f told filled.
    absurd (filled (inr (c.requires.long f told, (8, c.requires.none f told))))

pub returns-clause-some : goal.returns-clause-some
returns-clause-some g c = λ eight. absurd (omega (arith, eight, c.no_bodies.ensures.first))

pub returns-clause-kept : goal.returns-clause-kept
returns-clause-kept g c = λ f told filled.
    absurd (filled (inr (c.requires.long f told, (8, c.requires.none f told))))
