use Rattle.std.proofs.Common.{inl, inr, [], refl, arith}
use Rattle.mta_journal.specs.Bodies.{StandsFor}
use Rattle.mta_journal.specs.Opening.{IsSame}
use Rattle.mta_journal.proofs.PartsLaws.{less_images}
use Rattle.mta_journal.proofs.BegunAreas.{placed_none}
use Rattle.mta_journal.proofs.open.make_areas.Goals as goal

pub returns-in_err-begin_short-clause-images : goal.returns-in_err-begin_short-clause-images
returns-in_err-begin_short-clause-images g c =
    less_images g.D.Disk.model (λ f h. StandsFor h []) IsSame _ _ c.begin_short.ensures.images
    (λ f h told stands. inr (inl (c.requires.short f told, refl), stands))

pub returns-clause-stands : goal.returns-clause-stands
returns-clause-stands g c = λ f told. inl (c.requires.short f told, c.no_bodies.ensures.bodies)

pub returns-clause-placed : goal.returns-clause-placed
returns-clause-placed g c =
    placed_none g.D.Disk.model c.begin_short.new.disk _ _ _ _ c.no_bodies.ensures.first c.no_bodies.ensures.size
    c.no_bodies.ensures.bodies c.no_bodies.ensures.frame
    (λ h told. let from = c.in_ok-begin_short.ensures.made.back h told in from.2)

pub returns-clause-images : goal.returns-clause-images
returns-clause-images g c =
    less_images g.D.Disk.model (λ f h. StandsFor h []) IsSame _ _ c.begin_short.ensures.images
    (λ f h told stands. inr (inl (c.requires.short f told, refl), stands))

pub returns-in_err-begin_short-clause-kept : goal.returns-in_err-begin_short-clause-kept
returns-in_err-begin_short-clause-kept g c = λ f told filled. absurd (filled (inl (c.requires.short f told, refl)))

pub returns-clause-some : goal.returns-clause-some
returns-clause-some g c = λ eight. absurd (omega (arith, eight, c.no_bodies.ensures.first))

pub returns-clause-kept : goal.returns-clause-kept
returns-clause-kept g c = λ f told filled. absurd (filled (inl (c.requires.short f told, refl)))
