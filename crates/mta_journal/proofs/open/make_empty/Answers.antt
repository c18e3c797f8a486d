use Rattle.std.proofs.Common.{inl, refl, arith, []}
use Rattle.mta_edge.specs.Outside.{Goes-map, Torn}
use Rattle.mta_journal.specs.Bodies.{StandsFor}
use Rattle.mta_journal.proofs.PartsLaws.{less_images}
use Rattle.mta_journal.proofs.BegunAreas.{empty_made}
use Rattle.mta_journal.proofs.open.make_empty.Goals as goal

pub returns-in_err-write_synced-clause-images : goal.returns-in_err-write_synced-clause-images
returns-in_err-write_synced-clause-images g c =
    less_images g.D.Disk.model (Torn 0 9) (λ f h. StandsFor h []) _ _ c.write_synced.ensures.images
    (λ f h told torn. let short = c.requires.short f told in inl (omega (arith, torn.no_longer, short), refl))

pub returns-clause-made : goal.returns-clause-made
returns-clause-made g c = Goes-map refl refl (λ f h told is. empty_made f h is) c.in_ok-write_synced.ensures.written

pub returns-clause-images : goal.returns-clause-images
returns-clause-images g c =
    less_images g.D.Disk.model (Torn 0 9) (λ f h. StandsFor h []) _ _ c.write_synced.ensures.images
    (λ f h told torn. let short = c.requires.short f told in inl (omega (arith, torn.no_longer, short), refl))
