use Rattle.std.proofs.Common.{[]}
use Rattle.mta_edge.specs.Outside.{Goes-then}
use Rattle.mta_journal.specs.Bodies.{HasBodiesAt, StandsFor}
use Rattle.mta_journal.specs.Opening.{KeepsNone}
use Rattle.mta_journal.proofs.PartsLaws.{then_images}
use Rattle.mta_journal.proofs.BegunAreas.{none_long, stands_none}
use Rattle.mta_journal.proofs.open.begin_short.Goals as goal

pub begin_areas-requires-clause-within : goal.begin_areas-requires-clause-within
begin_areas-requires-clause-within g c = λ h told.
    let from = c.in_ok-make_empty.ensures.made.back h told in none_long h from.2

pub returns-in_err-begin_areas-clause-images : goal.returns-in_err-begin_areas-clause-images
returns-in_err-begin_areas-clause-images g c =
    then_images g.D.Disk.model (λ f h. HasBodiesAt 8 [] h) KeepsNone (λ f h. StandsFor h []) _ c.make_empty.new.disk _
    c.make_empty.ensures.images
    c.in_ok-make_empty.ensures.made c.begin_areas.ensures.images (λ f h k told has keeps. stands_none k (keeps has))

pub returns-clause-made : goal.returns-clause-made
returns-clause-made g c =
    Goes-then (λ f h k told has begins. begins has) c.in_ok-make_empty.ensures.made c.in_ok-begin_areas.ensures.begun

pub returns-clause-images : goal.returns-clause-images
returns-clause-images g c =
    then_images g.D.Disk.model (λ f h. HasBodiesAt 8 [] h) KeepsNone (λ f h. StandsFor h []) _ c.make_empty.new.disk _
    c.make_empty.ensures.images
    c.in_ok-make_empty.ensures.made c.begin_areas.ensures.images (λ f h k told has keeps. stands_none k (keeps has))
