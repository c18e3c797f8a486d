use Rattle.mta_edge.specs.Outside.{Goes-then, Torn}
use Rattle.mta_disk.specs.Records.{IsFramedAt}
use Rattle.mta_journal.specs.Opening.{KeepsNone, areas_frame}
use Rattle.mta_journal.proofs.PartsLaws.{less_images, then_images, within_written}
use Rattle.mta_journal.proofs.BegunAreas.{none_behind, none_at_gate, begins_areas}
use Rattle.mta_journal.proofs.open.begin_areas.Goals as goal

pub lift_gate-requires-clause-within : goal.lift_gate-requires-clause-within
lift_gate-requires-clause-within g c =
    within_written g.D.Disk.model 9 9 areas_frame _ _ c.requires.within c.requires.within c.in_ok-put_frame.ensures.put

pub returns-in_err-put_frame-clause-images : goal.returns-in_err-put_frame-clause-images
returns-in_err-put_frame-clause-images g c =
    less_images g.D.Disk.model (Torn 9 15) KeepsNone _ _ c.put_frame.ensures.images
    (λ f h told torn. none_behind 15 f h torn)

pub returns-in_err-lift_gate-clause-images : goal.returns-in_err-lift_gate-clause-images
returns-in_err-lift_gate-clause-images g c =
    then_images g.D.Disk.model (IsFramedAt 8 areas_frame) (Torn 8 1) KeepsNone _ c.put_frame.new.disk _
    (less_images g.D.Disk.model (Torn 9 15) KeepsNone c.args.disk.now c.put_frame.new.disk c.put_frame.ensures.images
    (λ f h told torn. none_behind 15 f h torn))
    c.in_ok-put_frame.ensures.put c.lift_gate.ensures.images
    (λ f h k told put torn. none_at_gate f h k (c.requires.within f told) put torn)

pub returns-clause-begun : goal.returns-clause-begun
returns-clause-begun g c =
    Goes-then (λ f h k told put lifted. begins_areas f h k (c.requires.within f told) put lifted)
    c.in_ok-put_frame.ensures.put c.in_ok-lift_gate.ensures.lifted

pub returns-clause-images : goal.returns-clause-images
returns-clause-images g c =
    then_images g.D.Disk.model (IsFramedAt 8 areas_frame) (Torn 8 1) KeepsNone _ c.put_frame.new.disk _
    (less_images g.D.Disk.model (Torn 9 15) KeepsNone c.args.disk.now c.put_frame.new.disk c.put_frame.ensures.images
    (λ f h told torn. none_behind 15 f h torn))
    c.in_ok-put_frame.ensures.put c.lift_gate.ensures.images
    (λ f h k told put torn. none_at_gate f h k (c.requires.within f told) put torn)
