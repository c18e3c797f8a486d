use Rattle.mta_journal.proofs.PartsLaws.{move_images_1, move_images_2, move_goes}
use Rattle.mta_journal.proofs.parts.move_down.Goals as goal

pub returns-in_err-put_first-clause-images : goal.returns-in_err-put_first-clause-images
returns-in_err-put_first-clause-images g c =
    move_images_1 g.D.Disk.model c.args.frame.now _ _ c.args.disk.now c.put_first.ensures.images

pub returns-in_err-leave_first-clause-images : goal.returns-in_err-leave_first-clause-images
returns-in_err-leave_first-clause-images g c =
    move_images_2 g.D.Disk.model c.args.frame.now _ _ _
    (move_images_1 g.D.Disk.model c.args.frame.now c.args.disk.now c.put_first.new.disk c.args.disk.now
    c.put_first.ensures.images)
    c.in_ok-put_first.ensures.put c.leave_first.ensures.images

pub returns-clause-moved : goal.returns-clause-moved
returns-clause-moved g c =
    move_goes g.D.Disk.model c.args.frame.now _ _ _ c.in_ok-put_first.ensures.put c.in_ok-leave_first.ensures.left

pub returns-clause-images : goal.returns-clause-images
returns-clause-images g c =
    move_images_2 g.D.Disk.model c.args.frame.now _ _ _
    (move_images_1 g.D.Disk.model c.args.frame.now c.args.disk.now c.put_first.new.disk c.args.disk.now
    c.put_first.ensures.images)
    c.in_ok-put_first.ensures.put c.leave_first.ensures.images
