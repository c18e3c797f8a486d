use Rattle.mta_journal.proofs.PartsLaws.{leave_images_1, leave_images_2, leave_goes, leave_longer}
use Rattle.mta_journal.proofs.parts.leave_first.Goals as goal

pub returns-in_err-choose-clause-images : goal.returns-in_err-choose-clause-images
returns-in_err-choose-clause-images g c =
    leave_images_1 g.D.Disk.model c.args.frame.now _ _ c.args.disk.now c.requires.within c.choose.ensures.images

pub returns-in_err-cut_to-clause-images : goal.returns-in_err-cut_to-clause-images
returns-in_err-cut_to-clause-images g c =
    let one = leave_images_1 g.D.Disk.model c.args.frame.now c.args.disk.now c.choose.new.disk c.args.disk.now
    c.requires.within c.choose.ensures.images in
    leave_images_2 g.D.Disk.model c.args.frame.now _ _ _ c.requires.within one c.in_ok-choose.ensures.chosen
    c.cut_to.ensures.images

pub returns-clause-left : goal.returns-clause-left
returns-clause-left g c =
    leave_goes g.D.Disk.model c.args.frame.now _ _ _ c.requires.within c.in_ok-choose.ensures.chosen
    c.in_ok-cut_to.ensures.cut

pub returns-clause-longer : goal.returns-clause-longer
returns-clause-longer g c =
    leave_longer g.D.Disk.model c.args.frame.now _ _ _ c.requires.within c.in_ok-choose.ensures.chosen
    c.in_ok-cut_to.ensures.cut

pub returns-clause-images : goal.returns-clause-images
returns-clause-images g c =
    let one = leave_images_1 g.D.Disk.model c.args.frame.now c.args.disk.now c.choose.new.disk c.args.disk.now
    c.requires.within c.choose.ensures.images in
    leave_images_2 g.D.Disk.model c.args.frame.now _ _ _ c.requires.within one c.in_ok-choose.ensures.chosen
    c.cut_to.ensures.images
