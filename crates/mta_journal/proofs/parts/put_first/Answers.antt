use Rattle.std.proofs.Common.{◌∷◌, [], arith}
use Rattle.mta_journal.proofs.PartsLaws.{within_written, first_images_1, first_images_2, first_images_3, first_goes}
use Rattle.mta_journal.proofs.PartsLaws.{first_longer}
use Rattle.mta_journal.proofs.parts.put_first.Goals as goal

pub lift_gate-requires-clause-within : goal.lift_gate-requires-clause-within
lift_gate-requires-clause-within g c =
    let one = within_written g.D.Disk.model 24 23 (0 ∷ []) c.args.disk.now c.shut.new.disk c.requires.within
    (λ h t. let le = c.requires.within h t in omega (arith, le)) c.in_ok-shut.ensures.shut in
    within_written g.D.Disk.model 24 24 c.args.frame.now _ _ one one c.in_ok-put_frame.ensures.put

pub returns-in_err-shut-clause-images : goal.returns-in_err-shut-clause-images
returns-in_err-shut-clause-images g c =
    first_images_1 g.D.Disk.model c.args.frame.now _ _ c.args.disk.now c.args.disk.now c.requires.within
    c.shut.ensures.images

pub returns-in_err-put_frame-clause-images : goal.returns-in_err-put_frame-clause-images
returns-in_err-put_frame-clause-images g c =
    let one = first_images_1 g.D.Disk.model c.args.frame.now c.args.disk.now c.shut.new.disk c.args.disk.now
    c.args.disk.now c.requires.within c.shut.ensures.images in
    first_images_2 g.D.Disk.model c.args.frame.now _ _ _ c.args.disk.now c.requires.within one c.in_ok-shut.ensures.shut
    c.put_frame.ensures.images

pub returns-in_err-lift_gate-clause-images : goal.returns-in_err-lift_gate-clause-images
returns-in_err-lift_gate-clause-images g c =
    let one = first_images_1 g.D.Disk.model c.args.frame.now c.args.disk.now c.shut.new.disk c.args.disk.now
    c.args.disk.now c.requires.within c.shut.ensures.images in
    let two = first_images_2 g.D.Disk.model c.args.frame.now c.args.disk.now c.shut.new.disk c.put_frame.new.disk
    c.args.disk.now c.requires.within one c.in_ok-shut.ensures.shut c.put_frame.ensures.images in
    first_images_3 g.D.Disk.model c.args.frame.now _ _ _ _ c.requires.within two c.in_ok-shut.ensures.shut
    c.in_ok-put_frame.ensures.put c.lift_gate.ensures.images

pub returns-clause-put : goal.returns-clause-put
returns-clause-put g c =
    first_goes g.D.Disk.model c.args.frame.now _ _ _ _ c.requires.within c.in_ok-shut.ensures.shut
    c.in_ok-put_frame.ensures.put c.in_ok-lift_gate.ensures.lifted

pub returns-clause-longer : goal.returns-clause-longer
returns-clause-longer g c =
    first_longer g.D.Disk.model c.args.frame.now _ _ _ _ c.requires.within c.in_ok-shut.ensures.shut
    c.in_ok-put_frame.ensures.put c.in_ok-lift_gate.ensures.lifted

pub returns-clause-images : goal.returns-clause-images
returns-clause-images g c =
    let one = first_images_1 g.D.Disk.model c.args.frame.now c.args.disk.now c.shut.new.disk c.args.disk.now
    c.args.disk.now c.requires.within c.shut.ensures.images in
    let two = first_images_2 g.D.Disk.model c.args.frame.now c.args.disk.now c.shut.new.disk c.put_frame.new.disk
    c.args.disk.now c.requires.within one c.in_ok-shut.ensures.shut c.put_frame.ensures.images in
    first_images_3 g.D.Disk.model c.args.frame.now _ _ _ _ c.requires.within two c.in_ok-shut.ensures.shut
    c.in_ok-put_frame.ensures.put c.lift_gate.ensures.images
