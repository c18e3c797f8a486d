use Rattle.std.proofs.Common.{◌+◌, ◌∷◌, [], arith}
use Rattle.mta_journal.proofs.PartsLaws.{within_pointed, within_written, second_images_1, second_images_2}
use Rattle.mta_journal.proofs.PartsLaws.{second_images_3, second_goes}
use Rattle.mta_journal.proofs.parts.put_second.Goals as goal

pub put_frame-requires-clause-within : goal.put_frame-requires-clause-within
put_frame-requires-clause-within g c =
    within_pointed g.D.Disk.model c.args.e c.args.frame.now c.requires.behind _ _ c.args.disk.now c.args.disk.now
    c.requires.within c.in_ok-point_high.ensures.pointed

pub lift_gate-requires-clause-within : goal.lift_gate-requires-clause-within
lift_gate-requires-clause-within g c =
    let there = within_pointed g.D.Disk.model c.args.e c.args.frame.now c.requires.behind _ _ c.args.disk.now
    c.args.disk.now c.requires.within c.in_ok-point_high.ensures.pointed in
    within_written g.D.Disk.model (c.args.e + 1) (c.args.e + 1) c.args.frame.now _ _ there there
    c.in_ok-put_frame.ensures.put

pub returns-in_err-point_high-clause-images : goal.returns-in_err-point_high-clause-images
returns-in_err-point_high-clause-images g c =
    second_images_1 g.D.Disk.model c.args.e c.args.frame.now c.requires.behind _ _ c.args.disk.now c.args.disk.now
    c.requires.within c.point_high.ensures.images

pub returns-in_err-put_frame-clause-images : goal.returns-in_err-put_frame-clause-images
returns-in_err-put_frame-clause-images g c =
    let one = second_images_1 g.D.Disk.model c.args.e c.args.frame.now c.requires.behind c.args.disk.now
    c.point_high.new.disk c.args.disk.now c.args.disk.now c.requires.within c.point_high.ensures.images in
    second_images_2 g.D.Disk.model c.args.e c.args.frame.now c.requires.behind _ _ _ c.args.disk.now c.requires.within
    one c.in_ok-point_high.ensures.pointed c.put_frame.ensures.images

pub returns-in_err-lift_gate-clause-images : goal.returns-in_err-lift_gate-clause-images
returns-in_err-lift_gate-clause-images g c =
    let one = second_images_1 g.D.Disk.model c.args.e c.args.frame.now c.requires.behind c.args.disk.now
    c.point_high.new.disk c.args.disk.now c.args.disk.now c.requires.within c.point_high.ensures.images in
    let two = second_images_2 g.D.Disk.model c.args.e c.args.frame.now c.requires.behind c.args.disk.now
    c.point_high.new.disk c.put_frame.new.disk c.args.disk.now c.requires.within one
    c.in_ok-point_high.ensures.pointed c.put_frame.ensures.images in
    second_images_3 g.D.Disk.model c.args.e c.args.frame.now c.requires.behind _ _ _ _ c.requires.within two
    c.in_ok-point_high.ensures.pointed c.in_ok-put_frame.ensures.put c.lift_gate.ensures.images

pub returns-clause-put : goal.returns-clause-put
returns-clause-put g c =
    second_goes g.D.Disk.model c.args.e c.args.frame.now c.requires.behind _ _ _ _ c.requires.within
    (omega (arith, c.requires.room))
    c.in_ok-point_high.ensures.pointed c.in_ok-put_frame.ensures.put c.in_ok-lift_gate.ensures.lifted

pub returns-clause-longer : goal.returns-clause-longer
returns-clause-longer g c =
    let one = within_pointed g.D.Disk.model c.args.e c.args.frame.now c.requires.behind c.args.disk.now
    c.point_high.new.disk c.args.disk.now c.args.disk.now c.requires.within c.in_ok-point_high.ensures.pointed in
    let two = within_written g.D.Disk.model (c.args.e + 1) (c.args.e + 1) c.args.frame.now c.point_high.new.disk
    c.put_frame.new.disk one one c.in_ok-put_frame.ensures.put in
    λ k told.
    let three = within_written g.D.Disk.model (c.args.e + 1) c.args.e (1 ∷ []) c.put_frame.new.disk c.lift_gate.new.disk
    two (λ h t. let le = two h t in omega (arith, le)) c.in_ok-lift_gate.ensures.lifted k told in
    omega (arith, three)

pub returns-clause-images : goal.returns-clause-images
returns-clause-images g c =
    let one = second_images_1 g.D.Disk.model c.args.e c.args.frame.now c.requires.behind c.args.disk.now
    c.point_high.new.disk c.args.disk.now c.args.disk.now c.requires.within c.point_high.ensures.images in
    let two = second_images_2 g.D.Disk.model c.args.e c.args.frame.now c.requires.behind c.args.disk.now
    c.point_high.new.disk c.put_frame.new.disk c.args.disk.now c.requires.within one
    c.in_ok-point_high.ensures.pointed c.put_frame.ensures.images in
    second_images_3 g.D.Disk.model c.args.e c.args.frame.now c.requires.behind _ _ _ _ c.requires.within two
    c.in_ok-point_high.ensures.pointed c.in_ok-put_frame.ensures.put c.lift_gate.ensures.images
