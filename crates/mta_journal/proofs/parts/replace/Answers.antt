use Rattle.std.proofs.Common.{◌∷◌, [], arith}
use Rattle.mta_journal.proofs.PartsLaws.{within_written, replace_images_1, replace_images_2, replace_images_3}
use Rattle.mta_journal.proofs.PartsLaws.{replace_goes}
use Rattle.mta_journal.proofs.parts.replace.Goals as goal

pub move_down-requires-clause-within : goal.move_down-requires-clause-within
move_down-requires-clause-within g c =
    within_written g.D.Disk.model 24 14 (1 ∷ []) c.put_second.new.disk c.choose.new.disk
    (λ h t. let le = c.in_ok-put_second.ensures.longer h t in omega (arith, le, c.requires.behind))
    (λ h t. let le = c.in_ok-put_second.ensures.longer h t in omega (arith, le, c.requires.behind))
    c.in_ok-choose.ensures.chosen

pub returns-in_err-put_second-clause-images : goal.returns-in_err-put_second-clause-images
returns-in_err-put_second-clause-images g c =
    replace_images_1 g.D.Disk.model c.args.e c.args.frame.now _ _ c.args.disk.now c.args.disk.now
    c.put_second.ensures.images

pub returns-in_err-choose-clause-images : goal.returns-in_err-choose-clause-images
returns-in_err-choose-clause-images g c =
    replace_images_2 g.D.Disk.model c.args.e c.args.frame.now _ _ _ c.args.disk.now
    (replace_images_1 g.D.Disk.model c.args.e c.args.frame.now c.args.disk.now c.put_second.new.disk c.args.disk.now
    c.args.disk.now c.put_second.ensures.images)
    c.in_ok-put_second.ensures.put c.choose.ensures.images

pub returns-in_err-move_down-clause-images : goal.returns-in_err-move_down-clause-images
returns-in_err-move_down-clause-images g c =
    replace_images_3 g.D.Disk.model c.args.e c.args.frame.now _ _ _ _
    (replace_images_2 g.D.Disk.model c.args.e c.args.frame.now c.args.disk.now c.put_second.new.disk c.choose.new.disk
    c.args.disk.now
    (replace_images_1 g.D.Disk.model c.args.e c.args.frame.now c.args.disk.now c.put_second.new.disk c.args.disk.now
    c.args.disk.now c.put_second.ensures.images)
    c.in_ok-put_second.ensures.put c.choose.ensures.images)
    c.in_ok-put_second.ensures.put c.in_ok-choose.ensures.chosen c.move_down.ensures.images

pub returns-clause-replaced : goal.returns-clause-replaced
returns-clause-replaced g c =
    replace_goes g.D.Disk.model c.args.e c.args.frame.now _ _ _ _ c.in_ok-put_second.ensures.put
    c.in_ok-choose.ensures.chosen c.in_ok-move_down.ensures.moved

pub returns-clause-images : goal.returns-clause-images
returns-clause-images g c =
    replace_images_3 g.D.Disk.model c.args.e c.args.frame.now _ _ _ _
    (replace_images_2 g.D.Disk.model c.args.e c.args.frame.now c.args.disk.now c.put_second.new.disk c.choose.new.disk
    c.args.disk.now
    (replace_images_1 g.D.Disk.model c.args.e c.args.frame.now c.args.disk.now c.put_second.new.disk c.args.disk.now
    c.args.disk.now c.put_second.ensures.images)
    c.in_ok-put_second.ensures.put c.choose.ensures.images)
    c.in_ok-put_second.ensures.put c.in_ok-choose.ensures.chosen c.move_down.ensures.images
