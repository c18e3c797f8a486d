use Rattle.std.proofs.Common.{Bool, Ok, refl, subst, ℕ}
use Rattle.mta_follow_run.specs.Pulling.{NextOf, Says, round_done, round_none, round_one, round_over}
use Rattle.mta_follow_run.proofs.pull.next_round.Goals as goal

pub returns-in_default : goal.returns-in_default
returns-in_default g c = round_over refl refl

pub returns-in-Ok-true : goal.returns-in-Ok-true
returns-in-Ok-true g c =
    round_one c.next_record.new.link c.say_kept.result c.in-Some.ensures.0
    (subst (λ (b : Bool). NextOf g.D.Disk.model g.L.Link.model c.args.bodies.now c.args.journal.now
    c.args.link.now c.args.reader.now c.args.got c.next_record.new.journal c.next_record.new.link
    c.next_record.new.reader (Ok b)) c.in-Ok-true.field-0-test c.in-Ok-true.ensures)
    (subst (λ (n : ℕ). Says g.L.Link.model n c.next_record.new.link c.say_kept.new.link c.say_kept.result)
    c.in-Some.ensures.1 c.say_kept.ensures)

pub returns-in-Ok-false : goal.returns-in-Ok-false
returns-in-Ok-false g c =
    round_done (subst (λ (b : Bool). NextOf g.D.Disk.model g.L.Link.model c.args.bodies.now c.args.journal.now
    c.args.link.now c.args.reader.now c.args.got c.next_record.new.journal c.next_record.new.link
    c.next_record.new.reader (Ok b)) c.in-Ok-false.field-0-test c.in-Ok-false.ensures)

pub returns-in-Err : goal.returns-in-Err
returns-in-Err g c = round_none c.in-Err.stop c.in-Err.ensures
