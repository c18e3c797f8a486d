use Rattle.std.proofs.Common.{◌≡◌, ◌<◌, ◌^◌, ◌+◌, ℕ, length, ap, subst, ◌∙◌}
use Rattle.mta_histories.specs.Classes.{class_of}
use Rattle.mta_histories.specs.Kept.{IsKept}
use Rattle.mta_histories.specs.Lanes.{State}
use Rattle.mta_histories.specs.Numbers.{numbers_needed}
use Rattle.mta_spool.specs.Shown.{Shown}
use Rattle.mta_spool.proofs.Dues.{next_is_due, next_is_possible}
use Rattle.mta_spool.proofs.Lengths.{short-due}
use Rattle.mta_spool.proofs.spool.Spool.make_due.Goals as goal

pub make-requires-clause-short : goal.make-requires-clause-short
make-requires-clause-short g c =
    short-due c.args.step (next_is_due c.args.self.now.current c.args.moment c.args.step c.requires.next)

pub make-requires-clause-possible : goal.make-requires-clause-possible
make-requires-clause-possible g c =
    let current = ap (λ (v : Shown _ _). v.current) c.self.view_is in
    let needed : c.numbers_needed-needed.result ≡ numbers_needed c.args.self.now.current (class_of c.args.step) =
    c.numbers_needed-needed.ensures ∙ ap (λ (s : State). numbers_needed s (class_of c.args.step)) current in
    next_is_possible c.args.self.now.current c.args.moment c.args.step
    (subst IsKept current c.self.invariant.sound.of_history) c.requires.timely c.requires.next
    (subst (λ (k : ℕ). length c.args.self.now.current.machine.items + k < 2 ^ 32) needed
    c.in_ok-check_numbers.ensures.left)
