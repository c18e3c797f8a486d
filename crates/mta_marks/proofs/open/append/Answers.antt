use Rattle.std.proofs.Common.{inl, ap, subst, sym, ◌∙◌, ◌≤◌, List, ℕ, length}
use Rattle.mta_journal.specs.Bodies.{longest_body}
use Rattle.mta_marks.proofs.Sizes.{body_short}
use Rattle.mta_marks.proofs.open.append.Goals as goal

pub append-requires-clause-short : goal.append-requires-clause-short
append-requires-clause-short g c =
    inl (subst (λ (b : List ℕ). length b ≤ longest_body) (sym (c.as_slice.ensures ∙ c.in-Ok.ensures))
    (body_short c.args.mark.now c.requires.mark))
