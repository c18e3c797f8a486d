use Rattle.std.proofs.Common.{List, arith, refl, subst, sym, ◌∙◌, ℕ}
use Rattle.mta_follow_run.specs.Taking.{StandsBehind, is_behind, is_equal, is_other}
use Rattle.mta_follow_run.proofs.Pushing.{behind_at}
use Rattle.mta_follow_run.proofs.Taking.{other_octets, same_octets}
use Rattle.mta_follow_run.proofs.take.keep_record.Goals as goal

pub returns-then-kept-got : goal.returns-then-kept-got
returns-then-kept-got g c = is_behind c.append_record.result c.if-kept-got.true c.append_record.ensures

pub returns-then-eq : goal.returns-then-eq
returns-then-eq g c =
    is_equal (subst (λ (b : List ℕ). StandsBehind c.args.got b c.args.kept.now)
    (sym c.as_slice-own.ensures ∙ same_octets c.as_slice-own.result.now c.args.body.now
    (sym c.eq.ensures ∙ c.if-eq.true))
    (behind_at c.args.got c.args.kept.now c.index-kept-got.result (omega (arith, c.if-kept-got.false))
    c.index-kept-got.is)) refl

pub returns-else-eq : goal.returns-else-eq
returns-else-eq g c =
    is_other c.index-kept-got.result
    (behind_at c.args.got c.args.kept.now c.index-kept-got.result (omega (arith, c.if-kept-got.false))
    c.index-kept-got.is)
    (λ is. other_octets c.as_slice-own.result.now c.args.body.now (sym c.eq.ensures ∙ c.if-eq.false)
    (c.as_slice-own.ensures ∙ is)) refl
