use Rattle.mta_audit_run.proofs.Pieces.{both_then, both_else}
use Rattle.mta_audit_run.proofs.activity.is_both.Goals as goal

pub returns-then-eq : goal.returns-then-eq
returns-then-eq c =
    both_then c.args.whole.now c.split_at.result.0.now c.split_at.result.1.now c.args.first.now c.args.second.now
    c.split_at.ensures.front c.split_at.ensures.back c.split_at.ensures.front_len c.eq.result c.eq-then-eq.result
    c.eq.ensures c.if-eq.true c.eq-then-eq.ensures

pub returns-else-eq : goal.returns-else-eq
returns-else-eq c =
    both_else c.args.whole.now c.split_at.result.0.now c.split_at.result.1.now c.args.first.now c.args.second.now
    c.split_at.ensures.front c.split_at.ensures.back c.split_at.ensures.front_len c.eq.result c.eq.ensures
    c.if-eq.false
