use Rattle.mta_audit_run.proofs.Pieces.{pieces_then, pieces_else}
use Rattle.mta_audit_run.proofs.activity.same_pieces.Goals as goal

pub returns-then-eq : goal.returns-then-eq
returns-then-eq c =
    pieces_then c.args.head.now c.args.rest.now c.split_at.result.0.now c.split_at.result.1.now c.args.longer.now
    c.args.behind.now c.split_at.ensures.front_len c.split_at.ensures.front c.split_at.ensures.back c.eq.result
    c.is_both.result c.eq.ensures c.if-eq.true c.is_both.ensures

pub returns-else-eq : goal.returns-else-eq
returns-else-eq c =
    pieces_else c.args.head.now c.args.rest.now c.split_at.result.0.now c.split_at.result.1.now c.args.longer.now
    c.args.behind.now c.split_at.ensures.front_len c.split_at.ensures.front c.split_at.ensures.back c.eq.result
    c.eq.ensures c.if-eq.false
