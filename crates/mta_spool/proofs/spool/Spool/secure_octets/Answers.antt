use Rattle.std.proofs.lemmas.Result.{err_from_is_err_and}
use Rattle.mta_spool.proofs.Pieces.{not_too_long}
use Rattle.mta_spool.proofs.spool.Spool.secure_octets.Goals as goal

pub returns-in_err-check_secure-clause-receives : goal.returns-in_err-check_secure-clause-receives
returns-in_err-check_secure-clause-receives g c =
    let p = err_from_is_err_and c.from_residual.result c.from_residual.ensures.1 in
    rw (p.1, p.2) (rw c.as_slice.ensures at c.in_err-check_secure.ensures.refused)

pub returns-in_err-check_secure-clause-too_long : goal.returns-in_err-check_secure-clause-too_long
returns-in_err-check_secure-clause-too_long g c going f bad =
    let p = err_from_is_err_and c.from_residual.result c.from_residual.ensures.1 in
    let told = rw c.as_slice.ensures at c.in_err-check_secure.ensures.too_long in
    rw (p.1, p.2) (told going f bad)

pub make_secure-requires-clause-allowed : goal.make_secure-requires-clause-allowed
make_secure-requires-clause-allowed g c = rw c.as_slice.ensures at c.in_ok-check_secure.ensures.allowed

pub returns-clause-too_long : goal.returns-clause-too_long
returns-clause-too_long g c going f bad =
    let s = c.args.self.now.current in
    absurd (not_too_long s c.args.lane c.args.generation c.args.activity c.args.number c.args.piece s.moment
    (rw c.as_slice.ensures at c.in_ok-check_secure.ensures.allowed) f bad)
