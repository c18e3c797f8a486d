use Rattle.std.proofs.lemmas.Result.{err_from_is_err_and}
use Rattle.mta_spool.proofs.Pieces.{not_too_long, secure_no_memory}
use Rattle.mta_spool.proofs.spool.Spool.secure.Goals as goal

pub returns-in_err-check_secure-clause-receives : goal.returns-in_err-check_secure-clause-receives
returns-in_err-check_secure-clause-receives g c =
    let p = err_from_is_err_and c.from_residual.result c.from_residual.ensures.1 in
    rw (p.1, p.2) c.in_err-check_secure.ensures.refused

pub returns-in_err-check_secure-clause-too_long : goal.returns-in_err-check_secure-clause-too_long
returns-in_err-check_secure-clause-too_long g c going f bad =
    let p = err_from_is_err_and c.from_residual.result c.from_residual.ensures.1 in
    rw (p.1, p.2) (c.in_err-check_secure.ensures.too_long going f bad)

pub returns-in_default-clause-receives : goal.returns-in_default-clause-receives
returns-in_default-clause-receives g c =
    secure_no_memory g.D.Disk.model c.args.self.now c.args.lane c.args.generation c.args.activity c.args.number
    c.args.piece.now c.in_ok-check_secure.ensures.allowed c.in_ok-check_secure.ensures.going c.check_secure.ensures.few

pub returns-in_default-clause-too_long : goal.returns-in_default-clause-too_long
returns-in_default-clause-too_long g c going f bad =
    let s = c.args.self.now.current in
    absurd (not_too_long s c.args.lane c.args.generation c.args.activity c.args.number c.args.piece.now s.moment
    c.in_ok-check_secure.ensures.allowed f bad)

pub make_secure-requires-clause-allowed : goal.make_secure-requires-clause-allowed
make_secure-requires-clause-allowed g c = rw c.in-Ok.ensures c.in_ok-check_secure.ensures.allowed

pub returns-clause-receives : goal.returns-clause-receives
returns-clause-receives g c = rw c.in-Ok.ensures at c.make_secure.ensures.receives

pub returns-clause-too_long : goal.returns-clause-too_long
returns-clause-too_long g c going f bad =
    let s = c.args.self.now.current in
    absurd (not_too_long s c.args.lane c.args.generation c.args.activity c.args.number c.args.piece.now s.moment
    c.in_ok-check_secure.ensures.allowed f bad)
