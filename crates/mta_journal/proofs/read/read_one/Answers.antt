use Rattle.std.proofs.Common.{◌≡◌, ◌+◌, ℕ, take, drop, subst, ◌∙◌, arith}
use Rattle.std.proofs.lemmas.Result.{err_from_is_err_and}
use Rattle.std.proofs.lemmas.Option.{MatchOption-at_some, MatchOption-at_none}
use Rattle.mta_journal.proofs.Reading.{carried, not_short}
use Rattle.mta_journal.proofs.Walked.{not_broken, not_closed, not_more, is_one}
use Rattle.mta_journal.proofs.read.read_one.Goals as goal

pub returns-in_err-read_body-clause-not_one : goal.returns-in_err-read_body-clause-not_one
returns-in_err-read_body-clause-not_one g c =
    let p = err_from_is_err_and c.from_residual.result c.from_residual.ensures.1 in
    λ q e f told.
    let broken = c.read_body.ensures.broken q (carried _ _ _ _ _ c.in_err-read_body.was p.1 p.2 e) f told in
    (broken.0, not_broken c.args.gate f broken.1)

pub returns-in-None-clause-not_one : goal.returns-in-None-clause-not_one
returns-in-None-clause-not_one g c = λ p e f told.
    let closed = MatchOption-at_none _ _ c.in-None.is c.in_ok-read_body.ensures.closed in
    (cc, not_closed c.args.gate f (closed f told))

pub returns-in_err-next-in-Some-clause-not_one : goal.returns-in_err-next-in-Some-clause-not_one
returns-in_err-next-in-Some-clause-not_one g c =
    let p = err_from_is_err_and c.from_residual-in_err-next-in-Some.result
    c.from_residual-in_err-next-in-Some.ensures.1 in
    let fits = MatchOption-at_some _ _ _ c.in-Some.is c.in_ok-read_body.ensures.fits in
    λ q e f told.
    let size = c.requires.size f told in
    absurd (not_short (c.args.gate + 5 + c.len.result) 1 f (omega (arith, size, fits, c.len.ensures))
    (c.read.ensures.short q (carried _ _ _ _ _ c.in_err-next-in-Some.was p.1 p.2 e) f
    (c.read_body.ensures.content ∙ told)))

pub returns-then-as_slice-eq1-clause-not_one : goal.returns-then-as_slice-eq1-clause-not_one
returns-then-as_slice-eq1-clause-not_one g c = λ p e f told.
    let stands = MatchOption-at_some _ _ _ c.in-Some.is c.in_ok-read_body.ensures.body in
    let next_is = subst (λ (n : ℕ). c.as_slice.result.now ≡ take 1 (drop (c.args.gate + 5 + n) f)) c.len.ensures
    (c.as_slice.ensures ∙ c.in_ok-next-in-Some.ensures.octets f (c.read_body.ensures.content ∙ told)) in
    (cc, not_more c.args.gate c.in-Some.body c.as_slice.result.now f (stands f told) next_is c.if-as_slice-eq1.true)

pub returns-clause-one : goal.returns-clause-one
returns-clause-one g c = λ f told.
    let stands = MatchOption-at_some _ _ _ c.in-Some.is c.in_ok-read_body.ensures.body in
    let next_is = subst (λ (n : ℕ). c.as_slice.result.now ≡ take 1 (drop (c.args.gate + 5 + n) f)) c.len.ensures
    (c.as_slice.ensures ∙ c.in_ok-next-in-Some.ensures.octets f (c.read_body.ensures.content ∙ told)) in
    is_one c.args.gate c.in-Some.body c.as_slice.result.now f (stands f told) next_is c.if-as_slice-eq1.false
