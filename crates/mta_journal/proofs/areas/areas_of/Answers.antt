use Rattle.std.proofs.Common.{true, false, ◌≡◌, ℕ, take, drop, length, get_or, sym, ap, subst, ◌∙◌, arith}
use Rattle.std.proofs.lemmas.Result.{err_from_is_err_and}
use Rattle.mta_journal.specs.Opening.{Marks}
use Rattle.mta_journal.proofs.Reading.{carried, not_short}
use Rattle.mta_journal.proofs.AreasFound.{marks, no_marks}
use Rattle.mta_journal.proofs.areas.areas_of.Goals as goal

pub returns-in_err-octets-clause-not_spool : goal.returns-in_err-octets-clause-not_spool
returns-in_err-octets-clause-not_spool g c =
    let p = err_from_is_err_and c.from_residual.result c.from_residual.ensures.1 in
    λ q e f told.
    let size = c.requires.size f told in
    not_short 8 15 f (omega (arith, size, c.if-size-lt24.false))
    (c.read.ensures.short q (carried _ _ _ _ _ c.in_err-octets.was p.1 p.2 e) f told)

pub returns-then-not-is_head-clause-none : goal.returns-then-not-is_head-clause-none
returns-then-not-is_head-clause-none g c = λ f told.
    let o_is : c.as_slice-octets.result.now ≡ take 15 (drop 8 f) = c.as_slice-octets.ensures
    ∙ c.in_ok-octets.ensures.octets f told in
    no_marks c.as_slice-octets.result.now f o_is
    (λ is. let other : c.is_head.result ≡ false = c.if-not-is_head.true in let one : c.is_head.result
    ≡ true = c.is_head.ensures.1 is in absurd cc)

pub returns-clause-some : goal.returns-clause-some
returns-clause-some g c = λ f told.
    let o_is : c.as_slice-octets.result.now ≡ take 15 (drop 8 f) = c.as_slice-octets.ensures
    ∙ c.in_ok-octets.ensures.octets f told in
    let one : c.is_head.result ≡ true = c.if-not-is_head.false in
    let size = c.requires.size f told in
    subst (λ (n : ℕ). Marks f (get_or c.as_slice-octets.result.now 6 0) n) (sym c.from_be_bytes-high.ensures)
    (marks c.as_slice-octets.result.now f (ap length c.as_slice-octets.ensures ∙ c.in_ok-octets.ensures.whole)
    (omega (arith, size, c.if-size-lt24.false)) (c.requires.magic f told) o_is (c.is_head.ensures.0 one))
