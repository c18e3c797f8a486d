use Rattle.std.proofs.Common.{◌≡◌, ◌+◌, ◌-◌, ◌≤◌, true, false, length, drop, Ok, Err, sym, ap, subst, ◌∙◌, arith}
use Rattle.std.proofs.lemmas.List.{take_rest, length-drop}
use Rattle.std.proofs.lemmas.Result.{err_from_is_err_and}
use Rattle.mta_ber.specs.Element.{at_end, end_size, element_size, run}
use Rattle.mta_ber.proofs.Rows.{run_is, starts, goes_on, ends, is_done, Going}
use Rattle.mta_ber.proofs.element.+rows.Goals as goal

pub run_of-row-init : goal.run_of-row-init
run_of-row-init t c =
    let here = run_is c.args.depth c.args.marked c.args.at c.args.bytes.now c.requires.level in
    subst (λ total. Going (run (17 - (c.args.depth + 1))) (c.args.depth + 1) c.args.marked c.args.at 0 c.args.bytes.now
    total) (sym here) (starts (run (17 - (c.args.depth + 1)))
    (c.args.depth + 1) c.args.marked c.args.at c.args.bytes.now)

pub run_of-row-preserved : goal.run_of-row-preserved
run_of-row-preserved t c =
    let rest = take_rest c.args.bytes.now c.row.used in
    let more : at_end c.args.marked (drop c.row.used c.args.bytes.now) ≡ false = sym (rw rest at c.is_end.ensures)
    ∙ c.row-test.true in
    let size : element_size (run (17 - (c.args.depth + 1))) (c.args.depth + 1) (c.args.at + c.row.used)
    (drop c.row.used c.args.bytes.now) ≡ Ok c.in_ok-used.field-0 = sym (rw rest at c.in_ok-used.ensures.exact) in
    let left = rw (rest, length-drop) at c.in_ok-used.ensures.some.1 in
    let within = c.row.invariant.within in
    let fits : c.row.used + c.in_ok-used.field-0 ≤ length c.args.bytes.now = omega arith in
    goes_on (run (17 - (c.args.depth + 1))) (c.args.depth + 1) c.args.marked c.args.at c.row.used c.in_ok-used.field-0
    c.args.bytes.now (run (17 - c.args.depth) c.args.marked c.args.at c.args.bytes.now) more size
    (c.in_ok-used.ensures.some.0) fits c.row.invariant

pub run_of-returns-in_err-used-clause-exact : goal.run_of-returns-in_err-used-clause-exact
run_of-returns-in_err-used-clause-exact t c =
    let p = err_from_is_err_and c.from_residual.result c.from_residual.ensures.1 in
    let rest = take_rest c.args.bytes.now c.row.used in
    let more : at_end c.args.marked (drop c.row.used c.args.bytes.now) ≡ false = sym (rw rest at c.is_end.ensures)
    ∙ c.row-test.true in
    let size : element_size (run (17 - (c.args.depth + 1))) (c.args.depth + 1) (c.args.at + c.row.used)
    (drop c.row.used c.args.bytes.now) ≡ Err c.in_err-used.field-0.0 =
    sym (rw rest at c.in_err-used.ensures.exact) in
    rw (p.1, p.2) (ends (run (17 - (c.args.depth + 1)))
    (c.args.depth + 1) c.args.marked c.args.at c.row.used c.in_err-used.field-0.0 c.args.bytes.now
    (run (17 - c.args.depth) c.args.marked c.args.at c.args.bytes.now) more size c.row.invariant)

pub run_of-returns-then-marked-clause-exact : goal.run_of-returns-then-marked-clause-exact
run_of-returns-then-marked-clause-exact t c =
    let rest = take_rest c.args.bytes.now c.row.used in
    let done : at_end c.args.marked (drop c.row.used c.args.bytes.now) ≡ true = sym (rw rest at c.is_end.ensures)
    ∙ c.row-test.false in
    let size : end_size c.args.marked ≡ 2 = ap end_size c.if-marked.true in
    ap (λ n. Ok (c.row.used + n)) (sym size)
    ∙ is_done (run (17 - (c.args.depth + 1))) (c.args.depth + 1) c.args.marked c.args.at c.row.used c.args.bytes.now
    (run (17 - c.args.depth) c.args.marked c.args.at c.args.bytes.now) done c.row.invariant

pub run_of-returns-else-marked-clause-exact : goal.run_of-returns-else-marked-clause-exact
run_of-returns-else-marked-clause-exact t c =
    let rest = take_rest c.args.bytes.now c.row.used in
    let done : at_end c.args.marked (drop c.row.used c.args.bytes.now) ≡ true = sym (rw rest at c.is_end.ensures)
    ∙ c.row-test.false in
    let size : end_size c.args.marked ≡ 0 = ap end_size c.if-marked.false in
    ap Ok (let e : c.row.used ≡ c.row.used + end_size c.args.marked = omega (arith, size) in e)
    ∙ is_done (run (17 - (c.args.depth + 1))) (c.args.depth + 1) c.args.marked c.args.at c.row.used c.args.bytes.now
    (run (17 - c.args.depth) c.args.marked c.args.at c.args.bytes.now) done c.row.invariant
