use Rattle.std.proofs.Common.{◌≡◌, ◌+◌, ◌-◌, ◌<◌, ℕ, List, take, length, ap, sym, subst, ◌∙◌, arith}
use Rattle.std.proofs.lemmas.List.{length-take}
use Rattle.std.proofs.lemmas.Result.{err_from_is_err_and}
use Rattle.mta_journal.specs.Opening.{IsAhead}
use Rattle.mta_journal.proofs.Reading.{closed_at, broken_at, open_at, carried, head_ahead, not_short, passed}
use Rattle.mta_journal.proofs.read.read_body.Goals as goal

pub head_of-requires-clause-length : goal.head_of-requires-clause-length
head_of-requires-clause-length g c =
    omega (
      arith,
      ap length c.first_five.ensures,
      length-take 5 c.as_slice.result.now,
      ap length c.as_slice.ensures,
      c.in_ok-read_ahead.ensures.few,
      c.in_ok-read_ahead.ensures.head,
    )

pub returns-in-Closed-clause-closed : goal.returns-in-Closed-clause-closed
returns-in-Closed-clause-closed g c = λ f told.
    let size = c.requires.size f told in
    let some : 0 < c.args.size - c.args.gate = omega arith in
    let left : c.args.size - c.args.gate ≡ length f - c.args.gate = omega (arith, size) in
    closed_at c.args.most c.args.gate (c.args.size - c.args.gate) f c.first_five.result.now left some
    (c.first_five.ensures ∙ ap (take 5) c.as_slice.ensures
    ∙ head_ahead c.args.gate (c.args.size - c.args.gate) c.read_ahead.new.ahead f
    (c.in_ok-read_ahead.ensures.ahead f told) left c.in_ok-read_ahead.ensures.head) c.in-Closed.ensures

pub returns-in-Broken-clause-broken : goal.returns-in-Broken-clause-broken
returns-in-Broken-clause-broken g c = λ p e f told.
    let size = c.requires.size f told in
    let some : 0 < c.args.size - c.args.gate = omega arith in
    let left : c.args.size - c.args.gate ≡ length f - c.args.gate = omega (arith, size) in (
      cc,
      broken_at c.args.most c.args.gate (c.args.size - c.args.gate) f c.first_five.result.now left some
          (c.first_five.ensures ∙ ap (take 5) c.as_slice.ensures
          ∙ head_ahead c.args.gate (c.args.size - c.args.gate) c.read_ahead.new.ahead f
          (c.in_ok-read_ahead.ensures.ahead f told) left c.in_ok-read_ahead.ensures.head) c.in-Broken.ensures,
    )

pub body_of-requires-clause-piece : goal.body_of-requires-clause-piece
body_of-requires-clause-piece g c = λ f told.
    subst (λ (xs : List ℕ). IsAhead c.args.gate xs f) (sym c.as_slice-in-Open.ensures)
    (c.in_ok-read_ahead.ensures.ahead f (sym c.read_ahead.ensures.content ∙ told))

pub returns-in_err-body-in-Open-clause-broken : goal.returns-in_err-body-in-Open-clause-broken
returns-in_err-body-in-Open-clause-broken g c =
    let p = err_from_is_err_and c.from_residual-in_err-body-in-Open.result
    c.from_residual-in_err-body-in-Open.ensures.1 in
    λ q e f told.
    let size = c.requires.size f told in
    absurd (not_short (c.args.gate + 5) c.in-Open.length f (omega (arith, size, c.in-Open.ensures))
    (c.body_of.ensures.short q (carried _ _ _ _ _ c.in_err-body-in-Open.was p.1 p.2 e) f
    (c.read_ahead.ensures.content ∙ told)))

pub returns-in_ok-body-in-Open-clause-ahead : goal.returns-in_ok-body-in-Open-clause-ahead
returns-in_ok-body-in-Open-clause-ahead g c = λ f told.
    let gate : c.args.gate + (c.in-Open.length + 5) ≡ c.args.gate + length c.in_ok-body-in-Open.body + 5 =
    omega (arith, c.in_ok-body-in-Open.ensures.whole) in
    let behind = passed c.args.gate (c.in-Open.length + 5) c.read_ahead.new.ahead f
    (c.in_ok-read_ahead.ensures.ahead f told) in
    subst (λ (n : ℕ). IsAhead n c.pass.new.self f) gate
    (subst (λ (xs : List ℕ). IsAhead (c.args.gate + (c.in-Open.length + 5)) xs f) (sym c.pass.ensures) behind)

pub returns-in_ok-body-in-Open-clause-body : goal.returns-in_ok-body-in-Open-clause-body
returns-in_ok-body-in-Open-clause-body g c = λ f told.
    let size = c.requires.size f told in
    let some : 0 < c.args.size - c.args.gate = omega arith in
    let left : c.args.size - c.args.gate ≡ length f - c.args.gate = omega (arith, size) in
    open_at c.args.most c.args.gate (c.args.size - c.args.gate) f c.first_five.result.now left some
    (c.first_five.ensures ∙ ap (take 5) c.as_slice.ensures
    ∙ head_ahead c.args.gate (c.args.size - c.args.gate) c.read_ahead.new.ahead f
    (c.in_ok-read_ahead.ensures.ahead f told) left c.in_ok-read_ahead.ensures.head)
    c.in-Open.length c.in_ok-body-in-Open.body c.in-Open.ensures
    (c.in_ok-body-in-Open.ensures.octets f (c.read_ahead.ensures.content ∙ told))
