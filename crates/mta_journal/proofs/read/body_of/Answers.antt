use Rattle.std.proofs.Common.{◌≡◌, ◌+◌, ◌-◌, ℕ, take, drop, ap, ◌∙◌, arith}
use Rattle.mta_journal.proofs.Reading.{body_there}
use Rattle.mta_journal.proofs.read.body_of.Goals as goal

pub returns-then-end-piece-clause-octets : goal.returns-then-end-piece-clause-octets
returns-then-end-piece-clause-octets g c = λ f told.
    let count : c.args.count + 5 - 5 ≡ c.args.count = omega arith in
    c.in_ok-body.ensures ∙ ap (λ (n : ℕ). take n (drop 5 c.args.piece.now)) count
    ∙ body_there c.args.gate c.args.count f c.args.piece.now (c.requires.piece f told)
    (omega (arith, c.if-end-piece.true))
