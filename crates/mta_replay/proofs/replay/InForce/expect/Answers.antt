use Rattle.std.proofs.Common.{◌≡◌, ◌+◌, ℕ, length, subst, arith}
use Rattle.mta_queue.specs.Queues.{HasRoom}
use Rattle.mta_replay.specs.declared.replay.InForce.{InForce}
use Rattle.mta_replay.proofs.Expecting.{expected}
use Rattle.mta_replay.proofs.replay.InForce.expect.Goals as goal

pub returns-clause-expected : goal.returns-clause-expected
returns-clause-expected g c =
    let old : InForce g.row.R.Denot = c.args.self.now in
    let new : InForce g.row.R.Denot =
    record old { queues = c.reserve.new.self; coming = c.in_ok-found.found.rows; read = c.in_ok-found.found.read } in
    let same : c.len.result ≡ c.len-2.result = omega (arith, c.len.ensures, c.len-2.ensures) in
    let count : c.len-2.result ≡ length c.in_ok-found.found.rows.items =
    omega (arith, c.len-2.ensures, c.in_ok-found.found.rows.ok.0) in
    expected g.R.Rules.text new c.args.change.now old.queues.words c.len-2.result c.in_ok-found.ensures.rows
    c.in_ok-reserve.ensures.words count
    (subst (λ (n : ℕ). HasRoom c.reserve.new.self.queues (n + 2)) same c.in_ok-reserve.ensures.queues)
    c.in_ok-reserve.ensures.room c.in_ok-found.ensures.goes_on c.in_ok-found.ensures.read
