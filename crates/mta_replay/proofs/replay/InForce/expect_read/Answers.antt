use Rattle.std.proofs.Common.{◌≡◌, ◌+◌, ℕ, length, None, subst, arith}
use Rattle.mta_queue.specs.Queues.{HasRoom}
use Rattle.mta_state.specs.declared.change.Change.TheVariants.{Accept}
use Rattle.mta_replay.specs.declared.replay.InForce.{InForce}
use Rattle.mta_replay.proofs.Expecting.{expected}
use Rattle.mta_replay.proofs.replay.InForce.expect_read.Goals as goal

pub returns-clause-expected : goal.returns-clause-expected
returns-clause-expected g c = λ moment.
    let old : InForce g.row.R.Denot = c.args.self.now in
    let new : InForce g.row.R.Denot =
    record old { queues = c.reserve.new.self; coming = c.in_ok-rows.rows; read = None } in
    let same : c.len.result ≡ c.len-2.result = omega (arith, c.len.ensures, c.len-2.ensures) in
    let count : c.len-2.result ≡ length c.in_ok-rows.rows.items =
    omega (arith, c.len-2.ensures, c.in_ok-rows.rows.ok.0) in
    expected g.R.Rules.text new (Accept c.args.item.now moment) old.queues.words c.len-2.result c.in_ok-rows.ensures
    c.in_ok-reserve.ensures.words count
    (subst (λ (n : ℕ). HasRoom c.reserve.new.self.queues (n + 2)) same c.in_ok-reserve.ensures.queues)
    c.in_ok-reserve.ensures.room tt tt
