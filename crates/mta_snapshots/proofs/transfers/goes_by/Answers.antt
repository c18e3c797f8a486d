use Rattle.std.proofs.Common.{ℕ}
use Rattle.mta_machine.specs.Rules.{verdict_of}
use Rattle.mta_snapshots.proofs.Going.{first_relays}
use Rattle.mta_snapshots.proofs.transfers.goes_by.Goals as goal

pub is_copy-requires-clause-relayed : goal.is_copy-requires-clause-relayed
is_copy-requires-clause-relayed g c =
    first_relays (g.R.Rules.text c.args.rules.now)
    (λ (r : ℕ). verdict_of (g.R.Rules.format c.args.rules.now) (g.R.Rules.text c.args.rules.now) c.args.item.now.octets
    c.args.item.now.arrival r c.moment-moment.result)
    c.args.peer.now c.recipients-recipients.result.now c.in-len1-up.len_at_least
    (c.in_ok-are_relayed.ensures.0 c.if-not-branch.false)
