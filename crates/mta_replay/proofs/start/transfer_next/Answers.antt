use Rattle.std.proofs.Common.{◌∙◌, ℕ, List, Option, Some, subst}
use Rattle.mta_state.specs.Kept.{state_of}
use Rattle.mta_replay.specs.Starting.{OneOf}
use Rattle.mta_replay.proofs.Starting.{transfers_next}
use Rattle.mta_replay.proofs.start.transfer_next.Goals as goal

pub returns : goal.returns
returns g c =
    transfers_next c.args.kept.now c.args.lane c.args.generation c.args.item c.args.recipients.now
    c.args.moment c.in-Some.opened.now c.in-Some.ensures c.as_slice-peer.result.now
    (g.R.Rules.text c.args.rules.now) c.in-Some-item.stored.now (g.R.Rules.format c.args.rules.now) c.in-Some-2.one
    (c.as_slice-peer.ensures.exact ∙ c.peer.ensures) c.requires.format c.requires.text c.in-Some-item.ensures
    (subst
    (λ (xs : List ℕ).
    OneOf (state_of c.args.kept.now) c.as_slice-peer.result.now c.args.moment c.args.item xs (Some c.in-Some-2.one))
    c.as_slice-numbers.ensures
    (subst
    (λ (o : Option ℕ).
    OneOf (state_of c.args.kept.now) c.as_slice-peer.result.now c.args.moment c.args.item
    c.as_slice-numbers.result.now o) c.in-Some-2.is c.in_ok-one.ensures))
    c.in_ok-transfer.transfer c.in_ok-transfer.ensures
