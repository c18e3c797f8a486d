use Rattle.std.proofs.Common.{ℕ, List, map, ap, ◌∙◌}
use Rattle.mta_state.specs.Kept.{state_of}
use Rattle.mta_replay.specs.Changes.{sent_one}
use Rattle.mta_replay.proofs.Ending.{a_transfer, sent_makes}
use Rattle.mta_replay.proofs.outcome.sent.Goals as goal

pub unreachable-requires : goal.unreachable-requires
unreachable-requires c =
    a_transfer (state_of c.args.kept.now) c.args.lane c.args.opened.now c.requires.kept c.requires.opened
    c.requires.transferring c.in_default.ensures

pub returns : goal.returns
returns c =
    sent_makes c.args.kept.now c.args.lane c.args.moment c.args.opened.now c.args.activity c.in-Some.transfer.now
    c.item.result c.peer.result.now c.in_ok-settlements.settlements c.last_first.result c.requires.kept
    c.requires.opened c.requires.transferring c.in-Some.ensures c.item.ensures c.peer.ensures
    (c.in_ok-settlements.ensures
    ∙ ap (λ (rs : List ℕ). map (sent_one c.peer.result.now c.args.moment) rs) c.recipients.ensures)
    c.last_first.ensures c.requires.numbers
