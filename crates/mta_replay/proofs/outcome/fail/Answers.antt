use Rattle.std.proofs.Common.{ℕ, ap, ◌∙◌}
use Rattle.mta_machine.specs.Items.{numbered}
use Rattle.mta_state.specs.Kept.{state_of}
use Rattle.mta_replay.proofs.Ending.{a_transfer, an_item}
use Rattle.mta_replay.proofs.outcome.fail.Goals as goal

pub unreachable-requires : goal.unreachable-requires
unreachable-requires g c =
    a_transfer (state_of c.args.kept.now) c.args.lane c.args.opened.now c.requires.kept c.requires.opened
    c.requires.transferring c.in_default.ensures

pub unreachable-requires-in_default-item : goal.unreachable-requires-in_default-item
unreachable-requires-in_default-item g c =
    an_item (state_of c.args.kept.now) c.args.lane c.args.opened.now c.requires.kept c.requires.opened
    c.requires.transferring c.in-Some.transfer.now c.in-Some.ensures
    (c.in_default-item.ensures
    ∙ ap (λ (i : ℕ). numbered c.args.kept.now.parts.items.items i) c.item-number.ensures)
