use Rattle.std.proofs.Common.{◌≡◌, true, false, List, subst}
use Rattle.std.specs.Prelude.{◌↔◌}
use Rattle.std.specs.List.{AllByRecursion}
use Rattle.mta_records.specs.declared.state.MailboxLine.{MailboxLine}
use Rattle.mta_histories.specs.Sound.{IsSoundLine}
use Rattle.mta_state.specs.Kept.{state_of}
use Rattle.mta_snapshots.proofs.Each.{all_still, all_never, all_done}
use Rattle.mta_snapshots.proofs.lines.are_lines.Goals as goal

pub loop-line-preserved : goal.loop-line-preserved
loop-line-preserved c =
    all_still (IsSoundLine (state_of c.args.kept.now)) c.as_slice-line-items.result.now c.loop-line.line-index
    c.line-item.result c.is_line.result c.loop-line-test.true c.line-item.is
    c.is_line.ensures
    c.if-not-is_line.false c.loop-line.invariant

pub returns-then-not-is_line : goal.returns-then-not-is_line
returns-then-not-is_line c =
    subst (λ (xs : List MailboxLine). (false ≡ true) ↔ AllByRecursion (IsSoundLine (state_of c.args.kept.now)) xs)
    c.as_slice-line-items.ensures.value
    (all_never (IsSoundLine (state_of c.args.kept.now)) c.as_slice-line-items.result.now c.loop-line.line-index
    c.line-item.result c.is_line.result c.loop-line-test.true c.line-item.is
    c.is_line.ensures
    c.if-not-is_line.true c.loop-line.invariant)

pub returns : goal.returns
returns c =
    subst (λ (xs : List MailboxLine). (true ≡ true) ↔ AllByRecursion (IsSoundLine (state_of c.args.kept.now)) xs)
    c.as_slice-line-items.ensures.value
    (all_done (IsSoundLine (state_of c.args.kept.now)) c.as_slice-line-items.result.now c.loop-line.line-index
    c.loop-line-test.false c.loop-line.invariant)
