use Rattle.std.proofs.Common.{◌≡◌, true, List, sym, subst}
use Rattle.std.specs.Prelude.{◌↔◌}
use Rattle.mta_histories.specs.Kept.{AreNumbered, IsDroppedReported}
use Rattle.mta_histories.specs.Lanes.{EachLane, Lane}
use Rattle.mta_histories.specs.Sound.{AreApart}
use Rattle.mta_state.specs.Kept.{state_of}
use Rattle.mta_state.specs.Parts.{machine_of}
use Rattle.mta_snapshots.proofs.Beginning.{listed_is, listed_not}
use Rattle.mta_snapshots.proofs.fits.are_listed.Goals as goal

pub returns-then-not-are_numbered : goal.returns-then-not-are_numbered
returns-then-not-are_numbered c =
    listed_not (state_of c.args.kept.now) (AreNumbered 0 c.as_slice-lanes.result.now c.args.kept.now.lanes.count)
    c.are_numbered.result c.are_numbered.ensures c.if-not-are_numbered.true
    (λ listed. subst (λ (ls : List Lane). AreNumbered 0 ls c.args.kept.now.lanes.count)
    (sym c.as_slice-lanes.ensures.value)
    listed.numbered_lanes)

pub returns-then-not-are_apart : goal.returns-then-not-are_apart
returns-then-not-are_apart c =
    listed_not (state_of c.args.kept.now) (AreApart c.as_slice-lanes.result.now)
    c.are_apart.result c.are_apart.ensures c.if-not-are_apart.true
    (λ listed. subst AreApart (sym c.as_slice-lanes.ensures.value) listed.apart)

pub returns : goal.returns
returns c =
    let same = c.as_slice-lanes.ensures.value in
    listed_is (state_of c.args.kept.now) c.are_settled.result (c.is_recorded.ensures.0 c.if-not-is_recorded.false)
    (c.are_lines.ensures.0 c.if-not-are_lines.false)
    (subst (λ (ls : List Lane). AreNumbered 0 ls c.args.kept.now.lanes.count) same
    (c.are_numbered.ensures.0 c.if-not-are_numbered.false))
    (c.are_few.ensures.0 c.if-not-are_few.false)
    (subst AreApart same (c.are_apart.ensures.0 c.if-not-are_apart.false))
    (subst
    (λ (ls : List Lane).
    (c.are_settled.result ≡ true) ↔ EachLane (IsDroppedReported (machine_of c.args.kept.now.parts)) ls)
    same c.are_settled.ensures)
