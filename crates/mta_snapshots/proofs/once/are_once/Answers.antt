use Rattle.std.proofs.Common.{◌≡◌, ◌∙◌, true, Bool, List, map, ap, subst}
use Rattle.std.specs.Prelude.{◌↔◌}
use Rattle.mta_machine.specs.Items.{ItemValue}
use Rattle.mta_histories.specs.Lanes.{Lane}
use Rattle.mta_state.specs.Kept.{state_of}
use Rattle.mta_snapshots.specs.Marks.{AreOnceAmong, marks_in}
use Rattle.mta_snapshots.proofs.Taking.{once_is}
use Rattle.mta_snapshots.proofs.once.are_once.Goals as goal

pub returns : goal.returns
returns c =
    once_is c.take_each.result (state_of c.args.kept.now)
    (subst
    (λ (ms : List (List Bool)). (c.take_each.result ≡ true) ↔ AreOnceAmong ms c.args.kept.now.lanes.open_lanes.items)
    (c.in_ok-marks.ensures ∙ ap (λ (xs : List ItemValue). map marks_in xs) c.as_slice.ensures.value)
    (subst (λ (ls : List Lane). (c.take_each.result ≡ true) ↔ AreOnceAmong c.in_ok-marks.marks ls)
    c.as_slice-2.ensures.value c.take_each.ensures))
