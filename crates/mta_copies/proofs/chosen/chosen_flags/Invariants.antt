use Rattle.std.proofs.Common.{◌≡◌, length, take}
use Rattle.mta_copies.specs.Flags.{AreFlags}
use Rattle.mta_copies.proofs.chosen.chosen_flags.Given as goal

abbrev pub invariant-loop-position : goal.invariant-loop-position
invariant-loop-position l = AreFlags (take l.position-index l.chosen) l.flags.items × (length l.flags.items ≡ l.count)
