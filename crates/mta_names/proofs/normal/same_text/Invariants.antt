use Rattle.std.proofs.Common.{◌≡◌, false, length}
use Rattle.std.specs.Str.{bytes_eq}
use Rattle.mta_names.specs.Normal.{unspaced, squeezed}
use Rattle.mta_names.proofs.normal.same_text.Given as goal

abbrev pub invariant-loop-c : goal.invariant-loop-c
invariant-loop-c l = bytes_eq (squeezed false l.left) (squeezed false l.right) ≡ bytes_eq
    (squeezed false (unspaced l.first)) (squeezed false (unspaced l.second))

abbrev pub decreases-loop-c : goal.decreases-loop-c
decreases-loop-c l = length l.left
