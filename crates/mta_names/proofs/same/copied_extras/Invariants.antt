use Rattle.std.proofs.Common.{◌≡◌, take}
use Rattle.mta_names.proofs.same.copied_extras.Given as goal

abbrev pub invariant-loop-extra : goal.invariant-loop-extra
invariant-loop-extra l = l.row ≡ take l.extra-index l.extras
