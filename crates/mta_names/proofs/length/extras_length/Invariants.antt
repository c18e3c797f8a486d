use Rattle.mta_names.specs.Extensions.{canonical_extra}
use Rattle.mta_names.proofs.LengthLaws.{IsToldTo}
use Rattle.mta_names.proofs.length.extras_length.Given as goal

abbrev pub invariant-loop-extra : goal.invariant-loop-extra
invariant-loop-extra l = IsToldTo canonical_extra l.extras l.extra-index l.total
