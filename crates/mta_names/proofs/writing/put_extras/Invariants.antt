use Rattle.mta_names.specs.Extensions.{canonical_extra}
use Rattle.mta_names.proofs.Written.{Left}
use Rattle.mta_names.proofs.writing.put_extras.Given as goal

abbrev pub invariant-loop-extra : goal.invariant-loop-extra
invariant-loop-extra l = Left canonical_extra l.fn.w l.extras l.extra-index l.w
