use Rattle.std.proofs.Common.{◌≡◌, ◌++◌, take}
use Rattle.mta_ber.specs.Times.{kept}
use Rattle.mta_ber.proofs.utc.LineGathers.take.Given as goal

abbrev pub invariant-loop-octet : goal.invariant-loop-octet
invariant-loop-octet l = l.self ≡ kept (l.fn.self ++ take l.octet-index l.octet-items)
