use Rattle.std.proofs.Common.{◌≡◌, take}
use Rattle.mta_edge.specs.Tears.{others}
use Rattle.mta_edge.proofs.tear.inverted.Given as goal

abbrev pub invariant-loop-octet : goal.invariant-loop-octet
invariant-loop-octet l = l.inverted.items ≡ others (take l.octet-index l.bytes)
