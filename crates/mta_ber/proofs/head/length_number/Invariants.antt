use Rattle.std.proofs.Common.{◌≡◌, ◌<◌, ◌^◌, take}
use Rattle.mta_ber.specs.Head.{base}
use Rattle.mta_ber.proofs.head.length_number.Given as goal

abbrev pub invariant-loop-octet : goal.invariant-loop-octet
invariant-loop-octet l = record {
  value : l.n ≡ base 256 (take l.octet-index l.octets);
  below : l.n < 256 ^ l.octet-index;
}
