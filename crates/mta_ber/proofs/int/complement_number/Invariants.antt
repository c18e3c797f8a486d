use Rattle.std.proofs.Common.{◌≡◌, ◌<◌, ◌^◌, ◌-◌, take, map}
use Rattle.mta_ber.specs.Head.{base}
use Rattle.mta_ber.proofs.int.complement_number.Given as goal

abbrev pub invariant-loop-octet : goal.invariant-loop-octet
invariant-loop-octet l = record {
  value : l.n ≡ base 256 (map (λ x. 255 - x) (take l.octet-index l.octets));
  below : l.n < 256 ^ l.octet-index;
}
