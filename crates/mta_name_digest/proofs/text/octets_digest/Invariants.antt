use Rattle.std.proofs.Common.{◌≡◌, drop}
use Rattle.mta_name_digest.specs.Digests.{text_digest}
use Rattle.mta_name_digest.proofs.text.octets_digest.Given as goal

abbrev pub invariant-loop-c : goal.invariant-loop-c
invariant-loop-c l = text_digest l.digest (drop l.c-index l.octets) ≡ text_digest l.initial.digest l.octets
