use Rattle.std.proofs.Common.{◌≡◌, true, drop}
use Rattle.mta_names.specs.Normal.{normal_text}
use Rattle.mta_name_digest.specs.Digests.{text_digest}
use Rattle.mta_name_digest.specs.Folding.{still}
use Rattle.mta_name_digest.proofs.text.text_digest.Given as goal

abbrev pub invariant-loop-c : goal.invariant-loop-c
invariant-loop-c l = (text_digest l.digest (still l.started l.waits (drop l.c-index l.text)) ≡ text_digest
    l.initial.digest (normal_text l.text)) × (l.waits ≡ true → l.started ≡ true)
