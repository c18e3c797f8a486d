use Rattle.mta_names.specs.Lists.{canonical_printable}
use Rattle.mta_names.proofs.Written.{Left}
use Rattle.mta_names.proofs.writing.put_printables.Given as goal

abbrev pub invariant-loop-text : goal.invariant-loop-text
invariant-loop-text l = Left canonical_printable l.fn.w l.texts l.text-index l.w
