use Rattle.mta_names.specs.Lists.{canonical_printable}
use Rattle.mta_names.proofs.LengthLaws.{IsToldTo}
use Rattle.mta_names.proofs.length.printables_length.Given as goal

abbrev pub invariant-loop-text : goal.invariant-loop-text
invariant-loop-text l = IsToldTo canonical_printable l.texts l.text-index l.total
