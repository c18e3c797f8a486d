use Rattle.std.proofs.Common.{◌≡◌, take}
use Rattle.std.specs.List.{flat_map}
use Rattle.mta_ber.specs.Canon.{appended}
use Rattle.mta_fields.specs.Expansions.{canonical_expansion}
use Rattle.mta_lists.proofs.history.put_expansions.Given as goal

abbrev pub invariant-loop-expansion : goal.invariant-loop-expansion
invariant-loop-expansion l =
    l.w ≡ appended l.initial.w (flat_map canonical_expansion (take l.expansion-index l.history))
