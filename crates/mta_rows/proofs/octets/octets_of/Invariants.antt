use Rattle.std.proofs.Common.{map, take}
use Rattle.mta_rows.specs.Texts.{Joined, SpellsWord}
use Rattle.mta_rows.proofs.octets.octets_of.Given as goal

abbrev pub invariant-loop-word : goal.invariant-loop-word
invariant-loop-word l = Joined SpellsWord (map (λ x. x.now) (take l.word-index l.word-items)) l.octets.items
