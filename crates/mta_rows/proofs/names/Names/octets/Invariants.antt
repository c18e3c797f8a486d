use Rattle.std.proofs.Common.{map, take}
use Rattle.mta_rows.specs.Named.{MeansWord}
use Rattle.mta_rows.specs.Texts.{Joined}
use Rattle.mta_rows.proofs.names.Names.octets.Given as goal

abbrev pub invariant-loop-word : goal.invariant-loop-word
invariant-loop-word l =
    Joined (MeansWord l.self.all.items) (map (λ x. x.now) (take l.word-index l.word-items)) l.octets.items
