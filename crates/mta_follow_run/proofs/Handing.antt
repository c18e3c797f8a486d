-- What comes of the objects does not hang on the words.
use Rattle.std.proofs.Common.{ℕ, List, [], Result}
use Rattle.mta_edge.specs.Views.{DiskView}
use Rattle.mta_links.specs.Links.{LinkView, StationView}
use Rattle.mta_follow_run.specs.Outcome.{Follow, Push, followed, handed, not_opened, not_pushed, was_pushed}
use Rattle.mta_follow_run.specs.declared.stop.Stop.{Stop}

module _ {D L S : Type 0} (words : List (List ℕ)) (disks : DiskView D) (links : LinkView L) (stations : StationView S)
    (disk after : D) (station later : S) where
  pub follow_for : (count : ℕ) (ended : Result Unit Stop)
      → Follow (handed [] disks links stations disk after station later) count ended
      → Follow (handed words disks links stations disk after station later) count ended
  follow_for count ended (not_opened stop none zero_is same) = not_opened stop none zero_is same
  follow_for count ended (followed kept opened closed result s is over) = followed kept opened closed result s is over

  pub push_for : (result : Result ℕ Stop) → Push (handed [] disks links stations disk after station later) result
      → Push (handed words disks links stations disk after station later) result
  push_for result (not_pushed stop none same) = not_pushed stop none same
  push_for result (was_pushed bodies r spool over) = was_pushed bodies r spool over
