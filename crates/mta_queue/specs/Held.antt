-- How the recipients of an item are held: none, one, or more in a list.
use Rattle.std.specs.Prelude.{List, [], ◌∷◌, true, false}
use Rattle.mta_queue.specs.declared.mark.Mark.{Mark}
use Rattle.mta_queue.specs.declared.mark.Held.{Held}
use Rattle.mta_queue.specs.declared.mark.Held.TheVariants.{Nobody, Resting, Waiting, Many}

-- the recipients
abbrev pub marks_of : Held → List Mark
marks_of Nobody = []
marks_of (Resting route) = record { route = route; waits = false } ∷ []
marks_of (Waiting route) = record { route = route; waits = true } ∷ []
marks_of (Many marks) = marks.value.items
