-- How the statuses of an item are held: one by itself, or in a list.
use Rattle.std.specs.Prelude.{List, [], ◌∷◌, Option}
use Rattle.mta_records.specs.declared.state.Status.{Status}
use Rattle.mta_machine.specs.Items.{AreSettled}
use Rattle.mta_machine.specs.declared.item.Held.{Held}
use Rattle.mta_machine.specs.declared.item.Held.TheVariants.{One, Many}

-- the statuses
abbrev pub statuses_in : Held → List (Option Status)
statuses_in (One status) = status ∷ []
statuses_in (Many statuses settled) = statuses.items

-- so many of the first in a list are not pending
abbrev pub IsKnown : Held → Type 0
IsKnown (One status) = Unit {0}
IsKnown (Many statuses settled) = AreSettled statuses.items settled
