-- The last item.
use Rattle.std.specs.Prelude.{ℕ, ◌-◌, List, [], length, Option, Some, None, slice_get}
use Rattle.mta_machine.specs.Items.{ItemValue}

abbrev pub octets_at : Option ItemValue → List ℕ
octets_at None = []
octets_at (Some item) = item.octets

-- the octets of the last item; none where there is no item
abbrev pub last_octets : List ItemValue → List ℕ
last_octets items = octets_at (slice_get items (length items - 1))
