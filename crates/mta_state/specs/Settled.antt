-- Items whose recipients get a status.
use Rattle.std.specs.Prelude.{ℕ, List, [], ◌∷◌, Option, Some, None}
use Rattle.mta_records.specs.declared.state.Status.{Status}
use Rattle.mta_machine.specs.Items.{ItemValue, numbered, set_numbered}
use Rattle.mta_machine.specs.Machine.{with_statuses}

-- the item with this status of these recipients
abbrev pub settled : ItemValue → List ℕ → Status → ItemValue
settled item rs s = record item { statuses = with_statuses item.statuses rs s }

-- the items with a changed one, where there is one
abbrev pub put_settled : List ItemValue → ℕ → Option ItemValue → List ℕ → Status → List ItemValue
put_settled items i None rs s = items
put_settled items i (Some item) rs s = set_numbered items i (settled item rs s)

-- the items with this status of these recipients of one
abbrev pub with_settled : List ItemValue → ℕ → List ℕ → Status → List ItemValue
with_settled items i rs s = put_settled items i (numbered items i) rs s
