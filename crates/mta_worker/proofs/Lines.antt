-- The line of a name in the tables recorded last is that in the tables of their text.
use Rattle.std.proofs.Common.{◌≡◌, ℕ, List, Option, Some, ap, ◌∙◌}
use Rattle.std.specs.Prelude.{option_and_then}
use Rattle.mta_tables.specs.Tables.{TablesValue}
use Rattle.mta_machine.specs.Items.{Machine, numbered}
use Rattle.mta_machine.specs.Machine.{last_tables}
use Rattle.mta_machine.specs.Rules.{tables_value}
use Rattle.mta_worker.specs.PeerLines.{line_in}
use Rattle.mta_worker.specs.Lines.{line_now}

pub line_at : (m : Machine) (name : List ℕ) (t : TablesValue) → numbered m.tables (last_tables m) ≡ Some t.text
    → tables_value t.text ≡ Some t → line_now m name ≡ line_in t name
line_at m name t at reads =
    ap (λ (o : Option (List ℕ)). option_and_then (λ (u : TablesValue). line_in u name)
    (option_and_then tables_value o)) at
    ∙ ap (λ (o : Option TablesValue). option_and_then (λ (u : TablesValue). line_in u name) o) reads
