-- The own name by the tables recorded last.
use Rattle.std.proofs.Common.{◌≡◌, ℕ, List, [], length, Option, Some, None, sym, ap, ◌∙◌}
use Rattle.std.specs.Option.{option_map, option_and_then}
use Rattle.mta_machine.specs.Items.{Machine, numbered}
use Rattle.mta_machine.specs.Machine.{last_tables}
use Rattle.mta_machine.specs.Rules.{tables_value}
use Rattle.mta_audit_run.specs.Audit.{own_by, own_in}

-- these tables were recorded last
pub own_last : (m : Machine) (text own : List ℕ) → numbered m.tables (last_tables m) ≡ Some text
    → Some own ≡ option_map own_in (tables_value text) → Some own ≡ own_by m
own_last m text own last is =
    is ∙ ap (λ (t : Option (List ℕ)). option_map own_in (option_and_then tables_value t)) (sym last)

-- none were recorded
pub own_none : (m : Machine) → m.tables ≡ [] → ◌≡◌ {A = Option (List ℕ)} None (own_by m)
own_none m none =
    ap (λ (ts : List (List ℕ)). option_map own_in (option_and_then tables_value (numbered ts (length ts)))) (sym none)

pub ruleset own_laws = (own_last, own_none)
