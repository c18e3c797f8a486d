-- Which mailbox is named where the tables recorded last are known, and where none were recorded.
use Rattle.std.proofs.Common.{◌≡◌, ℕ, List, [], length, Some, None, ap}
use Rattle.std.specs.Prelude.{option_and_then}
use Rattle.mta_machine.specs.Items.{numbered}
use Rattle.mta_machine.specs.Machine.{last_tables}
use Rattle.mta_histories.specs.Lanes.{State}
use Rattle.mta_commands.specs.Causes.{mailbox_in, mailbox_named}

pub named_under : (s : State) (name text : List ℕ) → numbered s.machine.tables (last_tables s.machine) ≡ Some text
    → mailbox_named s name ≡ mailbox_in name text
named_under s name text e = ap (option_and_then (mailbox_in name)) e

pub none_named : (s : State) (name : List ℕ) → s.machine.tables ≡ [] → mailbox_named s name ≡ None
none_named s name e = ap (λ (ts : List (List ℕ)). option_and_then (mailbox_in name) (numbered ts (length ts))) e
