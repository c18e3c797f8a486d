-- The line of a peer in the tables recorded last.
use Rattle.std.specs.Prelude.{List, ℕ, Option, option_and_then}
use Rattle.mta_tables.specs.Tables.{TablesValue}
use Rattle.mta_machine.specs.Items.{Machine, numbered}
use Rattle.mta_machine.specs.Machine.{last_tables}
use Rattle.mta_machine.specs.Rules.{tables_value}
use Rattle.mta_session.specs.declared.peer.Peer.{Peer}
use Rattle.mta_worker.specs.PeerLines.{line_in}

-- the line of the name in the tables recorded last; none where none are recorded
abbrev pub line_now : Machine → List ℕ → Option Peer
line_now m name =
    option_and_then (λ (t : TablesValue). line_in t name)
    (option_and_then tables_value (numbered m.tables (last_tables m)))
