-- The lines of peers in tables.
use Rattle.std.specs.Prelude.{ℕ, List, Option, IsTrue, All, option_and_then, option_map, slice_get}
use Rattle.mta_tables.specs.declared.entry.Peer.{Peer as Entry}
use Rattle.mta_tables.specs.Tables.{TablesValue, peer_of}
use Rattle.mta_tables.specs.Words.{is_password, is_word}
use Rattle.mta_session.specs.declared.peer.Peer.{Peer}
use Rattle.mta_session.specs.Fits.{ValuesFit}

-- a line, as a session is told it
abbrev pub line_of : Entry → Peer
line_of p = record {
  name = p.name;
  send_password = p.send_password;
  expected_password = p.expected_password;
  twa = p.twa;
  checkpoint = p.checkpoint;
  window = p.window;
}

-- the line of the name in tables
abbrev pub line_in : TablesValue → List ℕ → Option Peer
line_in t name = option_map line_of (option_and_then (slice_get t.peers) (peer_of t name))

-- the name is a word, the passwords are passwords, and the values are in their ranges
pub record IsLine (p : Peer) : Type 0 where
  pub name : IsTrue (is_word p.name)
  pub send : IsTrue (is_password p.send_password)
  pub expected : IsTrue (is_password p.expected_password)
  pub values : ValuesFit p.checkpoint p.window

abbrev pub IsEntry : Entry → Type 0
IsEntry p = IsLine (line_of p)

-- the own name is a word, and each peer has such a line
pub record HaveLines (t : TablesValue) : Type 0 where
  pub own : IsTrue (is_word t.own)
  pub peers : All IsEntry t.peers
