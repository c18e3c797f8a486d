-- The tables of both agents.
use Rattle.std.specs.Prelude.{ℕ, false, List, [], ◌∷◌, ◌++◌, None, codes}
use Rattle.mta_fields.specs.declared.domain.DomainFields.{DomainFields}
use Rattle.mta_tables.specs.declared.entry.Holds.{Holds}
use Rattle.mta_tables.specs.declared.entry.Mailbox.{Mailbox}
use Rattle.mta_tables.specs.declared.entry.Peer.{Peer}
use Rattle.mta_tables.specs.declared.entry.Route.{Route}
use Rattle.mta_tables.specs.declared.entry.Target.TheVariants as Targets
use Rattle.mta_tables.specs.Tables.{TablesValue}
use Rattle.mta_procedures.specs.Rows.{gold, printable, watt}

-- ---- words

-- the mailbox at the second agent
unfoldable pub mailbox : List ℕ
mailbox = codes "watt"

-- the second agent, as the first one calls it
unfoldable pub east : List ℕ
east = codes "EAST"

-- the first agent, as the second one knows it
unfoldable pub gold_1 : List ℕ
gold_1 = codes "GOLD-1"

-- ---- texts

-- the agent that sends: C=GB;A=GOLD, which is GOLD-1 to its peers, and sends to EAST what is for C=GB
unfoldable pub first_text : List ℕ
first_text =
    codes "domain C=GB;A=GOLD" ++ 10 ∷ codes "name GOLD-1" ++ 10 ∷
    codes "peer EAST from-gold from-east monologue 1 2" ++ 10 ∷ codes "route C=GB peer EAST" ++ 10 ∷ []

-- the agent that receives: C=GB;A=EAST, with the mailbox watt
unfoldable pub second_text : List ℕ
second_text =
    codes "domain C=GB;A=EAST" ++ 10 ∷ codes "name EAST" ++ 10 ∷
    codes "peer GOLD-1 from-east from-gold monologue 1 2" ++ 10 ∷
    codes "mailbox watt C=GB;A=GOLD;S=WATT" ++ 10 ∷ []

-- ---- what they say

-- pieces of 1,024 octets in a window of two, one way
abbrev pub peer_of : (name send expected : List ℕ) → Peer
peer_of name send expected = record {
  name = name;
  send_password = send;
  expected_password = expected;
  twa = false;
  checkpoint = 1;
  window = 2;
}

-- the usual times
abbrev pub holds : Holds
holds = record { urgent = 14400; normal = 86400; non_urgent = 345600 }

abbrev pub to_east : Route
to_east = record { pattern = codes "GB" ∷ []; target = Targets.Peer 0 }

abbrev pub first_tables : TablesValue
first_tables = record {
  text = first_text;
  domain = gold;
  own = codes "GOLD-1";
  peers = peer_of (codes "EAST") (codes "from-gold") (codes "from-east") ∷ [];
  mailboxes = [];
  lists = [];
  routes = to_east ∷ [];
  holds = holds;
}

-- C=GB;A=EAST
abbrev pub eastern : DomainFields
eastern = record { country = printable (codes "GB"); admd = printable (codes "EAST"); prmd = None }

abbrev pub of_watt : Mailbox
of_watt = record { word = codes "watt"; name = watt }

abbrev pub second_tables : TablesValue
second_tables = record {
  text = second_text;
  domain = eastern;
  own = codes "EAST";
  peers = peer_of (codes "GOLD-1") (codes "from-east") (codes "from-gold") ∷ [];
  mailboxes = of_watt ∷ [];
  lists = [];
  routes = [];
  holds = holds;
}
