-- What the tables of both agents say of the other one, as a session is told it.
use Rattle.std.specs.Prelude.{ℕ, Bool, false, List, codes}
use Rattle.mta_records.specs.Reference.{Identifier}
use Rattle.mta_session.specs.declared.event.InitiatorPlan.{InitiatorPlan}
use Rattle.mta_session.specs.declared.peer.Peer.{Peer}
use Rattle.mta_drill_laws.specs.Tables.{east, gold_1}

-- pieces of 1,024 octets in a window of two, one way
abbrev pub line_of : (name send expected : List ℕ) → Peer
line_of name send expected = record {
  name = name;
  send_password = send;
  expected_password = expected;
  twa = false;
  checkpoint = 1;
  window = 2;
}

-- the second agent, as the first one knows it
abbrev pub line_of_second : Peer
line_of_second = line_of east (codes "from-gold") (codes "from-east")

-- and the first one, as the second one does
abbrev pub line_of_first : Peer
line_of_first = line_of gold_1 (codes "from-east") (codes "from-gold")

-- what the first agent proposes on its lane of this reference and generation, which is new or recovered
abbrev pub plan_on : Identifier → (recovering : Bool) → (generation : ℕ) → InitiatorPlan
plan_on reference recovering generation = record {
  own = gold_1;
  peer = east;
  lane = 1;
  generation = generation;
  recovering = recovering;
  reference = reference;
  checkpoint = 1;
  window = 2;
  twa = false;
  send_password = codes "from-gold";
  expected_password = codes "from-east";
}
