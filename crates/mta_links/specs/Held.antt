-- What links and stations in memory show of themselves.
use Rattle.std.specs.Prelude.{ℕ, List, Some, map}
use Rattle.mta_links.specs.Links.{LinkView, Served, Session, StationView, Talk}
use Rattle.mta_links.specs.declared.role.Role.{Role}

-- the octets both ways, the count of faults, how many calls were made, and the numbers of those that fail
pub record HeldLink : Type 0 where
  pub talk : Talk
  pub faults : ℕ
  pub calls : ℕ
  pub fail : List ℕ

abbrev pub memory_link : LinkView HeldLink
memory_link = record { talk = λ l. Some l.talk; faults = λ l. l.faults }

-- the links to come and those that came back, the count of those that are out, and the calls of `next` as above
pub record HeldStation : Type 0 where
  pub role : Role
  pub links : List HeldLink
  pub ended : List HeldLink
  pub out : ℕ
  pub faults : ℕ
  pub calls : ℕ
  pub fail : List ℕ

abbrev pub session_of : HeldLink → Session
session_of l = record { talk = l.talk; faults = l.faults }

abbrev pub served_of : HeldStation → Served
served_of s = record { to_come = map session_of s.links; over = map session_of s.ended }

abbrev pub memory_station : StationView HeldStation
memory_station = record {
  role = λ s. s.role;
  served = λ s. Some (served_of s);
  out = λ s. s.out;
  faults = λ s. s.faults;
}
