-- What the session of a lane proposes.
use Rattle.std.specs.Prelude.{ℕ, Bool, true, false, List, Some}
use Rattle.mta_records.specs.Reference.{Identifier, identifier}
use Rattle.mta_procedures.specs.Reports.{digits}
use Rattle.mta_tables.specs.Tables.{TablesValue}
use Rattle.mta_session.specs.declared.event.InitiatorPlan.{InitiatorPlan}
use Rattle.mta_session.specs.declared.peer.Peer.{Peer}
use Rattle.mta_session.specs.Fits.{ValuesFit}
use Rattle.mta_session_laws.specs.Writing.{CanOpen}
use Rattle.mta_worker.specs.Names.{name_shown}

-- what is proposed on a line, before the lane is known
abbrev pub plan_of : (own : List ℕ) → Peer → Identifier → (recovering : Bool) → InitiatorPlan
plan_of own p reference recovering = record {
  own = own;
  peer = p.name;
  lane = 0;
  generation = 0;
  recovering = recovering;
  reference = reference;
  checkpoint = p.checkpoint;
  window = p.window;
  twa = p.twa;
  send_password = p.send_password;
  expected_password = p.expected_password;
}

-- the reference of a new lane: the own name, a moment, and the lane's number in ten decimal digits
abbrev pub new_reference : (own : List ℕ) → (moment lane : ℕ) → Identifier
new_reference own moment lane = identifier own moment (Some (digits 10 lane))

-- a new lane
abbrev pub plan_to_open : TablesValue → Peer → (moment lane : ℕ) → InitiatorPlan
plan_to_open t p moment lane = plan_of t.own p (new_reference t.own moment lane) false

-- a lane that is open
abbrev pub plan_to_recover : TablesValue → Peer → Identifier → InitiatorPlan
plan_to_recover t p reference = plan_of (name_shown t.own reference) p reference true

-- the same for a lane and its generation
abbrev pub on_lane : InitiatorPlan → (lane generation : ℕ) → InitiatorPlan
on_lane p lane generation = record p { lane = lane; generation = generation }

-- it may be written in an Open, and its values are in their ranges
pub record IsPlan (p : InitiatorPlan) : Type 0 where
  pub opens : CanOpen p
  pub values : ValuesFit p.checkpoint p.window
