-- What comes next with a peer that this agent calls, where a lane is open and where none is.
use Rattle.std.specs.Prelude.{ℕ, ◌+◌, ◌-◌, ◌^◌, nat_lt, if◌then◌else◌}
use Rattle.mta_tables.specs.Tables.{TablesValue}
use Rattle.mta_histories.specs.Lanes.{Lane}
use Rattle.mta_session.specs.declared.peer.Peer.{Peer}
use Rattle.mta_worker.specs.Plans.{IsPlan, plan_to_open, plan_to_recover}
use Rattle.mta_worker.specs.declared.proposal.Next.{Next}
use Rattle.mta_worker.specs.declared.proposal.Next.TheVariants as next

-- a lane that is open
abbrev pub next_of_lane : TablesValue → Peer → Lane → Next
next_of_lane tables line lane =
    if lane.agreed then next.Bind lane.number (plan_to_recover tables line lane.reference)
    else next.Close lane.number lane.generation

-- none is open, and the last one had this number
abbrev pub next_of_none : TablesValue → Peer → (moment last : ℕ) → Next
next_of_none tables line moment last =
    if nat_lt last (2 ^ 32 - 1) then next.Open (plan_to_open tables line moment (last + 1)) else next.NoNumber last

-- what is proposed may be written in an Open, and its values are in their ranges
abbrev pub IsProposed : Next → Type 0
IsProposed (next.Bind lane plan) = IsPlan plan
IsProposed (next.Open plan) = IsPlan plan
IsProposed _ = Unit {0}
