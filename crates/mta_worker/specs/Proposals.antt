-- What stands before an initiator's session: the lane that is opened, bound or closed, and what is proposed on it.
use Rattle.std.specs.Prelude.{◌≡◌, ◌≤◌, ◌+◌, ◌-◌, ◌^◌, ℕ, true, false, List, None, Some}
use Rattle.mta_records.specs.declared.lane.LaneRole.TheVariants.{Initiator}
use Rattle.mta_tables.specs.Tables.{TablesValue}
use Rattle.mta_histories.specs.Lanes.{Lane, State, lane_at}
use Rattle.mta_spool.specs.Looking.{IsFirstNamed}
use Rattle.mta_spool.specs.Turning.{IsLastRecorded}
use Rattle.mta_session.specs.declared.peer.Peer.{Peer}
use Rattle.mta_worker.specs.PeerLines.{line_in}
use Rattle.mta_worker.specs.Plans.{plan_to_open, plan_to_recover}
use Rattle.mta_worker.specs.declared.proposal.Next.{Next}
use Rattle.mta_worker.specs.declared.proposal.Next.TheVariants as next

-- the line of the peer in the tables of the text recorded last
pub record IsLineNow (s : State) (peer : List ℕ) (tables : TablesValue) (line : Peer) : Type 0 where
  pub recorded : IsLastRecorded s.machine (Some tables)
  pub line_is : line_in tables peer ≡ Some line

-- no tables are recorded, or those recorded last do not name the peer
pub data IsNoPeer (s : State) (peer : List ℕ) : Type 0 where
  No_tables : IsLastRecorded s.machine None → IsNoPeer s peer
  No_line : (tables : TablesValue) → IsLastRecorded s.machine (Some tables) → line_in tables peer ≡ None
      → IsNoPeer s peer

-- no lane to the peer is open that this agent opened
abbrev pub HasNone : State → (peer : List ℕ) → Type 0
HasNone s peer = IsFirstNamed Initiator peer None s.lanes.open_lanes None

-- this one is the first that is
pub record HasFirst (s : State) (peer : List ℕ) (lane : Lane) : Type 0 where
  pub number : ℕ
  pub first : IsFirstNamed Initiator peer None s.lanes.open_lanes (Some number)
  pub lane_is : lane_at number s.lanes.open_lanes ≡ Some lane

-- What comes next with the peer. An open lane is bound, or closed where its values were never agreed, and where none is
-- open the next one is opened.
pub data IsNext (s : State) (peer : List ℕ) : Next → Type 0 where
  Without : IsNoPeer s peer → IsNext s peer next.NoPeer
  Opens : (tables : TablesValue) (line : Peer) → IsLineNow s peer tables line → HasNone s peer
      → IsNext s peer (next.Open (plan_to_open tables line s.moment (s.lanes.count + 1)))
  Past_last : (tables : TablesValue) (line : Peer) → IsLineNow s peer tables line → HasNone s peer
      → 2 ^ 32 - 1 ≤ s.lanes.count → IsNext s peer (next.NoNumber s.lanes.count)
  Binds : (tables : TablesValue) (line : Peer) (lane : Lane) → IsLineNow s peer tables line → HasFirst s peer lane
      → lane.agreed ≡ true → IsNext s peer (next.Bind lane.number (plan_to_recover tables line lane.reference))
  Closes : (tables : TablesValue) (line : Peer) (lane : Lane) → IsLineNow s peer tables line → HasFirst s peer lane
      → lane.agreed ≡ false → IsNext s peer (next.Close lane.number lane.generation)
