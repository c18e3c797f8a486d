-- What a session knows of its lane, and the lane in the spool's state.
use Rattle.std.specs.Prelude.{◌≡◌, ◌⊎◌, ◌<◌, ◌≤◌, ℕ, Bool, true, false, List, Option, Some, None}
use Rattle.mta_lane_send.specs.declared.state.SendState.{SendState}
use Rattle.mta_lane_send.specs.declared.state.SendState.TheVariants.{Idle, Sending, Ending, Dropping}
use Rattle.mta_lane_recv.specs.declared.state.Last.{Last}
use Rattle.mta_histories.specs.Lanes.{Lane}
use Rattle.mta_histories.specs.Lanes as spool
use Rattle.mta_histories.specs.Seen.{transferred}
use Rattle.mta_session.specs.State.{State}
use Rattle.mta_session.specs.declared.phase.Phase.{Phase}
use Rattle.mta_session.specs.declared.phase.Phase.TheVariants as phase

-- What a session knows of its lane. The pieces that stand are kept beside it, since it hands them on.
pub record Known : Type 0 where
  pub lane : ℕ
  pub generation : ℕ
  pub checkpoint : ℕ
  pub window : ℕ
  pub twa : Bool
  pub agreed : Bool
  pub sending : SendState
  pub octets : List ℕ
  pub high : ℕ
  pub last : Last
  pub pieces : List (List ℕ)

abbrev pub known : State → (pieces : List (List ℕ)) → Known
known t pieces = record {
  lane = t.lane;
  generation = t.generation;
  checkpoint = t.checkpoint;
  window = t.window;
  twa = t.twa;
  agreed = t.agreed;
  sending = t.send.state;
  octets = t.send.octets;
  high = t.recv.high;
  last = t.recv.last;
  pieces = pieces;
}

-- the lane's sending half is the session's, or another worker gave up what the session sends
abbrev pub IsHalf : (known kept : SendState) → Type 0
IsHalf (Idle last) kept = kept ≡ Idle last
IsHalf (Sending k c) kept = (kept ≡ Sending k c) ⊎ (kept ≡ Dropping k)
IsHalf (Ending k c) kept = kept ≡ Ending k c
IsHalf (Dropping k) kept = kept ≡ Dropping k

-- agreed values are the lane's; before that the session has no higher ones than the lane proposes
abbrev pub IsValue : (agreed : Bool) → (known kept : ℕ) → Type 0
IsValue true known kept = kept ≡ known
IsValue false known kept = known ≤ kept

-- the lane is of the session's generation, and as the session knows it
pub record IsKnown (t : Known) (lane : Lane) : Type 0 where
  pub generation : lane.generation ≡ t.generation
  pub agreed : lane.agreed ≡ t.agreed
  pub twa : lane.twa ≡ t.twa
  pub checkpoint : IsValue t.agreed t.checkpoint lane.checkpoint
  pub window : IsValue t.agreed t.window lane.window
  pub sending : IsHalf t.sending lane.sending
  pub octets : transferred lane.transfer ≡ t.octets
  pub high : lane.high ≡ t.high
  pub last : lane.last ≡ t.last
  pub pieces : lane.pieces ≡ t.pieces

-- of a later generation, or as the session knows it
abbrev pub IsLaterOrKnown : Known → Lane → Type 0
IsLaterOrKnown t lane = (t.generation < lane.generation) ⊎ IsKnown t lane

-- a lane that is open is so
abbrev pub WhereOpen : (Lane → Type 0) → Option Lane → Type 0
WhereOpen P None = Unit {0}
WhereOpen P (Some lane) = P lane

abbrev pub MatchesLane : Known → Option Lane → Type 0
MatchesLane t lane = WhereOpen (IsLaterOrKnown t) lane

-- The lane was opened, and where it is still open and of no later generation, it is as the session knows it.
abbrev pub Matches : Known → spool.State → Type 0
Matches t s = (t.lane ≤ s.lanes.count) × MatchesLane t (spool.lane_at t.lane s.lanes.open_lanes)

-- a session that knows all of its lane, and is not about to end
abbrev pub follows_lane : Phase → Bool
follows_lane phase.PutsOpen = true
follows_lane phase.ReadsAnswer = true
follows_lane phase.AsksAgree = true
follows_lane phase.PutsAccept = true
follows_lane phase.AsksDue = true
follows_lane phase.Puts = true
follows_lane phase.Reads = true
follows_lane phase.AsksBatch = true
follows_lane phase.AsksStart = true
follows_lane phase.AsksStillIdle = true
follows_lane (phase.AsksStep step) = true
follows_lane phase.AsksState = true
follows_lane (phase.AsksSecure k n) = true
follows_lane (phase.AsksComplete k n) = true
follows_lane (phase.AsksDrop k found) = true
follows_lane phase.PutsClose = true
follows_lane phase.ReadsCloseAck = true
follows_lane _ = false

abbrev pub MatchesBy : Bool → Known → spool.State → Type 0
MatchesBy true t s = Matches t s
MatchesBy false t s = Unit {0}

-- What a worker keeps between two turns of the lock: the session and its lane match, while the session follows it.
abbrev pub MatchesIn : State → (pieces : List (List ℕ)) → spool.State → Type 0
MatchesIn t pieces s = MatchesBy (follows_lane t.phase) (known t pieces) s
