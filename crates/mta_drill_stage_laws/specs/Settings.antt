-- What is the same all through a session of a drill, and what both agents hold in it.
use Rattle.std.specs.Prelude.{◌≡◌, ◌<◌, ◌≤◌, ℕ, zero, suc, ◌+◌, ◌*◌, ◌^◌, Bool, true, false, List, [], ◌∷◌, ◌++◌}
use Rattle.std.specs.Prelude.{length, Option, None, Some}
use Rattle.mta_units.specs.declared.unit.Unit.{Unit as AnyUnit}
use Rattle.mta_units.specs.declared.unit.Unit.TheVariants as unit
use Rattle.mta_units.specs.declared.unit.OpenUnit.{OpenUnit}
use Rattle.mta_lane_send.specs.declared.state.SendState.{SendState}
use Rattle.mta_lane_send.specs.declared.state.SendState.TheVariants as state
use Rattle.mta_lane_recv.specs.declared.state.Last.{Last}
use Rattle.mta_lane_recv.specs.declared.state.Last.TheVariants as last
use Rattle.mta_transfer_rules.specs.Pieces.{piece_of}
use Rattle.mta_transfer_rules.specs.Sending as s
use Rattle.mta_transfer_rules.specs.Sending.{SendEnd, SendStage}
use Rattle.mta_transfer_rules.specs.Receiving as r
use Rattle.mta_transfer_rules.specs.Receiving.{RecvEnd, RecvStage}
use Rattle.mta_records.specs.Reference.{Identifier}
use Rattle.mta_records.specs.declared.lane.LaneRole.TheVariants.{Initiator, Responder}
use Rattle.mta_histories.specs.Lanes.{Lane, Transfer}
use Rattle.mta_histories.specs.Lanes.{State as SpoolState}
use Rattle.mta_session.specs.declared.event.Action.{Action}
use Rattle.mta_session.specs.declared.event.Side.TheVariants as side
use Rattle.mta_session.specs.declared.phase.Phase.{Phase}
use Rattle.mta_session.specs.declared.phase.Phase.TheVariants as phase
use Rattle.mta_session.specs.State.{State}
use Rattle.mta_session_next_laws.specs.Next.{next_of_sender}
use Rattle.mta_drill_text.specs.declared.breaks.Break.TheVariants.{BehindConfirm, BehindComplete}
use Rattle.mta_drill_text.specs.Breaks.{break_of, breaks_up_to}
use Rattle.mta_drill_laws.specs.Messages.{copy_of}
use Rattle.mta_drill_laws.specs.Tables.{east, gold_1}
use Rattle.mta_drill_step_laws.specs.First.{HasAccepted}
use Rattle.mta_drill_step_laws.specs.Second.{HasGot}
use Rattle.mta_drill_stage_laws.specs.Breaks.{Breaks}
use Rattle.mta_drill_stage_laws.specs.Lines.{line_of_first, plan_on}
use Rattle.mta_drill_stage_laws.specs.World.{Party}

-- how many messages were before and how many are sent; the lane's reference and its generation in this session, which
-- is new or recovered, and what the listener was asked; how many messages were delivered and sent before this session,
-- and how often the link was broken
pub record Setting : Type 0 where
  pub before : ℕ
  pub count : ℕ
  pub reference : Identifier
  pub generation : ℕ
  pub recovering : Bool
  pub opened : OpenUnit
  pub given : ℕ
  pub since : ℕ
  pub broken : ℕ

-- their numbers are those of a drill
pub record IsSized (x : Setting) : Type 0 where
  pub few : x.count ≤ 1000
  pub small : x.before + x.count < 2 ^ 32
  pub young : x.generation < 2 ^ 32

-- ---- sessions

-- a sending half over a link, of pieces of 1,024 octets in a window of two
abbrev pub half_at : SendState → List ℕ → SendStage → SendEnd
half_at st octets z = record {
  state = st;
  octets = octets;
  size = 1024;
  window = 2;
  accepted = true;
  stage = z;
  heard = None;
}

-- the session of the first agent once the lane is open
abbrev pub caller : Setting → (left : ℕ) → Phase → SendEnd → State
caller x left p e = record {
  phase = p;
  left = left;
  side = side.Initiator (plan_on x.reference x.recovering x.generation);
  opened = None;
  line = None;
  lane = 1;
  generation = x.generation;
  checkpoint = 1;
  window = 2;
  twa = false;
  agreed = true;
  ours = true;
  please = false;
  send = e;
  recv = record { high = 0; last = last.None; stage = r.Free; from = 0; acked = 0 };
}

-- and that of the second one
abbrev pub listener : Setting → (left : ℕ) → Phase → RecvEnd → State
listener x left p f = record {
  phase = p;
  left = left;
  side = side.Responder east;
  opened = Some x.opened;
  line = Some line_of_first;
  lane = 1;
  generation = x.generation;
  checkpoint = 1;
  window = 2;
  twa = false;
  agreed = true;
  ours = false;
  please = false;
  send = half_at (state.Idle 0) [] s.Quiet;
  recv = f;
}

-- ---- spools

-- the lane at the first agent
abbrev pub first_lane : Setting → SendState → Option Transfer → Lane
first_lane x st transfer = record {
  number = 1;
  role = Initiator;
  peer = east;
  reference = x.reference;
  checkpoint = 1;
  window = 2;
  twa = false;
  agreed = true;
  generation = x.generation;
  sending = st;
  transfer = transfer;
  high = 0;
  last = last.None;
  pieces = [];
}

-- and at the second one
abbrev pub second_lane : Setting → (high : ℕ) → Last → List (List ℕ) → Lane
second_lane x high l pieces = record {
  number = 1;
  role = Responder;
  peer = gold_1;
  reference = x.reference;
  checkpoint = 1;
  window = 2;
  twa = false;
  agreed = true;
  generation = x.generation;
  sending = state.Idle 0;
  transfer = None;
  high = high;
  last = l;
  pieces = pieces;
}

-- all messages are accepted and so many of them sent, and this is the sending half of the lane
pub record FirstHolds (x : Setting) (s : SpoolState) (done : ℕ) (st : SendState) (transfer : Option Transfer)
    : Type 0 where
  pub lanes : s.lanes.open_lanes ≡ first_lane x st transfer ∷ []
  pub accepted : HasAccepted x.before x.count done s.machine
  pub moment : s.moment ≡ 0

-- so many messages came, and this is the receiving half of the lane, with its pieces
pub record SecondHolds (x : Setting) (s : SpoolState) (got high : ℕ) (l : Last)
    (pieces : List (List ℕ)) : Type 0 where
  pub lanes : s.lanes.open_lanes ≡ second_lane x high l pieces ∷ []
  pub has : HasGot x.before got x.given s.machine
  pub moment : s.moment ≡ 0

-- ---- a message

-- what is transferred of the message behind those that are done
abbrev pub octets_behind : Setting → (done : ℕ) → List ℕ
octets_behind x done = copy_of (x.before + (done + 1))

-- the lane transfers it
pub record Transfers (x : Setting) (done : ℕ) (t : Transfer) : Type 0 where
  pub item : t.item ≡ done + 1
  pub recipients : t.recipients ≡ 1 ∷ []
  pub octets : t.octets ≡ octets_behind x done

-- pieces 1 to n
unfoldable pub firsts : List ℕ → ℕ → List (List ℕ)
firsts octets zero = []
firsts octets (suc n) = firsts octets n ++ piece_of 1024 octets (suc n) ∷ []

-- a piece stands behind the first n
abbrev pub HasMore : List ℕ → ℕ → Type 0
HasMore octets n = 1024 * n < length octets

-- what stands of the activities that are done
abbrev pub lasting : ℕ → Last
lasting zero = last.None
lasting (suc n) = last.Done (suc n)

-- nothing of the next activity stands
pub record StandsNone (done got high : ℕ) (l : Last) (pieces : List (List ℕ)) : Type 0 where
  pub got_is : got ≡ done
  pub high_is : high ≡ done
  pub last_is : l ≡ lasting done
  pub pieces_is : pieces ≡ []

-- so many pieces of it stand
pub record StandsPart (done : ℕ) (octets : List ℕ) (m got high : ℕ) (l : Last)
    (pieces : List (List ℕ)) : Type 0 where
  pub some : 1 ≤ m
  pub got_is : got ≡ done
  pub high_is : high ≡ done + 1
  pub last_is : l ≡ last.Partial (done + 1) m
  pub pieces_is : pieces ≡ firsts octets m

-- it is complete
pub record StandsWhole (done got high : ℕ) (l : Last) (pieces : List (List ℕ)) : Type 0 where
  pub got_is : got ≡ done + 1
  pub high_is : high ≡ done + 1
  pub last_is : l ≡ last.Done (done + 1)
  pub pieces_is : pieces ≡ []

-- its first n pieces stand, and not all of it
pub data StandsFirst (done : ℕ) (octets : List ℕ) (n got high : ℕ) (l : Last)
    (pieces : List (List ℕ)) : Type 0 where
  Of_none : n ≡ 0 → StandsNone done got high l pieces → StandsFirst done octets n got high l pieces
  Of_part : (m : ℕ) → n ≤ m → StandsPart done octets m got high l pieces
      → StandsFirst done octets n got high l pieces

-- its first n pieces stand, whether it is complete or not
abbrev pub Stands : (whole : Bool) → (done : ℕ) → List ℕ → (n got high : ℕ) → Last → List (List ℕ)
    → Type 0
Stands true done octets n got high l pieces = StandsWhole done got high l pieces
Stands false done octets n got high l pieces = StandsFirst done octets n got high l pieces

-- the sender's state of the activity: Ending may not be given up any more
abbrev pub under_way : (ending : Bool) → (activity confirmed : ℕ) → SendState
under_way true k c = state.Ending k c
under_way false k c = state.Sending k c

-- acknowledgements of so many Syncs behind this number
abbrev pub acks : ℕ → ℕ → List AnyUnit
acks c zero = []
acks c (suc n) = unit.SyncAck (c + 1) ∷ acks (c + 1) n

-- ---- the sides

-- the first agent goes on from this stage of its sending half
pub record Speaks (x : Setting) (p : Party) (done left : ℕ) (st : SendState) (octets : List ℕ) (z : SendStage)
    (transfer : Option Transfer) : Type 0 where
  pub says : ◌≡◌ {A = Action × State} (p.wants, p.session)
      (next_of_sender z (caller x left phase.Puts (half_at st octets z)))
  pub first : FirstHolds x p.spool done st transfer

-- the first agent waits for what comes of this
pub record Calls (x : Setting) (p : Party) (done left : ℕ) (st : SendState) (octets : List ℕ) (z : SendStage)
    (transfer : Option Transfer) (wants : Action) (at : Phase) : Type 0 where
  pub wants_is : p.wants ≡ wants
  pub session_is : p.session ≡ caller x left at (half_at st octets z)
  pub first : FirstHolds x p.spool done st transfer

-- the second agent waits for what comes of this, and these units came
pub record Listens (x : Setting) (p : Party) (wants : Action) (at : Phase) (right : ℕ) (f : RecvEnd)
    (came : List AnyUnit) : Type 0 where
  pub wants_is : p.wants ≡ wants
  pub session_is : p.session ≡ listener x right at f
  pub came_is : p.came ≡ came

-- Its pieces came, each with its Sync. Where all stands the last one is kept, as nothing is made durable.
abbrev pub IsBehindAt : RecvStage → (whole : Bool) → (from activity number : ℕ) → List ℕ → Type 0
IsBehindAt (r.Next j m) whole from k n octets = (j ≡ k) × (m ≡ n)
IsBehindAt (r.Synced j m piece) whole from k n octets =
    (j ≡ k) × (m ≡ n) × (piece ≡ piece_of 1024 octets n) × (from < n) × (whole ≡ true)
IsBehindAt _ whole from k n octets = ⊥

-- So many pieces of k came, each with its Sync, and all are acknowledged.
pub record IsBehind (f : RecvEnd) (whole : Bool) (k n : ℕ) (octets : List ℕ) : Type 0 where
  pub stage : IsBehindAt f.stage whole f.from k n octets
  pub acked : f.acked ≡ n
  pub from : f.from ≤ n

-- a piece of k stands at its place, and its Sync did not come yet
pub record HoldsPiece (f : RecvEnd) (k n : ℕ) (octets : List ℕ) : Type 0 where
  pub stage : f.stage ≡ r.Held k n (piece_of 1024 octets n)
  pub acked : f.acked + 1 ≡ n
  pub from : f.from < n

-- ---- breaks

-- nothing is broken yet behind the activities that are done
pub record IsUntouched (x : Setting) (done : ℕ) (b : Breaks) : Type 0 where
  pub before : b.before ≡ x.before
  pub last : b.last ≤ done
  pub made : b.made + breaks_up_to x.before ≡ breaks_up_to (x.before + done)
  pub few : b.made ≤ done
  pub later : x.broken ≤ b.made
  pub since : x.since ≤ done

-- the link was broken in the next one
pub record WasBroken (x : Setting) (done : ℕ) (b : Breaks) : Type 0 where
  pub before : b.before ≡ x.before
  pub last : b.last ≡ done + 1
  pub made : b.made + breaks_up_to x.before ≡ breaks_up_to (x.before + (done + 1))
  pub few : b.made ≤ done + 1
  pub later : x.broken ≤ b.made
  pub since : x.since ≤ done

-- In the activity behind those that are done, of which so many pieces are confirmed, and which is complete or not, the
-- link was broken where its place was reached.
pub data Marks (x : Setting) (done c : ℕ) (whole : Bool) (b : Breaks) : Type 0 where
  Not_yet : IsUntouched x done b → (1 ≤ c → break_of (x.before + (done + 1)) ≡ Some BehindConfirm → ⊥)
      → (whole ≡ true → break_of (x.before + (done + 1)) ≡ Some BehindComplete → ⊥)
      → Marks x done c whole b
  Once : WasBroken x done b → Marks x done c whole b
