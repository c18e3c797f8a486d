-- What a session is told of its lane right behind its Bind, in one turn of the lock.
use Rattle.std.specs.Prelude.{◌≡◌, true, false, Option, Some, None, Result, Ok, Err}
use Rattle.mta_ber.specs.declared.memory.Memory.{Memory as NoMemory}
use Rattle.mta_lane_send.specs.Half.{is_idle, last_of}
use Rattle.mta_records.specs.declared.lane.LaneRole.{LaneRole}
use Rattle.mta_records.specs.declared.lane.LaneRole.TheVariants.{Responder}
use Rattle.mta_records.specs.declared.lane.LaneValues.{LaneValues}
use Rattle.mta_records.specs.Outgoing.{Carried}
use Rattle.mta_histories.specs.Lanes.{Lane}
use Rattle.mta_histories.specs.Kept.{IsWhole, IsFilled}
use Rattle.mta_histories.specs.Seen.{transferred}
use Rattle.mta_session.specs.State.{State}
use Rattle.mta_session.specs.Fits.{RepliesTo}
use Rattle.mta_session.specs.Wanted.{Wanted, Aborts, Puts, Asks, Never, wanted_of_reply}
use Rattle.mta_session.specs.declared.event.Side.{Side}
use Rattle.mta_session.specs.declared.event.Side.TheVariants as side
use Rattle.mta_session.specs.declared.phase.Phase.{Phase}
use Rattle.mta_session.specs.declared.phase.Phase.TheVariants as phase
use Rattle.mta_session.specs.declared.ask.Reply.{Reply}
use Rattle.mta_session.specs.declared.ask.Reply.TheVariants as reply
use Rattle.mta_lane_match_laws.specs.Matches.{known, IsKnown}

-- a session that answered an association recovers lanes of responders alone
abbrev pub HasRole : Side → LaneRole → Type 0
HasRole (side.Initiator plan) role = Unit {0}
HasRole (side.Responder own) role = role ≡ Responder

abbrev pub values_of : Lane → LaneValues
values_of lane = record { checkpoint = lane.checkpoint; window = lane.window; twa = lane.twa; agreed = lane.agreed }

abbrev pub TellsOctets : Lane → Result (Option Carried) NoMemory → Type 0
TellsOctets lane (Ok (Some o)) = (o.activity ≡ last_of lane.sending) × (o.octets ≡ transferred lane.transfer)
TellsOctets lane (Ok None) = is_idle lane.sending ≡ true
TellsOctets lane (Err m) = Unit {0}

-- what the spool tells of an open lane
abbrev pub Tells : Lane → Reply → Type 0
Tells lane (reply.Values x) = x ≡ Some (values_of lane)
Tells lane (reply.Recovery x) = x ≡ Some lane.sending
Tells lane (reply.Receiving x) = x ≡ Some (lane.high, lane.last)
Tells lane (reply.Resumed x) = TellsOctets lane x
Tells lane _ = ⊥

-- the reply is to the look that is asked for
abbrev pub IsLook : Phase → Reply → Type 0
IsLook phase.AsksValues (reply.Values x) = Unit {0}
IsLook phase.AsksRecovery (reply.Recovery x) = Unit {0}
IsLook (phase.AsksReceiving state) (reply.Receiving x) = Unit {0}
IsLook (phase.AsksResumed state) (reply.Resumed x) = Unit {0}
IsLook _ _ = ⊥

pub record HasValues (t : State) (lane : Lane) : Type 0 where
  pub generation : lane.generation ≡ t.generation
  pub agreed : lane.agreed ≡ t.agreed
  pub twa : lane.twa ≡ t.twa
  pub checkpoint : lane.checkpoint ≡ t.checkpoint
  pub window : lane.window ≡ t.window

-- the lane is as far as the session has looked at it
abbrev pub IsLookedAt : Phase → State → Lane → Type 0
IsLookedAt phase.AsksValues t lane = lane.generation ≡ t.generation
IsLookedAt phase.AsksRecovery t lane = HasValues t lane
IsLookedAt (phase.AsksReceiving state) t lane = HasValues t lane × (lane.sending ≡ state)
IsLookedAt (phase.AsksResumed state) t lane =
    HasValues t lane × (lane.sending ≡ state) × (is_idle state ≡ false) × (lane.high ≡ t.recv.high)
    × (lane.last ≡ t.recv.last)
IsLookedAt _ t lane = ⊥

-- the next look is asked for, or the session knows all of the lane and puts its unit
abbrev pub LookLeads : Lane → Wanted → Type 0
LookLeads lane (Asks a u) = IsLookedAt u.phase u lane
LookLeads lane (Puts x u) = IsKnown (known u lane.pieces) lane
LookLeads lane (Aborts reason) = Unit {0}
LookLeads lane Never = Unit {0}
LookLeads lane _ = ⊥

-- Each look right behind a Bind meets the session's condition ..
abbrev pub LooksAnswer : Type 0
LooksAnswer =
    (t : State) (lane : Lane) (x : Reply) → IsWhole lane → IsFilled lane → HasRole t.side lane.role
    → IsLook t.phase x → IsLookedAt t.phase t lane → Tells lane x → RepliesTo t.phase t x

-- .. and behind the last one the session knows its lane.
abbrev pub LooksLead : Type 0
LooksLead =
    (t : State) (lane : Lane) (x : Reply) → IsWhole lane → IsLook t.phase x → IsLookedAt t.phase t lane
    → Tells lane x
    → LookLeads lane (wanted_of_reply t.phase t x)
