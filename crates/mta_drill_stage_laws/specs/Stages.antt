-- The stages of a session of a drill: what both agents and the link are in each.
use Rattle.std.specs.Prelude.{◌≡◌, ◌<◌, ◌≤◌, ℕ, ◌+◌, ◌*◌, Bool, true, false, List, [], ◌∷◌, ◌++◌}
use Rattle.std.specs.Prelude.{None, Some}
use Rattle.mta_units.specs.declared.unit.Unit.{Unit as AnyUnit}
use Rattle.mta_units.specs.declared.unit.Unit.TheVariants as unit
use Rattle.mta_lane_send.specs.declared.state.SendState.TheVariants as state
use Rattle.mta_lane_recv.specs.declared.state.Last.{Last}
use Rattle.mta_transfer_rules.specs.Pieces.{is_last, piece_of}
use Rattle.mta_transfer_rules.specs.Sending as s
use Rattle.mta_transfer_rules.specs.Sending.{SendStage}
use Rattle.mta_transfer_rules.specs.Receiving as r
use Rattle.mta_transfer_rules.specs.Receiving.{RecvEnd}
use Rattle.mta_records.specs.declared.lane.Batch.{Batch}
use Rattle.mta_histories.specs.Due.{IsBatch}
use Rattle.mta_histories.specs.Lanes.{Transfer}
use Rattle.mta_histories.specs.Lanes.{State as SpoolState}
use Rattle.mta_session.specs.declared.event.SessionEnd.TheVariants as end
use Rattle.mta_session.specs.declared.ask.Ask.TheVariants as ask
use Rattle.mta_session.specs.declared.event.Action.{Action}
use Rattle.mta_session.specs.declared.event.Action.TheVariants as action
use Rattle.mta_session.specs.declared.phase.Phase.{Phase}
use Rattle.mta_session.specs.declared.phase.Phase.TheVariants as phase
use Rattle.mta_session.specs.declared.phase.OwnStep.TheVariants as own
use Rattle.mta_drill_laws.specs.Tables.{east}
use Rattle.mta_drill_step_laws.specs.First.{HasAccepted}
use Rattle.mta_drill_step_laws.specs.Second.{HasGot}
use Rattle.mta_drill_stage_laws.specs.Breaks.{Breaks}
use Rattle.mta_drill_stage_laws.specs.Settings.{Calls, FirstHolds, HasMore, HoldsPiece, IsBehind, IsUntouched}
use Rattle.mta_drill_stage_laws.specs.Settings.{Listens, Marks, WasBroken}
use Rattle.mta_drill_stage_laws.specs.Settings.{SecondHolds, Setting, Speaks, Stands, StandsNone, StandsPart}
use Rattle.mta_drill_stage_laws.specs.Settings.{StandsWhole}
use Rattle.mta_drill_stage_laws.specs.Settings.{Transfers, acks, octets_behind, under_way}
use Rattle.mta_drill_stage_laws.specs.World.{Party, World}

-- ---- how many units may come

-- A message takes at most sixteen units each way. The first agent reads an acknowledgement for each piece that is
-- confirmed.
abbrev pub LeftFor : Setting → (done read left : ℕ) → Type 0
LeftFor x done read left = 16 * x.count + 16 ≤ left + 16 * done + read

-- ---- the second agent

-- It waits for what comes of this, at the link that is whole and bears these marks. So much stands of the message, so
-- many units were read, these came, and these go to the first agent.
pub record Second (x : Setting) (w : World) (done : ℕ) (Has : ℕ → ℕ → Last → List (List ℕ) → Type 0)
    (Bears : Breaks → Type 0) (read : ℕ) (wants : Action) (at : Phase) (f : RecvEnd) (came up : List AnyUnit)
    : Type 0 where
  pub right : ℕ
  pub listens : Listens x w.listening wants at right f came
  pub got : ℕ
  pub pieces : List (List ℕ)
  pub holds : SecondHolds x w.listening.spool got f.high f.last pieces
  pub stands : Has got f.high f.last pieces
  pub room : LeftFor x done read right
  pub up_is : w.calling.came ≡ up
  pub whole_link : w.link.is_broken ≡ false
  pub marks : Bears w.link.breaks

-- so many pieces of the message behind those that are done, or all of it
abbrev pub SecondOf : Setting → World → (done c : ℕ) (whole : Bool) (n read : ℕ) → Action → Phase
    → RecvEnd → (came up : List AnyUnit) → Type 0
SecondOf x w done c whole n read wants at f came up =
    Second x w done (Stands whole done (octets_behind x done) n) (Marks x done c whole) read wants at f came up

-- It has n pieces, or makes the last one of them durable and acknowledges it.
pub data AtNext (x : Setting) (w : World) (done c : ℕ) (whole : Bool) (n : ℕ) : Type 0 where
  Start_came : (f : RecvEnd) → n ≡ 0 → c ≡ 0 → whole ≡ false → f.stage ≡ r.Free
      → Second x w done (StandsNone done) (IsUntouched x done) 0 action.Read phase.Reads f
      (unit.Start (done + 1) ∷ []) []
      → AtNext x w done c whole n
  Sync_came : (m j : ℕ) (f : RecvEnd) → n ≡ m + 1 → c + j ≡ m
      → HoldsPiece f (done + 1) (m + 1) (octets_behind x done)
      → SecondOf x w done c whole m (2 * m + 2) action.Read phase.Reads f (unit.Sync (m + 1) ∷ []) (acks c j)
      → AtNext x w done c whole n
  Secures : (m j : ℕ) (f : RecvEnd) → n ≡ m + 1 → c + j ≡ m → whole ≡ false
      → f.stage ≡ r.Synced (done + 1) (m + 1) [] → f.acked + 1 ≡ m + 1 → f.from < m + 1
      → SecondOf x w done c false m (2 * m + 3)
      (action.Ask (ask.Secure 1 x.generation (done + 1) (m + 1) (piece_of 1024 (octets_behind x done) (m + 1))))
      (phase.AsksSecure (done + 1) (m + 1)) f [] (acks c j)
      → AtNext x w done c whole n
  Acknowledges : (m j : ℕ) (f : RecvEnd) → n ≡ m + 1 → c + j ≡ m
      → IsBehind f whole (done + 1) (m + 1) (octets_behind x done)
      → SecondOf x w done c whole (m + 1) (2 * m + 3) (action.Put (unit.SyncAck (m + 1))) phase.Puts f [] (acks c j)
      → AtNext x w done c whole n
  Rests : (j : ℕ) (f : RecvEnd) → c + j ≡ n → IsBehind f whole (done + 1) n (octets_behind x done)
      → SecondOf x w done c whole n (2 * n + 1) action.Read phase.Reads f [] (acks c j)
      → AtNext x w done c whole n

-- It has n pieces, and the next one comes or came.
pub data AtHeld (x : Setting) (w : World) (done c : ℕ) (whole : Bool) (n : ℕ) : Type 0 where
  Piece_came : (j : ℕ) (f : RecvEnd) → c + j ≡ n → IsBehind f whole (done + 1) n (octets_behind x done)
      → SecondOf x w done c whole n (2 * n + 1) action.Read phase.Reads f
      (unit.Piece (piece_of 1024 (octets_behind x done) (n + 1)) ∷ []) (acks c j)
      → AtHeld x w done c whole n
  Holds : (j : ℕ) (f : RecvEnd) → c + j ≡ n → HoldsPiece f (done + 1) (n + 1) (octets_behind x done)
      → SecondOf x w done c whole n (2 * n + 2) action.Read phase.Reads f [] (acks c j)
      → AtHeld x w done c whole n

-- End came behind the last piece; the activity is completed, and that is answered.
pub data AtEnd (x : Setting) (w : World) (done c n : ℕ) : Type 0 where
  End_came : (whole : Bool) (j : ℕ) (f : RecvEnd) → c + j ≡ n
      → HoldsPiece f (done + 1) (n + 1) (octets_behind x done)
      → SecondOf x w done c whole n (2 * n + 2) action.Read phase.Reads f (unit.End (done + 1) ∷ []) (acks c j)
      → AtEnd x w done c n
  Completes : (j : ℕ) (f : RecvEnd) → c + j ≡ n → f.stage ≡ r.Ended (done + 1) (n + 1) []
      → SecondOf x w done c false n (2 * n + 3)
      (action.Ask (ask.Complete 1 x.generation (done + 1) (n + 1) (piece_of 1024 (octets_behind x done) (n + 1))))
      (phase.AsksComplete (done + 1) (n + 1)) f [] (acks c j)
      → AtEnd x w done c n
  Answers : (j : ℕ) (f : RecvEnd) → c + j ≡ n → f.stage ≡ r.Free
      → SecondOf x w done c true n (2 * n + 3) (action.Put (unit.EndAck (done + 1))) phase.Puts f [] (acks c j)
      → AtEnd x w done c n
  Ended : (j : ℕ) (f : RecvEnd) → c + j ≡ n → f.stage ≡ r.Free
      → SecondOf x w done c true n (2 * n + 3) action.Read phase.Reads f []
      (acks c j ++ unit.EndAck (done + 1) ∷ [])
      → AtEnd x w done c n

-- ---- the first agent

-- it goes on from this stage of the message behind those that are done
pub record First (x : Setting) (w : World) (done c : ℕ) (ending : Bool) (z : SendStage) : Type 0 where
  pub below : done < x.count
  pub left : ℕ
  pub transfer : Transfer
  pub is : Transfers x done transfer
  pub speaks : Speaks x w.calling done left (under_way ending (done + 1) c) (octets_behind x done) z (Some transfer)
  pub room : LeftFor x done c left

-- it waits for what comes of this
pub record FirstCalls (x : Setting) (w : World) (done c : ℕ) (ending : Bool) (z : SendStage) (read : ℕ)
    (wants : Action) (at : Phase) : Type 0 where
  pub below : done < x.count
  pub left : ℕ
  pub transfer : Transfer
  pub is : Transfers x done transfer
  pub calls : Calls x w.calling done left (under_way ending (done + 1) c) (octets_behind x done) z (Some transfer) wants
      at
  pub room : LeftFor x done read left

-- ---- a link that is broken

-- what stands of the message at the second agent where the link was broken
abbrev pub StandsHalted : (ending : Bool) → (done : ℕ) → List ℕ → (c got high : ℕ) → Last
    → List (List ℕ) → Type 0
StandsHalted true done octets c got high l pieces = StandsWhole done got high l pieces
StandsHalted false done octets c got high l pieces =
    (m : ℕ) × (c ≤ m) × (1 ≤ c) × StandsPart done octets m got high l pieces

-- what both spools hold then
pub record Halted (x : Setting) (first second : SpoolState) (done c : ℕ) (ending : Bool) : Type 0 where
  pub below : done < x.count
  pub transfer : Transfer
  pub is : Transfers x done transfer
  pub more : HasMore (octets_behind x done) c
  pub first_holds : FirstHolds x first done (under_way ending (done + 1) c) (Some transfer)
  pub got : ℕ
  pub high : ℕ
  pub last : Last
  pub pieces : List (List ℕ)
  pub second_holds : SecondHolds x second got high last pieces
  pub stands : StandsHalted ending done (octets_behind x done) c got high last pieces

-- a side that is at the link, or was told that it is over
pub data IsCutOff (p : Party) : Type 0 where
  While_putting : (y : AnyUnit) → p.wants ≡ action.Put y → p.session.phase ≡ phase.Puts → IsCutOff p
  While_reading : p.wants ≡ action.Read → p.session.phase ≡ phase.Reads → IsCutOff p
  Is_over : p.wants ≡ action.Finish end.Broken → IsCutOff p

-- ---- a lane that is recovered

-- The first agent goes on behind what is confirmed, and that is answered.
pub data AtResume (x : Setting) (w : World) (done c : ℕ) (whole : Bool) : Type 0 where
  Resume_came : (f : RecvEnd) → f.stage ≡ r.Free
      → SecondOf x w done c whole c 0 action.Read phase.Reads f (unit.Resume (done + 1) c ∷ []) []
      → AtResume x w done c whole
  Resumes : (f : RecvEnd) → IsBehind f whole (done + 1) c (octets_behind x done)
      → SecondOf x w done c whole c 1 (action.Put (unit.ResumeAck (done + 1) c)) phase.Puts f [] []
      → AtResume x w done c whole
  Resumed : (f : RecvEnd) → IsBehind f whole (done + 1) c (octets_behind x done)
      → SecondOf x w done c whole c 1 action.Read phase.Reads f [] (unit.ResumeAck (done + 1) c ∷ [])
      → AtResume x w done c whole

-- Nothing is confirmed: the first agent discards, and is told that the activity is complete.
pub data AtDiscard (x : Setting) (w : World) (done : ℕ) : Type 0 where
  Discard_came : (f : RecvEnd) → f.stage ≡ r.Free
      → SecondOf x w done 0 true 0 0 action.Read phase.Reads f (unit.Discard (done + 1) ∷ []) []
      → AtDiscard x w done
  Aborts : (f : RecvEnd)
      → SecondOf x w done 0 true 0 1 (action.Put (unit.Abort 7)) (phase.PutsLast (end.Aborted 7)) f [] []
      → AtDiscard x w done
  Has_aborted : (f : RecvEnd)
      → SecondOf x w done 0 true 0 1 (action.Finish (end.Aborted 7)) (phase.Ended (end.Aborted 7)) f []
      (unit.Abort 7 ∷ [])
      → AtDiscard x w done

-- ---- the lane is closed

pub record FirstClosed (x : Setting) (s : SpoolState) : Type 0 where
  pub lanes : s.lanes.open_lanes ≡ []
  pub accepted : HasAccepted x.before x.count x.count s.machine
  pub moment : s.moment ≡ 0

pub record SecondClosed (x : Setting) (s : SpoolState) : Type 0 where
  pub lanes : s.lanes.open_lanes ≡ []
  pub has : HasGot x.before x.count x.given s.machine
  pub moment : s.moment ≡ 0

-- the second agent has closed its lane
pub record HasClosed (x : Setting) (w : World) (wants : Action) (at : Phase) (up : List AnyUnit) : Type 0 where
  pub right : ℕ
  pub f : RecvEnd
  pub listens : Listens x w.listening wants at right f []
  pub holds : SecondClosed x w.listening.spool
  pub up_is : w.calling.came ≡ up
  pub whole_link : w.link.is_broken ≡ false
  pub marks : IsUntouched x x.count w.link.breaks

pub data AtClose (x : Setting) (w : World) : Type 0 where
  Close_came : (f : RecvEnd) → f.stage ≡ r.Free
      → Second x w x.count (StandsNone x.count) (IsUntouched x x.count) 0 action.Read phase.Reads f
      (unit.Close ∷ []) []
      → AtClose x w
  Closes_lane : (f : RecvEnd)
      → Second x w x.count (StandsNone x.count) (IsUntouched x x.count) 1
      (action.Ask (ask.CloseLane 1 x.generation)) phase.AsksClose f [] []
      → AtClose x w
  Close_answers : HasClosed x w (action.Put unit.CloseAck) (phase.PutsLast end.Closed) [] → AtClose x w
  Close_rests : HasClosed x w (action.Finish end.Closed) (phase.Ended end.Closed) (unit.CloseAck ∷ []) → AtClose x w

-- ---- both

-- no message is under way
pub record IsQuiet (x : Setting) (w : World) (done left : ℕ) (f : RecvEnd) : Type 0 where
  pub within : done ≤ x.count
  pub room : LeftFor x done 0 left
  pub free : f.stage ≡ r.Free
  pub second : Second x w done (StandsNone done) (IsUntouched x done) 0 action.Read phase.Reads f [] []

pub data Stage (x : Setting) (w : World) : Type 0 where
  -- the next message is looked for
  Looks : (done left : ℕ) (f : RecvEnd) → IsQuiet x w done left f
      → Speaks x w.calling done left (state.Idle done) [] s.Quiet None → Stage x w
  -- there is one, and it is started
  Starts : (done left : ℕ) (f : RecvEnd) (batch : Batch) → IsQuiet x w done left f → done < x.count
      → IsBatch w.calling.spool east w.calling.spool.moment batch.item batch.recipients → batch.item ≡ done + 1
      → batch.recipients ≡ 1 ∷ []
      → Calls x w.calling done left (state.Idle done) [] s.Quiet None (action.Ask (ask.Start 1 x.generation batch))
      phase.AsksStart
      → Stage x w
  Begun : (done : ℕ) (f : RecvEnd) → First x w done 0 false (s.Started (done + 1)) → f.stage ≡ r.Free
      → Second x w done (StandsNone done) (IsUntouched x done) 0 action.Read phase.Reads f [] []
      → Stage x w
  -- n pieces are put, each with its Sync, of which c are confirmed
  Next : (done c : ℕ) (whole : Bool) (n : ℕ) → c ≤ n → n ≤ c + 2 → HasMore (octets_behind x done) n
      → First x w done c whole (s.Next (done + 1) n) → AtNext x w done c whole n → Stage x w
  Sync_due : (done c : ℕ) (whole : Bool) (n : ℕ) → c ≤ n → n < c + 2
      → HasMore (octets_behind x done) (n + 1) → First x w done c whole (s.Sync_next (done + 1) (n + 1))
      → AtHeld x w done c whole n → Stage x w
  -- the last piece is put
  At_last : (done c : ℕ) (whole ending : Bool) (n : ℕ) → (whole ≡ true → ending ≡ true) → c ≤ n
      → HasMore (octets_behind x done) n → is_last 1024 (octets_behind x done) (n + 1) ≡ true
      → First x w done c ending (s.Last_put (done + 1) (n + 1)) → AtHeld x w done c whole n → Stage x w
  End : (done c n : ℕ) → c ≤ n → HasMore (octets_behind x done) n
      → is_last 1024 (octets_behind x done) (n + 1) ≡ true
      → First x w done c true (s.End_put (done + 1) (n + 1)) → AtEnd x w done c n → Stage x w
  -- an acknowledgement was read
  Confirms_next : (done c : ℕ) (whole : Bool) (n j : ℕ) (f : RecvEnd) → c < n → n ≤ c + 2
      → c + (j + 1) ≡ n → HasMore (octets_behind x done) n
      → FirstCalls x w done c whole (s.Next (done + 1) n) (c + 1)
      (action.Ask (ask.Confirm 1 x.generation (done + 1) (c + 1))) (phase.AsksStep (own.Confirm (c + 1)))
      → IsBehind f whole (done + 1) n (octets_behind x done)
      → SecondOf x w done c whole n (2 * n + 1) action.Read phase.Reads f [] (acks (c + 1) j)
      → Stage x w
  Confirms_end : (done c n j : ℕ) (f : RecvEnd) → c < n → c + (j + 1) ≡ n → HasMore (octets_behind x done) n
      → is_last 1024 (octets_behind x done) (n + 1) ≡ true
      → FirstCalls x w done c true (s.End_put (done + 1) (n + 1)) (c + 1)
      (action.Ask (ask.Confirm 1 x.generation (done + 1) (c + 1))) (phase.AsksStep (own.Confirm (c + 1)))
      → f.stage ≡ r.Free
      → SecondOf x w done c true n (2 * n + 3) action.Read phase.Reads f []
      (acks (c + 1) j ++ unit.EndAck (done + 1) ∷ [])
      → Stage x w
  -- so was the answer to End
  Sends : (done c n : ℕ) (f : RecvEnd) → 1 ≤ c → c ≤ n → n ≤ 3
      → FirstCalls x w done c true (s.End_put (done + 1) (n + 1)) (c + 1)
      (action.Ask (ask.Sent 1 x.generation (done + 1))) (phase.AsksStep own.Sent)
      → f.stage ≡ r.Free
      → SecondOf x w done c true n (2 * n + 3) action.Read phase.Reads f [] []
      → Stage x w
  -- the link is broken
  Cut : (done c : ℕ) (ending : Bool) → Halted x w.calling.spool w.listening.spool done c ending
      → w.link.is_broken ≡ true → WasBroken x done w.link.breaks → x.broken < w.link.breaks.made
      → IsCutOff w.calling → IsCutOff w.listening → Stage x w
  -- all is sent, and the lane is closed
  Closes : (left : ℕ) (f : RecvEnd) → IsQuiet x w x.count left f
      → Calls x w.calling x.count left (state.Idle x.count) [] s.Quiet None (action.Put unit.Close) phase.PutsClose
      → Stage x w
  Closing : (left : ℕ) → 1 < left
      → Calls x w.calling x.count left (state.Idle x.count) [] s.Quiet None action.Read phase.ReadsCloseAck
      → AtClose x w → Stage x w
  Closes_first : (left : ℕ)
      → Calls x w.calling x.count left (state.Idle x.count) [] s.Quiet None
      (action.Ask (ask.CloseLane 1 x.generation)) phase.AsksClose
      → HasClosed x w (action.Finish end.Closed) (phase.Ended end.Closed) []
      → Stage x w
  Closed : w.calling.wants ≡ action.Finish end.Closed → FirstClosed x w.calling.spool
      → HasClosed x w (action.Finish end.Closed) (phase.Ended end.Closed) []
      → Stage x w
  -- the lane was recovered, with a message under way
  Reopened : (done c : ℕ) (whole : Bool) (f : RecvEnd) → (c ≡ 0 → whole ≡ true)
      → HasMore (octets_behind x done) c → (first : First x w done c whole s.Opened)
      → 16 * x.count + 17 ≤ first.left + 16 * done + c → f.stage ≡ r.Free
      → SecondOf x w done c whole c 0 action.Read phase.Reads f [] [] → WasBroken x done w.link.breaks
      → Stage x w
  Resuming : (done c : ℕ) (whole : Bool) → 1 ≤ c → HasMore (octets_behind x done) c
      → (first : First x w done c whole (s.Resume_put (done + 1) c))
      → 16 * x.count + 17 ≤ first.left + 16 * done + c → AtResume x w done c whole → Stage x w
  Discarding : (done : ℕ) → First x w done 0 true (s.Discard_put (done + 1)) → WasBroken x done w.link.breaks
      → AtDiscard x w done → Stage x w
  Sends_last : (done : ℕ) (f : RecvEnd) (left : ℕ) (transfer : Transfer) → done < x.count
      → Transfers x done transfer
      → Calls x w.calling done left (state.Ending (done + 1) 0) [] (s.Discard_put (done + 1)) (Some transfer)
      (action.Ask (ask.Sent 1 x.generation (done + 1))) (phase.AsksLast (end.PeerAborted 7))
      → WasBroken x done w.link.breaks
      → SecondOf x w done 0 true 0 1 (action.Finish (end.Aborted 7)) (phase.Ended (end.Aborted 7)) f [] []
      → Stage x w
  Given_back : (done : ℕ) (f : RecvEnd) → done ≤ x.count → x.since < done
      → w.calling.wants ≡ action.Finish (end.PeerAborted 7)
      → FirstHolds x w.calling.spool done (state.Idle done) None
      → Second x w done (StandsNone done) (IsUntouched x done) 16 (action.Finish (end.Aborted 7))
      (phase.Ended (end.Aborted 7)) f [] []
      → Stage x w

-- ---- the end of a session

-- Both are over: the lane was closed, with all messages; or the link was broken behind the place of a message; or the
-- first agent was told that the second one has the message, which settled it.
pub data HasEnded (x : Setting) (w : World) : Type 0 where
  Was_closed : w.calling.wants ≡ action.Finish end.Closed → w.listening.wants ≡ action.Finish end.Closed
      → FirstClosed x w.calling.spool → SecondClosed x w.listening.spool → IsUntouched x x.count w.link.breaks
      → HasEnded x w
  Was_broken : (done c : ℕ) (ending : Bool) → w.calling.wants ≡ action.Finish end.Broken
      → w.listening.wants ≡ action.Finish end.Broken
      → Halted x w.calling.spool w.listening.spool done c ending → WasBroken x done w.link.breaks
      → x.broken < w.link.breaks.made
      → HasEnded x w
  Was_given_back : (done got high : ℕ) (l : Last) (pieces : List (List ℕ)) → done ≤ x.count → x.since < done
      → w.calling.wants ≡ action.Finish (end.PeerAborted 7) → w.listening.wants ≡ action.Finish (end.Aborted 7)
      → FirstHolds x w.calling.spool done (state.Idle done) None
      → SecondHolds x w.listening.spool got high l pieces → StandsNone done got high l pieces
      → IsUntouched x done w.link.breaks
      → HasEnded x w
