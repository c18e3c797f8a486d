-- The laws of stages.
use Rattle.std.specs.Prelude.{◌≡◌, ℕ, false, List}
use Rattle.mta_lane_recv.specs.declared.state.Last.{Last}
use Rattle.mta_histories.specs.Lanes.{State as SpoolState}
use Rattle.mta_drill_stage_laws.specs.Opening.{IsNew, Opening}
use Rattle.mta_drill_stage_laws.specs.Opening.{FirstFresh, SecondNew}
use Rattle.mta_drill_stage_laws.specs.Recovering.{BearsIn, IsIn, Recovering, StandsIn, UnderWay, again, state_of}
use Rattle.mta_drill_stage_laws.specs.Recovering.{transfer_in}
use Rattle.mta_drill_stage_laws.specs.Starting.{Calls, Listens}
use Rattle.mta_drill_stage_laws.specs.Settings.{FirstHolds, IsSized, IsUntouched, SecondHolds, Setting}
use Rattle.mta_drill_stage_laws.specs.Stages.{HasEnded, Stage}
use Rattle.mta_drill_stage_laws.specs.World.{CallerActs, CallerRests, Goes, ListenerActs, ListenerGoes, ListenerRests}
use Rattle.mta_drill_stage_laws.specs.World.{IsHeard, World}

-- each act of the second agent leads from a stage to a stage
abbrev pub ListenersStay : Type 0
ListenersStay = (x : Setting) (w v : World) → IsSized x → Stage x w → ListenerActs w v → Stage x v

-- and so do all its acts, one behind the other
abbrev pub ListenersGo : Type 0
ListenersGo = (x : Setting) (w v : World) → IsSized x → Stage x w → ListenerGoes w v → Stage x v

-- each act of the first agent does, while the second one waits
abbrev pub CallersStay : Type 0
CallersStay = (x : Setting) (w v : World) → IsSized x → Stage x w → ListenerRests w → CallerActs w v
    → Stage x v

-- so do both, in turn
abbrev pub RoundsStay : Type 0
RoundsStay = (x : Setting) (w v : World) → IsSized x → Stage x w → ListenerRests w → Goes w v
    → Stage x v × ListenerRests v

-- Where both rest the session has ended: no one waits for the other.
abbrev pub SessionsEnd : Type 0
SessionsEnd = (x : Setting) (w : World) → Stage x w → ListenerRests w → CallerRests w → HasEnded x w

-- No session is given up: what is asked is answered by what its session waits for.
abbrev pub QuestionsAreAnswered : Type 0
QuestionsAreAnswered = (x : Setting) (w : World) → IsSized x → Stage x w
    → IsHeard w.calling × IsHeard w.listening

-- Where the lane is new the second agent's acts lead on, and those of the first one, to where the first message is
-- looked for.
abbrev pub OpeningsListen : Type 0
OpeningsListen = (x : Setting) (w v : World) → IsSized x → IsNew x → Opening x w → ListenerActs w v
    → Opening x v

abbrev pub OpeningsCall : Type 0
OpeningsCall = (x : Setting) (w v : World) → IsSized x → IsNew x → Opening x w → ListenerRests w
    → CallerActs w v → Opening x v

-- So they do where the lane is recovered, to where the next message is looked for or the one under way is gone on with.
abbrev pub RecoveriesListen : Type 0
RecoveriesListen = (x : Setting) (w v : World) → IsSized (again x) → Recovering x w → ListenerActs w v
    → Recovering x v

abbrev pub RecoveriesCall : Type 0
RecoveriesCall = (x : Setting) (w v : World) → IsSized (again x) → Recovering x w → ListenerRests w
    → CallerActs w v → Recovering x v

-- Before the first session: no lane was opened, and nothing broken.
abbrev pub FirstSessionsBegin : Type 0
FirstSessionsBegin = (x : Setting) (first second : SpoolState) (w : World) → IsSized x → IsNew x
    → FirstFresh x first → SecondNew x second → IsUntouched x 0 w.link.breaks → w.link.is_broken ≡ false
    → Calls x.reference first w.calling → Listens second w.listening → Opening x w

-- Before a later one: both lanes stand so.
abbrev pub LaterSessionsBegin : Type 0
LaterSessionsBegin = (x : Setting) (first second : SpoolState) (w : World) (done : ℕ) (u : UnderWay)
    (got high : ℕ) (l : Last) (pieces : List (List ℕ)) → IsSized (again x) → IsIn (again x) done u
    → FirstHolds x first done (state_of done u) (transfer_in u) → SecondHolds x second got high l pieces
    → StandsIn (again x) done u got high l pieces → BearsIn (again x) done u w.link.breaks
    → w.link.is_broken ≡ false → Calls x.reference first w.calling → Listens second w.listening
    → Recovering x w
