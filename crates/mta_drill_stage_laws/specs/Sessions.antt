-- Sessions, one behind the other: from two agents that opened no lane yet to the end.
use Rattle.std.specs.Prelude.{◌≡◌, ◌⊎◌, ◌<◌, ◌≤◌, ℕ, ◌+◌, ◌*◌, ◌^◌, true, false, List, [], ◌∷◌, Err}
use Rattle.mta_lane_recv.specs.declared.state.Last.{Last}
use Rattle.mta_records.specs.Reference.{Identifier}
use Rattle.mta_records.specs.declared.fault.StepFault.{StepFault}
use Rattle.mta_records.specs.declared.lane.LaneRole.TheVariants.{Initiator}
use Rattle.mta_records.specs.declared.step.Step.{Step}
use Rattle.mta_histories.specs.Due.{IsNext, IsQuiet}
use Rattle.mta_histories.specs.History.{after_step}
use Rattle.mta_histories.specs.Lanes.{Lane}
use Rattle.mta_histories.specs.Lanes.{State as SpoolState}
use Rattle.mta_session.specs.declared.ask.Ask.{Ask}
use Rattle.mta_session.specs.declared.ask.Ask.TheVariants as ask
use Rattle.mta_session.specs.declared.ask.Reply.{Reply}
use Rattle.mta_session.specs.declared.ask.Reply.TheVariants as reply
use Rattle.mta_session.specs.declared.event.Action.TheVariants as action
use Rattle.mta_session.specs.declared.event.Event.TheVariants as event
use Rattle.mta_session.specs.declared.event.SessionEnd.TheVariants as end
use Rattle.mta_session.specs.Fits.{Answers}
use Rattle.mta_drill_text.specs.Breaks.{breaks_up_to}
use Rattle.mta_drill_laws.specs.Tables.{east, first_text, second_text}
use Rattle.mta_drill_step_laws.specs.First.{HasAccepted}
use Rattle.mta_drill_step_laws.specs.Second.{HasGot}
use Rattle.mta_drill_stage_laws.specs.Breaks.{Breaks}
use Rattle.mta_drill_stage_laws.specs.Opening.{FirstFresh, IsNew, Opening, SecondNew}
use Rattle.mta_drill_stage_laws.specs.Recovering.{BearsIn, IsIn, Message, Nothing, Recovering, StandsIn, UnderWay}
use Rattle.mta_drill_stage_laws.specs.Recovering.{again}
use Rattle.mta_drill_stage_laws.specs.Recovering.{state_of, transfer_in}
use Rattle.mta_drill_stage_laws.specs.Settings.{FirstHolds, IsSized, IsUntouched, SecondHolds, Setting}
use Rattle.mta_drill_stage_laws.specs.Stages.{HasEnded}
use Rattle.mta_drill_stage_laws.specs.Starting.{Calls, HasBegun, Listens}
use Rattle.mta_drill_stage_laws.specs.World.{Asked, CallerActs, CallerRests, Goes, IsHeard, ListenerActs, ListenerGoes}
use Rattle.mta_drill_stage_laws.specs.World.{ListenerRests, Party, World}

-- ---- a session

-- the first one, or a later one
pub data InSession (y : Setting) (w : World) : Type 0 where
  Is_new : IsNew y → Opening y w → InSession y w
  Is_again : (x : Setting) → y ≡ again x → Recovering x w → InSession y w

abbrev pub SessionsListen : Type 0
SessionsListen = (y : Setting) (w v : World) → IsSized y → InSession y w → ListenerActs w v → InSession y v

abbrev pub SessionsGo : Type 0
SessionsGo = (y : Setting) (w v : World) → IsSized y → InSession y w → ListenerGoes w v → InSession y v

abbrev pub SessionsCall : Type 0
SessionsCall = (y : Setting) (w v : World) → IsSized y → InSession y w → ListenerRests w → CallerActs w v
    → InSession y v

abbrev pub SessionsTurn : Type 0
SessionsTurn = (y : Setting) (w v : World) → IsSized y → InSession y w → ListenerRests w → Goes w v
    → InSession y v × ListenerRests v

-- where both rest it has ended
abbrev pub SessionsRest : Type 0
SessionsRest = (y : Setting) (w : World) → InSession y w → ListenerRests w → CallerRests w → HasEnded y w

-- no session is given up
abbrev pub SessionsHear : Type 0
SessionsHear = (y : Setting) (w : World) → IsSized y → InSession y w → IsHeard w.calling × IsHeard w.listening

-- ---- between sessions

-- what is due is done until nothing is
abbrev pub Settles : SpoolState → List Step → SpoolState → Type 0
Settles s [] new = IsQuiet s 0 × (new ≡ s)
Settles s (due ∷ rest) new = IsNext s 0 due × Settles (after_step s due) rest new

-- so many sessions were, and the lane is that of this drill
pub record IsOf (before count : ℕ) (reference : Identifier) (n : ℕ) (x : Setting) : Type 0 where
  pub before_is : x.before ≡ before
  pub count_is : x.count ≡ count
  pub reference_is : x.reference ≡ reference
  pub generation_is : x.generation ≡ n

-- a message takes two sessions at most, and one more where it is under way
abbrev pub AreFew : (n done : ℕ) → UnderWay → Type 0
AreFew n done Nothing = n ≤ 2 * done
AreFew n done (Message c whole transfer) = n ≤ 2 * done + 1

-- What both agents hold where so many sessions were, none of which closed the lane: all that came is delivered.
pub data Between (before count : ℕ) (reference : Identifier) (n : ℕ) (first second : SpoolState) (b : Breaks)
    : Type 0 where
  Before_all : (x : Setting) → IsOf before count reference 1 x → n ≡ 0 → x.since ≡ 0 → IsNew x
      → FirstFresh x first → SecondNew x second → IsUntouched x 0 b
      → Between before count reference n first second b
  Behind : (x : Setting) (done : ℕ) (u : UnderWay) (got high : ℕ) (l : Last) (pieces : List (List ℕ))
      → IsOf before count reference n x → AreFew n done u → x.since ≡ done → x.broken ≡ b.made
      → IsIn (again x) done u → FirstHolds x first done (state_of done u) (transfer_in u)
      → SecondHolds x second got high l pieces → StandsIn (again x) done u got high l pieces
      → BearsIn (again x) done u b → Between before count reference n first second b

-- a drill of a thousand messages at most
pub record IsDrill (before count : ℕ) : Type 0 where
  pub few : count ≤ 1000
  pub small : before + count < 2 ^ 32

-- both begin a session over a whole link
pub record HasStarted (reference : Identifier) (first second : SpoolState) (b : Breaks) (w : World) : Type 0 where
  pub calls : Calls reference first w.calling
  pub listens : Listens second w.listening
  pub whole_link : w.link.is_broken ≡ false
  pub breaks_are : w.link.breaks ≡ b

-- and go on until both rest
pub record HasPassed (w v : World) : Type 0 where
  pub began : World
  pub first_goes : ListenerGoes w began
  pub rested : ListenerRests began
  pub went : Goes began v
  pub rests : CallerRests v

-- All messages are sent, and each is delivered, once and in order; the link was broken as often as it had to be.
pub record AreAllDone (before count : ℕ) (first second : SpoolState) (b : Breaks) : Type 0 where
  pub accepted : HasAccepted before count count first.machine
  pub got : HasGot before count count second.machine
  pub broken : b.made + breaks_up_to before ≡ breaks_up_to (before + count)

-- the lane was closed, and all is done; or it was not, and one session more was
abbrev pub HasLed : (before count : ℕ) → Identifier → (n : ℕ) → World → (first second : SpoolState)
    → Type 0
HasLed before count reference n v first second =
    ((v.calling.wants ≡ action.Finish end.Closed) × AreAllDone before count first second v.link.breaks)
    ⊎ ((v.calling.wants ≡ action.Finish end.Closed → ⊥)
    × Between before count reference (n + 1) first second v.link.breaks)

-- ---- what is known between sessions

-- the first agent has no lane, or its lane to the second one, which is agreed
pub data IsOurs (reference : Identifier) (s : SpoolState) : Type 0 where
  None_open : s.lanes.open_lanes ≡ [] → s.lanes.count ≡ 0 → IsOurs reference s
  One_open : (lane : Lane) → s.lanes.open_lanes ≡ lane ∷ [] → lane.number ≡ 1 → lane.role ≡ Initiator
      → lane.peer ≡ east → lane.reference ≡ reference → lane.agreed ≡ true → IsOurs reference s

pub record AreKnown (reference : Identifier) (first second : SpoolState) : Type 0 where
  pub lanes : IsOurs reference first
  pub first_tables : first.machine.tables ≡ first_text ∷ []
  pub second_tables : second.machine.tables ≡ second_text ∷ []
  pub first_moment : first.moment ≡ 0
  pub second_moment : second.moment ≡ 0

-- a lane is not opened, or not bound
pub data IsRefused (reference : Identifier) (s new : SpoolState) : Type 0 where
  Not_opened : (f : StepFault) → s.lanes.open_lanes ≡ []
      → Asked (ask.LaneOpen Initiator east reference false 1 2) s (reply.LaneOpen (Err f)) new
      → IsRefused reference s new
  Not_bound : (lane : Lane) (f : StepFault) → s.lanes.open_lanes ≡ lane ∷ []
      → Asked (ask.Bind lane.number) s (reply.Bind (Err f)) new → IsRefused reference s new

abbrev pub SessionsAreKnown : Type 0
SessionsAreKnown = (before count : ℕ) (reference : Identifier) (n : ℕ) (first second : SpoolState) (b : Breaks)
    → Between before count reference n first second b → AreKnown reference first second

-- the lane is opened or bound where there is memory for it
abbrev pub NoneIsRefused : Type 0
NoneIsRefused = (before count : ℕ) (reference : Identifier) (n : ℕ) (first second new : SpoolState) (b : Breaks)
    → IsDrill before count → Between before count reference n first second b → IsRefused reference first new
    → ⊥

-- and each look at it is answered by what the session waits for
abbrev pub LooksAreHeard : Type 0
LooksAreHeard = (before count : ℕ) (reference : Identifier) (n : ℕ) (first second : SpoolState) (b : Breaks)
    (p : Party) (q : Ask) (y : Reply) → IsDrill before count → Between before count reference n first second b
    → HasBegun reference first p → p.wants ≡ action.Ask q → Asked q p.spool y p.spool
    → Answers p.session (event.Reply y)

-- ---- the laws

-- a session is under way where both have begun it
abbrev pub SessionsStart : Type 0
SessionsStart = (before count : ℕ) (reference : Identifier) (n : ℕ) (first second : SpoolState) (b : Breaks)
    (w : World) → IsDrill before count → Between before count reference n first second b
    → HasStarted reference first second b w → (y : Setting) × IsSized y × InSession y w

abbrev pub SessionsLeadOn : Type 0
SessionsLeadOn =
    (before count : ℕ) (reference : Identifier) (n : ℕ) (first second : SpoolState) (b : Breaks) (w v : World)
    (ones others : List Step) (new_first new_second : SpoolState) → IsDrill before count
    → Between before count reference n first second b → HasStarted reference first second b w → HasPassed w v
    → Settles v.calling.spool ones new_first → Settles v.listening.spool others new_second
    → HasLed before count reference n v new_first new_second

-- so many may be, and not one more
abbrev pub SessionsAreFew : Type 0
SessionsAreFew = (before count : ℕ) (reference : Identifier) (n : ℕ) (first second : SpoolState) (b : Breaks)
    → Between before count reference n first second b → n ≤ 2 * count

-- before all sessions
abbrev pub DrillsBegin : Type 0
DrillsBegin = (before count : ℕ) (reference : Identifier) (first second : SpoolState)
    → first.lanes.open_lanes ≡ [] → first.lanes.count ≡ 0 → HasAccepted before count 0 first.machine
    → first.moment ≡ 0 → second.lanes.open_lanes ≡ [] → second.lanes.count ≡ 0
    → HasGot before 0 0 second.machine → second.moment ≡ 0
    → Between before count reference 0 first second (record { before = before; last = 0; made = 0 })
