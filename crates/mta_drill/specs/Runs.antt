-- Both sides of a session, carried on in turn, in terms of the world of both agents.
use Rattle.std.specs.Prelude.{◌≡◌, ◌↔◌, ℕ, Bool, true, false, List, [], Option, None, Some, Ok, Err, codes}
use Rattle.mta_edge.specs.Held.{HeldDisk}
use Rattle.mta_edge.specs.Images.{memory_disk}
use Rattle.mta_edge.specs.Moments.{memory_clock}
use Rattle.mta_records.specs.Reference.{Identifier}
use Rattle.mta_session.specs.Session.{new_responder}
use Rattle.mta_session.specs.declared.event.Action.{Action}
use Rattle.mta_session.specs.declared.event.Action.TheVariants as action
use Rattle.mta_session.specs.declared.event.Event.TheVariants as event
use Rattle.mta_session.specs.declared.event.SessionEnd.{SessionEnd}
use Rattle.mta_session.specs.declared.event.SessionEnd.TheVariants as ends
use Rattle.mta_session_run.specs.Running.{HasTold}
use Rattle.mta_spool.specs.Shown.{Shown}
use Rattle.mta_spool.specs.Stands.{TellsFewer}
use Rattle.mta_spool.specs.Turning.{IsLastRecorded}
use Rattle.mta_stations.specs.declared.end.Halt.{Halt}
use Rattle.mta_tables.specs.Tables.{TablesValue}
use Rattle.mta_worker.specs.Plans.{new_reference}
use Rattle.mta_worker.specs.Readying.{IsReadied}
use Rattle.mta_worker.specs.declared.ready.Ready.{Ready}
use Rattle.mta_worker.specs.declared.ready.Ready.TheVariants as ready
use Rattle.mta_worker.specs.declared.telling.Lost.TheVariants as losts
use Rattle.mta_drill_answer_laws.specs.Answers.{IsShort, WantsMemory, Works}
use Rattle.mta_drill_links.specs.Ways.{AreOnWay}
use Rattle.mta_drill_stage_laws.specs.Breaks.{Breaks}
use Rattle.mta_drill_stage_laws.specs.Sessions.{HasPassed, HasStarted}
use Rattle.mta_drill_stage_laws.specs.World.{CallerActs, CallerRests, Goes, ListenerGoes, ListenerRests, World}
use Rattle.mta_drill.specs.declared.session.Rests.{Rests}
use Rattle.mta_drill.specs.declared.side.Rest.{Rest}
use Rattle.mta_drill.specs.declared.side.Side.{Side}
use Rattle.mta_drill.specs.Acts.{IsGivenUp, IsSide, RestsAt}

-- Both go on from this world: the listener until it rests, and then round by round.
pub record RanTo (w now : World) : Type 0 where
  pub start : World
  pub first : ListenerGoes w start
  pub rested : ListenerRests start
  pub went : Goes start now

-- A session that goes on from this world is given up.
pub data GaveUp (w : World) : Type 0 where
  Listener_first : (u : World) (is_closed : Bool) → ListenerGoes w u → IsGivenUp u.listening is_closed → GaveUp w
  Caller : (u : World) (is_closed : Bool) → RanTo w u → IsGivenUp u.calling is_closed → GaveUp w
  Listener : (u v x : World) (is_closed : Bool) → RanTo w u → CallerActs u v → ListenerGoes v x
      → IsGivenUp x.listening is_closed → GaveUp w

-- The caller wants this, and the listener rests.
pub record AreBoth (x y : Side) (s t : Shown HeldDisk (List ℕ)) (a : Action) (r : Rest) (b : Breaks) (w : World)
    : Type 0 where
  pub calling : IsSide x s a b w.calling w.link
  pub listening : RestsAt r y t b w.listening w.link
  pub rests : ListenerRests w

-- So they stand in a world to which they went from this one.
pub record HasRun (x y : Side) (s t : Shown HeldDisk (List ℕ)) (a : Action) (r : Rest) (b : Breaks) (w : World)
    : Type 0 where
  pub now : World
  pub ran : RanTo w now
  pub both : AreBoth x y s t a r b now

-- Both rest in a world to which they went from this one.
pub record HaveRested (x y : Side) (s t : Shown HeldDisk (List ℕ)) (r : Rests) (b : Breaks) (w : World)
    : Type 0 where
  pub now : World
  pub ran : RanTo w now
  pub calling : RestsAt r.calling x s b now.calling now.link
  pub listening : RestsAt r.listening y t b now.listening now.link
  pub caller_rests : CallerRests now
  pub listener_rests : ListenerRests now

-- ---- to its end

-- Where both are over nothing is done behind it.
pub record HasRunOut (is_closed : Bool) (s t : Shown HeldDisk (List ℕ)) (b : Breaks) (w : World) : Type 0 where
  pub now : World
  pub ran : RanTo w now
  pub caller_rests : CallerRests now
  pub listener_rests : ListenerRests now
  pub closed : (e : SessionEnd) → now.calling.wants ≡ action.Finish e
      → (is_closed ≡ true) ↔ (e ≡ ends.Closed)
  pub first : (e : SessionEnd) → now.calling.wants ≡ action.Finish e
      → (now.calling.spool ≡ s.current) × Works s
  pub second : (e f : SessionEnd) → now.calling.wants ≡ action.Finish e → now.listening.wants ≡ action.Finish f
      → (now.listening.spool ≡ t.current) × (now.link.breaks ≡ b) × Works t

-- ---- a session begins

abbrev pub most_units : ℕ
most_units = 1048576

-- nothing is on the way to the side, over a link that is whole
pub record IsAtStart (x : Side) : Type 0 where
  pub none : AreOnWay [] x.came.feed
  pub whole : x.came.is_broken ≡ false

-- what of what stands before a session is the side that calls, where memory is there
abbrev pub IsCallerOf : Ready → Option (Side × Action) → Type 0
IsCallerOf (ready.Begins u (Ok a)) (Some x) = (x.0.session ≡ u) × (x.1 ≡ a) × IsAtStart x.0
IsCallerOf (ready.Begins u (Err losts.Lane)) None = Unit {0}
IsCallerOf ready.Closed None = Unit {0}
IsCallerOf (ready.Halts halt) None = WantsMemory halt → ⊥
IsCallerOf _ _ = ⊥

-- the first agent looked its peer up, and opened or bound its lane
pub record HasCalled (peer : List ℕ) (old : Shown HeldDisk (List ℕ)) (x : Option (Side × Action))
    (new : Shown HeldDisk (List ℕ)) : Type 0 where
  pub halt : Option Halt
  pub ready : Ready
  pub readied : IsReadied memory_disk memory_clock peer most_units old None new halt ready
  pub enough : IsShort halt → ⊥
  pub caller : IsCallerOf ready x
  pub clock : TellsFewer memory_clock old.clock new.clock

-- the second agent listens, where it has tables
abbrev pub Listens : Shown HeldDisk (List ℕ) → Option (Side × Action) → Type 0
Listens s None = s.current.machine.tables ≡ []
Listens s (Some x) =
    (tables : TablesValue) × IsLastRecorded s.current.machine (Some tables)
    × HasTold (new_responder tables.own most_units) event.Go x.1 x.0.session × IsAtStart x.0

-- ---- a session

-- the lane of a drill, which the first agent opens as its first one at the first moment
abbrev pub our_reference : Identifier
our_reference = new_reference (codes "GOLD-1") 0 1

-- Both agents began a session over a whole link and went on until both rested, and this is what they hold then; the
-- lane was closed, or not.
pub record HasMet (first second : Shown HeldDisk (List ℕ)) (b : Breaks) (is_closed : Bool)
    (s t : Shown HeldDisk (List ℕ)) (c : Breaks) : Type 0 where
  pub began : World
  pub now : World
  pub started : HasStarted our_reference first.current second.current b began
  pub passed : HasPassed began now
  pub closed : (is_closed ≡ true) ↔ (now.calling.wants ≡ action.Finish ends.Closed)
  pub first_is : now.calling.spool ≡ s.current
  pub second_is : now.listening.spool ≡ t.current
  pub breaks_are : now.link.breaks ≡ c
  pub first_works : Works s
  pub second_works : Works t
