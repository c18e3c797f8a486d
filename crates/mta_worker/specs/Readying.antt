-- What one turn of the lock leaves before an initiator's session.
use Rattle.std.specs.Prelude.{◌≡◌, ℕ, List, Option, None, Some, Result, Ok, Err, unwrap_or}
use Rattle.mta_edge.specs.Views.{ClockView, DiskView}
use Rattle.mta_records.specs.declared.fault.StepFault.{StepFault}
use Rattle.mta_records.specs.declared.lane.LaneRole.TheVariants.{Initiator}
use Rattle.mta_spool.specs.Shown.{Shown}
use Rattle.mta_session.specs.State.{State}
use Rattle.mta_session.specs.Session.{new_initiator}
use Rattle.mta_session.specs.declared.ask.Ask.{Ask}
use Rattle.mta_session.specs.declared.ask.Ask.TheVariants as ask
use Rattle.mta_session.specs.declared.ask.Reply.{Reply}
use Rattle.mta_session.specs.declared.ask.Reply.TheVariants as reply
use Rattle.mta_session.specs.declared.event.Event.TheVariants as event
use Rattle.mta_session.specs.declared.event.Action.{Action}
use Rattle.mta_session.specs.declared.event.InitiatorPlan.{InitiatorPlan}
use Rattle.mta_session_laws.specs.Runs.{IsTurn}
use Rattle.mta_worker.specs.Plans.{on_lane}
use Rattle.mta_stations.specs.declared.end.Halt.{Halt}
use Rattle.mta_stations.specs.declared.end.Halt.TheVariants as Halts
use Rattle.mta_worker.specs.declared.proposal.Next.{Next}
use Rattle.mta_worker.specs.declared.proposal.Next.TheVariants as next
use Rattle.mta_worker.specs.declared.telling.Lost.{Lost}
use Rattle.mta_worker.specs.declared.telling.Lost.TheVariants as losts
use Rattle.mta_worker.specs.declared.ready.Ready.{Ready}
use Rattle.mta_worker.specs.declared.ready.Ready.TheVariants as ready
use Rattle.mta_worker.specs.Answers.{Answered}
use Rattle.mta_stations.specs.Halting.{halt_of}
use Rattle.mta_worker.specs.Halting.{fault_of}
use Rattle.mta_worker.specs.Proposals.{IsNext}
use Rattle.mta_worker.specs.Turns.{HasLooked, IsLostLooking, WantsNoLook}

-- why a worker ends whose step before a session was refused
abbrev pub halt_before : StepFault → Halt
halt_before fault = unwrap_or (halt_of fault) Halts.Memory

-- The question that a lane is opened, bound or closed by, and what it is told then.
abbrev pub asks_next : Next → Option Ask
asks_next (next.Open p) = Some (ask.LaneOpen Initiator p.peer p.reference p.twa p.checkpoint p.window)
asks_next (next.Bind lane p) = Some (ask.Bind lane)
asks_next (next.Close lane generation) = Some (ask.CloseLane lane generation)
asks_next _ = None

-- what is proposed then, where the lane is the session's
abbrev pub plan_behind : Next → Reply → Option InitiatorPlan
plan_behind (next.Open p) (reply.LaneOpen (Ok lane)) = Some (on_lane p lane 1)
plan_behind (next.Bind lane p) (reply.Bind (Ok generation)) = Some (on_lane p lane generation)
plan_behind _ x = None

module _ {D C : Type 0} (disks : DiskView D) (clocks : ClockView C) where
  -- the session that begins with this plan: its first call, and all looks behind it, or that it is given up
  pub data Begins (s : Shown D C) (plan : InitiatorPlan) (units : ℕ) (halt : Option Halt) (u : State)
      (halt' : Option Halt) : Result Action Lost → Type 0 where
    Well : (first b : Action) (t : State)
        → IsTurn (record { before = new_initiator plan units; event = event.Go; action = first; after = t })
        → HasLooked disks clocks s t first halt u b halt' → WantsNoLook b
        → Begins s plan units halt u halt' (Ok b)
    Without_memory : u ≡ new_initiator plan units → halt' ≡ halt
        → Begins s plan units halt u halt' (Err losts.Memory)
    Lost_looking : (first : Action) (t : State) (lost : Lost)
        → IsTurn (record { before = new_initiator plan units; event = event.Go; action = first; after = t })
        → IsLostLooking disks clocks s t first halt u halt' lost → Begins s plan units halt u halt' (Err lost)

  -- What comes of the step that is next. At most that one is made.
  pub data IsStepped (x : Next) (units : ℕ) (old : Shown D C) (halt : Option Halt) (new : Shown D C)
      (halt' : Option Halt) : Ready → Type 0 where
    -- there is no memory to make it
    No_room : new ≡ old → halt' ≡ halt → IsStepped x units old halt new halt' (ready.Halts Halts.Memory)
    -- it is refused
    Refused : (q : Ask) (y : Reply) (fault : StepFault) → asks_next x ≡ Some q → Answered disks clocks q old y new
        → fault_of y ≡ Some fault → halt' ≡ halt
        → IsStepped x units old halt new halt' (ready.Halts (halt_before fault))
    -- a lane that was never agreed is closed
    Closed : (lane generation : ℕ) → x ≡ next.Close lane generation
        → Answered disks clocks (ask.CloseLane lane generation) old (reply.CloseLane (Ok tt)) new → halt' ≡ halt
        → IsStepped x units old halt new halt' ready.Closed
    -- a session begins on a lane that is opened or bound
    Begun : (q : Ask) (y : Reply) (plan : InitiatorPlan) (u : State) (first : Result Action Lost)
        → asks_next x ≡ Some q → Answered disks clocks q old y new → plan_behind x y ≡ Some plan
        → Begins new plan units halt u halt' first → IsStepped x units old halt new halt' (ready.Begins u first)

  -- What one turn of the lock came to.
  pub data IsReadied (peer : List ℕ) (units : ℕ) (old : Shown D C) (halt : Option Halt) (new : Shown D C)
      (halt' : Option Halt) : Ready → Type 0 where
    No_peer : IsNext old.current peer next.NoPeer → new ≡ old → halt' ≡ halt
        → IsReadied peer units old halt new halt' (ready.Halts Halts.NoPeer)
    No_number : (last : ℕ) → IsNext old.current peer (next.NoNumber last) → new ≡ old → halt' ≡ halt
        → IsReadied peer units old halt new halt' (ready.Halts (Halts.Spent last))
    No_memory : new ≡ old → halt' ≡ halt → IsReadied peer units old halt new halt' (ready.Halts Halts.Memory)
    Stepped : (x : Next) (r : Ready) → IsNext old.current peer x → IsStepped x units old halt new halt' r
        → IsReadied peer units old halt new halt' r
