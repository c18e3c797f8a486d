-- What a worker does for one session: it is carried on over its link, and its questions are answered, each in one turn
-- of the lock.
use Rattle.std.specs.Prelude.{◌≡◌, ℕ, Bool, true, false, List, [], ◌∷◌, Option, None, Some}
use mathlib.Core.List.{IsPrefix}
use Rattle.mta_edge.specs.Causes.{Rose}
use Rattle.mta_edge.specs.Views.{ClockView, DiskView}
use Rattle.mta_links.specs.Links.{LinkView, Leads}
use Rattle.mta_records.specs.declared.step.Step.{Step}
use Rattle.mta_units.specs.declared.unit.Unit.{Unit as AnyUnit}
use Rattle.mta_units.specs.declared.unit.Unit.TheVariants as unit
use Rattle.mta_units.specs.Canon.{unit_octets}
use Rattle.mta_units.specs.Feed.{Feed}
use Rattle.mta_session_run.specs.Carried.{PutsAll, PutsFront}
use Rattle.mta_session.specs.State.{State}
use Rattle.mta_session.specs.Groups.{has_turned}
use Rattle.mta_session.specs.declared.ask.Ask.{Ask}
use Rattle.mta_session.specs.declared.event.Action.{Action}
use Rattle.mta_session.specs.declared.event.Action.TheVariants as action
use Rattle.mta_session.specs.declared.event.SessionEnd.{SessionEnd}
use Rattle.mta_session.specs.declared.event.SessionEnd.TheVariants as end
use Rattle.mta_session_run.specs.Running.{HasRun, HasStopped, action_of}
use Rattle.mta_session_run.specs.declared.came.Came.{Came}
use Rattle.mta_shared.specs.Held.{Held}
use Rattle.mta_shared.specs.Passes.{grown}
use Rattle.mta_spool.specs.Bases.{Keeps}
use Rattle.mta_spool.specs.Shown.{Shown}
use Rattle.mta_stations.specs.declared.end.Halt.{Halt}
use Rattle.mta_stations.specs.declared.end.Halt.TheVariants as Halts
use Rattle.mta_worker.specs.declared.telling.Lost.{Lost}
use Rattle.mta_worker.specs.declared.telling.Lost.TheVariants as losts
use Rattle.mta_worker.specs.declared.session.Served.{Served}
use Rattle.mta_worker.specs.Turns.{HasAnswered, IsLost}

-- In one turn of the lock: the spool had a history that goes on from what the pass had seen, and this was done with it.
-- The pass has then seen the history that it has then, and a step that was made is its own.
pub record InTurn {D C : Type 0} (disks : DiskView D) (clocks : ClockView C) (done : Shown D C → Shown D C → Type 0)
    (p q : Held Step) : Type 0 where
  pub before : Shown D C
  pub after : Shown D C
  pub begins : IsPrefix p.seen before.entries
  pub keeps : Keeps disks clocks before p.base
  pub did : done before after
  pub left : q ≡ grown after.entries (record p { seen = before.entries })

-- a session between two things that a worker does for it
pub record At (L : Type 0) : Type 0 where
  pub session : State
  -- what it wants
  pub action : Action
  pub link : L
  pub feed : Feed
  pub pass : Held Step
  -- why the worker ends behind it, if it does
  pub halt : Option Halt

-- the reason of the Abort by which a worker gives a session up (X.228): localSystemProblem where memory is wanted
abbrev pub reason_of : Lost → ℕ
reason_of losts.Memory = 0
reason_of losts.Lane = 4

-- the first cause stays
abbrev pub halt_behind : Option Halt → Lost → Option Halt
halt_behind (Some halt) lost = Some halt
halt_behind None losts.Memory = Some Halts.Memory
halt_behind None losts.Lane = None

-- the Abort is put: wholly, or a front of it where the link fails, or nothing where there is no memory for its octets
pub data PutsAbort {L : Type 0} (model : LinkView L) (u : AnyUnit) (old new : L) : Type 0 where
  Whole : Leads (PutsAll (unit_octets u)) (model.talk old) (model.talk new) → PutsAbort model u old new
  Cut : PutsFront (unit_octets u) (model.talk old) (model.talk new) → Rose (model.faults old) (model.faults new)
      → PutsAbort model u old new
  Unput : model.talk new ≡ model.talk old → PutsAbort model u old new

-- A worker gives a session up: it puts an Abort, but where the session comes to its end already.
pub record GivesUp {L : Type 0} (model : LinkView L) (lost : Lost) (turned : Bool) (halt : Option Halt) (old new : L)
    (served : Served) : Type 0 where
  pub end_is : served.end ≡ Some (end.Aborted (reason_of lost))
  pub halt_is : served.halt ≡ halt_behind halt lost
  pub silent : turned ≡ true → new ≡ old
  pub says : turned ≡ false → PutsAbort model (unit.Abort (reason_of lost)) old new

module _ {D C L : Type 0} (disks : DiskView D) (clocks : ClockView C) (links : LinkView L) where
  -- one thing: it is carried on over its link, or its question is answered in one turn of the lock
  pub data Does (x y : At L) : Type 0 where
    Carries : (came : Came)
        → HasRun links x.session x.action x.link x.feed came y.session y.link y.feed → y.action ≡ action_of came
        → y.pass ≡ x.pass → y.halt ≡ x.halt → Does x y
    Answers : (q : Ask) → x.action ≡ action.Ask q
        → InTurn disks clocks (λ s s'. HasAnswered disks clocks q s x.session x.halt s' y.session y.action y.halt)
        x.pass y.pass → y.link ≡ x.link → y.feed ≡ x.feed → Does x y

  -- one after the other
  abbrev pub Goes : At L → List (At L) → At L → Type 0
  Goes x [] y = y ≡ x
  Goes x (z ∷ zs) y = Does x z × Goes z zs y

  -- How a session is served to its end: it comes to one, or is given up where memory is wanted at its link, or in a
  -- turn of the lock.
  pub data IsServed (x : At L) (link : L) (pass : Held Step) (served : Served) : Type 0 where
    To_its_end : (zs : List (At L)) (y : At L) (e : SessionEnd) → Goes x zs y → y.action ≡ action.Finish e
        → link ≡ y.link → pass ≡ y.pass → served.end ≡ Some e → served.halt ≡ y.halt
        → IsServed x link pass served
    Stopped : (zs : List (At L)) (y : At L) (t : State) (at : L) → Goes x zs y
        → HasStopped links y.session y.action y.link y.feed t at → pass ≡ y.pass
        → GivesUp links losts.Memory (has_turned t.phase) y.halt at link served → IsServed x link pass served
    Given_up : (zs : List (At L)) (y : At L) (q : Ask) (t : State) (halt : Option Halt) (lost : Lost) → Goes x zs y
        → y.action ≡ action.Ask q
        → InTurn disks clocks (λ s s'. IsLost disks clocks q s y.session y.halt s' t halt lost) y.pass pass
        → GivesUp links lost (has_turned t.phase) halt y.link link served → IsServed x link pass served
