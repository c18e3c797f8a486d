-- What a worker does: one session after another on the links of a station, and what is due behind each.
use Rattle.std.specs.Prelude.{◌≡◌, ◌<◌, ◌+◌, ℕ, Bool, true, false, List, [], ◌∷◌, Option}
use Rattle.std.specs.Prelude.{None, Some}
use Rattle.std.specs.Prelude.{Result, Ok, Err, if◌then◌else◌}
use Rattle.mta_edge.specs.Causes.{Rose}
use Rattle.mta_edge.specs.Views.{ClockView, DiskView}
use Rattle.mta_links.specs.Links.{LinkView, StationView, LeadsNext, LeadsBack}
use Rattle.mta_records.specs.declared.step.Step.{Step}
use Rattle.mta_records.specs.declared.fault.StepFault.{StepFault}
use Rattle.mta_session.specs.declared.event.SessionEnd.{SessionEnd}
use Rattle.mta_session.specs.declared.event.SessionEnd.TheVariants as end
use Rattle.mta_session.specs.declared.limits.Limits.{Limits}
use Rattle.mta_shared.specs.Held.{Held}
use Rattle.mta_spool.specs.Shown.{Shown}
use Rattle.mta_spool.specs.Stands.{AtMoment}
use Rattle.mta_spool.specs.Turning.{Turns}
use Rattle.mta_spool.specs.declared.spool.Turned.{Turned}
use Rattle.mta_spool.specs.declared.spool.Turned.TheVariants.{Did, Quiet}
use Rattle.mta_stations.specs.declared.end.Halt.{Halt}
use Rattle.mta_stations.specs.declared.end.Halt.TheVariants as Halts
use Rattle.mta_stations.specs.declared.end.WorkerEnd.{WorkerEnd}
use Rattle.mta_worker.specs.declared.session.Served.{Served}
use Rattle.mta_stations.specs.Halting.{halt_of}
use Rattle.mta_worker.specs.Served.{IsLinkServed}
use Rattle.mta_worker.specs.Serving.{InTurn}

-- the session ended with the lane closed
abbrev pub is_closed : Option SessionEnd → Bool
is_closed (Some end.Closed) = true
is_closed e = false

module _ {D C : Type 0} (disks : DiskView D) (clocks : ClockView C) where
  -- what one turn does of what is due, at a moment that the clock tells
  abbrev pub TurnsOnce : Shown D C → Result Turned StepFault → Shown D C → Type 0
  TurnsOnce old result new = AtMoment clocks old.clock old.current.moment (λ m. Turns disks m old new result)

  -- turns of the lock, in each of which a step is made that is due
  abbrev pub Dues : Held Step → List (Held Step) → Held Step → Type 0
  Dues p [] q = q ≡ p
  Dues p (m ∷ ms) q =
      ((step : Step) × InTurn disks clocks (λ s t. TurnsOnce s (Ok (Did step)) t) p m) × Dues m ms q

  -- What is due is done until nothing is, or a step is refused.
  pub data HasSettled (p q : Held Step) : Option Halt → Type 0 where
    Is_quiet : (ms : List (Held Step)) (mid : Held Step) (moment : ℕ) → Dues p ms mid
        → InTurn disks clocks (λ s t. TurnsOnce s (Ok (Quiet moment)) t) mid q → HasSettled p q None
    Is_refused : (ms : List (Held Step)) (mid : Held Step) (fault : StepFault) → Dues p ms mid
        → InTurn disks clocks (λ s t. TurnsOnce s (Err fault) t) mid q → HasSettled p q (halt_of fault)

  -- what comes behind a session: what is due, or the worker ends at once
  abbrev pub Behind : Held Step → Option Halt → Held Step → Option Halt → Type 0
  Behind p None q halt = HasSettled p q halt
  Behind p (Some why) q halt = (q ≡ p) × (halt ≡ Some why)

-- a worker between two links of its station
pub record AtStation (S : Type 0) : Type 0 where
  pub station : S
  pub pass : Held Step
  -- how many links it gave back, and how many of their sessions ended with the lane closed
  pub sessions : ℕ
  pub closed : ℕ

module _ {D C L S : Type 0} (disks : DiskView D) (clocks : ClockView C) (links : LinkView L)
    (stations : StationView S) where
  -- One link, where fewer than the limit were given back: the station gives it, its session is served, the station
  -- takes it back, and what is due is done.
  pub record Serves (limits : Limits) (x y : AtStation S) (halt : Option Halt) : Type 0 where
    pub room : x.sessions < limits.sessions
    pub given : S
    pub link : L
    pub left : L
    pub mid : Held Step
    pub served : Served
    pub next : LeadsNext links (Some link) (stations.served x.station) (stations.served given)
    pub kept : stations.role given ≡ stations.role x.station
    pub session : IsLinkServed disks clocks links (stations.role given) limits.units x.pass link left mid served
    pub back : LeadsBack links left (stations.served given) (stations.served y.station)
    pub out : stations.out y.station ≡ stations.out x.station
    pub role : stations.role y.station ≡ stations.role x.station
    pub sessions : y.sessions ≡ x.sessions + 1
    pub closed : y.closed ≡ (if is_closed served.end then x.closed + 1 else x.closed)
    pub behind : Behind disks clocks mid served.halt y.pass halt

  -- one after the other, behind each of which the worker goes on
  abbrev pub AllServed : Limits → AtStation S → List (AtStation S) → AtStation S → Type 0
  AllServed limits x [] y = y ≡ x
  AllServed limits x (z ∷ zs) y = Serves limits x z None × AllServed limits z zs y

  -- Why a worker ends, and what it has done then.
  pub data HasWorked (limits : Limits) (x : AtStation S) (last : S) (q : Held Step) : WorkerEnd → Type 0 where
    At_limit : (zs : List (AtStation S)) (y : AtStation S) → AllServed limits x zs y
        → y.sessions ≡ limits.sessions → last ≡ y.station → q ≡ y.pass
        → HasWorked limits x last q (record { sessions = y.sessions; closed = y.closed; halt = Halts.Limit })
    No_link : (zs : List (AtStation S)) (y : AtStation S) → AllServed limits x zs y
        → LeadsNext links None (stations.served y.station) (stations.served last) → q ≡ y.pass
        → HasWorked limits x last q (record { sessions = y.sessions; closed = y.closed; halt = Halts.StationEnded })
    Station_failed : (zs : List (AtStation S)) (y : AtStation S) → AllServed limits x zs y
        → Rose (stations.faults y.station) (stations.faults last)
        → stations.served last ≡ stations.served y.station → q ≡ y.pass
        → HasWorked limits x last q (record { sessions = y.sessions; closed = y.closed; halt = Halts.StationFailed })
    Halted : (zs : List (AtStation S)) (y z : AtStation S) (halt : Halt) → AllServed limits x zs y
        → Serves limits y z (Some halt) → last ≡ z.station → q ≡ z.pass
        → HasWorked limits x last q (record { sessions = z.sessions; closed = z.closed; halt = halt })
