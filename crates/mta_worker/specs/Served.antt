-- What a worker does with one link of its station.
use Rattle.std.specs.Prelude.{◌≡◌, ℕ, false, List, [], ◌∷◌, length, Option, None, Some, Result, Ok, Err}
use Rattle.mta_ber.specs.declared.memory.Memory.{Memory as NoMemory}
use Rattle.mta_edge.specs.Views.{ClockView, DiskView}
use Rattle.mta_links.specs.Links.{LinkView}
use Rattle.mta_links.specs.declared.role.Role.{Role}
use Rattle.mta_links.specs.declared.role.Role.TheVariants as role
use Rattle.mta_records.specs.declared.step.Step.{Step}
use Rattle.mta_tables.specs.Tables.{TablesValue}
use Rattle.mta_histories.specs.Lanes.{State as SpoolState}
use Rattle.mta_units.specs.Feed.{no_feed}
use Rattle.mta_session.specs.State.{State}
use Rattle.mta_session.specs.Groups.{has_turned}
use Rattle.mta_session.specs.Session.{new_responder}
use Rattle.mta_session.specs.declared.event.Action.{Action}
use Rattle.mta_session.specs.declared.event.Event.TheVariants as event
use Rattle.mta_session_laws.specs.Runs.{IsTurn}
use Rattle.mta_shared.specs.Held.{Held}
use Rattle.mta_spool.specs.Turning.{IsLastRecorded}
use Rattle.mta_stations.specs.declared.end.Halt.{Halt}
use Rattle.mta_stations.specs.declared.end.Halt.TheVariants as Halts
use Rattle.mta_worker.specs.declared.ready.Ready.TheVariants as ready
use Rattle.mta_worker.specs.declared.session.Served.{Served}
use Rattle.mta_worker.specs.declared.telling.Lost.{Lost}
use Rattle.mta_worker.specs.declared.telling.Lost.TheVariants as losts
use Rattle.mta_worker.specs.Readying.{IsReadied}
use Rattle.mta_worker.specs.Serving.{GivesUp, InTurn, IsServed}

-- no session was begun
abbrev pub none_begun : Halt → Served
none_begun halt = record { end = None; halt = Some halt }

-- how many lanes that were never agreed are closed for one link at most, each in a turn of its own
abbrev pub most_closings : ℕ
most_closings = 65

-- the own name in the tables recorded last; none where none are recorded
abbrev pub IsOwnName : SpoolState → Result (Option (List ℕ)) NoMemory → Type 0
IsOwnName s (Ok None) = IsLastRecorded s.machine None
IsOwnName s (Ok (Some own)) = (t : TablesValue) × IsLastRecorded s.machine (Some t) × (own ≡ t.own)
IsOwnName s (Err m) = Unit {0}

module _ {D C L : Type 0} (disks : DiskView D) (clocks : ClockView C) (links : LinkView L) where
  -- A peer called: the own name is looked up in a turn of the lock, and a session is served, or none is begun.
  pub data HasListened (units : ℕ) (p : Held Step) (old new : L) (q : Held Step) (served : Served) : Type 0 where
    Without : InTurn disks clocks (λ s t. IsOwnName s.current (Ok None) × (t ≡ s)) p q → new ≡ old
        → served ≡ none_begun Halts.NoPeer → HasListened units p old new q served
    Wanting : InTurn disks clocks (λ s t. t ≡ s) p q → new ≡ old → served ≡ none_begun Halts.Memory
        → HasListened units p old new q served
    Listening : (own : List ℕ) (mid : Held Step) (first : Action) (t : State)
        → InTurn disks clocks (λ s t. IsOwnName s.current (Ok (Some own)) × (t ≡ s)) p mid
        → IsTurn (record { before = new_responder own units; event = event.Go; action = first; after = t })
        → IsServed disks clocks links (record {
          session = t;
          action = first;
          link = old;
          feed = no_feed;
          pass = mid;
          halt = None;
        }) new q served → HasListened units p old new q served
    Lost_at_once : (own : List ℕ)
        → InTurn disks clocks (λ s t. IsOwnName s.current (Ok (Some own)) × (t ≡ s)) p q
        → GivesUp links losts.Memory false None old new served → HasListened units p old new q served

  -- turns of the lock in which lanes that were never agreed are closed, one in each
  abbrev pub Closings : (peer : List ℕ) (units : ℕ) → Held Step → List (Held Step) → Held Step → Type 0
  Closings peer units p [] q = q ≡ p
  Closings peer units p (m ∷ ms) q =
      InTurn disks clocks (λ s t. IsReadied disks clocks peer units s None t None ready.Closed) p m
      × Closings peer units m ms q

  -- This agent called a peer: a lane to it is opened or bound in a turn of the lock, behind those in which others are
  -- closed, and its session is served, or none is begun.
  pub data HasCalled (peer : List ℕ) (units : ℕ) (p : Held Step) (old new : L) (q : Held Step) (served : Served)
      : Type 0 where
    Halting : (ms : List (Held Step)) (mid : Held Step) (halt : Halt) (noted : Option Halt)
        → Closings peer units p ms mid
        → InTurn disks clocks (λ s t. IsReadied disks clocks peer units s None t noted (ready.Halts halt)) mid q
        → new ≡ old → served ≡ none_begun halt → HasCalled peer units p old new q served
    Calling : (ms : List (Held Step)) (mid at : Held Step) (u : State) (first : Action) (noted : Option Halt)
        → Closings peer units p ms mid
        → InTurn disks clocks
        (λ s t. IsReadied disks clocks peer units s None t noted (ready.Begins u (Ok first))) mid at
        → IsServed disks clocks links (record {
          session = u;
          action = first;
          link = old;
          feed = no_feed;
          pass = at;
          halt = noted;
        }) new q served → HasCalled peer units p old new q served
    Lost_before : (ms : List (Held Step)) (mid : Held Step) (u : State) (lost : Lost) (noted : Option Halt)
        → Closings peer units p ms mid
        → InTurn disks clocks
        (λ s t. IsReadied disks clocks peer units s None t noted (ready.Begins u (Err lost))) mid q
        → GivesUp links lost (has_turned u.phase) noted old new served → HasCalled peer units p old new q served
    -- other associations open lanes with the peer as fast as they are closed
    Too_often : (ms : List (Held Step)) → Closings peer units p ms q → length ms ≡ most_closings → new ≡ old
        → served ≡ none_begun Halts.Memory → HasCalled peer units p old new q served

  abbrev pub IsLinkServed : Role → (units : ℕ) → Held Step → L → L → Held Step → Served → Type 0
  IsLinkServed role.In units p old new q served = HasListened units p old new q served
  IsLinkServed (role.Out peer) units p old new q served = HasCalled peer units p old new q served
