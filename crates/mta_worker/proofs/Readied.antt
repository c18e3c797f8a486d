-- A session that begins, and the step before it.
use Rattle.std.proofs.Common.{◌≡◌, ℕ, Option, Result, Ok, Err, IfOk, List}
use Rattle.std.proofs.Common.{[], ◌∷◌, refl, sym, subst}
use Rattle.std.specs.Prelude.{IfErr}
use Rattle.mta_edge.specs.Views.{ClockView, DiskView}
use Rattle.mta_spool.specs.Shown.{Shown}
use Rattle.mta_session.specs.State.{State}
use Rattle.mta_session.specs.Session.{new_initiator, new_responder}
use Rattle.mta_session.specs.declared.ask.Reply.{Reply}
use Rattle.mta_session.specs.declared.event.Event.TheVariants as event
use Rattle.mta_session.specs.declared.event.Action.{Action}
use Rattle.mta_session.specs.declared.event.InitiatorPlan.{InitiatorPlan}
use Rattle.mta_session_laws.specs.Runs.{Turn, IsTurn}
use Rattle.mta_session_laws.specs.Whole.{IsNew, Initiates, Responds}
use Rattle.mta_session_laws.specs.Writing.{CanWrite, TellsWritable}
use Rattle.mta_session_run.specs.Running.{HasTold, IsCalled}
use Rattle.mta_stations.specs.declared.end.Halt.{Halt}
use Rattle.mta_worker.specs.Names.{IsName}
use Rattle.mta_worker.specs.Plans.{IsPlan}
use Rattle.mta_worker.specs.declared.telling.Lost.{Lost}
use Rattle.mta_worker.specs.Readying.{Begins, Well, Lost_looking}
use Rattle.mta_worker.specs.Turns.{HasLooked, IsLostLooking, WantsNoLook}

go_reply : (x : Reply) → event.Go ≡ event.Reply x → ⊥
go_reply x e = cc

go_tells : (t : State) → TellsWritable t event.Go
go_tells t = λ own o p i j k. absurd (go_reply _ k)

-- the first call of a new session
begun : (t : State) (a : Action) (u : State) → IsNew t → CanWrite t → HasTold t event.Go a u → IsCalled u a
begun t a u n w h =
    let x : Turn = record { before = t; event = event.Go; action = a; after = u } in
    let wrote = h.writes w (go_tells t) in
    record {
      first = t;
      turns = x ∷ [];
      new = n;
      calls = (refl, h.turn, refl);
      writes = wrote.0;
      writable = wrote.1;
      awaited = h.awaited t [] n (refl, h.turn, refl);
    }

pub initiator_begun : (plan : InitiatorPlan) (units : ℕ) (t : State) (a : Action) (u : State) → IsPlan plan
    → t ≡ new_initiator plan units → HasTold t event.Go a u → IsCalled u a
initiator_begun plan units t a u p e h =
    begun t a u (subst IsNew (sym e) (Initiates plan units))
    (subst CanWrite (sym e) (record { side = p.opens; call = λ s. absurd cc; found = tt })) h

pub responder_begun : (own : List ℕ) (units : ℕ) (t : State) (a : Action) (u : State) → IsName own
    → t ≡ new_responder own units → HasTold t event.Go a u → IsCalled u a
responder_begun own units t a u p e h =
    begun t a u (subst IsNew (sym e) (Responds own units))
    (subst CanWrite (sym e) (record { side = p; call = λ s. absurd cc; found = tt })) h

module _ {D C : Type 0} (disks : DiskView D) (clocks : ClockView C) where
  pub begins_so : (s : Shown D C) (plan : InitiatorPlan) (units : ℕ) (halt : Option Halt) (old t u : State)
      (first : Action) (halt' : Option Halt) (r : Result Action Lost) → old ≡ new_initiator plan units
      → IsTurn (record { before = old; event = event.Go; action = first; after = t })
      → IfOk r (λ a. HasLooked disks clocks s t first halt u a halt') → IfOk r WantsNoLook
      → IfErr r (IsLostLooking disks clocks s t first halt u halt')
      → Begins disks clocks s plan units halt u halt' r
  begins_so s plan units halt old t u first halt' (Ok b) e turn looked all lost =
      Well first b t
      (subst (λ (z : State). IsTurn (record { before = z; event = event.Go; action = first; after = t })) e turn)
      looked
      all
  begins_so s plan units halt old t u first halt' (Err l) e turn looked all lost =
      Lost_looking first t l
      (subst (λ (z : State). IsTurn (record { before = z; event = event.Go; action = first; after = t })) e turn) lost
