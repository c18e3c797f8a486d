-- Turns of the lock in which lanes that were never agreed are closed.
use Rattle.std.proofs.Common.{◌≡◌, ℕ, ◌+◌, List, [], ◌∷◌, ◌++◌, length, length-append, Option}
use Rattle.std.proofs.Common.{None, Result, refl}
use Rattle.std.proofs.Common.{subst, arith}
use Rattle.mta_edge.specs.Views.{ClockView, DiskView}
use Rattle.mta_links.specs.Links.{LinkView}
use Rattle.mta_records.specs.declared.step.Step.{Step}
use Rattle.mta_session.specs.State.{State}
use Rattle.mta_session.specs.declared.event.Action.{Action}
use Rattle.mta_shared.specs.Held.{Held}
use Rattle.mta_spool.specs.Shown.{Shown}
use Rattle.mta_stations.specs.declared.end.Halt.{Halt}
use Rattle.mta_worker.specs.declared.proposal.Next.{Next}
use Rattle.mta_worker.specs.declared.ready.Ready.{Ready}
use Rattle.mta_worker.specs.declared.ready.Ready.TheVariants as ready
use Rattle.mta_worker.specs.declared.telling.Lost.{Lost}
use Rattle.mta_worker.specs.Readying.{IsReadied, No_peer, No_number, No_memory, Stepped}
use Rattle.mta_worker.specs.Readying.{IsStepped, No_room, Refused, Closed, Begun}
use Rattle.mta_worker.specs.Served.{Closings}
use Rattle.mta_worker.specs.Serving.{InTurn}
use Rattle.mta_worker.proofs.Turning.{in_turn_as}

begins_closed : (u : State) (first : Result Action Lost) → ready.Begins u first ≡ ready.Closed → ⊥
begins_closed u first e = cc

module _ {D C : Type 0} (disks : DiskView D) (clocks : ClockView C) where
  stepped_same : (x : Next) (units : ℕ) (s : Shown D C) (halt : Option Halt) (t : Shown D C) (halt' : Option Halt)
      (r : Ready) → r ≡ ready.Closed → IsStepped disks clocks x units s halt t halt' r → halt' ≡ halt
  stepped_same x units s halt t halt' r e (No_room a h) = h
  stepped_same x units s halt t halt' r e (Refused q y f a b c h) = h
  stepped_same x units s halt t halt' r e (Closed lane g a b h) = h
  stepped_same x units s halt t halt' r e (Begun q y plan u first a b c d) = absurd (begins_closed u first e)

  -- no cause to end is noted where a lane is closed
  readied_same : (peer : List ℕ) (units : ℕ) (s : Shown D C) (halt : Option Halt) (t : Shown D C)
      (halt' : Option Halt) (r : Ready) → r ≡ ready.Closed → IsReadied disks clocks peer units s halt t halt' r
      → halt' ≡ halt
  readied_same peer units s halt t halt' r e (No_peer a b h) = h
  readied_same peer units s halt t halt' r e (No_number n a b h) = h
  readied_same peer units s halt t halt' r e (No_memory a h) = h
  readied_same peer units s halt t halt' r e (Stepped x y a b) = stepped_same x units s halt t halt' y e b

  closed_so : (peer : List ℕ) (units : ℕ) (noted : Option Halt) (r : Ready) → r ≡ ready.Closed
      → (s t : Shown D C)
      → IsReadied disks clocks peer units s None t noted r
      → IsReadied disks clocks peer units s None t None ready.Closed
  closed_so peer units noted r e s t i =
      subst (λ (h : Option Halt). IsReadied disks clocks peer units s None t h ready.Closed)
      (readied_same peer units s None t noted r e i)
      (subst (λ (z : Ready). IsReadied disks clocks peer units s None t noted z) e i)

  -- what a turn came to, told by what it is
  pub readied_as : (peer : List ℕ) (units : ℕ) (noted : Option Halt) (r r' : Ready) (p q : Held Step) → r ≡ r'
      → InTurn disks clocks (λ s t. IsReadied disks clocks peer units s None t noted r) p q
      → InTurn disks clocks (λ s t. IsReadied disks clocks peer units s None t noted r') p q
  readied_as peer units noted r r' p q e i =
      subst (λ (z : Ready). InTurn disks clocks (λ s t. IsReadied disks clocks peer units s None t noted z) p q) e i

module _ {D C L : Type 0} (disks : DiskView D) (clocks : ClockView C) (links : LinkView L) where
  closings_on : (peer : List ℕ) (units : ℕ) (p : Held Step) (ms : List (Held Step)) (q r : Held Step)
      → Closings disks clocks links peer units p ms q
      → InTurn disks clocks (λ s t. IsReadied disks clocks peer units s None t None ready.Closed) q r
      → Closings disks clocks links peer units p (ms ++ r ∷ []) r
  closings_on peer units p [] q r c i = (
    subst (λ (w : Held Step). InTurn disks clocks
        (λ s t. IsReadied disks clocks peer units s None t None ready.Closed) w r) c i,
    refl,
  )
  closings_on peer units p (m ∷ ms) q r c i = (c.0, closings_on peer units m ms q r c.1 i)

  -- so many, whichever turns these were
  abbrev pub HasClosed : (peer : List ℕ) (units n : ℕ) → Held Step → Held Step → Type 0
  HasClosed peer units n p q =
      (ms : List (Held Step)) × Closings disks clocks links peer units p ms q × (length ms ≡ n)

  pub closed_none : (peer : List ℕ) (units : ℕ) (p : Held Step) → HasClosed peer units 0 p p
  closed_none peer units p = ([], refl, refl)

  -- one more is closed
  pub closed_more : (peer : List ℕ) (units n : ℕ) (p q r : Held Step) (noted : Option Halt) (x : Ready)
      → x ≡ ready.Closed → HasClosed peer units n p q
      → InTurn disks clocks (λ s t. IsReadied disks clocks peer units s None t noted x) q r
      → HasClosed peer units (n + 1) p r
  closed_more peer units n p q r noted x e h i =
      let one : length (h.0 ++ r ∷ []) ≡ length h.0 + 1 = length-append h.0 (r ∷ []) in (
        h.0 ++ r ∷ [],
        closings_on peer units p h.0 q r h.1 (in_turn_as disks clocks
            (λ s t. IsReadied disks clocks peer units s None t noted x)
            (λ s t. IsReadied disks clocks peer units s None t None ready.Closed) q r
            (closed_so disks clocks peer units noted x e) i),
        omega (arith, one, h.2),
      )
