-- A worker, one link after another, and what is due behind each.
use Rattle.std.proofs.Common.{◌≡◌, ◌<◌, ℕ, ◌+◌, List, [], ◌∷◌, ◌++◌, Bool, Option, None, Some, Ok}
use Rattle.std.proofs.Common.{Err, refl, sym}
use Rattle.std.proofs.Common.{◌∙◌, subst, arith}
use Rattle.std.specs.Prelude.{if◌then◌else◌}
use Rattle.mta_edge.specs.Views.{ClockView, DiskView}
use Rattle.mta_links.specs.Links.{LeadsBack, LeadsNext, LinkView, StationView}
use Rattle.mta_links.specs.declared.role.Role.{Role}
use Rattle.mta_records.specs.declared.fault.StepFault.{StepFault}
use Rattle.mta_records.specs.declared.step.Step.{Step}
use Rattle.mta_session.specs.declared.limits.Limits.{Limits}
use Rattle.mta_shared.specs.Held.{Held}
use Rattle.mta_spool.specs.declared.spool.Turned.{Turned}
use Rattle.mta_spool.specs.declared.spool.Turned.TheVariants.{Did, Quiet}
use Rattle.mta_stations.specs.Halting.{halt_of}
use Rattle.mta_stations.specs.declared.end.Halt.{Halt}
use Rattle.mta_worker.specs.Served.{IsLinkServed}
use Rattle.mta_worker.specs.Serving.{InTurn}
use Rattle.mta_worker.specs.Working.{AllServed, AtStation, Behind, Dues, HasSettled, Is_quiet, Is_refused, Serves}
use Rattle.mta_worker.specs.Working.{TurnsOnce, is_closed}
use Rattle.mta_worker.specs.declared.session.Served.{Served}

module _ {D C : Type 0} (disks : DiskView D) (clocks : ClockView C) where
  pub dues_more : (p : Held Step) (ms : List (Held Step)) (q r : Held Step) (step : Step) → Dues disks clocks p ms q
      → InTurn disks clocks (λ s t. TurnsOnce disks clocks s (Ok (Did step)) t) q r
      → Dues disks clocks p (ms ++ r ∷ []) r
  dues_more p [] q r step d i =
      let one : InTurn disks clocks (λ s t. TurnsOnce disks clocks s (Ok (Did step)) t) p r =
      subst (λ (w : Held Step). InTurn disks clocks (λ s t. TurnsOnce disks clocks s (Ok (Did step)) t) w r) d i in
      ((step, one), refl)
  dues_more p (m ∷ ms) q r step d i = (d.0, dues_more m ms q r step d.1 i)

  -- the same for what a turn did
  pub dues_did : (p : Held Step) (ms : List (Held Step)) (q r : Held Step) (t : Turned) (step : Step)
      → Dues disks clocks p ms q → t ≡ Did step
      → InTurn disks clocks (λ s u. TurnsOnce disks clocks s (Ok t) u) q r → Dues disks clocks p (ms ++ r ∷ []) r
  dues_did p ms q r t step d e i =
      dues_more p ms q r step d
      (subst (λ (x : Turned). InTurn disks clocks (λ s u. TurnsOnce disks clocks s (Ok x) u) q r) e i)

  pub quiet : (p : Held Step) (ms : List (Held Step)) (mid q : Held Step) (t : Turned) (moment : ℕ)
      → Dues disks clocks p ms mid → t ≡ Quiet moment
      → InTurn disks clocks (λ s u. TurnsOnce disks clocks s (Ok t) u) mid q → HasSettled disks clocks p q None
  quiet p ms mid q t moment d e i =
      Is_quiet ms mid moment d
      (subst (λ (x : Turned). InTurn disks clocks (λ s u. TurnsOnce disks clocks s (Ok x) u) mid q) e i)

  pub refused : (p : Held Step) (ms : List (Held Step)) (mid q : Held Step) (fault : StepFault) (halt : Option Halt)
      → Dues disks clocks p ms mid → InTurn disks clocks (λ s u. TurnsOnce disks clocks s (Err fault) u) mid q
      → halt ≡ halt_of fault → HasSettled disks clocks p q halt
  refused p ms mid q fault halt d i e =
      subst (HasSettled disks clocks p q) (sym e) (Is_refused ms mid fault d i)

module _ {D C L S : Type 0} (disks : DiskView D) (clocks : ClockView C) (links : LinkView L)
    (stations : StationView S) where
  pub served_more : (limits : Limits) (x : AtStation S) (zs : List (AtStation S)) (y z : AtStation S)
      → AllServed disks clocks links stations limits x zs y → Serves disks clocks links stations limits y z None
      → AllServed disks clocks links stations limits x (zs ++ z ∷ []) z
  served_more limits x [] y z a s =
      (subst (λ (w : AtStation S). Serves disks clocks links stations limits w z None) a s, refl)
  served_more limits x (w ∷ ws) y z a s = (a.0, served_more limits w ws y z a.1 s)

  -- one link, from what the calls leave
  pub serves : (limits : Limits) (x y : AtStation S) (halt : Option Halt) (given : S) (link left : L) (mid : Held Step)
      (served : Served) (role : Role) (is : Bool)
      → x.sessions < limits.sessions → LeadsNext links (Some link) (stations.served x.station) (stations.served given)
      → stations.out given ≡ stations.out x.station + 1 → stations.role given ≡ stations.role x.station
      → role ≡ stations.role given → IsLinkServed disks clocks links role limits.units x.pass link left mid served
      → LeadsBack links left (stations.served given) (stations.served y.station)
      → stations.out y.station + 1 ≡ stations.out given → stations.role y.station ≡ stations.role given
      → y.sessions ≡ x.sessions + 1 → is ≡ is_closed served.end
      → y.closed ≡ (if is then x.closed + 1 else x.closed) → Behind disks clocks mid served.halt y.pass halt
      → Serves disks clocks links stations limits x y halt
  serves limits x y halt given link left mid served role is room next more stays told session back less keeps one e
      closed
      behind = record {
        room = room;
        given = given;
        link = link;
        left = left;
        mid = mid;
        served = served;
        next = next;
        kept = stays;
        session = subst (λ (r : Role). IsLinkServed disks clocks links r limits.units x.pass link left mid served) told
            session;
        back = back;
        out = omega (arith, more, less);
        role = keeps ∙ stays;
        sessions = one;
        closed = subst (λ (b : Bool). y.closed ≡ (if b then x.closed + 1 else x.closed)) e closed;
        behind = behind;
      }
