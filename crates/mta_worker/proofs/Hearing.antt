-- The session of a link by which a peer called, behind the turn in which the own name is looked up.
use Rattle.std.proofs.Common.{◌≡◌, ℕ, false, List, Option, Some, None, Result, Ok, subst, sym, ap, ◌∙◌}
use Rattle.std.specs.Prelude.{IfSome}
use Rattle.mta_ber.specs.declared.memory.Memory.{Memory as NoMemory}
use Rattle.mta_edge.specs.Views.{ClockView, DiskView}
use Rattle.mta_links.specs.Links.{LinkView}
use Rattle.mta_links.specs.declared.role.Role.{Role}
use Rattle.mta_links.specs.declared.role.Role.TheVariants as role
use Rattle.mta_worker.specs.Names.{IsName}
use Rattle.mta_records.specs.declared.step.Step.{Step}
use Rattle.mta_units.specs.Feed.{no_feed}
use Rattle.mta_session.specs.State.{State}
use Rattle.mta_session.specs.Session.{new_responder}
use Rattle.mta_session.specs.declared.event.Action.{Action}
use Rattle.mta_session.specs.declared.event.Event.TheVariants as event
use Rattle.mta_session_run.specs.Running.{HasTold}
use Rattle.mta_shared.specs.Held.{Held}
use Rattle.mta_stations.specs.declared.end.Halt.TheVariants as Halts
use Rattle.mta_worker.specs.declared.session.Served.{Served}
use Rattle.mta_worker.specs.declared.telling.Lost.TheVariants as losts
use Rattle.mta_worker.specs.Served.{HasListened, IsLinkServed, IsOwnName, none_begun}
use Rattle.mta_worker.specs.Served.{Listening, Lost_at_once, Wanting, Without}
use Rattle.mta_worker.specs.Serving.{GivesUp, InTurn, IsServed}
use Rattle.mta_worker.proofs.Turning.{in_turn_as}

found_as : (r : Result (Option (List ℕ)) NoMemory) (o o' : Option (List ℕ)) → r ≡ Ok o → o ≡ o'
    → r ≡ Ok o'
found_as r o o' e f = e ∙ ap (λ (z : Option (List ℕ)). Ok z) f

pub named : (o : Option (List ℕ)) (own : List ℕ) → o ≡ Some own → IfSome o IsName → IsName own
named o own e h = subst (λ (z : Option (List ℕ)). IfSome z IsName) e h

module _ {D C L : Type 0} (disks : DiskView D) (clocks : ClockView C) (links : LinkView L) (units : ℕ) where
  -- the own name as the turn found it
  abbrev Found : Result (Option (List ℕ)) NoMemory → Held Step → Held Step → Type 0
  Found r p q = InTurn disks clocks (λ s t. IsOwnName s.current r × (t ≡ s)) p q

  found_so : (r : Result (Option (List ℕ)) NoMemory) (o o' : Option (List ℕ)) (p q : Held Step) → r ≡ Ok o
      → o ≡ o' → Found r p q → Found (Ok o') p q
  found_so r o o' p q e f i =
      subst (λ (z : Result (Option (List ℕ)) NoMemory). Found z p q) (found_as r o o' e f) i

  pub heard_without : (r : Result (Option (List ℕ)) NoMemory) (o : Option (List ℕ)) (p q : Held Step) (old new : L)
      (served : Served) → r ≡ Ok o → o ≡ None → Found r p q → new ≡ old
      → served ≡ none_begun Halts.NoPeer → HasListened disks clocks links units p old new q served
  heard_without r o p q old new served e f i same is = Without (found_so r o None p q e f i) same is

  pub heard_wanting : (r : Result (Option (List ℕ)) NoMemory) (p q : Held Step) (old new : L) (served : Served)
      → Found r p q → new ≡ old → served ≡ none_begun Halts.Memory
      → HasListened disks clocks links units p old new q served
  heard_wanting r p q old new served i same is =
      Wanting (in_turn_as disks clocks (λ s t. IsOwnName s.current r × (t ≡ s)) (λ s t. t ≡ s) p q
      (λ s t d. d.1) i) same is

  pub heard_well : (r : Result (Option (List ℕ)) NoMemory) (o : Option (List ℕ)) (own : List ℕ)
      (p mid q : Held Step) (s t : State) (first : Action) (old new : L) (served : Served) → r ≡ Ok o
      → o ≡ Some own → Found r p mid → s ≡ new_responder own units → HasTold s event.Go first t
      → IsServed disks clocks links (record {
        session = t;
        action = first;
        link = old;
        feed = no_feed;
        pass = mid;
        halt = None;
      }) new q served → HasListened disks clocks links units p old new q served
  heard_well r o own p mid q s t first old new served e f i new_is told h =
      Listening own mid first t (found_so r o (Some own) p mid e f i)
      (subst (λ (z : State). HasTold z event.Go first t) new_is told).turn h

  pub heard_lost : (r : Result (Option (List ℕ)) NoMemory) (o : Option (List ℕ)) (own : List ℕ) (p q : Held Step)
      (old new : L) (served : Served) → r ≡ Ok o → o ≡ Some own → Found r p q
      → GivesUp links losts.Memory false None old new served
      → HasListened disks clocks links units p old new q served
  heard_lost r o own p q old new served e f i gives =
      Lost_at_once own (found_so r o (Some own) p q e f i) gives

  pub link_heard : (r : Role) (p q : Held Step) (old new : L) (served : Served) → r ≡ role.In
      → HasListened disks clocks links units p old new q served
      → IsLinkServed disks clocks links r units p old new q served
  link_heard r p q old new served e h =
      subst (λ (z : Role). IsLinkServed disks clocks links z units p old new q served) (sym e) h
