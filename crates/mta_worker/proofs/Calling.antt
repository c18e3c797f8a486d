-- The session of a link by which this agent called a peer, behind the turns in which other lanes are closed.
use Rattle.std.proofs.Common.{◌≡◌, ℕ, Bool, List, Option, None, Result, Ok, Err, subst, sym, ap, ◌∙◌}
use Rattle.mta_edge.specs.Views.{ClockView, DiskView}
use Rattle.mta_links.specs.Links.{LinkView}
use Rattle.mta_links.specs.declared.role.Role.{Role}
use Rattle.mta_links.specs.declared.role.Role.TheVariants as role
use Rattle.mta_records.specs.declared.step.Step.{Step}
use Rattle.mta_units.specs.Feed.{no_feed}
use Rattle.mta_session.specs.State.{State}
use Rattle.mta_session.specs.Groups.{has_turned}
use Rattle.mta_session.specs.declared.event.Action.{Action}
use Rattle.mta_shared.specs.Held.{Held}
use Rattle.mta_stations.specs.declared.end.Halt.{Halt}
use Rattle.mta_stations.specs.declared.end.Halt.TheVariants as Halts
use Rattle.mta_worker.specs.declared.ready.Ready.{Ready}
use Rattle.mta_worker.specs.declared.ready.Ready.TheVariants as ready
use Rattle.mta_worker.specs.declared.session.Served.{Served}
use Rattle.mta_worker.specs.declared.telling.Lost.{Lost}
use Rattle.mta_worker.specs.Readying.{IsReadied}
use Rattle.mta_worker.specs.Served.{HasCalled, IsLinkServed, most_closings, none_begun}
use Rattle.mta_worker.specs.Served.{Halting, Calling, Lost_before, Too_often}
use Rattle.mta_worker.specs.Serving.{GivesUp, InTurn, IsServed}
use Rattle.mta_worker.proofs.Closing.{HasClosed, readied_as}

begins_as : (r : Ready) (u : State) (x y : Result Action Lost) → r ≡ ready.Begins u x → x ≡ y
    → r ≡ ready.Begins u y
begins_as r u x y e i = e ∙ ap (λ (z : Result Action Lost). ready.Begins u z) i

module _ {D C L : Type 0} (disks : DiskView D) (clocks : ClockView C) (links : LinkView L) (peer : List ℕ)
    (units : ℕ) where
  abbrev Readied : Ready → Option Halt → Held Step → Held Step → Type 0
  Readied r noted p q = InTurn disks clocks (λ s t. IsReadied disks clocks peer units s None t noted r) p q

  pub called_halting : (n : ℕ) (p mid q : Held Step) (noted : Option Halt) (r : Ready) (halt : Halt) (old new : L)
      (served : Served) → HasClosed disks clocks links peer units n p mid → r ≡ ready.Halts halt
      → Readied r noted mid q → new ≡ old → served ≡ none_begun halt
      → HasCalled disks clocks links peer units p old new q served
  called_halting n p mid q noted r halt old new served h e i same is =
      Halting h.0 mid halt noted h.1 (readied_as disks clocks peer units noted r (ready.Halts halt) mid q e i) same is

  pub called_well : (n : ℕ) (p mid at q : Held Step) (noted : Option Halt) (r : Ready) (u : State)
      (x : Result Action Lost) (first : Action) (old new : L) (served : Served)
      → HasClosed disks clocks links peer units n p mid → r ≡ ready.Begins u x → x ≡ Ok first
      → Readied r noted mid at
      → IsServed disks clocks links (record {
        session = u;
        action = first;
        link = old;
        feed = no_feed;
        pass = at;
        halt = noted;
      }) new q served → HasCalled disks clocks links peer units p old new q served
  called_well n p mid at q noted r u x first old new served h e f i s =
      Calling h.0 mid at u first noted h.1
      (readied_as disks clocks peer units noted r (ready.Begins u (Ok first)) mid at
      (begins_as r u x (Ok first) e f) i) s

  pub called_lost : (n : ℕ) (p mid q : Held Step) (noted : Option Halt) (r : Ready) (u : State)
      (x : Result Action Lost) (lost : Lost) (turned : Bool) (old new : L) (served : Served)
      → HasClosed disks clocks links peer units n p mid → r ≡ ready.Begins u x → x ≡ Err lost
      → Readied r noted mid q → turned ≡ has_turned u.phase
      → GivesUp links lost turned noted old new served → HasCalled disks clocks links peer units p old new q served
  called_lost n p mid q noted r u x lost turned old new served h e f i t gives =
      Lost_before h.0 mid u lost noted h.1 (readied_as disks clocks peer units noted r (ready.Begins u (Err lost)) mid q
      (begins_as r u x (Err lost) e f) i)
      (subst (λ (b : Bool). GivesUp links lost b noted old new served) t gives)

  pub called_often : (n : ℕ) (p q : Held Step) (old new : L) (served : Served)
      → HasClosed disks clocks links peer units n p q → n ≡ most_closings → new ≡ old
      → served ≡ none_begun Halts.Memory → HasCalled disks clocks links peer units p old new q served
  called_often n p q old new served h most same is = Too_often h.0 h.1 (h.2 ∙ most) same is

  -- it stands as it was called over a link that is the same
  pub called_over : (p q : Held Step) (old old' new : L) (served : Served) → old ≡ old'
      → HasCalled disks clocks links peer units p old new q served
      → HasCalled disks clocks links peer units p old' new q served
  called_over p q old old' new served e h =
      subst (λ (l : L). HasCalled disks clocks links peer units p l new q served) e h

  pub link_called : (r : Role) (p q : Held Step) (old new : L) (served : Served) → r ≡ role.Out peer
      → HasCalled disks clocks links peer units p old new q served
      → IsLinkServed disks clocks links r units p old new q served
  link_called r p q old new served e h =
      subst (λ (z : Role). IsLinkServed disks clocks links z units p old new q served) (sym e) h
