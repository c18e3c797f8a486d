-- What one turn of the lock came to, from what the spool replied, what the session was told, and the looks behind it.
use Rattle.std.proofs.Common.{◌≡◌, Option, Result, Ok, Err, IfOk, subst}
use Rattle.std.specs.Prelude.{IfErr}
use Rattle.mta_edge.specs.Views.{ClockView, DiskView}
use Rattle.mta_spool.specs.Shown.{Shown}
use Rattle.mta_session.specs.State.{State}
use Rattle.mta_session.specs.declared.ask.Ask.{Ask}
use Rattle.mta_session.specs.declared.ask.Reply.{Reply}
use Rattle.mta_session.specs.declared.event.Action.{Action}
use Rattle.mta_session_laws.specs.Runs.{IsTurn}
use Rattle.mta_stations.specs.declared.end.Halt.{Halt}
use Rattle.mta_worker.specs.declared.telling.Lost.{Lost}
use Rattle.mta_worker.specs.Turns.{HasAnswered, HasLooked, IsLost, At_reply, At_look, IsLostLooking, noted, Replied}
use Rattle.mta_worker.specs.Turns.{IsLostAt, told_reply, WantsNoLook}

module _ {D C : Type 0} (disks : DiskView D) (clocks : ClockView C) where
  pub answered : (q : Ask) (old : Shown D C) (t : State) (halt : Option Halt) (new : Shown D C) (x : Reply) (w : Action)
      (u v : State) (mid halt' : Option Halt) (r : Result Action Lost) → Replied disks clocks q t old x new
      → IsTurn (told_reply t x w u) → mid ≡ noted halt x
      → IfOk r (λ a. HasLooked disks clocks new u w mid v a halt') → IfOk r WantsNoLook
      → IfOk r (λ a. HasAnswered disks clocks q old t halt new v a halt')
  answered q old t halt new x w u v mid halt' (Ok a) replied turn is looked all = record {
    answer = x;
    heard = u;
    wanted = w;
    replied = replied;
    told = turn;
    looked = subst (λ (h : Option Halt). HasLooked disks clocks new u w h v a halt') is looked;
    all_looked = all;
  }
  answered q old t halt new x w u v mid halt' (Err l) replied turn is looked all = tt

  pub lost_behind : (q : Ask) (old : Shown D C) (t : State) (halt : Option Halt) (new : Shown D C) (x : Reply)
      (w : Action) (u v : State) (mid halt' : Option Halt) (r : Result Action Lost)
      → Replied disks clocks q t old x new → IsTurn (told_reply t x w u) → mid ≡ noted halt x
      → IfErr r (IsLostLooking disks clocks new u w mid v halt')
      → IfErr r (IsLost disks clocks q old t halt new v halt')
  lost_behind q old t halt new x w u v mid halt' (Ok a) replied turn is lost = tt
  lost_behind q old t halt new x w u v mid halt' (Err l) replied turn is lost =
      At_look x u w replied turn (subst (λ (h : Option Halt). IsLostLooking disks clocks new u w h v halt' l) is lost)

  pub lost_there : (q : Ask) (old : Shown D C) (t : State) (halt : Option Halt) (new : Shown D C) (x : Reply)
      (u : State) (halt' : Option Halt) (lost : Lost) → Replied disks clocks q t old x new → IsLostAt t x lost
      → u ≡ t
      → halt' ≡ noted halt x → IsLost disks clocks q old t halt new u halt' lost
  lost_there q old t halt new x u halt' lost replied why same is = At_reply x replied why same is
