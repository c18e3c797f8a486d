-- What getting a unit and taking it comes to.
use Rattle.std.proofs.Common.{◌≡◌, ℕ, ◌+◌, Bool, false, List, [], ◌++◌, length, Ok}
use Rattle.std.proofs.Common.{Err}
use Rattle.std.proofs.Common.{refl, sym, ap, subst, ◌∙◌, arith}
use Rattle.mta_edge.specs.Views.{DiskView}
use Rattle.mta_links.specs.Links.{LinkView}
use Rattle.mta_journal.specs.Shown.{Shown}
use Rattle.mta_follow_units.specs.declared.due.Due.{Due}
use Rattle.mta_follow_units.specs.declared.due.Due.TheVariants as due
use Rattle.mta_follow_units.specs.Feed.{Feed, passed}
use Rattle.mta_follow_units.specs.Units.{IsBad, kept_unit}
use Rattle.mta_follow_run.specs.Getting.{Gets, HasFed}
use Rattle.mta_follow_run.specs.Pulling.{NextOf, next_broken, next_short, next_taken}
use Rattle.mta_follow_run.specs.Pushing.{Waits, waits_bad, waits_broken, waits_kept, waits_short}
use Rattle.mta_follow_run.specs.Taking.{Takes}
use Rattle.mta_follow_run.specs.Talks.{Talks}
use Rattle.mta_follow_run.specs.declared.stop.Stop.{Stop}
use Rattle.mta_follow_run.specs.declared.stop.Stop.TheVariants as Stops

module _ {L : Type 0} (links : LinkView L) (begun : L) (fed : Feed) (none : fed.left ≡ []) where
  -- all that is fed came now
  pub record HasCome (link : L) (now : Feed) : Type 0 where
    pub talks : Talks links now.left [] begun link
    pub at : now.at ≡ fed.at

  pub came : (d : Due) (told : Bool) (link : L) (now : Feed) → Gets links d told begun fed link now → HasCome link now
  came d told link now g =
      let is : now.left ≡ g.piece = g.feeds.left ∙ ap (λ (l : List ℕ). l ++ g.piece) none in
      record {
        talks = subst (λ (l : List ℕ). Talks links l [] begun link) (sym is) g.feeds.talks;
        at = g.feeds.at;
      }

  -- ---- to the spool's side

  pub waited_kept : (number : ℕ) (link : L) (now : Feed) → HasCome link now → now.left ≡ kept_unit number
      → Waits links number begun fed link (passed now) (Ok tt)
  waited_kept number link now c is =
      waits_kept (subst (λ (l : List ℕ). Talks links l [] begun link) is c.talks)
      (omega (arith, c.at, ap length is)) refl

  pub waited_broken : (number : ℕ) (link : L) (now : Feed) → Gets links (due.Kept number) false begun fed link now
      → Waits links number begun fed link now (Err Stops.Broken)
  waited_broken number link now g =
      let c = came (due.Kept number) false link now g in
      let over = g.over refl in waits_broken now.left c.talks over.0 over.1

  pub waited_bad : (number : ℕ) (link : L) (now : Feed) (at : ℕ) → HasCome link now → IsBad (due.Kept number) now.left
      → at ≡ now.at → Waits links number begun fed link now (Err (Stops.BadUnit at))
  waited_bad number link now at c bad is =
      subst (λ (n : ℕ). Waits links number begun fed link now (Err (Stops.BadUnit n))) (sym (is ∙ c.at))
      (waits_bad now.left c.talks bad)

  pub waited_short : (number : ℕ) (link : L) (now : Feed) → HasFed links begun fed link now
      → Waits links number begun fed link now (Err Stops.Memory)
  waited_short number link now kept = waits_short kept.piece kept.feeds

  -- ---- to the standby

  module _ {D : Type 0} (disks : DiskView D) (kept : List (List ℕ)) (old : Shown D) (count : ℕ) where
    pub next_cut : (link : L) (now : Feed) → Gets links (due.Record count) false begun fed link now
        → NextOf disks links kept old begun fed count old link now (Err Stops.Broken)
    next_cut link now g =
        let c = came (due.Record count) false link now g in
        let over = g.over refl in next_broken now.left c.talks over.0 over.1 refl

    pub next_lost : (link : L) (now : Feed) → HasFed links begun fed link now
        → NextOf disks links kept old begun fed count old link now (Err Stops.Memory)
    next_lost link now all = next_short all.piece all.feeds refl

    pub next_none : (link : L) (now : Feed) (new : Shown D) (stop : Stop) → HasCome link now
        → Takes disks kept count now.at now.left old new (Err stop)
        → NextOf disks links kept old begun fed count new link now (Err stop)
    next_none link now new stop c takes =
        next_taken now.left (Err stop) c.talks
        (subst (λ (n : ℕ). Takes disks kept count n now.left old new (Err stop)) c.at takes) (λ ok. cc)

    pub next_one : (link : L) (now : Feed) (new : Shown D) (one : Bool) → HasCome link now
        → Takes disks kept count now.at now.left old new (Ok one)
        → NextOf disks links kept old begun fed count new link (passed now) (Ok one)
    next_one link now new one c takes =
        next_taken now.left (Ok one) c.talks
        (subst (λ (n : ℕ). Takes disks kept count n now.left old new (Ok one)) c.at takes)
        (λ ok. (ap (λ (n : ℕ). n + length now.left) c.at, refl))
