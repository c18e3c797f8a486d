-- What is left before anything is printed, from what opening the spool and acting leave.
use Rattle.std.proofs.Common.{ℕ, List, [], Option, Some, None, Result, Err, refl, subst}
use Rattle.mta_commands.specs.declared.stop.Stop.TheVariants as AgentStops
use Rattle.mta_commands.proofs.DiskStands.{before_alone, before_read, before_refused, disk_read, disk_refused}
use Rattle.mta_commands.proofs.DiskStands.{left_alone}
use Rattle.mta_commands.specs.DiskLeft.{opened, refused, uncalled}
use Rattle.mta_commands.specs.Shows.{stop_of_open}
use Rattle.mta_edge.specs.Views.{DiskLaws, DiskView}
use Rattle.mta_histories.specs.Lanes.{State}
use Rattle.mta_spool.specs.GoingOn.{HasNotOpened, HasOpened}
use Rattle.mta_spool.specs.Shown.{Shown}
use Rattle.mta_spool.specs.declared.why.OpenWhy.{OpenWhy}
use Rattle.mta_spool.specs.declared.why.OpenWhy.TheVariants as Whys
use Rattle.mta_marks.proofs.Lefts.{alone_left}
use Rattle.mta_store_run.specs.Acting.{ActOutcome, HasActed}
use Rattle.mta_store_run.specs.Outcome.{HasDone, Outcome, acted, full_spool, handed, no_spool, spool_failed}
use Rattle.mta_store_run.specs.Outcome.{spool_short}
use Rattle.mta_store_run.specs.Outcome.{unasked, unread}
use Rattle.mta_store_run.specs.declared.asked.Asked.{Asked}
use Rattle.mta_store_run.specs.declared.stop.Stop.{Stop}
use Rattle.mta_store_run.specs.declared.stop.Stop.TheVariants as Stops

module _ {D E : Type 0} (spools : DiskView D) (marked : DiskView E) (spool_laws : DiskLaws spools)
    (marks_laws : DiskLaws marked) where
  -- ---- no disk was called

  pub done_unasked : (spool : D) (marks : E)
      → HasDone (handed spools marked None spool spool marks marks) (Err Stops.Usage)
  done_unasked spool marks = record {
    opening = uncalled;
    added = [];
    torn_mark = [];
    disks = record {
      spool = left_alone spools spool_laws spool;
      spool_before = λ f found steps was opens. before_alone spools spool_laws spool f steps;
      marks = alone_left marked marks_laws marks;
    };
    outcome = unasked refl refl;
  }

  pub done_unread : (asked : Option Asked) (spool : D) (marks : E)
      → HasDone (handed spools marked asked spool spool marks marks) (Err (Stops.Agent AgentStops.Memory))
  done_unread asked spool marks = record {
    opening = uncalled;
    added = [];
    torn_mark = [];
    disks = record {
      spool = left_alone spools spool_laws spool;
      spool_before = λ f found steps was opens. before_alone spools spool_laws spool f steps;
      marks = alone_left marked marks_laws marks;
    };
    outcome = unread refl;
  }

  -- ---- the spool was not opened

  why_refused : (asked : Asked) (old new : D) (marks : E) (why : OpenWhy) → HasNotOpened spools old new why
      → Outcome (handed spools marked (Some asked) old new marks marks) refused [] []
      (Err (Stops.Agent (stop_of_open why)))
  why_refused asked old new marks (Whys.NotSpool at) x = no_spool asked at refl (x.not_spool at refl) refl
  why_refused asked old new marks (Whys.Full size need) x =
      full_spool asked size need refl (x.full size need refl) refl
  why_refused asked old new marks Whys.Disk x = spool_failed asked refl (x.disk refl) refl
  why_refused asked old new marks Whys.Memory x = spool_short refl

  pub done_refused : (asked : Asked) (old new : D) (marks : E) (why : OpenWhy) → HasNotOpened spools old new why
      → HasDone (handed spools marked (Some asked) old new marks marks) (Err (Stops.Agent (stop_of_open why)))
  done_refused asked old new marks why x = record {
    opening = refused;
    added = [];
    torn_mark = [];
    disks = record {
      spool = disk_refused spools spool_laws old new why x;
      spool_before = before_refused spools spool_laws old new why x;
      marks = alone_left marked marks_laws marks;
    };
    outcome = why_refused asked old new marks why x;
  }

  -- ---- it was

  pub done_opened : {C : Type 0} (asked : Asked) (old : D) (spool : Shown D C) → HasOpened spools old spool
      → (marks marks_after : E) (result : Result (List ℕ) Stop)
      → HasActed marked asked spool.current marks marks_after result
      → HasDone (handed spools marked (Some asked) old spool.journal.disk marks marks_after) result
  done_opened asked old spool o marks marks_after result h = record {
    opening = opened;
    added = h.added;
    torn_mark = h.torn_mark;
    disks = record {
      spool = disk_read spools spool_laws old spool o;
      spool_before = before_read spools spool_laws old spool o;
      marks = h.left;
    };
    outcome = acted asked o.steps h.added h.torn_mark result refl
        (λ f was. (o.found, o.opens f was))
        o.fits
        (subst (λ (s : State). ActOutcome marked asked s marks marks_after h.added h.torn_mark result)
        o.stands.state_is h.outcome);
  }
