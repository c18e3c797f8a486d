-- That opening a disk changes no history.
use Rattle.std.proofs.Common.{inl, inr, ◌≡◌, ℕ, ◌≤◌, List, [], Some, refl, sym, subst, ◌∙◌, arith}
use Rattle.std.specs.Prelude.{◌⊎◌}
use Rattle.mta_edge.specs.Crashes.{CrashLeaves}
use Rattle.mta_edge.specs.Views.{DiskView, DiskLaws, StaysTold, WhereTold}
use Rattle.mta_edge.proofs.Moments.{weaken}
use Rattle.mta_journal.specs.Opening.{HasRefused as IsNoJournal, KeepsFilled}
use Rattle.mta_journal.specs.Opening.{IsSame as IsSameJournal, BeforeOrSame as BeforeOrSameJournal}
use Rattle.mta_journal.specs.Opening.{IsSameFrom as IsSameJournalFrom, IsLeft as IsLeftJournal}
use Rattle.mta_journal.specs.Shown.{Shown as JournalShown}
use Rattle.mta_journal.specs.declared.why.OpenWhy.{OpenWhy}
use Rattle.mta_journal.specs.declared.why.OpenWhy.TheVariants as Whys
use Rattle.mta_records.specs.declared.step.Step.{Step}
use Rattle.mta_histories.specs.History.{after}
use Rattle.mta_images.specs.Image.{StandsFor}
use Rattle.mta_spool.specs.Opening.{IsSame, BeforeOrSame, IsLeft, IsSameFrom, OpensSafely, SameSince, unsynced, synced}
use Rattle.mta_spool.specs.Replaying.{HasStopped}
use Rattle.mta_spool.specs.Finding.{MayStand}
use Rattle.mta_spool.proofs.Openings.{IsOpened as JournalOpened, none_there, open_refused, other_refused}
use Rattle.mta_spool.proofs.Openings.{replay_refused}
use Rattle.mta_spool.proofs.Openings.{same_stands, stood_for}
use Rattle.mta_audit_run.specs.declared.side.Side.{Side}
use Rattle.mta_audit_run.specs.Kept.{IsKept, IsRead, KeepsSince, CrashKeeps, before_sync, since_sync}
use Rattle.mta_audit_run.specs.Opened.{IsOpened, IsRefused}
use Rattle.mta_audit_run.specs.Sides.{IsSide}

some-same : (f g : List ℕ) → Some f ≡ Some g → f ≡ g
some-same f g e = cc

-- what is the same for a journal is the same for its history
same-of : (f g : List ℕ) → IsSameJournal f g → IsSame f g
same-of f g (inl same) = inl same
same-of f g (inr none) = inr ([], none_there f none.0, none_there g none.1)

module _ {D : Type 0} (model : DiskView D) (laws : DiskLaws model) where
  -- one that was not called
  pub kept_alone : (d : D) → IsKept model d d
  kept_alone d = record {
    later = omega arith;
    told = λ f was. (f, was);
    filled = λ f was some. was;
    stands = λ f g steps was now s. subst (λ (x : List ℕ). StandsFor x steps) (some-same f g (sym was ∙ now)) s;
    crash = λ f steps was s. before_sync refl (λ g left. laws.only_now d g left);
    before = λ f steps was s g left. inl (laws.only_now d g left);
  }

  reads-same : (old new : D) (f g : List ℕ) (steps : List Step) → StandsFor f steps → model.content old ≡ Some f
      → model.content new ≡ Some g → IsLeft model f old new → StandsFor g steps
  reads-same old new f g steps s was now (unsynced same left) =
      subst (λ (x : List ℕ). StandsFor x steps) (some-same f g (sym was ∙ sym same ∙ now)) s
  reads-same old new f g steps s was now (synced since) =
      same_stands f g steps
      (since.same.same g (laws.counts_now new (model.moment since.first) g since.same.until
      (laws.reads_image new g now))) s

  since-same : (old new : D) (f : List ℕ) (steps : List Step) → StandsFor f steps → SameSince model f old new
      → KeepsSince model steps old new
  since-same old new f steps s since = record {
    first = since.first;
    sync = since.sync;
    until = since.same.until;
    same = λ g left. same_stands f g steps (since.same.same g left) s;
  }

  crash-same : (old new : D) (f : List ℕ) (steps : List Step) → StandsFor f steps → IsLeft model f old new
      → CrashKeeps model steps old new
  crash-same old new f steps s (unsynced same left) = before_sync same left
  crash-same old new f steps s (synced since) = since_sync (since-same old new f steps s since)

  before-same : (old : D) (f g : List ℕ) (steps : List Step) → StandsFor f steps → BeforeOrSame model old f g
      → model.may_leave old g ⊎ StandsFor g steps
  before-same old f g steps s (inl may) = inl may
  before-same old f g steps s (inr same) = inr (same_stands f g steps same s)

  kept-by : (old new : D) → model.faults old ≤ model.faults new → KeepsFilled model old new → StaysTold model old new
      → OpensSafely model old new → WhereTold model old (λ f. IsLeft model f old new) → IsKept model old new
  kept-by old new later filled told images left = record {
    later = later;
    told = told;
    filled = filled;
    stands = λ f g steps was now s. reads-same old new f g steps s was now (left f was);
    crash = λ f steps was s. crash-same old new f steps s (left f was);
    before = λ f steps was s g since. before-same old f g steps s ((images f was).each g since);
  }

  opened-since : (old new : D) (side : Side) (o : IsOpened model old new side)
      → WhereTold model old (λ f. SameSince model f old new)
  opened-since old new side o f was = record { first = o.first; sync = o.sync; same = o.since f was }

  -- one that was opened
  pub kept_opened : (old new : D) (side : Side) → IsOpened model old new side → IsKept model old new
  kept_opened old new side o =
      kept-by old new o.later o.kept o.told o.images (λ f was. synced (opened-since old new side o f was))

  pub read_opened : (old new : D) (side : Side) (o : IsOpened model old new side) → IsRead model o.steps old new
  read_opened old new side o = record {
    stands = o.history;
    since = λ f was. since-same old new f o.steps (o.history f was) (opened-since old new side o f was);
  }

  -- one that was refused
  pub kept_refused : (old new : D) (why : OpenWhy) → IsRefused model old new why → IsKept model old new
  kept_refused old new why r =
      kept-by old new r.refused.later r.kept r.refused.told r.refused.images r.refused.left

module _ {D : Type 0} (model : DiskView D) where
  -- the disk is no journal, or was not read
  pub side_refused : (old new : D) (why : OpenWhy) → IsNoJournal model old new why → KeepsFilled model old new
      → StaysTold model old new → CrashLeaves model (BeforeOrSameJournal model old) old new
      → WhereTold model old (λ f. IsLeftJournal model f old new) → IsRefused model old new why
  side_refused old new why refused kept told images left = record {
    refused = open_refused model old new why refused kept told images left;
    kept = kept;
  }

  safe-of : (old new : D) → CrashLeaves model (BeforeOrSameJournal model old) old new → OpensSafely model old new
  safe-of old new images f was =
      weaken model (BeforeOrSameJournal model old f) (BeforeOrSame model old f) old new (λ g left. by g left)
      (images f was)
    where
      by : (g : List ℕ) → BeforeOrSameJournal model old f g → BeforeOrSame model old f g
      by g (inl before) = inl before
      by g (inr same) = inr (same-of f g same)

  from-of : (f : List ℕ) (old new : D) (since : ℕ) → IsSameJournalFrom model f old new since
      → IsSameFrom model f old new since
  from-of f old new since x =
      record { from = x.from; until = x.until; same = λ g left. same-of f g (x.same g left) }

  module _ (old : D) (journal : JournalShown D) (bodies : List (List ℕ)) (first : D)
      (o : JournalOpened model old journal bodies first) where
    -- its bodies are those of no history, or there was no memory for what they say
    pub side_stopped : (gate : ℕ) → gate ≡ journal.first → (why : OpenWhy) → HasStopped gate bodies why
        → IsRefused model old journal.disk why
    side_stopped gate at why stops = record {
      refused = replay_refused model old journal bodies first o gate at why stops;
      kept = o.kept;
    }

    -- a second area has another record than a snapshot
    pub side_other : (gate : ℕ) → gate ≡ journal.first → (MayStand gate bodies → ⊥)
        → IsRefused model old journal.disk (Whys.NotSpool gate)
    side_other gate at wrong = record {
      refused = other_refused model old journal bodies first o gate at wrong;
      kept = o.kept;
    }

    -- they are those of a history
    pub side_opened : MayStand journal.first bodies → (side : Side) → IsSide bodies side
        → IsOpened model old journal.disk side
    side_opened may side is = record {
      steps = is.steps;
      side_is = is.side_is;
      history = stood_for model old journal bodies first o (after is.steps) is.steps
          (record { bodies_are = is.bodies_are; each = is.each; history = is.history; state_is = refl }) may;
      later = o.later;
      kept = o.kept;
      told = o.told;
      images = safe-of old journal.disk o.images;
      first = first;
      sync = o.sync;
      since = λ f was. from-of f old journal.disk (model.moment first) (o.since f was);
    }
