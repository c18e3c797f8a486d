-- What comes of two disks.
use Rattle.std.proofs.Common.{inl, inr, ◌≡◌, ℕ, Bool, List, ◌++◌, Option, Result, Ok, Err, refl, sym, ap, subst, ◌∙◌}
use Rattle.mta_edge.specs.Views.{DiskView, DiskLaws}
use Rattle.mta_journal.specs.declared.why.OpenWhy.{OpenWhy}
use Rattle.mta_journal.specs.declared.why.OpenWhy.TheVariants as Whys
use Rattle.mta_records.specs.declared.step.Step.{Step}
use Rattle.mta_audit_run.specs.declared.account.Account.{Account}
use Rattle.mta_audit_run.specs.declared.audit.Report.{Report}
use Rattle.mta_audit_run.specs.declared.side.Side.{Side}
use Rattle.mta_audit_run.specs.declared.stop.Spool.{Spool}
use Rattle.mta_audit_run.specs.declared.stop.Spool.TheVariants.{First, Second}
use Rattle.mta_audit_run.specs.declared.stop.Stop.{Stop}
use Rattle.mta_audit_run.specs.declared.stop.Stop.TheVariants as Stops
use Rattle.mta_audit_run.specs.Accounts.{accounts, begins_with_snapshot}
use Rattle.mta_audit_run.specs.Audit.{lines_of, own_of}
use Rattle.mta_audit_run.specs.Kept.{IsRead}
use Rattle.mta_audit_run.specs.Lines.{Line, all_agree, lines_from, text_of}
use Rattle.mta_audit_run.specs.Opened.{IsOpened, IsRefused}
use Rattle.mta_audit_run.specs.Outcome.{AreTwo, HasAudited, IsReportOf, Outcome, Reports, handed, lines_of_side}
use Rattle.mta_audit_run.specs.Outcome.{lines_of_sides, unasked, no_first, no_second, failed, audited, short}
use Rattle.mta_audit_run.specs.Second.{HasSeen, IsReported, SecondOutcome, none, seen}
use Rattle.mta_audit_run.specs.Second.{failed as second_failed, short as second_short}
use Rattle.mta_audit_run.specs.Sides.{IsSideOf}
use Rattle.mta_audit_run.specs.Stops.{stop_of_open}
use Rattle.mta_audit_run.proofs.Kept.{kept_alone, kept_opened, kept_refused, read_opened}

-- ---- the second disk

module _ {E : Type 0} (model : DiskView E) (laws : DiskLaws model) (x : Side) (old new : E) where
  reported : (t : List Step) (y : Side) (result : Result Report Stop) → IsSideOf t y → IsRead model t old new
      → IsReported x y result → SecondOutcome model x old new result
  reported t y (Ok r) side stood is = seen t y r side stood is
  reported t y (Err stop) side stood is =
      subst (λ (s : Stop). SecondOutcome model x old new (Err s)) (sym is) second_short

  pub seen_opened : (y : Side) (result : Result Report Stop) → IsOpened model old new y → IsReported x y result
      → HasSeen model x old new result
  seen_opened y result o is = record {
    kept = kept_opened model laws old new y o;
    outcome = reported o.steps y result o.side_is (read_opened model laws old new y o) is;
  }

  stopped : (why : OpenWhy) → IsRefused model old new why
      → SecondOutcome model x old new (Err (stop_of_open Second why))
  stopped (Whys.NotSpool at) refusal = none at (refusal.refused.not_spool at refl)
  stopped Whys.Disk refusal = second_failed (refusal.refused.disk refl)
  stopped Whys.Memory refusal = second_short

  pub seen_refused : (why : OpenWhy) → IsRefused model old new why
      → HasSeen model x old new (Err (stop_of_open Second why))
  seen_refused why refusal = record {
    kept = kept_refused model laws old new why refusal;
    outcome = stopped why refusal;
  }

-- ---- the report of two histories

side-lines : (spool : Spool) (s t : List Step) (x y : Side) → IsSideOf s x → IsSideOf t y
    → lines_of_side spool x y
    ≡ lines_from spool (own_of s) (own_of t) (begins_with_snapshot t) (accounts t) (accounts s)
side-lines spool s t x y of_s of_t =
    ap (λ (own : Option (List ℕ)). lines_from spool own y.own y.begun y.accounts.items x.accounts.items) of_s.own
    ∙ ap (λ (own : Option (List ℕ)). lines_from spool (own_of s) own y.begun y.accounts.items x.accounts.items) of_t.own
    ∙ ap (λ (begun : Bool). lines_from spool (own_of s) (own_of t) begun y.accounts.items x.accounts.items)
    of_t.begun_is
    ∙ ap
    (λ (others : List Account). lines_from spool (own_of s) (own_of t) (begins_with_snapshot t) others x.accounts.items)
    of_t.accounts_are
    ∙ ap (lines_from spool (own_of s) (own_of t) (begins_with_snapshot t) (accounts t)) of_s.accounts_are

both-lines : (s t : List Step) (x y : Side) → IsSideOf s x → IsSideOf t y → lines_of_sides x y ≡ lines_of s t
both-lines s t x y of_s of_t =
    ap (λ (ls : List Line). ls ++ lines_of_side Second y x) (side-lines First s t x y of_s of_t)
    ∙ ap
    (λ (ls : List Line).
    lines_from First (own_of s) (own_of t) (begins_with_snapshot t) (accounts t) (accounts s) ++ ls)
    (side-lines Second t s y x of_t of_s)

reports : (s t : List Step) (x y : Side) (r : Report) → IsSideOf s x → IsSideOf t y → IsReportOf x y r
    → Reports s t r
reports s t x y r of_s of_t is = record {
  text = is.text ∙ ap text_of (both-lines s t x y of_s of_t);
  agree = is.agree ∙ ap all_agree (both-lines s t x y of_s of_t);
}

-- ---- both disks

module _ {D E : Type 0} (words : List (List ℕ)) (firsts : DiskView D) (seconds : DiskView E) (laws : DiskLaws firsts)
    (second_laws : DiskLaws seconds) (first first_after : D) (second second_after : E) where
  pub compared_unasked : (AreTwo words → ⊥)
      → HasAudited (handed words firsts seconds first first second second) (Err Stops.Usage)
  compared_unasked off = record {
    first = kept_alone firsts laws first;
    second = kept_alone seconds second_laws second;
    outcome = unasked off refl refl;
  }

  opened-outcome : (s : List Step) (x : Side) (result : Result Report Stop) → AreTwo words → IsSideOf s x
      → IsRead firsts s first first_after → SecondOutcome seconds x second second_after result
      → Outcome (handed words firsts seconds first first_after second second_after) result
  opened-outcome s x result two of_s stood (none at absent) = no_second at s two stood absent
  opened-outcome s x result two of_s stood (second_failed rose) = failed two (inr rose)
  opened-outcome s x result two of_s stood (seen t y r of_t other is) =
      audited s t r two stood other (reports s t x y r of_s of_t is)
  opened-outcome s x result two of_s stood second_short = short

  pub compared_opened : (x : Side) (result : Result Report Stop) → AreTwo words → IsOpened firsts first first_after x
      → HasSeen seconds x second second_after result
      → HasAudited (handed words firsts seconds first first_after second second_after) result
  compared_opened x result two o is = record {
    first = kept_opened firsts laws first first_after x o;
    second = is.kept;
    outcome = opened-outcome o.steps x result two o.side_is (read_opened firsts laws first first_after x o) is.outcome;
  }

  refused-outcome : (why : OpenWhy) → AreTwo words → IsRefused firsts first first_after why
      → Outcome (handed words firsts seconds first first_after second second) (Err (stop_of_open First why))
  refused-outcome (Whys.NotSpool at) two refusal = no_first at two (refusal.refused.not_spool at refl) refl
  refused-outcome Whys.Disk two refusal = failed two (inl (refusal.refused.disk refl))
  refused-outcome Whys.Memory two refusal = short

  pub compared_refused : (why : OpenWhy) → AreTwo words → IsRefused firsts first first_after why
      → HasAudited (handed words firsts seconds first first_after second second) (Err (stop_of_open First why))
  compared_refused why two refusal = record {
    first = kept_refused firsts laws first first_after why refusal;
    second = kept_alone seconds second_laws second;
    outcome = refused-outcome why two refusal;
  }
