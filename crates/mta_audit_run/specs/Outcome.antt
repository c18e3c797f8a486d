-- What comes of an audit before anything is printed.
use Rattle.std.specs.Prelude.{◌≡◌, ◌⊎◌, ℕ, List, [], ◌++◌, length, Result, Ok, Err}
use Rattle.mta_edge.specs.Causes.{Rose}
use Rattle.mta_edge.specs.Views.{DiskView, WhereTold}
use Rattle.mta_records.specs.declared.step.Step.{Step}
use Rattle.mta_images.specs.Image.{NoSpoolAt}
use Rattle.mta_audit_run.specs.declared.audit.Report.{Report}
use Rattle.mta_audit_run.specs.declared.side.Side.{Side}
use Rattle.mta_audit_run.specs.declared.stop.Spool.{Spool}
use Rattle.mta_audit_run.specs.declared.stop.Spool.TheVariants.{First, Second}
use Rattle.mta_audit_run.specs.declared.stop.Stop.{Stop}
use Rattle.mta_audit_run.specs.declared.stop.Stop.TheVariants as Stops
use Rattle.mta_audit_run.specs.Audit.{lines_of}
use Rattle.mta_audit_run.specs.Lines.{Line, all_agree, lines_from, text_of}
use Rattle.mta_audit_run.specs.Kept.{IsKept, IsRead}
use Rattle.mta_audit_run.specs.Texts.{Puts}

-- ---- the report

abbrev pub lines_of_side : Spool → Side → Side → List Line
lines_of_side spool x y = lines_from spool x.own y.own y.begun y.accounts.items x.accounts.items

abbrev pub lines_of_sides : Side → Side → List Line
lines_of_sides x y = lines_of_side First x y ++ lines_of_side Second y x

abbrev pub IsReportOf : Side → Side → Report → Type 0
IsReportOf x y r = Puts (lines_of_sides x y) [] r.text r.agrees

-- the lines of two histories, and whether all halves agree
pub record Reports (s t : List Step) (r : Report) : Type 0 where
  pub text : r.text ≡ text_of (lines_of s t)
  pub agree : r.agrees ≡ all_agree (lines_of s t)

-- ---- the words

-- the words are two
abbrev pub AreTwo : List (List ℕ) → Type 0
AreTwo words = length words ≡ 2

-- ---- both disks

-- the disks before an audit and behind it; the models say what they tell of themselves
pub record Handed (D E : Type 0) : Type 1 where
  pub words : List (List ℕ)
  pub firsts : DiskView D
  pub seconds : DiskView E
  pub first : D
  pub first_after : D
  pub second : E
  pub second_after : E

abbrev pub handed : {D E : Type 0} → List (List ℕ) → DiskView D → DiskView E → D → D → E → E
    → Handed D E
handed words firsts seconds first first_after second second_after = record {
  words = words;
  firsts = firsts;
  seconds = seconds;
  first = first;
  first_after = first_after;
  second = second;
  second_after = second_after;
}

module _ {D E : Type 0} (h : Handed D E) where
  abbrev pub FirstFailed : Type 0
  FirstFailed = Rose (h.firsts.faults h.first) (h.firsts.faults h.first_after)

  abbrev pub SecondFailed : Type 0
  SecondFailed = Rose (h.seconds.faults h.second) (h.seconds.faults h.second_after)

  abbrev pub DiskFailed : Type 0
  DiskFailed = FirstFailed ⊎ SecondFailed

-- ---- what comes of it

-- What comes of the words and the disks: the words are not two; a disk holds no spool, or failed, the first before the
-- second is called; both were audited; or memory ran out.
pub data Outcome {D E : Type 0} (h : Handed D E) : Result Report Stop → Type 0 where
  unasked : (AreTwo h.words → ⊥) → h.first_after ≡ h.first → h.second_after ≡ h.second
      → Outcome h (Err Stops.Usage)
  no_first : (at : ℕ) → AreTwo h.words → WhereTold h.firsts h.first (λ f. NoSpoolAt f at)
      → h.second_after ≡ h.second → Outcome h (Err (Stops.NotSpool First at))
  no_second : (at : ℕ) (s : List Step) → AreTwo h.words → IsRead h.firsts s h.first h.first_after
      → WhereTold h.seconds h.second (λ f. NoSpoolAt f at) → Outcome h (Err (Stops.NotSpool Second at))
  failed : AreTwo h.words → DiskFailed h → Outcome h (Err Stops.Disk)
  audited : (s t : List Step) (r : Report) → AreTwo h.words → IsRead h.firsts s h.first h.first_after
      → IsRead h.seconds t h.second h.second_after → Reports s t r → Outcome h (Ok r)
  short : Outcome h (Err Stops.Memory)

-- what it leaves before anything is printed
pub record HasAudited {D E : Type 0} (h : Handed D E) (result : Result Report Stop) : Type 0 where
  pub first : IsKept h.firsts h.first h.first_after
  pub second : IsKept h.seconds h.second h.second_after
  pub outcome : Outcome h result
