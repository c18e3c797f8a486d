-- What a run of the program leaves.
use Rattle.std.specs.Prelude.{◌≡◌, ◌⊎◌, ℕ, List, Some, Result}
use Rattle.mta_records.specs.declared.step.Step.{Step}
use Rattle.mta_images.specs.Image.{StandsFor, NoSpoolAt}
use Rattle.mta_edge.specs.Views.{WhereTold}
use Rattle.mta_audit_run.specs.declared.audit.Report.{Report}
use Rattle.mta_audit_run.specs.declared.stop.Stop.{Stop}
use Rattle.mta_audit_run.specs.Audit.{lines_of}
use Rattle.mta_audit_run.specs.Lines.{AllAudited, text_of}
use Rattle.mta_audit_run.specs.Kept.{IsKept, IsRead}
use Rattle.mta_audit_run.specs.Outcome.{AreTwo, DiskFailed, Handed, Outcome}
use Rattle.mta_output.specs.Output.{Output, OutputFailed, Prints}
use Rattle.mta_audit_run.specs.Output.{HasClosed}

-- What becomes of the disks, and what is printed: the lines of the audit, or that of a stop that has its cause.
pub record HasRun {D E : Type 0} (h : Handed D E) (out : Output) (status : ℕ) : Type 0 where
  -- neither history is changed
  pub first : IsKept h.firsts h.first h.first_after
  pub second : IsKept h.seconds h.second h.second_after
  -- with status 0 or 18 the text is that of the audit; else it is the line of a stop
  pub result : Result Report Stop
  pub outcome : Outcome h result
  pub closed : HasClosed result out status

-- The status for which the words and the images of the disks call: 0 where what the receiver completed is what the
-- sender sent in each half, and 18 where it is not in one.
pub data CallsFor (words : List (List ℕ)) (f g : List ℕ) : ℕ → Type 0 where
  usage : (AreTwo words → ⊥) → CallsFor words f g 1
  no_first : (at : ℕ) → AreTwo words → NoSpoolAt f at → CallsFor words f g 3
  no_second : (s : List Step) (at : ℕ) → AreTwo words → StandsFor f s → NoSpoolAt g at → CallsFor words f g 3
  agree : (s t : List Step) → AreTwo words → StandsFor f s → StandsFor g t → AllAudited (lines_of s t)
      → CallsFor words f g 0
  differ : (s t : List Step) → AreTwo words → StandsFor f s → StandsFor g t
      → (AllAudited (lines_of s t) → ⊥)
      → CallsFor words f g 18

-- this status; or memory ran out, or a disk or the output failed
abbrev pub IsOrFails : (wanted : ℕ) → (failed : Type 0) → Output → ℕ → Type 0
IsOrFails wanted failed out status =
    (status ≡ wanted) ⊎ (status ≡ 7) ⊎ ((status ≡ 4) × failed) ⊎ ((status ≡ 9) × OutputFailed out)

-- the lines of the audit of the histories for which the disks stand are printed, and the status says whether all
-- agree; since the first sync of each disk a crash leaves these histories
pub record PrintsAudit {D E : Type 0} (h : Handed D E) (out : Output) (status : ℕ) : Type 0 where
  pub two : AreTwo h.words
  pub s : List Step
  pub t : List Step
  pub first : IsRead h.firsts s h.first h.first_after
  pub second : IsRead h.seconds t h.second h.second_after
  pub printed : Prints out (text_of (lines_of s t))
  pub agree : status ≡ 0 → AllAudited (lines_of s t)
  pub differ : status ≡ 18 → AllAudited (lines_of s t) → ⊥

-- What a status tells by itself. Want of memory, 7, is free.
pub record Tells {D E : Type 0} (h : Handed D E) (out : Output) (status : ℕ) : Type 0 where
  -- where both disks tell what they hold, the status is the one for which the words and these call, and no other
  pub exact : (f g : List ℕ) (wanted : ℕ) → h.firsts.content h.first ≡ Some f
      → h.seconds.content h.second ≡ Some g
      → CallsFor h.words f g wanted → IsOrFails wanted (DiskFailed h) out status
  pub only : (f g : List ℕ) → h.firsts.content h.first ≡ Some f → h.seconds.content h.second ≡ Some g
      → CallsFor h.words f g status ⊎ (status ≡ 7) ⊎ ((status ≡ 4) × DiskFailed h)
      ⊎ ((status ≡ 9) × OutputFailed out)
  -- with status 0 or 18 the text is that of the audit, whether they tell it or not
  pub audited : (status ≡ 0) ⊎ (status ≡ 18) → PrintsAudit h out status
  -- 1 comes exactly where the words are not two, but for want of memory and a fault of the output, and then no
  -- disk is called
  pub usage : status ≡ 1 → (AreTwo h.words → ⊥) × (h.first_after ≡ h.first) × (h.second_after ≡ h.second)
  pub usage_where : (AreTwo h.words → ⊥) → (status ≡ 1) ⊎ (status ≡ 7)
      ⊎ ((status ≡ 9) × OutputFailed out)
  -- 3 comes only where a disk is no spool, if it tells what it holds
  pub no_spool : status ≡ 3 → (at : ℕ) × (WhereTold h.firsts h.first (λ f. NoSpoolAt f at)
      ⊎ WhereTold h.seconds h.second (λ f. NoSpoolAt f at))
  pub disk : status ≡ 4 → DiskFailed h
  pub sink : status ≡ 9 → OutputFailed out

-- All is in order, and nothing fails.
pub record AllInOrder {D E : Type 0} (h : Handed D E) (out : Output) : Type 0 where
  pub two : AreTwo h.words
  pub f : List ℕ
  pub g : List ℕ
  pub first_told : h.firsts.content h.first ≡ Some f
  pub second_told : h.seconds.content h.second ≡ Some g
  pub s : List Step
  pub t : List Step
  pub first_stands : StandsFor f s
  pub second_stands : StandsFor g t
  pub calm_disks : DiskFailed h → ⊥
  pub calm_output : OutputFailed out → ⊥

-- Then the status is 0 or 18, or memory ran out.
abbrev pub IsComplete : {D E : Type 0} → Handed D E → Output → ℕ → Type 0
IsComplete h out status = AllInOrder h out → (status ≡ 0) ⊎ (status ≡ 18) ⊎ (status ≡ 7)
