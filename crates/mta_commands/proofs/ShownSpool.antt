-- What the commands that show the spool leave.
use Rattle.std.proofs.Common.{◌≡◌, ◌≢◌, ℕ, List, [], None, Some, Result, Ok, Err, refl, sym, ap}
use Rattle.std.proofs.Common.{subst}
use Rattle.std.proofs.Common.{◌∙◌, inl, inr}
use Rattle.std.specs.Prelude.{◌⊎◌}
use Rattle.mta_edge.specs.Views.{DiskView, DiskLaws, ClockView, SourceView}
use Rattle.mta_records.specs.declared.step.Step.{Step}
use Rattle.mta_apdu.specs.Apdus.{longest_apdu}
use Rattle.mta_histories.specs.Lanes.{State}
use Rattle.mta_histories.specs.History.{after}
use Rattle.mta_images.specs.Image.{StandsFor}
use Rattle.mta_spool.specs.GoingOn.{HasNotOpened, HasOpened}
use Rattle.mta_spool.specs.Shown.{Shown}
use Rattle.mta_spool.specs.declared.why.OpenWhy.{OpenWhy}
use Rattle.mta_spool.specs.declared.why.OpenWhy.TheVariants as Whys
use Rattle.mta_commands.specs.declared.stop.Stop.{Stop}
use Rattle.mta_commands.specs.declared.stop.Stop.TheVariants as Stops
use Rattle.mta_words.specs.declared.words.Words.{Words}
use Rattle.mta_words.specs.declared.words.Words.TheVariants as Say
use Rattle.mta_commands.specs.Words.{AddsSteps, ReadsTables, ReadsApdu, OpensDisk}
use Rattle.mta_commands.specs.Handed.{Handed, handed, InputsRead}
use Rattle.mta_commands.specs.Inputs.{longest_tables}
use Rattle.mta_output.specs.Output.{Output}
use Rattle.mta_commands.specs.Output.{stopped, HasShown}
use Rattle.mta_commands.specs.DiskLeft.{Opening, refused, opened}
use Rattle.mta_commands.specs.Causes.{mailbox_named, queue_of, mailbox_of, IsText, of_queue, of_mailbox, Cause}
use Rattle.mta_commands.specs.Causes.{memory as cause_memory, not_spool as cause_not_spool}
use Rattle.mta_commands.specs.Causes.{not_opened as cause_not_opened, full_opening as cause_full_opening}
use Rattle.mta_commands.specs.Causes.{no_mailbox as cause_no_mailbox}
use Rattle.mta_commands.specs.Command.{SourcesLeft, HasEnded, NoneWorked}
use Rattle.mta_commands.specs.Shows.{stop_of_open, IsShown, IsMailboxShown, IsShownText, shows_queue}
use Rattle.mta_commands.specs.Shows.{shows_mailbox, IsShownStop, not_spool, full, not_opened, memory, no_mailbox}
use Rattle.mta_commands.specs.Shows.{HasShownSpool}
use Rattle.mta_commands.proofs.Same.{ok_same, err_same}
use Rattle.mta_commands.proofs.DiskStands.{before_read, before_refused, disk_refused, disk_read, same_found}
use Rattle.mta_commands.proofs.SameShown.{mailbox_same, named_same, queue_same}
use Rattle.mta_commands.proofs.Worked.{prints_nothing}
use Rattle.mta_commands.proofs.Words.{adds_reads}
use Rattle.mta_commands.proofs.HandedOn.{printed_map, shown_printed, undrawn, ended_alike}

-- ---- the disk was not opened

shown_refused : {D : Type 0} (disks : DiskView D) (words : Words) (old new : D) (why : OpenWhy) → HasNotOpened disks old
    new why → IsShownStop disks words old new refused (stop_of_open why)
shown_refused disks words old new (Whys.NotSpool at) refusal = not_spool at (refusal.not_spool at refl)
shown_refused disks words old new (Whys.Full size need) refusal = full size need (refusal.full size need refl)
shown_refused disks words old new Whys.Disk refusal = not_opened (refusal.disk refl)
shown_refused disks words old new Whys.Memory refusal = memory refused

pub shown_not_opened : {D : Type 0} (disks : DiskView D) (laws : DiskLaws disks) (words : Words) (out : Output)
    (old new : D) (why : OpenWhy) → out.after ≡ out.before → HasNotOpened disks old new why
    → HasShownSpool disks words out old new (Err (stop_of_open why))
shown_not_opened disks laws words out old new why same refusal = record {
  opening = refused;
  disk = disk_refused disks laws old new why refusal;
  safe_before = before_refused disks laws old new why refusal;
  printed = stopped (stop_of_open why) (shown_refused disks words old new why refusal) [] (inl refl)
      (prints_nothing out same);
}

-- ---- it was opened

queue_shown : (text : List ℕ) (result : Result (List ℕ) Stop) (t : List ℕ) → IsShown text result
    → result ≡ Ok t → t ≡ text
queue_shown text (Ok s) t is e = sym (ok_same s t e) ∙ is
queue_shown text (Err s) t is e = absurd cc

queue_stopped : (text : List ℕ) (result : Result (List ℕ) Stop) (stop : Stop) → IsShown text result
    → result ≡ Err stop → stop ≡ Stops.Memory
queue_stopped text (Ok s) stop is e = absurd cc
queue_stopped text (Err s) stop is e = sym (err_same s stop e) ∙ is

mailbox_shown : (s : State) (name : List ℕ) (result : Result (List ℕ) Stop) (t : List ℕ)
    → IsMailboxShown s name result → result ≡ Ok t
    → (t ≡ mailbox_of name s) × (mailbox_named s name ≢ None)
mailbox_shown s name (Ok x) t is e = (sym (ok_same x t e) ∙ is.0, is.1)
mailbox_shown s name (Err x) t is e = absurd cc

mailbox_stopped : (s : State) (name : List ℕ) (result : Result (List ℕ) Stop) (stop : Stop)
    → IsMailboxShown s name result → result ≡ Err stop
    → (stop ≡ Stops.Memory) ⊎ ((stop ≡ Stops.NoMailbox name) × (mailbox_named s name ≡ None))
mailbox_stopped s name (Ok x) stop is e = absurd cc
mailbox_stopped s name (Err x) stop is e = subst
    (λ (y : Stop). (y ≡ Stops.Memory) ⊎ ((y ≡ Stops.NoMailbox name) × (mailbox_named s name ≡ None)))
    (err_same x stop e) is

module _ {D C : Type 0} (disks : DiskView D) (laws : DiskLaws disks) (old : D) (spool : Shown D C)
    (o : HasOpened disks old spool) (out : Output) where
  -- what is shown of the state is that of the history for which the disk stood
  queue_there : (f : List ℕ) (found : List Step) → disks.content old ≡ Some f → StandsFor f found
      → queue_of spool.current ≡ queue_of (after found)
  queue_there f found was s =
      ap queue_of o.stands.state_is ∙ queue_same f o.found o.steps (o.opens f was)
      ∙ ap (λ (x : List Step). queue_of (after x)) (same_found disks laws old spool o f found was s)

  mailbox_there : (name f : List ℕ) (found : List Step) → disks.content old ≡ Some f → StandsFor f found
      → mailbox_of name spool.current ≡ mailbox_of name (after found)
  mailbox_there name f found was s =
      ap (mailbox_of name) o.stands.state_is ∙ mailbox_same name f o.found o.steps (o.opens f was)
      ∙ ap (λ (x : List Step). mailbox_of name (after x)) (same_found disks laws old spool o f found was s)

  named_there : (name f : List ℕ) (found : List Step) → disks.content old ≡ Some f → StandsFor f found
      → mailbox_named spool.current name ≡ mailbox_named (after found) name
  named_there name f found was s =
      ap (λ (x : State). mailbox_named x name) o.stands.state_is
      ∙ named_same name f o.found o.steps (o.opens f was)
      ∙ ap (λ (x : List Step). mailbox_named (after x) name) (same_found disks laws old spool o f found was s)

  pub queue_left : (text : Result (List ℕ) Stop) (result : Result (Unit {0}) Stop)
      → IsShown (queue_of spool.current) text → HasShown text out result
      → HasShownSpool disks Say.Queue out old spool.journal.disk result
  queue_left text result is shown = record {
    opening = opened;
    disk = disk_read disks laws old spool o;
    safe_before = before_read disks laws old spool o;
    printed = shown_printed (IsShownStop disks Say.Queue old spool.journal.disk opened)
        (IsShownText disks Say.Queue old opened) out text result
        (λ t e. shows_queue t refl (λ f found was s. queue_shown (queue_of spool.current) text t is e
        ∙ queue_there f found was s))
        (λ stop e. subst (IsShownStop disks Say.Queue old spool.journal.disk opened)
        (sym (queue_stopped (queue_of spool.current) text stop is e)) (memory opened)) shown;
  }

  mailbox_why : (name : List ℕ) (stop : Stop) → (stop ≡ Stops.Memory) ⊎
      ((stop ≡ Stops.NoMailbox name) × (mailbox_named spool.current name ≡ None)) → IsShownStop disks
      (Say.Mailbox name) old spool.journal.disk opened stop
  mailbox_why name stop (inl e) = subst (IsShownStop disks (Say.Mailbox name) old spool.journal.disk opened) (sym e)
      (memory opened)
  mailbox_why name stop (inr none) = subst (IsShownStop disks (Say.Mailbox name) old spool.journal.disk opened)
      (sym none.0)
      (no_mailbox name refl
      (λ f found was s. sym (named_there name f found was s) ∙ none.1))

  pub mailbox_left : (name : List ℕ) (text : Result (List ℕ) Stop) (result : Result (Unit {0}) Stop)
      → IsMailboxShown spool.current name text → HasShown text out result
      → HasShownSpool disks (Say.Mailbox name) out old spool.journal.disk result
  mailbox_left name text result is shown = record {
    opening = opened;
    disk = disk_read disks laws old spool o;
    safe_before = before_read disks laws old spool o;
    printed = shown_printed (IsShownStop disks (Say.Mailbox name) old spool.journal.disk opened)
        (IsShownText disks (Say.Mailbox name) old opened) out text result
        (λ t e. let m = mailbox_shown spool.current name text t is e in
        shows_mailbox name t refl
        (λ f found was s none. m.1 (named_there name f found was s ∙ none))
        (λ f found was s. m.0 ∙ mailbox_there name f found was s))
        (λ stop e. mailbox_why name stop (mailbox_stopped spool.current name text stop is e)) shown;
  }

-- ---- as what a command leaves

module _ {D C I : Type 0} (h : Handed D C I) (words : Words) (is : h.words ≡ Some words) (opens : OpensDisk h.words)
    (inputs : InputsRead h) where
  shown_why : (opening : Opening) (stop : Stop) → IsShownStop h.disks words h.disk.before h.disk.after opening stop
      → Cause h [] [] opening stop
  shown_why _ _ (not_spool at none) = cause_not_spool at opens inputs none
  shown_why _ _ (full size need fits) = cause_full_opening size need opens inputs fits
  shown_why _ _ (not_opened failed) = cause_not_opened opens inputs failed
  shown_why _ _ (memory opening) = cause_memory opening
  shown_why _ _ (no_mailbox name w none) = cause_no_mailbox name (is ∙ ap (λ (x : Words). Some x) w) none

  shown_text : (opening : Opening) (text : List ℕ) → IsShownText h.disks words h.disk.before opening text
      → IsText h [] [] opening text
  shown_text _ _ (shows_queue text w t) = of_queue text (is ∙ ap (λ (x : Words). Some x) w) t
  shown_text _ _ (shows_mailbox name text w named t) =
      of_mailbox name text (is ∙ ap (λ (x : Words). Some x) w) named t

  shown_with : (out : Output) (result : Result (Unit {0}) Stop) → SourcesLeft h → (AddsSteps h.words → ⊥)
      → HasShownSpool h.disks words out h.disk.before h.disk.after result → HasEnded h NoneWorked out result
  shown_with out result left other has =
      ended_alike h NoneWorked out result has.opening left has.disk has.safe_before (λ e ok. other e)
      (λ none. absurd (none opens))
      (printed_map out result (λ stop e why. shown_why has.opening stop why) (λ t x. shown_text has.opening t x)
      has.printed) refl

pub shown_ended : {D C I : Type 0} (disks : DiskView D) (clocks : ClockView C) (sources : SourceView I) (words : Words)
    (conf input : I) (old new : D) (clock : C) (out : Output) (result : Result (Unit {0}) Stop)
    → OpensDisk (Some words) → (ReadsTables (Some words) → ⊥) → (ReadsApdu (Some words) → ⊥)
    → HasShownSpool disks words out old new result
    → HasEnded (handed disks clocks sources (Some words) conf conf input input old new clock) NoneWorked out result
shown_ended disks clocks sources words conf input old new clock out result opens no_tables no_apdu has =
    shown_with (handed disks clocks sources (Some words) conf conf input input old new clock) words refl opens
    (record { tables = λ r. absurd (no_tables r); apdu = λ r. absurd (no_apdu r) }) out result
    (record {
      conf_untouched = λ none. refl;
      input_untouched = λ none. refl;
      conf = undrawn sources longest_tables
          conf;
      input = undrawn sources longest_apdu input;
    })
    (λ e. no_tables (adds_reads (Some words) e)) has
