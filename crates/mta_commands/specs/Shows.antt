-- What the commands that show the spool leave.
use Rattle.std.specs.Prelude.{◌≡◌, ◌≢◌, ◌⊎◌, ℕ, List, [], None, Some, Result, Ok, Err}
use Rattle.mta_edge.specs.Causes.{Rose}
use Rattle.mta_edge.specs.Views.{DiskView}
use Rattle.mta_records.specs.declared.step.Step.{Step}
use Rattle.mta_histories.specs.Lanes.{State}
use Rattle.mta_histories.specs.History.{after}
use Rattle.mta_images.specs.Image.{StandsFor, NoSpoolAt}
use Rattle.mta_images.specs.Opened.{IsFullForFormat, Opens}
use Rattle.mta_spool.specs.declared.why.OpenWhy.{OpenWhy}
use Rattle.mta_spool.specs.declared.why.OpenWhy.TheVariants as Whys
use Rattle.mta_commands.specs.declared.stop.Stop.{Stop}
use Rattle.mta_commands.specs.declared.stop.Stop.TheVariants as Stops
use Rattle.mta_words.specs.declared.words.Words.{Words}
use Rattle.mta_words.specs.declared.words.Words.TheVariants as Say
use Rattle.mta_output.specs.Output.{Output}
use Rattle.mta_commands.specs.Output.{PrintsOrFails}
use Rattle.mta_commands.specs.DiskLeft.{Opening, refused, opened, DiskLeft}
use Rattle.mta_commands.specs.Images.{IsSafeBefore}
use Rattle.mta_commands.specs.Causes.{mailbox_named, queue_of, mailbox_of}

abbrev pub stop_of_open : OpenWhy → Stop
stop_of_open (Whys.NotSpool at) = Stops.NotSpool at
stop_of_open (Whys.Full size need) = Stops.Full size need
stop_of_open Whys.Disk = Stops.Disk
stop_of_open Whys.Memory = Stops.Memory

-- the text, or want of memory for it
abbrev pub IsShown : List ℕ → Result (List ℕ) Stop → Type 0
IsShown text (Ok shown) = shown ≡ text
IsShown text (Err stop) = stop ≡ Stops.Memory

-- the text of a mailbox that is named, or that it is not, or want of memory
abbrev pub IsMailboxShown : State → List ℕ → Result (List ℕ) Stop → Type 0
IsMailboxShown s name (Ok shown) = (shown ≡ mailbox_of name s) × (mailbox_named s name ≢ None)
IsMailboxShown s name (Err stop) = (stop ≡ Stops.Memory)
    ⊎ ((stop ≡ Stops.NoMailbox name) × (mailbox_named s name ≡ None))

-- what holds of the history for which the disk stood, where it tells its octets and they stand for one
abbrev pub ForHistoryOf : {D : Type 0} → DiskView D → D → (List Step → Type 0) → Type 0
ForHistoryOf disks disk P =
    (f : List ℕ) (steps : List Step) → disks.content disk ≡ Some f → StandsFor f steps → P steps

-- what is shown of a spool
pub data IsShownText {D : Type 0} (disks : DiskView D) (words : Words) (disk : D)
    : Opening → List ℕ → Type 0 where
  shows_queue : (text : List ℕ) → words ≡ Say.Queue
      → ForHistoryOf disks disk (λ steps. text ≡ queue_of (after steps))
      → IsShownText disks words disk opened text
  shows_mailbox : (name text : List ℕ) → words ≡ Say.Mailbox name
      → ForHistoryOf disks disk (λ steps. mailbox_named (after steps) name ≢ None)
      → ForHistoryOf disks disk (λ steps. text ≡ mailbox_of name (after steps))
      → IsShownText disks words disk opened text

-- why it is not
pub data IsShownStop {D : Type 0} (disks : DiskView D) (words : Words) (old new : D) : Opening → Stop → Type 0 where
  not_spool : (at : ℕ) → ((f : List ℕ) → disks.content old ≡ Some f → NoSpoolAt f at)
      → IsShownStop disks words old new refused (Stops.NotSpool at)
  full : (size need : ℕ) → ((f : List ℕ) → disks.content old ≡ Some f → IsFullForFormat f size need)
      → IsShownStop disks words old new refused (Stops.Full size need)
  not_opened : Rose (disks.faults old) (disks.faults new) → IsShownStop disks words old new refused Stops.Disk
  memory : (opening : Opening) → IsShownStop disks words old new opening Stops.Memory
  no_mailbox : (name : List ℕ) → words ≡ Say.Mailbox name
      → ForHistoryOf disks old (λ steps. mailbox_named (after steps) name ≡ None)
      → IsShownStop disks words old new opened (Stops.NoMailbox name)

-- what a command that shows the spool leaves before its last line is printed
pub record HasShownSpool {D : Type 0} (disks : DiskView D) (words : Words) (out : Output) (old new : D) (result
    : Result (Unit {0}) Stop) : Type 0 where
  pub opening : Opening
  pub disk : DiskLeft disks old new opening [] []
  pub safe_before : (f : List ℕ) (found steps : List Step) → disks.content old ≡ Some f → Opens f found steps
      → IsSafeBefore disks f steps [] old new
  pub printed : PrintsOrFails (IsShownStop disks words old new opening) (IsShownText disks words old opening) out result
