-- What is answered before a spool is opened and behind that, and what entries keep over steps.
use Rattle.std.specs.Prelude.{◌≡◌, ℕ, List, Some, true}
use Rattle.mta_histories.specs.History.{ArePossible, after, after_from}
use Rattle.mta_histories.specs.Lanes.{State}
use Rattle.mta_histories.specs.Sound.{IsSound}
use Rattle.mta_images.specs.Opened.{Opens}
use Rattle.mta_machine.specs.Items.{numbered}
use Rattle.mta_marks.specs.declared.mark.Standing.{Standing}
use Rattle.mta_records.specs.declared.state.MailboxLine.{MailboxLine}
use Rattle.mta_records.specs.declared.step.Step.{Step}
use Rattle.mta_show.specs.Compacted.{compacted}
use Rattle.mta_store_run.specs.Store.{answer_of, deliveries, item_text}
use Rattle.mta_store_run.specs.declared.asked.Asked.{Asked}

-- Each question is answered the same in a state and in the one that its snapshot has: an entry keeps its number and its
-- text, though spent messages have lost their contents.
abbrev pub SnapshotsAnswerTheSame : Type 0
SnapshotsAnswerTheSame =
    (asked : Asked) (s : State) (look : List ℕ → ℕ → Standing) → IsSound s
    → answer_of asked (compacted s) look ≡ answer_of asked s look

-- So it is behind the history for which a disk stands and behind the one with which opening it goes on.
abbrev pub OpeningAnswersTheSame : Type 0
OpeningAnswersTheSame =
    (asked : Asked) (look : List ℕ → ℕ → Standing) (f : List ℕ) (found steps : List Step)
    → Opens f found steps
    → answer_of asked (after steps) look ≡ answer_of asked (after found) look

-- the entry of this number is this delivery in a later state too, and its text is the same
pub record EntryStays (before now : State) (mailbox : List ℕ) (number : ℕ) (line : MailboxLine) : Type 0 where
  pub place : numbered (deliveries mailbox now.machine.mailboxes) number ≡ Some line
  pub text : item_text now.machine.items line ≡ item_text before.machine.items line

-- An entry keeps its number and its text over each step behind the first one: later deliveries come behind it.
abbrev pub StepsKeepEntries : Type 0
StepsKeepEntries =
    (mailbox : List ℕ) (number : ℕ) (line : MailboxLine) (s : State) (steps : List Step) → s.begun ≡ true
    → IsSound s
    → ArePossible s steps → numbered (deliveries mailbox s.machine.mailboxes) number ≡ Some line
    → EntryStays s (after_from s steps) mailbox number line
