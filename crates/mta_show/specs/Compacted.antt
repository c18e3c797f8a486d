-- What is printed of a state, and of the one with which a history is gone on with that was compacted.
use Rattle.std.specs.Prelude.{◌≡◌, ℕ, List}
use Rattle.mta_histories.specs.Lanes.{State}
use Rattle.mta_histories.specs.Sound.{IsSound, state_begun}
use Rattle.mta_histories.specs.Compact.{snapshot_of}
use Rattle.mta_histories.specs.Compaction.{HasShortItems}
use Rattle.mta_show.specs.Mailbox.{mailbox_text}
use Rattle.mta_show.specs.Queue.{queue_text}

-- the state that the snapshot of a state has
abbrev pub compacted : State → State
compacted s = state_begun (snapshot_of s)

-- the text of the queue of a state: its items and its lanes
abbrev pub queue_of : State → List ℕ
queue_of s = queue_text s.machine.items s.lanes.open_lanes

-- the text of a mailbox in a state
abbrev pub mailbox_of : List ℕ → State → List ℕ
mailbox_of name s = mailbox_text name s.machine.items s.machine.mailboxes

-- The queue prints the same before and behind compaction.
abbrev pub QueuesPrintTheSame : Type 0
QueuesPrintTheSame = (s : State) → IsSound s → HasShortItems s → queue_of (compacted s) ≡ queue_of s

-- So does each mailbox: an item that a delivery names keeps its content.
abbrev pub MailboxesPrintTheSame : Type 0
MailboxesPrintTheSame =
    (name : List ℕ) (s : State) → IsSound s → HasShortItems s
    → mailbox_of name (compacted s) ≡ mailbox_of name s
