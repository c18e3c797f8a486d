-- What a compacted state keeps.
use Rattle.std.specs.Prelude.{◌≡◌, ℕ, suc, ◌≤◌, ◌<◌, ◌^◌, Bool, List, [], ◌∷◌, length}
use Rattle.mta_records.specs.declared.step.Step.TheVariants as step
use Rattle.mta_apdu.specs.Apdus.{longest_stored}
use Rattle.mta_records.specs.declared.state.MailboxLine.{MailboxLine}
use Rattle.mta_machine.specs.Items.{ItemValue}
use Rattle.mta_histories.specs.Lanes.{State, empty}
use Rattle.mta_histories.specs.History.{IsPossible}
use Rattle.mta_histories.specs.Kept.{IsKept}
use Rattle.mta_histories.specs.Sound.{IsSound, state_begun}
use Rattle.mta_histories.specs.Compact.{kept_octets, is_named, snapshot_of}

-- a record can have the item's octets, and what is kept of them
abbrev pub IsShort : (named : Bool) → ItemValue → Type 0
IsShort named item = (length item.octets ≤ longest_stored) × (length (kept_octets named item) ≤ longest_stored)

-- items that are numbered from n
abbrev pub AreShort : List MailboxLine → (n : ℕ) → List ItemValue → Type 0
AreShort lines n [] = Unit {0}
AreShort lines n (item ∷ items) = IsShort (is_named lines n) item × AreShort lines (suc n) items

abbrev pub HasShortItems : State → Type 0
HasShortItems s = AreShort s.machine.mailboxes 1 s.machine.items

-- what every step keeps holds of the state that the snapshot of a state is
abbrev pub CompactionKeeps : Type 0
CompactionKeeps =
    (s : State) → IsKept s → IsSound s → HasShortItems s
    → IsKept (state_begun (snapshot_of s))

-- that state is sound
abbrev pub CompactionIsSound : Type 0
CompactionIsSound =
    (s : State) → IsKept s → IsSound s → HasShortItems s
    → IsSound (state_begun (snapshot_of s))

-- so a history may begin with the snapshot
abbrev pub CompactionIsPossible : Type 0
CompactionIsPossible =
    (s : State) → IsKept s → IsSound s → HasShortItems s
    → length s.machine.items < 2 ^ 32 → IsPossible empty (step.Snapshot (snapshot_of s))
