-- Items, the statuses of their recipients, and the state of the machine of recipients (X.411 clause 14).
use Rattle.std.specs.Prelude.{◌≡◌, ◌≤◌, ℕ, zero, suc, ◌==◌, Bool, true, false, List, [], ◌∷◌, map, length}
use Rattle.std.specs.Prelude.{Option, Some, None, slice_get, slice_set, option_and_then, if◌then◌else◌}
use Rattle.std.specs.List.{list_any}
use Rattle.mta_apdu.specs.Apdus.{ApduValue}
use Rattle.mta_machine.specs.Apdu.{responsible_in}
use Rattle.mta_records.specs.declared.state.Origin.{Origin}
use Rattle.mta_records.specs.declared.state.Status.{Status}
use Rattle.mta_records.specs.declared.state.Status.TheVariants.{Pending, Delivered, Expanded, Sent, Reported, Affirmed}
use Rattle.mta_records.specs.declared.state.Status.TheVariants.{Discarded, Passed}
use Rattle.mta_records.specs.declared.state.MailboxLine.{MailboxLine}

-- an APDU that was accepted or made, when, from where, and one status for each recipient for whom this agent is
-- responsible
pub record ItemValue : Type 0 where
  pub octets : List ℕ
  pub arrival : ℕ
  pub origin : Origin
  pub statuses : List (Option Status)

-- the format, the texts of tables that were recorded, the items and the deliveries, each in their order, and the last
-- moment
pub record Machine : Type 0 where
  pub format : ℕ
  pub tables : List (List ℕ)
  pub items : List ItemValue
  pub mailboxes : List MailboxLine
  pub moment : ℕ

abbrev pub at_start : Machine
at_start = record { format = 1; tables = []; items = []; mailboxes = []; moment = 0 }

-- what has a number in a list that is counted from 1
abbrev pub numbered : {A : Type 0} → List A → ℕ → Option A
numbered xs zero = None
numbered xs (suc n) = slice_get xs n

-- this in the place of what has the number
abbrev pub set_numbered : {A : Type 0} → List A → ℕ → A → List A
set_numbered xs zero x = xs
set_numbered xs (suc n) x = slice_set xs n x

-- the number stands in the list
abbrev pub names : List ℕ → ℕ → Bool
names rs r = list_any (λ s. r == s) rs

-- no number stands in it twice
abbrev pub AreDifferent : List ℕ → Type 0
AreDifferent [] = Unit {0}
AreDifferent (r ∷ rs) = (names rs r ≡ false) × AreDifferent rs

-- ---- statuses

-- a recipient is pending at first where this agent is responsible, and has no status elsewhere
abbrev pub status_at_first : Bool → Option Status
status_at_first responsible = if responsible then Some Pending else None

abbrev pub statuses_of : ApduValue → List (Option Status)
statuses_of v = map status_at_first (responsible_in v)

abbrev pub statuses_read : Option ApduValue → List (Option Status)
statuses_read None = []
statuses_read (Some v) = statuses_of v

-- the status of a recipient of an item; none where this agent is not responsible for that recipient
abbrev pub status_in : List ItemValue → ℕ → ℕ → Option (Option Status)
status_in items i r = option_and_then (λ (item : ItemValue). numbered item.statuses r) (numbered items i)

abbrev pub status_at : Machine → ℕ → ℕ → Option (Option Status)
status_at m i r = status_in m.items i r

abbrev pub is_pending : Status → Bool
is_pending Pending = true
is_pending (Delivered moment) = false
is_pending (Expanded moment) = false
is_pending (Sent moment peer) = false
is_pending (Reported moment reason diagnostic) = false
is_pending (Affirmed moment) = false
is_pending (Discarded moment) = false
is_pending (Passed moment) = false

-- the recipient was reported, or was a report's that went no further
abbrev pub is_reported : Status → Bool
is_reported Pending = false
is_reported (Delivered moment) = false
is_reported (Expanded moment) = false
is_reported (Sent moment peer) = false
is_reported (Reported moment reason diagnostic) = true
is_reported (Affirmed moment) = false
is_reported (Discarded moment) = true
is_reported (Passed moment) = false

abbrev pub has_status : (Status → Bool) → Option (Option Status) → Bool
has_status test None = false
has_status test (Some None) = false
has_status test (Some (Some s)) = test s

-- none of the recipients up to this number is pending
pub record AreSettled (statuses : List (Option Status)) (most : ℕ) : Type 0 where
  pub within : most ≤ length statuses
  pub none : (r : ℕ) → r ≤ most → has_status is_pending (numbered statuses r) ≡ false

-- this agent is responsible for the recipient, who is not discharged
abbrev pub is_pending_at : Machine → ℕ → ℕ → Bool
is_pending_at m i r = has_status is_pending (status_at m i r)

abbrev pub is_reported_at : Machine → ℕ → ℕ → Bool
is_reported_at m i r = has_status is_reported (status_at m i r)
