-- Of which first recipients of an item it is known that they wait.
use Rattle.std.specs.Prelude.{◌≡◌, ◌≤◌, ◌<◌, ◌&&◌, ◌==◌, ℕ, Bool, true, List, Option, Some, None, if◌then◌else◌}
use Rattle.std.specs.Prelude.{nat_le, nat_lt}
use Rattle.mta_machine.specs.Items.{ItemValue, has_status, is_pending, numbered}
use Rattle.mta_machine.specs.Rules.{verdict_of}
use Rattle.mta_idle_laws.specs.Idle.{IsAtRest, calls_at_once}
use Rattle.mta_dues.specs.declared.looked.Looked.{Looked}

-- the recipient is pending, and something is called for at once
abbrev pub is_calling : (format : ℕ) → List ℕ → ItemValue → (r moment : ℕ) → Bool
is_calling format text item r moment =
    has_status is_pending (numbered item.statuses r)
    && calls_at_once (verdict_of format text item.octets item.arrival r moment)

-- each recipient up to a number who is pending is at rest at the moment
abbrev pub AreIdleUpTo : (format : ℕ) → List ℕ → ItemValue → (most moment : ℕ) → Type 0
AreIdleUpTo format text item most moment =
    (r : ℕ) → r ≤ most → has_status is_pending (numbered item.statuses r) ≡ true
    → IsAtRest format text item r moment

-- the recipients of the item that was looked at are at rest from the one moment on until the other
pub record IsLookedIn (format : ℕ) (text : List ℕ) (items : List ItemValue) (looked : Looked) : Type 0 where
  pub item : ItemValue
  pub item_is : numbered items looked.number ≡ Some item
  pub idle : (moment : ℕ) → looked.from ≤ moment → moment < looked.until
      → AreIdleUpTo format text item looked.most moment

abbrev pub IsLooked : (format : ℕ) → List ℕ → List ItemValue → Option Looked → Type 0
IsLooked format text items None = Unit {0}
IsLooked format text items (Some looked) = IsLookedIn format text items looked

-- how many of the first recipients of the item of a number are known to be so at a moment
abbrev pub looked_up_to : Looked → (number moment : ℕ) → ℕ
looked_up_to looked number moment =
    if (looked.number == number && nat_le looked.from moment) && nat_lt moment looked.until then looked.most else 0
