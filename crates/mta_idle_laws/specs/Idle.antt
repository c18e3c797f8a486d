-- When nothing is called for at once of an item, in a format and under the tables of a text.
use Rattle.std.specs.Prelude.{◌≡◌, ℕ, Bool, true, false, List, Option, Some, None}
use Rattle.mta_procedures.specs.declared.verdict.Verdict.{Verdict}
use Rattle.mta_procedures.specs.declared.verdict.Verdict.TheVariants as Verdicts
use Rattle.mta_machine.specs.Items.{ItemValue, numbered, has_status, is_pending}
use Rattle.mta_machine.specs.Rules.{verdict_of, is_expired}
use Rattle.mta_idle_laws.specs.Next.{next_change}

-- a verdict calls for a step at once, but for one that relays or holds
abbrev pub calls_at_once : Option Verdict → Bool
calls_at_once None = false
calls_at_once (Some (Verdicts.Deliver place)) = true
calls_at_once (Some (Verdicts.Expand place)) = true
calls_at_once (Some (Verdicts.Relay place)) = false
calls_at_once (Some Verdicts.Affirm) = true
calls_at_once (Some (Verdicts.NonDeliver reason diagnostic)) = true
calls_at_once (Some (Verdicts.Hold moment)) = false
calls_at_once (Some Verdicts.Back) = true
calls_at_once (Some Verdicts.Discard) = true

-- nothing is called for at once of the recipient, or that one is not pending
abbrev pub Waits : (format : ℕ) (text : List ℕ) (item : ItemValue) (r moment : ℕ) → Type 0
Waits format text item r moment =
    has_status is_pending (numbered item.statuses r) ≡ true
    → calls_at_once (verdict_of format text item.octets item.arrival r moment) ≡ false

abbrev pub AllWait : (format : ℕ) → List ℕ → ItemValue → ℕ → Type 0
AllWait format text item moment = (r : ℕ) → Waits format text item r moment

-- Until when nothing is called for at once of the item: up to the next moment at which a verdict may change. There is
-- none where something is called for now, or where no change is to come.
abbrev pub IsIdleUntil : (format : ℕ) → List ℕ → ItemValue → ℕ → Option ℕ → Type 0
IsIdleUntil format text item moment None =
    AllWait format text item moment → next_change format text item.octets item.arrival moment ≡ None
IsIdleUntil format text item moment (Some until) =
    AllWait format text item moment × (next_change format text item.octets item.arrival moment ≡ Some until)

-- a recipient who is pending waits, and the item has not expired
pub record IsAtRest (format : ℕ) (text : List ℕ) (item : ItemValue) (r moment : ℕ) : Type 0 where
  pub waits : calls_at_once (verdict_of format text item.octets item.arrival r moment) ≡ false
  pub unexpired : is_expired format text item.octets item.arrival moment ≡ false

-- each recipient of the item who is pending is at rest
abbrev pub IsIdle : (format : ℕ) → List ℕ → ItemValue → ℕ → Type 0
IsIdle format text item moment =
    (r : ℕ) → has_status is_pending (numbered item.statuses r) ≡ true → IsAtRest format text item r moment
