-- Whether something is called for at once of an item, once its APDU is read.
use Rattle.std.specs.Prelude.{◌≡◌, ℕ, ◌≤◌, true, false, Option, Some, None}
use Rattle.mta_apdu.specs.Apdus.{ApduValue}
use Rattle.mta_tables.specs.Tables.{TablesValue}
use Rattle.mta_machine.specs.Items.{ItemValue, numbered, has_status, is_pending}
use Rattle.mta_machine.specs.Rules.{verdict_under}
use Rattle.mta_idle_laws.specs.Idle.{calls_at_once}
use Rattle.mta_idle_laws.specs.Next.{next_under}

-- nothing is called for at once of the recipient, or that one is not pending
abbrev pub WaitsUnder : (format : ℕ) → TablesValue → ApduValue → ItemValue → (r moment : ℕ) → Type 0
WaitsUnder format t v item r moment =
    has_status is_pending (numbered item.statuses r) ≡ true
    → calls_at_once (verdict_under format t v item.arrival r moment) ≡ false

abbrev pub AllWaitUnder : (format : ℕ) → TablesValue → ApduValue → ItemValue → ℕ → Type 0
AllWaitUnder format t v item moment = (r : ℕ) → WaitsUnder format t v item r moment

-- the recipients up to a number
abbrev pub WaitUpTo : (format : ℕ) → TablesValue → ApduValue → ItemValue → (most moment : ℕ) → Type 0
WaitUpTo format t v item most moment = (r : ℕ) → r ≤ most → WaitsUnder format t v item r moment

-- until when nothing is called for at once of the item; none where something is now, or where no change is to come
abbrev pub IsIdleUnder : (format : ℕ) → TablesValue → ApduValue → ItemValue → ℕ → Option ℕ → Type 0
IsIdleUnder format t v item moment None =
    AllWaitUnder format t v item moment → next_under format (Some t) (Some v) item.arrival moment ≡ None
IsIdleUnder format t v item moment (Some until) =
    AllWaitUnder format t v item moment × (next_under format (Some t) (Some v) item.arrival moment ≡ Some until)
