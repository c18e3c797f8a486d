-- What is found of an item of which nothing is called for at once, once its APDU is read.
use Rattle.std.specs.Prelude.{◌≡◌, ◌&&◌, ℕ, Bool, Option, Some, None}
use Rattle.mta_apdu.specs.Apdus.{ApduValue}
use Rattle.mta_tables.specs.Tables.{TablesValue}
use Rattle.mta_machine.specs.Items.{ItemValue, has_status, is_pending, numbered}
use Rattle.mta_machine.specs.Rules.{verdict_under}
use Rattle.mta_idle_laws.specs.Idle.{calls_at_once}
use Rattle.mta_idle_laws.specs.Spans.{span_under}
use Rattle.mta_state.specs.Spans.{bounds_of}
use Rattle.mta_state.specs.declared.rest.Rest.{Rest}
use Rattle.mta_table_rules.specs.Waits.{IsIdleUnder}

-- the recipient is pending, and something is called for at once
abbrev pub is_calling : (format : ℕ) → TablesValue → ApduValue → ItemValue → (r moment : ℕ) → Bool
is_calling format t v item r moment =
    has_status is_pending (numbered item.statuses r)
    && calls_at_once (verdict_under format t v item.arrival r moment)

-- the item rests until then, and this is its span
pub record RestsUnder (format : ℕ) (t : TablesValue) (v : ApduValue) (item : ItemValue) (moment : ℕ)
    (rest : Rest) : Type 0 where
  pub idle : IsIdleUnder format t v item moment (Some rest.until)
  pub span : Some (bounds_of rest.span) ≡ span_under format (Some t) (Some v) item.arrival

-- what is found of the item; none where something is called for at once, or where no change is to come
abbrev pub IsRestUnder : (format : ℕ) → TablesValue → ApduValue → ItemValue → ℕ → Option Rest → Type 0
IsRestUnder format t v item moment None = IsIdleUnder format t v item moment None
IsRestUnder format t v item moment (Some rest) = RestsUnder format t v item moment rest
