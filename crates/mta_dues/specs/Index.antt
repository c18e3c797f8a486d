-- What is known of which items need not be looked at, and of when items may be relayed.
use Rattle.std.specs.Prelude.{◌≡◌, ℕ, ◌≤◌, true, false, List, Option, Some, None}
use Rattle.mta_machine.specs.Items.{ItemValue, Machine, numbered, has_status, is_pending}
use Rattle.mta_machine.specs.Machine.{MachineStep, machine_run}
use Rattle.mta_idle_laws.specs.Idle.{IsIdle}
use Rattle.mta_dues.specs.Agendas.{Rests}
use Rattle.mta_state.specs.Readings.{IsDecodedOf}
use Rattle.mta_state.specs.Spans.{IsSpanFor}
use Rattle.mta_state.specs.declared.rest.Span.{Span}
use Rattle.mta_dues.specs.declared.hand.Hand.{Hand}
use Rattle.mta_dues.specs.declared.index.Index.{Index}
use Rattle.mta_dues.specs.Looked.{IsLooked}

-- ---- who is pending

-- some recipient of the item is pending
abbrev pub HasPending : ItemValue → Type 0
HasPending item = (r : ℕ) × (has_status is_pending (numbered item.statuses r) ≡ true)

-- no recipient up to a number is
abbrev pub NonePendingUpTo : ItemValue → ℕ → Type 0
NonePendingUpTo item most = (r : ℕ) → r ≤ most → has_status is_pending (numbered item.statuses r) ≡ false

-- ---- the index

-- the item of this number is idle at the moment in a format
pub record IsAtRestIn (format : ℕ) (text : List ℕ) (items : List ItemValue) (i moment : ℕ) : Type 0 where
  pub item : ItemValue
  pub item_is : numbered items i ≡ Some item
  pub idle : IsIdle format text item moment

-- the item of this number is relayed within this span alone
pub record IsSpanIn (format : ℕ) (text : List ℕ) (items : List ItemValue) (i : ℕ) (span : Span) : Type 0 where
  pub item : ItemValue
  pub item_is : numbered items i ≡ Some item
  pub within : IsSpanFor format text item span

-- each span that is known is that of its item
abbrev pub AreSpansIn : (format : ℕ) → List ℕ → List ItemValue → List Span → Type 0
AreSpansIn format text items spans =
    (i : ℕ) (span : Span) → numbered spans i ≡ Some span → IsSpanIn format text items i span

-- what is at hand is what the item of its number was read as
pub record IsDecodedIn (items : List ItemValue) (hand : Hand) : Type 0 where
  pub item : ItemValue
  pub item_is : numbered items hand.number ≡ Some item
  pub decoded : IsDecodedOf item.octets hand.decoded

abbrev pub IsAtHand : List ItemValue → Option Hand → Type 0
IsAtHand items None = Unit {0}
IsAtHand items (Some hand) = IsDecodedIn items hand

-- where the reading at hand is of this number, it is that of the item
abbrev pub IsOfHand : ItemValue → ℕ → Option Hand → Type 0
IsOfHand item number None = Unit {0}
IsOfHand item number (Some hand) = hand.number ≡ number → IsDecodedOf item.octets hand.decoded

-- what need not be looked at at a moment is idle then in this format; the spans are those of items; what is at hand is
-- a reading of an item; and who was found to wait does so
pub record IsIndexed (format : ℕ) (text : List ℕ) (items : List ItemValue) (index : Index) : Type 0 where
  pub rests : (i moment : ℕ) → Rests index.agenda i moment → IsAtRestIn format text items i moment
  pub spans : AreSpansIn format text items index.spans
  pub hand : IsAtHand items index.hand
  pub looked : IsLooked format text items index.looked

-- what is known of items stays true whatever steps are made
abbrev pub IndexesStay : Type 0
IndexesStay =
    (format : ℕ) (text : List ℕ) (m : Machine) (steps : List MachineStep) (index : Index)
    → IsIndexed format text m.items index → IsIndexed format text (machine_run m steps).items index
