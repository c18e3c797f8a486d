-- What holds of the state between two steps.
use Rattle.std.specs.Prelude.{◌≡◌, ◌≤◌, ◌<◌, ◌^◌, true, List, [], length, ℕ, Option, Some, None}
use Rattle.std.specs.List.{All}
use Rattle.mta_ber.specs.Times.{last_moment}
use Rattle.mta_machine.specs.Items.{Machine, numbered}
use Rattle.mta_machine.specs.Machine.{last_tables}
use Rattle.mta_machine.specs.Rules.{is_tables_text}
use Rattle.mta_histories.specs.Kept.{IsKept}
use Rattle.mta_dues.specs.Index.{IsIndexed}
use Rattle.mta_state.specs.Parts.{machine_of}
use Rattle.mta_state.specs.Asked.{IsStored}
use Rattle.mta_state.specs.declared.kept.Kept.{Kept}
use Rattle.mta_state.specs.Kept.{state_of}
use Rattle.mta_replay.specs.declared.replay.InForce.{InForce}
use Rattle.mta_replay.specs.Expected.{AreQueuedUnder}

-- rules in a format and under a text are those in force: of the format of the machine, and of the text recorded last,
-- which the grammar of tables reads
pub record AreInForce (format : ℕ) (text : List ℕ) (m : Machine) : Type 0 where
  pub in_format : format ≡ m.format
  pub last : numbered m.tables (last_tables m) ≡ Some text
  pub reads : is_tables_text text ≡ true

-- The rules are those in force; there are none where no tables were recorded.
abbrev pub AreLast : {R : Type 0} → (R → ℕ) → (R → List ℕ) → Machine → Option (InForce R) → Type 0
AreLast format text m None = m.tables ≡ []
AreLast format text m (Some force) = AreInForce (format force.rules) (text force.rules) m

-- the text recorded last, where one was, is one of tables
abbrev pub ReadsLast : Machine → Type 0
ReadsLast m = (text : List ℕ) → numbered m.tables (last_tables m) ≡ Some text → is_tables_text text ≡ true

-- under the rules it is true what is known of items
abbrev pub IsIndexedUnder : {R : Type 0} → (R → ℕ) → (R → List ℕ) → Machine → Option (InForce R)
    → Type 0
IsIndexedUnder format text m None = Unit {0}
IsIndexedUnder format text m (Some force) = IsIndexed (format force.rules) (text force.rules) m.items force.index

-- what is kept is that of a history, moments and numbers are in their ranges, the rules are those in force, and what is
-- known of items and who waits for whom is true
pub record IsSound {R : Type 0} (format : R → ℕ) (text : R → List ℕ) (kept : Kept) (rules : Option (InForce R))
    : Type 0 where
  pub of_history : IsKept (state_of kept)
  pub stored : All IsStored kept.parts.items.items
  pub numbers : length kept.parts.items.items < 2 ^ 32
  pub timely : kept.moment ≤ last_moment
  pub last : AreLast format text (machine_of kept.parts) rules
  pub indexed : IsIndexedUnder format text (machine_of kept.parts) rules
  pub queued : AreQueuedUnder text (state_of kept) rules
