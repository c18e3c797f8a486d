-- The spans in which the first items may be relayed, and the blocks of numbers over them.
use Rattle.std.specs.Prelude.{◌≡◌, ◌≤◌, ◌<◌, ◌+◌, ◌*◌, ◌⊎◌, ℕ, zero, suc, Bool, true, false, List, get_or, length}
use Rattle.std.specs.Prelude.{Option, Some, None, if◌then◌else◌, max, min, nat_lt, slice_get, slice_set}
use Rattle.mta_machine.specs.Items.{numbered}
use Rattle.mta_state.specs.declared.rest.Span.{Span}
use Rattle.mta_state.specs.Spans.{has}

abbrev pub open_by : Option Span → ℕ → Bool
open_by None moment = true
open_by (Some span) moment = has span moment

-- the span of the item of this number has the moment, or is not known; there is no item 0
abbrev pub is_open : List Span → (i moment : ℕ) → Bool
is_open spans zero moment = false
is_open spans (suc n) moment = open_by (slice_get spans n) moment

-- none of the numbers of a block is open at the moment
abbrev pub AreClosed : List Span → (block moment : ℕ) → Type 0
AreClosed spans block moment =
    (i : ℕ) → 1024 * block ≤ i → i < 1024 * block + 1024 → is_open spans i moment ≡ false

-- the first of the numbers, from a place on, that is open at the moment, or none
abbrev pub NoneOpenBetween : List Span → List ℕ → (from most moment : ℕ) → Type 0
NoneOpenBetween spans numbers from most moment =
    (k : ℕ) → from ≤ k → k < most → is_open spans (get_or numbers k 0) moment ≡ false

pub record IsOpenAt (spans : List Span) (numbers : List ℕ) (from moment place : ℕ) : Type 0 where
  pub from_on : from ≤ place
  pub within : place < length numbers
  pub none : NoneOpenBetween spans numbers from place moment

abbrev pub IsNextOpen : List Span → List ℕ → (from moment : ℕ) → Option ℕ → Type 0
IsNextOpen spans numbers from moment None = NoneOpenBetween spans numbers from (length numbers) moment
IsNextOpen spans numbers from moment (Some place) = IsOpenAt spans numbers from moment place

-- the end for which one of 32 bits stands: the last of them for the last one of 64
abbrev pub end_of : ℕ → ℕ
end_of until = if nat_lt until 4294967295 then until else 18446744073709551615

-- the span that is held of a span: it has what that has, and its ends have 32 bits
abbrev pub held_as : Span → Span
held_as span = record {
  from = min span.from 4294967295;
  until = if nat_lt span.until 4294967295 then span.until else max span.until 18446744073709551615;
}

-- what is known was known before, or is what is held of this
abbrev pub IsLearnt : (old new : List Span) → ℕ → Span → Type 0
IsLearnt old new number span =
    (i : ℕ) (s : Span) → numbered new i ≡ Some s → (numbered old i ≡ Some s)
    ⊎ ((i ≡ number) × (s ≡ held_as span))

-- ---- blocks

-- the block has what the span has
pub record Covers (block span : Span) : Type 0 where
  pub from : block.from ≤ span.from
  pub until : span.until ≤ block.until

abbrev pub joined : Span → Span → Span
joined block span = record { from = min block.from span.from; until = max block.until span.until }

abbrev pub widened_by : List Span → ℕ → Option Span → Span → List Span
widened_by blocks place None span = blocks
widened_by blocks place (Some block) span = slice_set blocks place (joined block span)

-- the block at a place has what the span has, where there is such a block
abbrev pub widened : List Span → ℕ → Span → List Span
widened blocks place span = widened_by blocks place (slice_get blocks place) span

-- the block of a number has what its span has
pub record IsCovered (blocks : List Span) (block : ℕ) (span : Span) : Type 0 where
  pub whole : Span
  pub there : slice_get blocks block ≡ Some whole
  pub covers : Covers whole span

-- each span is covered by the block of its number, and there is no more than one block to come
pub record AreCovered (each blocks : List Span) : Type 0 where
  pub enough : length each ≤ 1024 * length blocks
  pub all : (n block : ℕ) (span : Span) → slice_get each n ≡ Some span → 1024 * block ≤ n + 1
      → n + 1 < 1024 * block + 1024
      → IsCovered blocks block span
