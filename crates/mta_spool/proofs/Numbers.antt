-- The numbers that a step needs which opens no lane are those of items.
use Rattle.std.proofs.Common.{◌≡◌, ℕ, ◌+◌, ◌≤◌, ◌<◌, ◌^◌, length, refl, arith}
use Rattle.mta_histories.specs.Lanes.{State}
use Rattle.mta_histories.specs.Classes.{Class, opens, on_lane}
use Rattle.mta_histories.specs.Numbers.{numbers_needed}
use Rattle.mta_spool.specs.Due.{IsDueClass}
use Rattle.mta_spool.specs.OnLanes.{IsPlainOn}
use Rattle.mta_spool.specs.Stands.{LacksNumbers, last_number}

abbrev pub OpensNone : Class → Type 0
OpensNone (opens role peer name twa size window) = ⊥
OpensNone c = Unit {0}

pub plain_opens_none : (n g : ℕ) (c : Class) → IsPlainOn n g c → OpensNone c
plain_opens_none n g (on_lane m h step) plain = tt
plain_opens_none n g any plain = absurd plain

pub due_opens_none : (c : Class) → IsDueClass c → OpensNone c
due_opens_none (opens role peer name twa size window) due = due
due_opens_none any due = tt

module _ (s : State) where
  pub last_item : (c : Class) → OpensNone c → length s.machine.items ≡ last_number s c
  last_item (opens role peer name twa size window) none = absurd none
  last_item any none = refl

  pub lacks_items : (c : Class) → OpensNone c → 2 ^ 32 ≤ length s.machine.items + numbers_needed s c → LacksNumbers s c
  lacks_items (opens role peer name twa size window) none few = absurd none
  lacks_items any none few = few

  pub has_items : (c : Class) → OpensNone c → length s.machine.items + numbers_needed s c < 2 ^ 32
      → LacksNumbers s c → ⊥
  has_items (opens role peer name twa size window) none left lacks = none
  has_items any none left lacks = omega (arith, left, lacks)
