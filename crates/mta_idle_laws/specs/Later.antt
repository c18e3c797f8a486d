-- Items as they are later.
use Rattle.std.specs.Prelude.{◌≡◌, ℕ, true, List, Some}
use Rattle.mta_machine.specs.Items.{ItemValue, numbered, has_status, is_pending}

-- the item is one of before, of which recipients may have been discharged since
pub record IsLater (old new : ItemValue) : Type 0 where
  pub octets : new.octets ≡ old.octets
  pub arrival : new.arrival ≡ old.arrival
  pub pending : (r : ℕ) → has_status is_pending (numbered new.statuses r) ≡ true
      → has_status is_pending (numbered old.statuses r) ≡ true

-- under this number there is the item as it is later
pub record GoesOn (items : List ItemValue) (i : ℕ) (old : ItemValue) : Type 0 where
  pub item : ItemValue
  pub item_is : numbered items i ≡ Some item
  pub later : IsLater old item
