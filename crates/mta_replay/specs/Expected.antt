-- What is found for a change before it is made.
use Rattle.std.specs.Prelude.{◌≡◌, ◌≤◌, ◌+◌, ℕ, List, [], ◌∷◌, length, Option, Some, None, IfSome}
use Rattle.mta_machine.specs.Items.{ItemValue}
use Rattle.mta_queue.specs.Queues.{HasRoom}
use Rattle.mta_histories.specs.Lanes.{State}
use Rattle.mta_state.specs.Readings.{IsDecodedOf}
use Rattle.mta_state.specs.declared.change.Change.{Change}
use Rattle.mta_state.specs.declared.decoded.Decoded.{Decoded}
use Rattle.mta_dues.specs.Index.{IsDecodedIn}
use Rattle.mta_replay.specs.declared.replay.InForce.{InForce}
use Rattle.mta_replay.specs.Queued.{AreComing, AreQueued, AreRows, GoesOn, IsQueuedUpTo, made_by}
use Rattle.mta_replay.specs.declared.touched.Touched.{Touched}
use Rattle.mta_replay.specs.Touched.{IsTouched}

-- the queues of peers are those of the state
abbrev pub AreQueuedUnder : {R : Type 0} → (R → List ℕ) → State → Option (InForce R) → Type 0
AreQueuedUnder text s None = Unit {0}
AreQueuedUnder text s (Some force) = AreQueued (text force.rules) s force.queues

-- it is what the one item that a change makes was read as
pub record IsReadOfMade (new : Change) (decoded : Decoded) : Type 0 where
  pub item : ItemValue
  pub made : made_by new ≡ item ∷ []
  pub read_as : IsDecodedOf item.octets decoded

-- a history goes on by a change, the recipients of the items that it makes are at hand, and there is room for them; and
-- what is at hand as the reading of the one that it makes is that
pub record IsExpected {R : Type 0} (text : R → List ℕ) (force : InForce R) (new : Change) : Type 0 where
  pub goes_on : GoesOn new
  pub rows : AreRows (text force.rules) force.queues.words force.coming.items (made_by new)
  pub room : length (made_by new) ≤ force.queues.room
  pub places : HasRoom force.queues.queues (length (made_by new) + 2)
  pub read : IfSome force.read (IsReadOfMade new)

abbrev pub IsExpectedUnder : {R : Type 0} → (R → List ℕ) → Option (InForce R) → Change → Type 0
IsExpectedUnder text None new = Unit {0}
IsExpectedUnder text (Some force) new = IsExpected text force new

-- the queues may follow a change that was made
pub record Follows {R : Type 0} (text : R → List ℕ) (s : State) (touched : Touched)
    (force : InForce R) : Type 0 where
  pub queued : IsQueuedUpTo (text force.rules) s force.queues (length force.queues.rows) (IsTouched touched)
  pub coming : AreComing (text force.rules) force.queues.words s.machine.items (length force.queues.rows)
      force.coming.items
  pub room : length force.coming.items ≤ force.queues.room
  pub places : HasRoom force.queues.queues (length force.coming.items + 2)

abbrev pub MayFollow : {R : Type 0} → (R → List ℕ) → State → Touched → Option (InForce R) → Type 0
MayFollow text s touched None = Unit {0}
MayFollow text s touched (Some force) = Follows text s touched force

-- it is what the last item was read as
abbrev pub IsReadOfLast : List ItemValue → Decoded → Type 0
IsReadOfLast items decoded = IsDecodedIn items (record { number = length items; decoded = decoded })

abbrev pub IsReadUnder : {R : Type 0} → List ItemValue → Option (InForce R) → Type 0
IsReadUnder items None = Unit {0}
IsReadUnder items (Some force) = IfSome force.read (IsReadOfLast items)

-- the same but for their queues
abbrev pub AreAlike : {R : Type 0} → Option (InForce R) → Option (InForce R) → Type 0
AreAlike None None = Unit {0}
AreAlike None (Some new) = ⊥
AreAlike (Some old) None = ⊥
AreAlike (Some old) (Some new) = (new.rules ≡ old.rules) × (new.index ≡ old.index) × (new.read ≡ old.read)
