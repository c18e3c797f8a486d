-- What is known of the sending half of a session's list.
use Rattle.std.specs.Prelude.{◌≡◌, ◌<◌, ◌≤◌, ℕ, Bool, Option, Some, slice_get, List, [], ◌∷◌, length, take}
use Rattle.mta_lane_send.specs.declared.state.SendState.TheVariants.{Dropping}
use Rattle.mta_transfer_rules.specs.Units.{LaneUnit}
use Rattle.mta_transfer_rules.specs.Units as u
use Rattle.mta_transfer_rules.specs.Sending as s
use Rattle.mta_transfer_rules.specs.Sending.{SendEnd, SendEvent}
use Rattle.mta_transfer_rules.specs.Lanes as h
use Rattle.mta_transfer_rules.specs.Lanes.{Seen, On, LanesAllow}
use Rattle.mta_transfer_laws.specs.History.{lane_upto}
use Rattle.mta_transfer_laws.specs.Sessions.{IsKept}

-- ---- units that say nothing of a transfer

-- A session's list has no event of a half for them.
abbrev pub without_other : List SendEvent → List SendEvent
without_other [] = []
without_other (s.Got u.Other ∷ ys) = without_other ys
without_other (y ∷ ys) = y ∷ without_other ys

-- They may be left out: what is allowed with them is allowed without, and leads to the same end, but for the unit that
-- was heard last.
abbrev pub OthersMayBeLeftOut : Type 0
OthersMayBeLeftOut =
    (e f : SendEnd) (ys : List SendEvent) → s.IsSendingEnd e ys f
    → (heard : Option LaneUnit) × s.IsSendingEnd e (without_other ys) (record f { heard = heard })

-- ---- Abandons in a history

-- Behind the Abandon of an activity no Confirm and no Ending of it follows: in a session's list no Abandon of another
-- pass stands before these.
abbrev pub NoneGoesOn : Type 0
NoneGoesOn =
    (spells : List ℕ → Bool) (history : List Seen) (lane k p upto : ℕ) → LanesAllow spells history
    → slice_get history p ≡ Some (On lane (h.Abandon k)) → p < upto
    → ((g n : ℕ) → slice_get history upto ≡ Some (On lane (h.Confirm g k n)) → ⊥)
    × ((g : ℕ) → slice_get history upto ≡ Some (On lane (h.To_end g k)) → ⊥)

-- A lane comes to drop an activity by its Abandon alone: where a look tells so, an Abandon stands before it.
abbrev pub NoneDrops : Type 0
NoneDrops =
    (spells : List ℕ → Bool) (history : List Seen) (lane k from upto : ℕ) → LanesAllow spells history
    → from ≤ upto
    → upto ≤ length history → IsKept history lane k from upto
    → ((lane_upto history lane (take from history)).state ≡ Dropping k → ⊥)
    → (lane_upto history lane (take upto history)).state ≡ Dropping k → ⊥
