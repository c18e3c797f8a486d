-- What two ends agree on.
use Rattle.std.specs.Prelude.{◌≡◌, ◌⊎◌, ◌≤◌, ℕ, Bool, true, false, List, [], ◌∷◌, ◌++◌}
use Rattle.std.specs.Prelude.{length}
use Rattle.mta_lane_send.specs.declared.state.SendState.TheVariants.{Ending}
use Rattle.mta_world.specs.World.{World, Message, Was_dropped, Was_refused, Was_denied}
use Rattle.mta_world.specs.Steps.{IsWorldRun}

-- the octets of the messages
abbrev pub octets_of : List Message → List (List ℕ)
octets_of [] = []
octets_of (m ∷ ms) = m.octets ∷ octets_of ms

-- the activity k is among them
abbrev pub IsAmong : ℕ → List Message → Type 0
IsAmong k [] = ⊥
IsAmong k (m ∷ ms) = (m.activity ≡ k) ⊎ IsAmong k ms

-- Completed is sent, or sent and then the octets of the one activity in Ending. No activity that was given up,
-- dropped, refused or denied is completed. The octets of a denied one spell no message.
pub record Agrees (spells : List ℕ → Bool) (w : World) : Type 0 where
  pub same :
      (octets_of w.completed ≡ octets_of w.sent)
      ⊎ ((k c : ℕ) × (w.state ≡ Ending k c) × (octets_of w.completed ≡ octets_of w.sent ++ w.octets k ∷ []))
  pub not_abandoned : (k : ℕ) → w.abandoned k ≡ true → IsAmong k w.completed → ⊥
  pub not_dropped : (k : ℕ) → w.outcome k ≡ Was_dropped → IsAmong k w.completed → ⊥
  pub not_refused : (k : ℕ) → w.outcome k ≡ Was_refused → IsAmong k w.completed → ⊥
  pub not_denied : (k : ℕ) → w.outcome k ≡ Was_denied → IsAmong k w.completed → ⊥
  pub denied_spell_nothing : (k : ℕ) → w.outcome k ≡ Was_denied → spells (w.octets k) ≡ false

-- in every world run
abbrev pub EndsAgree : Type 0
EndsAgree = (spells : List ℕ → Bool) (w : World) → IsWorldRun spells w → Agrees spells w

-- A message that is completed and sent, in a world with one link
abbrev pub AMessageArrives : Type 0
AMessageArrives =
    (octets : List ℕ) → 1 ≤ length octets
    → (w : World) × IsWorldRun (λ o. true) w × (w.completed ≡ record { activity = 1; octets = octets } ∷ [])
    × (w.sent ≡ w.completed)
