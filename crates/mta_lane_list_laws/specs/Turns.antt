-- Session lists of one lane that stand one behind the other.
use Rattle.std.specs.Prelude.{◌≡◌, ◌⊎◌, ◌≤◌, ℕ, ◌+◌, Bool, List, [], ◌∷◌, ◌++◌, length}
use Rattle.mta_transfer_rules.specs.Lanes.{LanesAllow, Seen}
use Rattle.mta_transfer_rules.specs.Sending as s
use Rattle.mta_transfer_laws.specs.Clause.{LaneAgrees}
use Rattle.mta_transfer_laws.specs.Covering as sent
use Rattle.mta_transfer_laws.specs.ReceivingOrder as received
use Rattle.mta_transfer_laws.specs.Run.{EachGood}
use Rattle.mta_transfer_laws.specs.Sendings as sending
use Rattle.mta_transfer_laws.specs.Receivings as receiving
use Rattle.mta_transfer_laws.specs.Sessions.{SessionList}

-- these steps of the sending half stand one behind the other, from one length of the history up to another
abbrev pub SendsBetween : (from upto : ℕ) → List sent.Placed → Type 0
SendsBetween from upto [] = from ≤ upto
SendsBetween from upto (x ∷ xs) = (from ≤ x.position) × SendsBetween (x.position + 1) upto xs

-- and these of the receiving half
abbrev pub ReceivesBetween : (from upto : ℕ) → List received.Placed → Type 0
ReceivesBetween from upto [] = from ≤ upto
ReceivesBetween from upto (x ∷ xs) = (from ≤ x.position) × ReceivesBetween (x.position + 1) upto xs

-- A list that begins at this length of the history or behind it, and whose steps stand before that one, for each half
-- in their order.
pub record StandsBetween (lane from upto : ℕ) (l : SessionList) : Type 0 where
  pub begins : from ≤ l.at
  pub sends : SendsBetween (l.at + 1) upto (sent.placed_events lane l.events)
  pub receives : ReceivesBetween (l.at + 1) upto (received.placed_events lane l.events)

-- Each list stands before the next one begins: one station had the lane, or several had it in turn.
pub data AreInTurn (lane : ℕ) : (from : ℕ) → List SessionList → Type 0 where
  None_more : {from : ℕ} → AreInTurn lane from []
  Then : {from : ℕ} {ls : List SessionList} (upto : ℕ) (l : SessionList) → StandsBetween lane from upto l
      → AreInTurn lane upto ls → AreInTurn lane from (l ∷ ls)

-- So their positions rise.
abbrev pub ListsInTurnRise : Type 0
ListsInTurnRise =
    (lane from : ℕ) (ls : List SessionList) → AreInTurn lane from ls
    → sent.Rises from (sent.placed_lists lane ls) × received.Rises from (received.placed_lists lane ls)

-- Each step of either half that the history has from here on stands in one of the lists, or it gives an activity up.
pub record AreAllListed (history : List Seen) (from lane : ℕ) (ls : List SessionList) : Type 0 where
  pub sent_binds : sent.EachBinds history lane ls
  pub received_binds : received.EachBinds history lane ls
  pub sends : (p : ℕ) (y : sending.HalfStep) → from ≤ p → sent.step_at history lane p ≡ y ∷ []
      → sent.HasPosition p (sent.placed_lists lane ls) ⊎ (y ≡ sending.Makes s.Abandon)
  pub receives : (p : ℕ) (y : receiving.HalfStep) → from ≤ p → received.step_at history lane p ≡ y ∷ []
      → received.HasPosition p (received.placed_lists lane ls)

-- The two ends agree, and the steps that were added are those of the lists, in order.
abbrev pub ListsInTurnAgree : Type 0
ListsInTurnAgree =
    (spells : List ℕ → Bool) (before added : List Seen) (lane size window : ℕ) (initiator : Bool)
    (ls : List SessionList) → LanesAllow spells (before ++ added)
    → EachGood spells (before ++ added) lane size window initiator ls
    → AreInTurn lane (length before) ls → AreAllListed (before ++ added) (length before) lane ls
    → LaneAgrees spells before added lane size window initiator ls
