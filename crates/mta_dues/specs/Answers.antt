-- What is answered of what is due.
use Rattle.std.specs.Prelude.{◌≡◌, ◌≤◌, ◌<◌, ◌&&◌, ◌↔◌, ℕ, Bool, true, List, get_or, length}
use Rattle.std.specs.Prelude.{Option, Some, None}
use Rattle.mta_lane_send.specs.Half.{is_sending, last_of}
use Rattle.mta_records.specs.declared.step.Step.{Step}
use Rattle.mta_records.specs.declared.lane.Batch.{Batch}
use Rattle.mta_procedures.specs.declared.verdict.Verdict.{Verdict}
use Rattle.mta_machine.specs.Items.{names}
use Rattle.mta_histories.specs.Lanes.{Lane, State, is_for}
use Rattle.mta_histories.specs.Due.{IsDue, IsQuiet, IsNext, IsAscending, IsToRelay, IsBatch, IsNoBatch}
use Rattle.mta_histories.specs.Due.{step_of}

-- the step that is due of a recipient, or none
abbrev pub IsDueOf : State → (i r moment : ℕ) → Option Step → Type 0
IsDueOf s i r moment None = (due : Step) → IsDue s i r moment due → ⊥
IsDueOf s i r moment (Some due) = IsDue s i r moment due

-- the due step of the lowest item and recipient, or none
abbrev pub IsNextOf : State → ℕ → Option Step → Type 0
IsNextOf s moment None = IsQuiet s moment
IsNextOf s moment (Some due) = IsNext s moment due

-- the step that a verdict calls for, or none
abbrev pub step_by : Option Verdict → ℕ → ℕ → ℕ → Option Step
step_by None i r moment = None
step_by (Some v) i r moment = step_of v i r moment

-- the activity of the lane is in Sending, and for this recipient
abbrev pub is_sending_for : ℕ → ℕ → Lane → Bool
is_sending_for i r lane = is_sending lane.sending (last_of lane.sending) && is_for i r lane.transfer

-- the recipients of an item below or at a number, of which none is due
abbrev pub NoneDueUpTo : State → (i most moment : ℕ) → Type 0
NoneDueUpTo s i most moment = (r : ℕ) (due : Step) → r ≤ most → IsDue s i r moment due → ⊥

-- the items below or at a number, of which nothing is due
abbrev pub NothingDueUpTo : State → (most moment : ℕ) → Type 0
NothingDueUpTo s most moment = (i r : ℕ) (due : Step) → i ≤ most → IsDue s i r moment due → ⊥

-- the lowest recipient of an item of whom something is due
pub record IsFirstIn (s : State) (i moment : ℕ) (due : Step) : Type 0 where
  pub recipient : ℕ
  pub is_due : IsDue s i recipient moment due
  pub lowest : (r : ℕ) (other : Step) → r < recipient → IsDue s i r moment other → ⊥

abbrev pub IsFirstOf : State → (i moment : ℕ) → Option Step → Type 0
IsFirstOf s i moment None = (r : ℕ) (due : Step) → IsDue s i r moment due → ⊥
IsFirstOf s i moment (Some due) = IsFirstIn s i moment due

-- ---- what goes to a peer

-- the ascending recipients up to a number that are to be relayed to the peer
pub record AreRelayedUpTo (s : State) (peer : List ℕ) (moment i most : ℕ) (rs : List ℕ) : Type 0 where
  pub ascending : IsAscending rs
  pub below : (r : ℕ) → names rs r ≡ true → r ≤ most
  pub each : (r : ℕ) → r ≤ most → (names rs r ≡ true) ↔ IsToRelay s peer moment i r

-- the ascending recipients of an item that are to be relayed to the peer
pub record AreRelayed (s : State) (peer : List ℕ) (moment i : ℕ) (rs : List ℕ) : Type 0 where
  pub ascending : IsAscending rs
  pub each : (r : ℕ) → (names rs r ≡ true) ↔ IsToRelay s peer moment i r

-- no item before a place of the queue has a recipient to relay to the peer
abbrev pub NoneRelayedBefore : State → List ℕ → (moment : ℕ) → List ℕ → ℕ → Type 0
NoneRelayedBefore s peer moment queue place =
    (k r : ℕ) → k < place → k < length queue → IsToRelay s peer moment (get_or queue k 0) r → ⊥

-- the lowest item with recipients to relay to the peer and all those, or none
abbrev pub IsBatchOf : State → List ℕ → ℕ → Option Batch → Type 0
IsBatchOf s peer moment None = IsNoBatch s peer moment
IsBatchOf s peer moment (Some batch) = IsBatch s peer moment batch.item batch.recipients
