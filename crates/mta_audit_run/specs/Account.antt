-- What is known of a lane.
use Rattle.std.specs.Prelude.{ℕ, ◌<◌, ◌≤◌, ◌==◌, Bool, true, List, [], ◌∷◌, ◌++◌, map, if◌then◌else◌}
use Rattle.mta_records.specs.Reference.{Identifier}
use Rattle.mta_records.specs.declared.lane.LaneRole.{LaneRole}
use Rattle.mta_histories.specs.Lanes.{Lane}
use Rattle.mta_audit_run.specs.declared.account.Account.{Account}

-- ---- one lane

-- a lane of this number, of which no activity is told yet
abbrev pub new_account : (in_snapshot : Bool) → (number : ℕ) → LaneRole → (peer : List ℕ) → Identifier
    → Account
new_account in_snapshot number role peer reference = record {
  in_snapshot = in_snapshot;
  number = number;
  role = role;
  peer = peer;
  reference = reference;
  sent = [];
  completed = [];
  ending = [];
}

-- a lane that stands in a snapshot
abbrev pub account_begun : Lane → Account
account_begun lane = new_account true lane.number lane.role lane.peer lane.reference

abbrev pub with_sent : List ℕ → Account → Account
with_sent octets a = record a { sent = a.sent ++ octets ∷ [] }

abbrev pub with_completed : List ℕ → Account → Account
with_completed octets a = record a { completed = a.completed ++ octets ∷ [] }

abbrev pub with_ending : List ℕ → Account → Account
with_ending octets a = record a { ending = a.ending ++ octets ∷ [] }

-- ---- all lanes, by ascending numbers

-- the lanes that stand in a snapshot
abbrev pub accounts_begun : List Lane → List Account
accounts_begun lanes = map account_begun lanes

-- the numbers ascend above one and up to another
abbrev pub AreNumbered : ℕ → List Account → ℕ → Type 0
AreNumbered above [] most = above ≤ most
AreNumbered above (a ∷ rest) most = (above < a.number) × AreNumbered a.number rest most

-- the numbers ascend
abbrev pub AreAscending : List Account → Type 0
AreAscending known = (most : ℕ) × AreNumbered 0 known most

-- with a change of the lane of this number
abbrev pub changed : (Account → Account) → ℕ → List Account → List Account
changed f n [] = []
changed f n (a ∷ rest) = if n == a.number then f a ∷ rest else a ∷ changed f n rest
