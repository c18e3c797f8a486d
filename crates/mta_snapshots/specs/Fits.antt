-- How the parts of a state fit one another.
use Rattle.std.specs.Prelude.{◌≡◌, ◌≢◌, ℕ, ◌≤◌, true, List, [], length, count_by, Option, Some, None}
use Rattle.std.specs.List.{AllByRecursion}
use Rattle.mta_records.specs.State.{Transfer, Lane}
use Rattle.mta_records.specs.declared.lane.LaneRole.{LaneRole}
use Rattle.mta_machine.specs.Items.{ItemValue, Machine, numbered, names, AreDifferent}
use Rattle.mta_machine.specs.Machine.{relay_at, relay_by}
use Rattle.mta_machine.specs.Rules.{is_tables_text, outgoing_copy, verdict_of}
use Rattle.mta_histories.specs.Lanes.{State, EachLane, is_transferring, activities_of}
use Rattle.mta_histories.specs.Limits.{copied, octets_of, most_lanes, is_with}
use Rattle.mta_histories.specs.Kept.{AreNumbered, IsDroppedReported, pending_count}
use Rattle.mta_histories.specs.Sound.{IsSoundLine, AreApart}

-- where there is an item or a lane, tables were recorded
pub record IsRecorded (s : State) : Type 0 where
  pub items : s.machine.items ≢ [] → s.machine.tables ≢ []
  pub lanes : EachLane (λ lane. s.machine.tables ≢ []) s.lanes.open_lanes

-- What is transferred of an item goes to some recipients whom the verdict relays to the peer, in a format and under the
-- tables of a text, and is the copy for them.
pub record GoesUnder (format : ℕ) (text : List ℕ) (item : ItemValue) (peer : List ℕ) (t : Transfer) : Type 0 where
  pub some_recipients : t.recipients ≢ []
  pub relayed : (r : ℕ) → names t.recipients r ≡ true
      → relay_by text (verdict_of format text item.octets item.arrival r t.moment) ≡ Some peer
  pub copy : t.octets ≡ octets_of (outgoing_copy text item.octets item.arrival t.recipients t.moment)

-- the same of the tables and the item that it names
pub record GoesTo (m : Machine) (peer : List ℕ) (t : Transfer) : Type 0 where
  pub some_recipients : t.recipients ≢ []
  pub relayed : (r : ℕ) → names t.recipients r ≡ true
      → relay_at m t.format t.tables t.item r t.moment ≡ Some peer
  pub copy : t.octets ≡ copied (numbered m.tables t.tables) (numbered m.items t.item) t.recipients t.moment

-- there are the item and the tables of what is transferred, and its format and its moment have come
pub record IsPlaced (s : State) (t : Transfer) : Type 0 where
  pub item : (1 ≤ t.item) × (t.item ≤ length s.machine.items)
  pub tables : (1 ≤ t.tables) × (t.tables ≤ length s.machine.tables)
  pub format : (1 ≤ t.format) × (t.format ≤ s.machine.format)
  pub timely : t.moment ≤ s.moment

-- what is transferred rests on what is recorded
pub record RestsOn (s : State) (lane : Lane) (t : Transfer) : Type 0 where
  pub placed : IsPlaced s t
  pub goes : is_transferring lane.sending ≡ true → GoesTo s.machine lane.peer t

abbrev pub HasRest : State → Lane → Option Transfer → Type 0
HasRest s lane None = Unit {0}
HasRest s lane (Some t) = RestsOn s lane t

abbrev pub IsAtRest : State → Lane → Type 0
IsAtRest s lane = HasRest s lane lane.transfer

-- no recipient stands twice
abbrev pub HasDifferent : Option Transfer → Type 0
HasDifferent None = Unit {0}
HasDifferent (Some t) = AreDifferent t.recipients

abbrev pub TransfersOnce : Lane → Type 0
TransfersOnce lane = is_transferring lane.sending ≡ true → HasDifferent lane.transfer

-- a recipient is in one activity at most that may be completed, once, and in none unless it is pending
pub record AreOnce (s : State) : Type 0 where
  pub different : EachLane TransfersOnce s.lanes.open_lanes
  pub once : (i r : ℕ) → activities_of s.lanes.open_lanes i r ≤ pending_count s.machine i r

-- what is tested of a state without rules
pub record AreListed (s : State) : Type 0 where
  pub recorded : IsRecorded s
  pub lines : AllByRecursion (IsSoundLine s) s.machine.mailboxes
  pub numbered_lanes : AreNumbered 0 s.lanes.open_lanes s.lanes.count
  pub few : (role : LaneRole) (peer : List ℕ) → count_by (is_with role peer) s.lanes.open_lanes ≤ most_lanes
  pub apart : AreApart s.lanes.open_lanes
  pub dropped : EachLane (IsDroppedReported s.machine) s.lanes.open_lanes

-- how the parts of a state fit one another, each of which is such by itself
pub record FitTogether (s : State) : Type 0 where
  pub listed : AreListed s
  pub texts : AllByRecursion (λ text. is_tables_text text ≡ true) s.machine.tables
  pub transfers : EachLane (IsAtRest s) s.lanes.open_lanes
  pub once : AreOnce s
