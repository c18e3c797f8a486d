-- The state with which a history begins by a snapshot, when that may be, and what soundness is.
use Rattle.std.specs.Prelude.{◌≡◌, ◌≢◌, ◌⊎◌, ℕ, ◌≤◌, Bool, true, false, List, [], ◌∷◌, length, map, count_by}
use Rattle.std.specs.Prelude.{Option, Some, None, is_some, option_map}
use Rattle.std.specs.List.{AllByRecursion}
use Rattle.mta_lane_recv.specs.declared.state.Last.TheVariants as last
use Rattle.mta_lane_send.specs.Half.{is_idle, last_of}
use Rattle.mta_apdu.specs.Apdus.{ApduValue, longest_stored}
use Rattle.mta_records.specs.Snapshots.{since}
use Rattle.mta_records.specs.State.{Transfer, Lane, RecordedItem, SnapshotValue}
use Rattle.mta_records.specs.declared.lane.LaneRole.{LaneRole}
use Rattle.mta_records.specs.declared.lane.LaneRole.TheVariants.{Responder}
use Rattle.mta_records.specs.declared.state.MailboxLine.{MailboxLine}
use Rattle.mta_records.specs.declared.state.Status.{Status}
use Rattle.mta_machine.specs.Apdu.{value_of, responsible_in, IsStoredAs}
use Rattle.mta_machine.specs.Items.{ItemValue, Machine, numbered}
use Rattle.mta_machine.specs.Rules.{is_tables_text}
use Rattle.mta_histories.specs.Lanes.{Lanes, State, EachLane, is_transferring}
use Rattle.mta_histories.specs.Limits.{longest_piece, copied, most_lanes, is_with}
use Rattle.mta_histories.specs.Kept.{IsKept}

-- ---- the state that a snapshot is

-- the statuses of recipients: those that are recorded, of the recipients for whom this agent is responsible, in their
-- order
abbrev pub spread : List Bool → List Status → List (Option Status)
spread [] codes = []
spread (false ∷ rs) codes = None ∷ spread rs codes
spread (true ∷ rs) [] = None ∷ spread rs []
spread (true ∷ rs) (c ∷ codes) = Some c ∷ spread rs codes

abbrev pub responsible_of : Option ApduValue → List Bool
responsible_of None = []
responsible_of (Some v) = responsible_in v

abbrev pub item_begun : RecordedItem → ItemValue
item_begun i = record {
  octets = i.octets;
  arrival = i.arrival;
  origin = i.origin;
  statuses = spread (responsible_of (value_of i.octets)) i.codes;
}

abbrev pub machine_begun : SnapshotValue → Machine
machine_begun t = record {
  format = t.format;
  tables = t.tables;
  items = map item_begun t.items;
  mailboxes = t.mailboxes;
  moment = t.moment;
}

abbrev pub lanes_begun : SnapshotValue → Lanes
lanes_begun t = record { count = t.lane_count; open_lanes = t.lanes }

abbrev pub state_begun : SnapshotValue → State
state_begun t = record { machine = machine_begun t; lanes = lanes_begun t; moment = t.moment; begun = true }

-- ---- soundness

-- no moment of a status is above this one
abbrev pub IsInTime : ℕ → Option Status → Type 0
IsInTime moment None = Unit {0}
IsInTime moment (Some s) = since s ≤ moment

-- The octets spell an APDU, and who has a status is for whom this agent is responsible. Octets that no record can have
-- are not looked at: an item that this agent made may have more than offsets of 32 bits tell.
pub record IsSoundItem (moment : ℕ) (item : ItemValue) : Type 0 where
  pub spelled : length item.octets ≤ longest_stored
      → (v : ApduValue) × IsStoredAs item.octets v × (map is_some item.statuses ≡ responsible_in v)
  pub arrived : item.arrival ≤ moment
  pub timely : AllByRecursion (IsInTime moment) item.statuses

-- a delivery is one of an item
pub record IsSoundLine (s : State) (line : MailboxLine) : Type 0 where
  pub some_item : 1 ≤ line.item
  pub item : line.item ≤ length s.machine.items
  pub timely : line.moment ≤ s.moment

-- What an activity that is not settled rests on. While it may be completed its octets are the copy for its recipients.
pub record IsSoundTransfer (s : State) (lane : Lane) (t : Transfer) : Type 0 where
  pub activity : 1 ≤ last_of lane.sending
  pub item : (1 ≤ t.item) × (t.item ≤ length s.machine.items)
  pub tables : (1 ≤ t.tables) × (t.tables ≤ length s.machine.tables)
  pub format : (1 ≤ t.format) × (t.format ≤ s.machine.format)
  pub timely : t.moment ≤ s.moment
  pub copy : is_transferring lane.sending ≡ true
      → t.octets ≡ copied (numbered s.machine.tables t.tables)
      (numbered s.machine.items t.item) t.recipients t.moment

abbrev pub HasSoundTransfer : State → Lane → Option Transfer → Type 0
HasSoundTransfer s lane None = is_idle lane.sending ≡ true
HasSoundTransfer s lane (Some t) = (is_idle lane.sending ≡ false) × IsSoundTransfer s lane t

-- one octet at least, and no more than a piece may have
abbrev pub IsPieceOf : Lane → List ℕ → Type 0
IsPieceOf lane piece = (1 ≤ length piece) × (length piece ≤ longest_piece lane.checkpoint)

pub record IsSoundLane (s : State) (lane : Lane) : Type 0 where
  pub responder : lane.role ≡ Responder → lane.agreed ≡ true
  pub before_agreed : lane.agreed ≡ false → (is_idle lane.sending ≡ true) × (lane.last ≡ last.None)
  pub transfer : HasSoundTransfer s lane lane.transfer
  pub pieces : AllByRecursion (IsPieceOf lane) lane.pieces

-- no two open lanes have one name
abbrev pub AreApart : List Lane → Type 0
AreApart [] = Unit {0}
AreApart (lane ∷ lanes) =
    EachLane (λ l. l.role ≡ lane.role → l.peer ≡ lane.peer → l.reference ≡ lane.reference → ⊥) lanes
    × AreApart lanes

-- a state that may be recorded in a snapshot
pub record IsSound (s : State) : Type 0 where
  pub format : (s.machine.format ≡ 1) ⊎ (s.machine.format ≡ 2)
  pub texts : AllByRecursion (λ text. is_tables_text text ≡ true) s.machine.tables
  pub recorded : s.machine.items ≢ [] → s.machine.tables ≢ []
  pub items : AllByRecursion (IsSoundItem s.moment) s.machine.items
  pub lines : AllByRecursion (IsSoundLine s) s.machine.mailboxes
  pub lanes : EachLane (IsSoundLane s) s.lanes.open_lanes
  pub few : (role : LaneRole) (peer : List ℕ) → count_by (is_with role peer) s.lanes.open_lanes ≤ most_lanes
  pub apart : AreApart s.lanes.open_lanes

-- there is a code for each recipient for whom this agent is responsible
abbrev pub HasCodes : RecordedItem → Type 0
HasCodes i = length i.codes ≡ count_by (λ b. b) (responsible_of (value_of i.octets))

-- A history may begin with the snapshot: nothing stands before it, and its state keeps what each step keeps and is
-- sound.
pub record CanBegin (s : State) (t : SnapshotValue) (moment : ℕ) : Type 0 where
  pub now : moment ≡ t.moment
  pub first : s.begun ≡ false
  pub codes : AllByRecursion HasCodes t.items
  pub kept : IsKept (state_begun t)
  pub sound : IsSound (state_begun t)
