-- Compaction: the snapshot in which a history is gone on with.
use Rattle.std.specs.Prelude.{◌≡◌, ℕ, ◌+◌, ◌*◌, ◌<◌, ◌≤◌, ◌==◌, ◌&&◌, ◌^◌, nat_le, nat_lt, not, Bool, true, false}
use Rattle.std.specs.Prelude.{◌||◌, suc, List, [], ◌∷◌, ◌++◌, length, Option, Some, None, option_map, if◌then◌else◌}
use Rattle.std.specs.List.{list_any}
use Rattle.mta_envelope.specs.Contents.{content_as}
use Rattle.mta_envelope.specs.Messages.{message_as}
use Rattle.mta_apdu.specs.Apdus.{ApduValue, message, probe, report, canonical_apdu, longest_stored}
use Rattle.mta_records.specs.Body.{body_of}
use Rattle.mta_records.specs.State.{RecordedItem, SnapshotValue}
use Rattle.mta_records.specs.declared.state.MailboxLine.{MailboxLine}
use Rattle.mta_records.specs.declared.state.Status.{Status}
use Rattle.mta_records.specs.declared.state.Status.TheVariants.{Pending, Delivered, Expanded, Sent, Reported, Affirmed}
use Rattle.mta_records.specs.declared.state.Status.TheVariants.{Discarded, Passed}
use Rattle.mta_records.specs.declared.step.Step.{Step}
use Rattle.mta_records.specs.declared.step.Step.TheVariants as step
use Rattle.mta_machine.specs.Apdu.{value_of}
use Rattle.mta_machine.specs.Items.{ItemValue}
use Rattle.mta_histories.specs.Lanes.{State}
use Rattle.mta_histories.specs.History.{after}
use Rattle.mta_histories.specs.Sound.{IsSoundItem, item_begun}

-- ---- what is spent

-- who is pending or was delivered to wants the content
abbrev pub wants_content : Option Status → Bool
wants_content None = false
wants_content (Some Pending) = true
wants_content (Some (Delivered moment)) = true
wants_content (Some (Expanded moment)) = false
wants_content (Some (Sent moment peer)) = false
wants_content (Some (Reported moment reason diagnostic)) = false
wants_content (Some (Affirmed moment)) = false
wants_content (Some (Discarded moment)) = false
wants_content (Some (Passed moment)) = false

abbrev pub is_message : Option ApduValue → Bool
is_message None = false
is_message (Some (message v)) = true
is_message (Some (probe e)) = false
is_message (Some (report p)) = false

-- a delivery is one of the item of this number
abbrev pub is_named : List MailboxLine → (number : ℕ) → Bool
is_named lines n = list_any (λ (line : MailboxLine). line.item == n) lines

-- a message none of whose recipients is pending or was delivered to, and that no delivery names
abbrev pub is_spent : (named : Bool) → ItemValue → Bool
is_spent named item = is_message (value_of item.octets) && not (list_any wants_content item.statuses || named)

-- a message with an empty content, in one piece
abbrev pub without_content : ApduValue → ApduValue
without_content (message v) = message (message_as v.envelope (content_as true []))
without_content (probe e) = probe e
without_content (report p) = report p

-- the canonical octets of what a message is without its content
abbrev pub emptied : Option ApduValue → List ℕ → List ℕ
emptied None octets = octets
emptied (Some (message v)) octets = canonical_apdu (without_content (message v))
emptied (Some (probe e)) octets = octets
emptied (Some (report p)) octets = octets

abbrev pub kept_octets : (named : Bool) → ItemValue → List ℕ
kept_octets named item =
    if is_spent named item then emptied (value_of item.octets) item.octets else item.octets

-- ---- the snapshot of a state

-- the statuses of those for whom this agent is responsible
abbrev pub codes_of : List (Option Status) → List Status
codes_of [] = []
codes_of (None ∷ ss) = codes_of ss
codes_of (Some s ∷ ss) = s ∷ codes_of ss

abbrev pub recorded_item : (named : Bool) → ItemValue → RecordedItem
recorded_item named item = record {
  origin = item.origin;
  arrival = item.arrival;
  octets = kept_octets named item;
  codes = codes_of item.statuses;
}

-- items that are numbered from n
abbrev pub recorded_from : List MailboxLine → (n : ℕ) → List ItemValue → List RecordedItem
recorded_from lines n [] = []
recorded_from lines n (item ∷ items) =
    recorded_item (is_named lines n) item ∷ recorded_from lines (suc n) items

-- the state without closed lanes, with each spent message in its canonical octets with empty content
abbrev pub snapshot_of : State → SnapshotValue
snapshot_of s = record {
  format = s.machine.format;
  moment = s.moment;
  tables = s.machine.tables;
  items = recorded_from s.machine.mailboxes 1 s.machine.items;
  mailboxes = s.machine.mailboxes;
  lane_count = s.lanes.count;
  lanes = s.lanes.open_lanes;
}

-- ---- what a history is gone on with

-- the history of the one step that is the snapshot of the state after this one
abbrev pub compact : List Step → List Step
compact steps = step.Snapshot (snapshot_of (after steps)) ∷ []

-- the octets that the record of the snapshot needs
abbrev pub compact_need : List Step → ℕ
compact_need steps = length (body_of (step.Snapshot (snapshot_of (after steps)))) + 5

abbrev pub most_octets : ℕ
most_octets = 536870912

-- A journal of two areas, of which the first is current, is so long, and would be at least halved.
abbrev pub shrinks : (first_of_two : Bool) → (size need : ℕ) → Bool
shrinks first_of_two size need =
    first_of_two && nat_le 1048576 size && nat_lt size (2 ^ 63) && nat_le (2 * (24 + need)) size
    && nat_le (2 * (24 + need)) most_octets

abbrev pub base : Bool → ℕ → List Step → List Step
base first_of_two size steps = if shrinks first_of_two size (compact_need steps) then compact steps else steps

-- the history that an opening gives: in format 1 it sets the format
abbrev pub opened : Bool → ℕ → List Step → List Step
opened first_of_two size steps =
    if (after steps).machine.format == 2 then base first_of_two size steps
    else base first_of_two size steps ++ step.Format 2 ∷ []

-- what a crash while it is opened may leave
pub data IsLeftOf (first_of_two : Bool) (size : ℕ) (steps : List Step) : List Step → Type 0 where
  as_it_was : IsLeftOf first_of_two size steps steps
  at_base : IsLeftOf first_of_two size steps (base first_of_two size steps)
  at_opened : IsLeftOf first_of_two size steps (opened first_of_two size steps)

-- ---- what a snapshot shows of an item

-- all but the content
abbrev pub shown_of : Option ApduValue → Option ApduValue
shown_of o = option_map without_content o

pub record IsShownAs (old new : ItemValue) : Type 0 where
  pub shown : shown_of (value_of new.octets) ≡ shown_of (value_of old.octets)
  pub arrival : new.arrival ≡ old.arrival
  pub origin : new.origin ≡ old.origin
  pub statuses : new.statuses ≡ old.statuses

-- an item that a record can have shows the same in the snapshot
abbrev pub SnapshotsShowTheSame : Type 0
SnapshotsShowTheSame =
    (moment : ℕ) (named : Bool) (item : ItemValue) → IsSoundItem moment item
    → length item.octets ≤ longest_stored
    → length (kept_octets named item) ≤ longest_stored → IsShownAs item (item_begun (recorded_item named item))

-- one that a delivery names keeps its octets
abbrev pub NamedItemsKeepTheirOctets : Type 0
NamedItemsKeepTheirOctets = (item : ItemValue) → kept_octets true item ≡ item.octets
