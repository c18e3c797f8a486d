-- The queues of peers in the state, and what is put down in them when it changes.
use Rattle.std.specs.Prelude.{◌≡◌, ◌≤◌, ◌<◌, ◌+◌, ◌^◌, ◌↔◌, ℕ, suc, false, List, [], ◌∷◌, ◌++◌, length}
use Rattle.std.specs.Prelude.{Option, Some, None, option_to_list}
use Rattle.mta_queue.specs.declared.mark.Mark.{Mark}
use Rattle.mta_queue.specs.Marks as marks
use Rattle.mta_queue.specs.Marks.{mark_of, route_by, route_in, row_of, set_mark, waits_in}
use Rattle.mta_queue.specs.Queues.{QueuesValue, place_of, places_at, room_at}
use Rattle.mta_machine.specs.Items.{ItemValue, numbered}
use Rattle.mta_machine.specs.Rules.{names_peer, route_word}
use Rattle.mta_histories.specs.Lanes.{State}
use Rattle.mta_histories.specs.Due.{routed}
use Rattle.mta_state.specs.Parts.{made_items}
use Rattle.mta_state.specs.declared.change.Settlement.{Settlement}
use Rattle.mta_state.specs.declared.change.Change.{Change}
use Rattle.mta_state.specs.declared.change.Change.TheVariants as change
use Rattle.mta_replay.specs.Touched.{is_waiting}

-- ---- peers, and the recipients of items

-- the peers are those that the tables name
abbrev pub IsNamedBy : (text : List ℕ) → List (List ℕ) → Type 0
IsNamedBy text words = (word : List ℕ) → (place_of words word ≡ None) ↔ (names_peer text word ≡ false)

-- the place of the peer of a word, where there is a word
abbrev pub place_by : List (List ℕ) → Option (List ℕ) → Option ℕ
place_by words None = None
place_by words (Some word) = place_of words word

-- so many recipients of octets, of whom nobody waits, with the routes of their names
pub record IsRow (text : List ℕ) (words : List (List ℕ)) (octets : List ℕ) (count : ℕ)
    (row : List Mark) : Type 0 where
  pub count_is : length row ≡ count
  pub few : length row < 2 ^ 32
  pub idle : (r : ℕ) → marks.is_waiting (mark_of row r) ≡ false
  pub routes : (r : ℕ) → 1 ≤ r → r ≤ count
      → route_by (mark_of row r) ≡ place_by words (route_word text octets r)

abbrev pub IsRowOf : (text : List ℕ) → List (List ℕ) → ItemValue → List Mark → Type 0
IsRowOf text words item row = IsRow text words item.octets (length item.statuses) row

-- these are the recipients of these items
abbrev pub AreRows : (text : List ℕ) → List (List ℕ) → List (List Mark) → List ItemValue → Type 0
AreRows text words [] [] = Unit {0}
AreRows text words [] (item ∷ items) = ⊥
AreRows text words (row ∷ rows) [] = ⊥
AreRows text words (row ∷ rows) (item ∷ items) = IsRowOf text words item row × AreRows text words rows items

-- these are the recipients of the item behind so many
pub record IsNextRow (text : List ℕ) (words : List (List ℕ)) (items : List ItemValue) (count : ℕ)
    (row : List Mark)
    : Type 0 where
  pub item : ItemValue
  pub item_is : numbered items (suc count) ≡ Some item
  pub row_is : IsRowOf text words item row

-- these are those of all items behind so many
abbrev pub AreComing : (text : List ℕ) → List (List ℕ) → List ItemValue → ℕ → List (List Mark) → Type 0
AreComing text words items count [] = length items ≡ count
AreComing text words items count (row ∷ rows) =
    IsNextRow text words items count row × AreComing text words items (suc count) rows

-- ---- the state

-- there is such a recipient
abbrev pub IsMark : List (List Mark) → (i r : ℕ) → Type 0
IsMark rows i r = (1 ≤ r) × (r ≤ length (row_of rows i))

-- Of so many items it is put down for each recipient where his route leads, and of whom is not apart whether he waits.
pub record IsQueuedUpTo (text : List ℕ) (s : State) (v : QueuesValue) (count : ℕ) (Apart : ℕ → ℕ → Type 0)
    : Type 0 where
  pub named : IsNamedBy text v.words
  pub rows : length v.rows ≡ count
  pub counts : (i : ℕ) (item : ItemValue) → numbered s.machine.items i ≡ Some item → i ≤ count
      → length (row_of v.rows i) ≡ length item.statuses
  pub routes : (i r : ℕ) → IsMark v.rows i r
      → route_in v.rows i r ≡ place_by v.words (routed (Some text) (numbered s.machine.items i) r)
  pub waits : (i r : ℕ) → IsMark v.rows i r → (Apart i r → ⊥) → waits_in v.rows i r ≡ is_waiting s i r

abbrev pub Nobody : ℕ → ℕ → Type 0
Nobody i r = ⊥

-- of all items
abbrev pub AreQueued : (text : List ℕ) → State → QueuesValue → Type 0
AreQueued text s v = IsQueuedUpTo text s v (length s.machine.items) Nobody

-- ---- a change

-- It is put down of these recipients whether they wait, and of the others as before. The rest stays, but for so many
-- places in each queue.
pub record IsPutDown (s : State) (Touched : ℕ → ℕ → Type 0) (most : ℕ) (old new : QueuesValue) : Type 0 where
  pub words : new.words ≡ old.words
  pub rows : length new.rows ≡ length old.rows
  pub lengths : (i : ℕ) → length (row_of new.rows i) ≡ length (row_of old.rows i)
  pub routes : (i r : ℕ) → route_in new.rows i r ≡ route_in old.rows i r
  pub touched : (i r : ℕ) → IsMark old.rows i r → Touched i r → waits_in new.rows i r ≡ is_waiting s i r
  pub others : (i r : ℕ) → (Touched i r → ⊥) → waits_in new.rows i r ≡ waits_in old.rows i r
  pub count : length new.queues ≡ length old.queues
  pub places : (place : ℕ) → room_at old.queues place ≤ room_at new.queues place + most
  pub room : new.room ≡ old.room

-- the same of one recipient, for whose item there was a place in each queue
pub record IsOnePutDown (s : State) (item recipient : ℕ) (old new : QueuesValue) : Type 0 where
  pub words : new.words ≡ old.words
  pub rows : new.rows ≡ set_mark old.rows item recipient (is_waiting s item recipient)
  pub count : length new.queues ≡ length old.queues
  pub places : (place : ℕ) → places_at old.queues place item ≤ places_at new.queues place item
  pub room : new.room ≡ old.room

-- an item more is put down
pub record IsRowMore (old new : QueuesValue) : Type 0 where
  pub words : new.words ≡ old.words
  pub rows : length new.rows ≡ length old.rows + 1
  pub count : length new.queues ≡ length old.queues
  pub places : (place : ℕ) → room_at old.queues place ≤ room_at new.queues place + 1
  pub room : old.room ≤ new.room + 1

-- the items that discharges in turn make, the last of these first
abbrev pub made_in_turn : List Settlement → List ItemValue
made_in_turn [] = []
made_in_turn (s ∷ rest) = made_in_turn rest ++ option_to_list s.made

-- a history goes on by the change: it does not begin by it
abbrev pub GoesOn : Change → Type 0
GoesOn (change.Begin kept) = ⊥
GoesOn other = Unit {0}

-- the items that a change makes by which a history goes on, in their order
abbrev pub made_by : Change → List ItemValue
made_by (change.Begin kept) = []
made_by change.Format = []
made_by (change.Tables text) = []
made_by (change.Accept item moment) = item ∷ []
made_by (change.Settle item recipient status made line moment) = made_items made
made_by (change.Open lane moment) = []
made_by (change.OnLane n new moment) = []
made_by (change.Complete n activity item moment) = item ∷ []
made_by (change.Discharge n new item settlements moment) = made_in_turn settlements.items
made_by (change.Close n) = []
