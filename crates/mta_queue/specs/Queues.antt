-- The queues of peers, and the recipients that are counted in them.
use Rattle.std.specs.Prelude.{◌≡◌, ◌≤◌, ◌<◌, ◌+◌, ◌^◌, ◌↔◌, ◌==◌, ◌≢◌, ℕ, min, true, false, Bool, List, length}
use Rattle.std.specs.Prelude.{count_by}
use Rattle.std.specs.Prelude.{Option, Some, None, slice_get, nat_eq, if◌then◌else◌}
use Rattle.std.specs.List.{list_any, position_from}
use Rattle.std.specs.Cmp.Lexicographic.{pointwise}
use Rattle.mta_queue.specs.declared.mark.Mark.{Mark}
use Rattle.mta_queue.specs.Marks.{row_of, waits_for, waits_in, route_in}
use Rattle.mta_queue.specs.Queue.{QueueValue, IsAscending, more_of, waits}

-- the words of peers, and the queue of each
pub record PeersValue : Type 0 where
  pub words : List (List ℕ)
  pub queues : List QueueValue

-- the words of peers, the queue of each, the recipients of items, and room for so many items more
pub record QueuesValue : Type 0 where
  pub words : List (List ℕ)
  pub queues : List QueueValue
  pub rows : List (List Mark)
  pub room : ℕ

-- the place of a peer among the words
abbrev pub place_of : List (List ℕ) → List ℕ → Option ℕ
place_of words word = position_from (pointwise nat_eq word) 0 words

abbrev pub waits_by : Option QueueValue → ℕ → ℕ
waits_by None i = 0
waits_by (Some q) i = waits q i

abbrev pub room_by : Option QueueValue → ℕ
room_by None = 0
room_by (Some q) = q.room

-- how many recipients of an item wait in the queue at a place
abbrev pub waits_at : List QueueValue → (place i : ℕ) → ℕ
waits_at queues place i = waits_by (slice_get queues place) i

abbrev pub room_at : List QueueValue → ℕ → ℕ
room_at queues place = room_by (slice_get queues place)

-- the places for an item that there are in the queue: one where it stands, and those that are free
abbrev pub places_at : List QueueValue → (place i : ℕ) → ℕ
places_at queues place i = room_at queues place + min 1 (waits_at queues place i)

-- there is a place for the item in each queue
abbrev pub HasPlaces : List QueueValue → ℕ → Type 0
HasPlaces queues i = (place : ℕ) → place < length queues → 1 ≤ places_at queues place i

-- there is room for so many items in each queue
abbrev pub HasRoom : List QueueValue → ℕ → Type 0
HasRoom queues count = (place : ℕ) → place < length queues → count ≤ room_at queues place

-- in the queue at a place so many recipients of an item wait as there are whose route leads there
abbrev pub AreCounted : List QueueValue → List (List Mark) → Type 0
AreCounted queues rows =
    (place i : ℕ) → place < length queues → waits_at queues place i ≡ count_by (waits_for place) (row_of rows i)

pub record IsWholeOf (queues : List QueueValue) (rows : List (List Mark)) : Type 0 where
  pub counted : AreCounted queues rows
  pub few : (i : ℕ) → length (row_of rows i) < 2 ^ 32

-- some recipient of the item waits whose route leads to this place
abbrev pub IsListed : List (List Mark) → (place i : ℕ) → Type 0
IsListed rows place i = (r : ℕ) × (waits_in rows i r ≡ true) × (route_in rows i r ≡ Some place)

-- the items that wait for the peer at a place, ascending
pub record AreListed (rows : List (List Mark)) (place : ℕ) (items : List ℕ) : Type 0 where
  pub ascending : IsAscending items
  pub each : (i : ℕ) → (list_any (λ s. i == s) items ≡ true) ↔ IsListed rows place i

-- they wait for the peer of this word
abbrev pub AreFor : QueuesValue → List ℕ → List ℕ → Type 0
AreFor v word items = (place : ℕ) × (place_of v.words word ≡ Some place) × AreListed v.rows place items

-- the words with this one more, unless it was among them
abbrev pub Names : (old new : List (List ℕ)) → List ℕ → Type 0
Names old new word =
    (w : List ℕ) → (place_of new w ≡ None) ↔ ((place_of old w ≡ None) × (w ≢ word))

-- one recipient more of an item waits at a place, where a route leads there
abbrev pub more_at : (place : ℕ) → Option ℕ → (item i : ℕ) → ℕ
more_at place None item i = 0
more_at place (Some route) item i = if place == route then more_of item 1 i else 0

-- some recipient of the item waits where a route leads
abbrev pub IsSomeAt : List QueueValue → Option ℕ → ℕ → Type 0
IsSomeAt queues None item = Unit {0}
IsSomeAt queues (Some place) item = place < length queues → 1 ≤ waits_at queues place item

-- one more may wait there
abbrev pub FitsAt : List QueueValue → Option ℕ → ℕ → Type 0
FitsAt queues None item = Unit {0}
FitsAt queues (Some place) item = place < length queues → waits_at queues place item + 1 < 2 ^ 32

-- one more may be counted in, or out
abbrev pub MayCount : Bool → List QueueValue → Option ℕ → ℕ → Type 0
MayCount true queues route item = FitsAt queues route item
MayCount false queues route item = IsSomeAt queues route item

abbrev pub IsCountedAs : Bool → (before change after : ℕ) → Type 0
IsCountedAs true before change after = after ≡ before + change
IsCountedAs false before change after = after + change ≡ before
