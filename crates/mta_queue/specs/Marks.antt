-- The recipients of items: where the route of each leads, and whether he waits. Items and recipients are numbered
-- from 1.
use Rattle.std.specs.Prelude.{ℕ, zero, suc, ◌==◌, ◌&&◌, Bool, true, false, List, [], ◌∷◌, Option, Some, None}
use Rattle.std.specs.Prelude.{slice_get, slice_set}
use Rattle.mta_queue.specs.declared.mark.Mark.{Mark}

-- ---- of one item

abbrev pub mark_of : List Mark → ℕ → Option Mark
mark_of row zero = None
mark_of row (suc n) = slice_get row n

abbrev pub with_waits : Mark → Bool → Mark
with_waits m waits = record { route = m.route; waits = waits }

abbrev pub put_waits : List Mark → ℕ → Option Mark → Bool → List Mark
put_waits row n None waits = row
put_waits row n (Some m) waits = slice_set row n (with_waits m waits)

-- whether the recipient of this number waits is put down, where there is one
abbrev pub set_waits : List Mark → ℕ → Bool → List Mark
set_waits row zero waits = row
set_waits row (suc n) waits = put_waits row n (slice_get row n) waits

abbrev pub is_at : ℕ → Option ℕ → Bool
is_at place None = false
is_at place (Some route) = place == route

-- the recipient waits, and the route leads to the peer at this place
abbrev pub waits_for : ℕ → Mark → Bool
waits_for place m = m.waits && is_at place m.route

-- ---- of all items

abbrev pub marks_in : Option (List Mark) → List Mark
marks_in None = []
marks_in (Some row) = row

abbrev pub row_of : List (List Mark) → ℕ → List Mark
row_of rows zero = []
row_of rows (suc n) = marks_in (slice_get rows n)

abbrev pub put_row : List (List Mark) → ℕ → Option (List Mark) → ℕ → Bool → List (List Mark)
put_row rows n None r waits = rows
put_row rows n (Some row) r waits = slice_set rows n (set_waits row r waits)

-- whether a recipient of an item waits is put down, where there is one
abbrev pub set_mark : List (List Mark) → (i r : ℕ) → Bool → List (List Mark)
set_mark rows zero r waits = rows
set_mark rows (suc n) r waits = put_row rows n (slice_get rows n) r waits

abbrev pub is_waiting : Option Mark → Bool
is_waiting None = false
is_waiting (Some m) = m.waits

abbrev pub route_by : Option Mark → Option ℕ
route_by None = None
route_by (Some m) = m.route

-- whether a recipient of an item waits
abbrev pub waits_in : List (List Mark) → (i r : ℕ) → Bool
waits_in rows i r = is_waiting (mark_of (row_of rows i) r)

-- the place of the peer to whom the route of a recipient of an item leads
abbrev pub route_in : List (List Mark) → (i r : ℕ) → Option ℕ
route_in rows i r = route_by (mark_of (row_of rows i) r)
