-- Where the messages for a name go next (X.411, clause 14: routing). Own: the patterns of routes.
use Rattle.std.specs.Prelude.{◌≡◌, ℕ, ◌≤◌, Bool, List, length, Option, Some, None, slice_get, nat_le, not}
use Rattle.std.specs.Prelude.{◌&&◌, ◌||◌}
use Rattle.std.specs.List.{position, find, list_all}
use Rattle.mta_names.specs.declared.attributes.Attributes.{Attributes}
use Rattle.mta_names.specs.Normal.{IsSameName}
use Rattle.mta_name_text.specs.Routes.{HasRoute, has_parts, route_attributes}
use Rattle.mta_tables.specs.declared.entry.Mailbox.{Mailbox}
use Rattle.mta_tables.specs.declared.entry.MailList.{MailList}
use Rattle.mta_tables.specs.declared.entry.Peer.{Peer}
use Rattle.mta_tables.specs.declared.entry.Route.{Route}
use Rattle.mta_tables.specs.declared.entry.Target.{Target}
use Rattle.mta_tables.specs.declared.entry.Target.TheVariants as Targets
use Rattle.mta_tables.specs.declared.hop.Hop.{Hop}
use Rattle.mta_tables.specs.declared.hop.Hop.TheVariants as Hops
use Rattle.mta_tables.specs.Reading.{is_of_mailbox, is_of_list}
use Rattle.mta_tables.specs.Tables.{TablesValue}

-- ---- mailboxes and lists

-- the places of the mailbox and of the list whose names are the same
abbrev pub mailbox_place : TablesValue → Attributes → Option ℕ
mailbox_place t n = position (is_of_mailbox n) t.mailboxes

abbrev pub list_place : TablesValue → Attributes → Option ℕ
list_place t n = position (is_of_list n) t.lists

-- the list of a name
abbrev pub list_named : TablesValue → Attributes → Option MailList
list_named t n = find (is_of_list n) t.lists

-- ---- routes

abbrev pub matches : Attributes → Route → Bool
matches n r = has_parts r.pattern (route_attributes n)

-- r has at least as many parts as s, where s matches
abbrev pub is_no_shorter : Attributes → Route → Route → Bool
is_no_shorter n r s = not (matches n s) || nat_le (length s.pattern) (length r.pattern)

-- a route that matches and than which no route that matches has more parts
unfoldable pub is_best : List Route → Attributes → Route → Bool
is_best routes n r = matches n r && list_all (is_no_shorter n r) routes

abbrev pub best_entry : List Route → Attributes → Option Route
best_entry routes n = find (is_best routes n) routes

-- ---- hops

abbrev pub hop_of_target : Target → Hop
hop_of_target Targets.Here = Hops.None
hop_of_target (Targets.Peer place) = Hops.Peer place

abbrev pub to_route : Option Route → Hop
to_route None = Hops.None
to_route (Some r) = hop_of_target r.target

abbrev pub or_list : Option ℕ → Hop → Hop
or_list None other = other
or_list (Some place) other = Hops.List place

abbrev pub or_mailbox : Option ℕ → Hop → Hop
or_mailbox None other = other
or_mailbox (Some place) other = Hops.Local place

-- the mailbox of a name; else its list; else where its best route goes
unfoldable pub best_hop : TablesValue → Attributes → Hop
best_hop t n = or_mailbox (mailbox_place t n) (or_list (list_place t n) (to_route (best_entry t.routes n)))

-- the place of the mailbox that a hop goes to
abbrev pub local_of : Hop → Option ℕ
local_of (Hops.Local place) = Some place
local_of (Hops.List place) = None
local_of (Hops.Peer place) = None
local_of Hops.None = None

-- ---- the same, as facts

pub record StandsAt (routes : List Route) (place : ℕ) (r : Route) : Type 0 where
  pub found : slice_get routes place ≡ Some r

-- it matches, and no route that matches has more parts
pub record IsBestAt (routes : List Route) (n : Attributes) (place : ℕ) (r : Route) : Type 0 where
  pub stands : StandsAt routes place r
  pub on_it : HasRoute n r.pattern
  pub longest : (i : ℕ) (s : Route) → StandsAt routes i s → HasRoute n s.pattern
      → length s.pattern ≤ length r.pattern

pub record IsMailboxAt (t : TablesValue) (n : Attributes) (place : ℕ) : Type 0 where
  pub mailbox : Mailbox
  pub found : slice_get t.mailboxes place ≡ Some mailbox
  pub same : IsSameName mailbox.name n

pub record IsListAt (t : TablesValue) (n : Attributes) (place : ℕ) : Type 0 where
  pub list : MailList
  pub found : slice_get t.lists place ≡ Some list
  pub same : IsSameName list.name n

-- the name has no mailbox and no list here
pub record IsNoneHere (t : TablesValue) (n : Attributes) : Type 0 where
  pub mailbox : (place : ℕ) → IsMailboxAt t n place → ⊥
  pub list : (place : ℕ) → IsListAt t n place → ⊥

-- ---- words

-- the peer at this place, from 0, has the word
pub record HasPeerAt (t : TablesValue) (word : List ℕ) (place : ℕ) : Type 0 where
  pub peer : Peer
  pub found : slice_get t.peers place ≡ Some peer
  pub same : peer.name ≡ word

abbrev pub IsPeerAt : TablesValue → List ℕ → Option ℕ → Type 0
IsPeerAt t word (Some place) = HasPeerAt t word place
IsPeerAt t word None = (place : ℕ) → HasPeerAt t word place → ⊥

-- the mailbox at this place, from 0, has the word
pub record HasMailboxAt (t : TablesValue) (word : List ℕ) (place : ℕ) : Type 0 where
  pub mailbox : Mailbox
  pub found : slice_get t.mailboxes place ≡ Some mailbox
  pub same : mailbox.word ≡ word

abbrev pub IsMailboxOf : TablesValue → List ℕ → Option ℕ → Type 0
IsMailboxOf t word (Some place) = HasMailboxAt t word place
IsMailboxOf t word None = (place : ℕ) → HasMailboxAt t word place → ⊥
