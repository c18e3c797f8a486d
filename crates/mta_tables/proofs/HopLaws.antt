-- A name has one best hop, and it is the one that is found.
use Rattle.std.proofs.Common.{◌≡◌, ℕ, Bool, true, List, Option, Some, None, refl, sym, ap, subst, ◌∙◌, inl, inr}
use Rattle.std.specs.Prelude.{slice_get}
use Rattle.mta_names.specs.declared.attributes.Attributes.{Attributes}
use Rattle.mta_names.proofs.NormalLaws.{name_decides}
use Rattle.std.proofs.lemmas.Slice.Eq.{bytes_eq-Decides}
use Rattle.mta_tables.specs.declared.entry.Route.{Route}
use Rattle.mta_tables.specs.declared.entry.Target.{Target}
use Rattle.mta_tables.specs.declared.entry.Target.TheVariants as Targets
use Rattle.mta_tables.specs.declared.hop.Hop.{Hop}
use Rattle.mta_tables.specs.declared.hop.Hop.TheVariants as Hops
use Rattle.mta_tables.specs.Hops.{mailbox_place, list_place, best_entry, best_hop, or_mailbox, or_list, to_route}
use Rattle.mta_tables.specs.Hops.{hop_of_target, local_of, IsMailboxAt, IsListAt, IsBestAt, IsNoneHere, HasPeerAt}
use Rattle.mta_tables.specs.Hops.{IsPeerAt, HasMailboxAt, IsMailboxOf}
use Rattle.mta_tables.specs.Laws.{IsOnNoRoute, IsBestHop, mailbox, list, route, nowhere}
use Rattle.mta_tables.specs.Reading.{is_of_mailbox, is_of_list, has_peer_word, has_mailbox_word}
use Rattle.mta_tables.specs.Tables.{TablesValue, peer_of, mailbox_of}
use Rattle.mta_tables.specs.Whole.{IsAt, AreTables}
use Rattle.mta_tables.proofs.Places.{some_place, Passes, place_is, position_passes, position_none, cases_option}
use Rattle.mta_tables.proofs.RouteLaws.{best_is_one, best_is_found, none_is_found}

-- ---- mailboxes and lists

mailbox_there : (t : TablesValue) (n : Attributes) (i : ℕ) → IsMailboxAt t n i → Passes (is_of_mailbox n) t.mailboxes i
mailbox_there t n i h = (h.mailbox, h.found, (name_decides h.mailbox.name n).1 h.same)

list_there : (t : TablesValue) (n : Attributes) (i : ℕ) → IsListAt t n i → Passes (is_of_list n) t.lists i
list_there t n i h = (h.list, h.found, (name_decides h.list.name n).1 h.same)

mailbox_at : (t : TablesValue) (n : Attributes) (i : ℕ) → mailbox_place t n ≡ Some i → IsMailboxAt t n i
mailbox_at t n i e = let h = position_passes (is_of_mailbox n) t.mailboxes i e in
    record { mailbox = h.0; found = h.1; same = (name_decides h.0.name n).0 h.2 }

list_at : (t : TablesValue) (n : Attributes) (i : ℕ) → list_place t n ≡ Some i → IsListAt t n i
list_at t n i e = let h = position_passes (is_of_list n) t.lists i e in
    record { list = h.0; found = h.1; same = (name_decides h.0.name n).0 h.2 }

one_mailbox : (t : TablesValue) (n : Attributes) (place : ℕ) → AreTables t → IsMailboxAt t n place
    → mailbox_place t n ≡ Some place
one_mailbox t n place a h = elim (cases_option (mailbox_place t n)) [
  | inl none ↦ absurd (position_none (is_of_mailbox n) t.mailboxes place none (mailbox_there t n place h))
  | inr found ↦ (
      let k = mailbox_at t n found.0 found.1 in
      let e : found.0 ≡ place = a.mailbox_names found.0 place k.mailbox h.mailbox (record { found = k.found })
      (record { found = h.found }) (k.same ∙ sym h.same) in
      found.1 ∙ ap some_place e)
]

one_list : (t : TablesValue) (n : Attributes) (place : ℕ) → AreTables t → IsListAt t n place
    → list_place t n ≡ Some place
one_list t n place a h = elim (cases_option (list_place t n)) [
  | inl none ↦ absurd (position_none (is_of_list n) t.lists place none (list_there t n place h))
  | inr found ↦ (
      let k = list_at t n found.0 found.1 in
      let e : found.0 ≡ place = a.list_names found.0 place k.list h.list (record { found = k.found })
      (record { found = h.found }) (k.same ∙ sym h.same) in
      found.1 ∙ ap some_place e)
]

no_mailbox : (t : TablesValue) (n : Attributes) → ((place : ℕ) → IsMailboxAt t n place → ⊥) → mailbox_place t n ≡ None
no_mailbox t n none = elim (cases_option (mailbox_place t n)) [
  | inl e ↦ e
  | inr found ↦ absurd (none found.0 (mailbox_at t n found.0 found.1))
]

no_list : (t : TablesValue) (n : Attributes) → ((place : ℕ) → IsListAt t n place → ⊥) → list_place t n ≡ None
no_list t n none = elim (cases_option (list_place t n)) [
  | inl e ↦ e
  | inr found ↦ absurd (none found.0 (list_at t n found.0 found.1))
]

-- ---- routes

some_route : (r s : Route) (o : Option Route) → o ≡ Some r → o ≡ Some s → r ≡ s
some_route r s o e h = cc

one_route : (t : TablesValue) (n : Attributes) (place : ℕ) (r : Route) → AreTables t → IsBestAt t.routes n place r
    → best_entry t.routes n ≡ Some r
one_route t n place r a h = elim (cases_option (best_entry t.routes n)) [
  | inl none ↦ absurd (none_is_found t.routes n none place r h.stands h.on_it)
  | inr found ↦ (
      let k = best_is_found t.routes n found.0 found.1 in
      let e : k.0 ≡ place = best_is_one t.routes n k.0 place found.0 r a.patterns k.1 h in
      let there : slice_get t.routes place ≡ Some found.0 = ap (slice_get t.routes) (sym e) ∙ k.1.stands.found in
      found.1 ∙ ap (λ (x : Route). Some x) (some_route found.0 r (slice_get t.routes place) there h.stands.found))
]

no_route : (t : TablesValue) (n : Attributes) → IsOnNoRoute t n → best_entry t.routes n ≡ None
no_route t n h = elim (cases_option (best_entry t.routes n)) [
  | inl e ↦ e
  | inr found ↦ (let k = best_is_found t.routes n found.0 found.1 in absurd (h.none k.0 found.0 k.1.stands k.1.on_it))
]

-- ---- hops

hop_is : (m l : Option ℕ) (m' l' : Option ℕ) (r r' : Option Route) → m ≡ m' → l ≡ l' → r ≡ r'
    → or_mailbox m (or_list l (to_route r)) ≡ or_mailbox m' (or_list l' (to_route r'))
hop_is m l m' l' r r' e f g = cc

pub one_hop : (t : TablesValue) (n : Attributes) (hop : Hop) → AreTables t → IsBestHop t n hop → hop ≡ best_hop t n
unfolding best_hop
one_hop t n hop a (mailbox place h e) = e
    ∙ sym (ap (λ o. or_mailbox o (or_list (list_place t n) (to_route (best_entry t.routes n))))
    (one_mailbox t n place a h))
one_hop t n hop a (list place none_here h e) =
    let none : mailbox_place t n ≡ None = no_mailbox t n none_here in
    e ∙ sym (hop_is (mailbox_place t n) (list_place t n) None (Some place) (best_entry t.routes n)
    (best_entry t.routes n) none (one_list t n place a h) refl)
one_hop t n hop a (route h) =
    h.goes ∙ sym (hop_is (mailbox_place t n) (list_place t n) None None (best_entry t.routes n) (Some h.route)
    (no_mailbox t n h.none_here.mailbox) (no_list t n h.none_here.list) (one_route t n h.place h.route a h.best))
one_hop t n hop a (nowhere h e) =
    e ∙ sym (hop_is (mailbox_place t n) (list_place t n) None None (best_entry t.routes n) None
    (no_mailbox t n h.none_here.mailbox) (no_list t n h.none_here.list) (no_route t n h))

-- ---- and it is found

none_at : (t : TablesValue) (n : Attributes) → mailbox_place t n ≡ None → list_place t n ≡ None → IsNoneHere t n
none_at t n e f = record {
  mailbox = λ i h. position_none (is_of_mailbox n) t.mailboxes i e (mailbox_there t n i h);
  list = λ i h. position_none (is_of_list n) t.lists i f (list_there t n i h);
}

route_found : (t : TablesValue) (n : Attributes) → IsNoneHere t n → (o : Option Route) → best_entry t.routes n ≡ o
    → IsBestHop t n (to_route o)
route_found t n none None e = nowhere (record { none_here = none; none = none_is_found t.routes n e }) refl
route_found t n none (Some r) e =
    (let b = best_is_found t.routes n r e in
    route (record { none_here = none; place = b.0; route = r; best = b.1; goes = refl }))

list_found : (t : TablesValue) (n : Attributes) → mailbox_place t n ≡ None → (o : Option ℕ) → list_place t n ≡ o
    → IsBestHop t n (or_list o (to_route (best_entry t.routes n)))
list_found t n e None f = route_found t n (none_at t n e f) (best_entry t.routes n) refl
list_found t n e (Some i) f = list i (λ k h. position_none (is_of_mailbox n) t.mailboxes k e (mailbox_there t n k h))
    (list_at t n i f) refl

hop_found_at : (t : TablesValue) (n : Attributes) (o : Option ℕ) → mailbox_place t n ≡ o
    → IsBestHop t n (or_mailbox o (or_list (list_place t n) (to_route (best_entry t.routes n))))
hop_found_at t n None e = list_found t n e (list_place t n) refl
hop_found_at t n (Some i) e = mailbox i (mailbox_at t n i e) refl

pub hop_found : (t : TablesValue) (n : Attributes) → IsBestHop t n (best_hop t n)
unfolding best_hop
hop_found t n = hop_found_at t n (mailbox_place t n) refl

-- ---- the mailbox that a hop goes to

target_elsewhere : (target : Target) → local_of (hop_of_target target) ≡ None
target_elsewhere Targets.Here = refl
target_elsewhere (Targets.Peer place) = refl

route_elsewhere : (r : Option Route) → local_of (to_route r) ≡ None
route_elsewhere None = refl
route_elsewhere (Some r) = target_elsewhere r.target

list_elsewhere : (l : Option ℕ) (r : Option Route) → local_of (or_list l (to_route r)) ≡ None
list_elsewhere None r = route_elsewhere r
list_elsewhere (Some place) r = refl

local_first : (m l : Option ℕ) (r : Option Route) → local_of (or_mailbox m (or_list l (to_route r))) ≡ m
local_first None l r = list_elsewhere l r
local_first (Some place) l r = refl

-- a hop goes to the mailbox whose name is the same, and to no other
pub local_is_mailbox : (t : TablesValue) (n : Attributes) → local_of (best_hop t n) ≡ mailbox_place t n
unfolding best_hop
local_is_mailbox t n = local_first (mailbox_place t n) (list_place t n) (best_entry t.routes n)

-- ---- words

peer_there : (t : TablesValue) (word : List ℕ) (i : ℕ) → HasPeerAt t word i → Passes (has_peer_word word) t.peers i
peer_there t word i h = (h.peer, h.found, (bytes_eq-Decides h.peer.name word).1 h.same)

peer_at : (t : TablesValue) (word : List ℕ) (o : Option ℕ) → peer_of t word ≡ o → IsPeerAt t word o
peer_at t word (Some i) e = (let h = position_passes (has_peer_word word) t.peers i e in
    record { peer = h.0; found = h.1; same = (bytes_eq-Decides h.0.name word).0 h.2 })
peer_at t word None e = λ i h. position_none (has_peer_word word) t.peers i e (peer_there t word i h)

pub peer_found : (t : TablesValue) (word : List ℕ) → IsPeerAt t word (peer_of t word)
peer_found t word = peer_at t word (peer_of t word) refl

pub peer_one : (t : TablesValue) (word : List ℕ) (o p : Option ℕ) → AreTables t → IsPeerAt t word o → IsPeerAt t word p
    → o ≡ p
peer_one t word (Some i) (Some j) a h k =
    ap some_place (a.peer_words i j h.peer k.peer (record { found = h.found }) (record { found = k.found })
    (h.same ∙ sym k.same))
peer_one t word (Some i) None a h k = absurd (k i h)
peer_one t word None (Some j) a h k = absurd (h j k)
peer_one t word None None a h k = refl

box_there : (t : TablesValue) (word : List ℕ) (i : ℕ) → HasMailboxAt t word i
    → Passes (has_mailbox_word word) t.mailboxes i
box_there t word i h = (h.mailbox, h.found, (bytes_eq-Decides h.mailbox.word word).1 h.same)

box_at : (t : TablesValue) (word : List ℕ) (o : Option ℕ) → mailbox_of t word ≡ o → IsMailboxOf t word o
box_at t word (Some i) e = (let h = position_passes (has_mailbox_word word) t.mailboxes i e in
    record { mailbox = h.0; found = h.1; same = (bytes_eq-Decides h.0.word word).0 h.2 })
box_at t word None e = λ i h. position_none (has_mailbox_word word) t.mailboxes i e (box_there t word i h)

pub box_found : (t : TablesValue) (word : List ℕ) → IsMailboxOf t word (mailbox_of t word)
box_found t word = box_at t word (mailbox_of t word) refl

pub box_one : (t : TablesValue) (word : List ℕ) (o p : Option ℕ) → AreTables t → IsMailboxOf t word o
    → IsMailboxOf t word p → o ≡ p
box_one t word (Some i) (Some j) a h k =
    ap some_place (a.mailbox_words i j h.mailbox k.mailbox (record { found = h.found }) (record { found = k.found })
    (h.same ∙ sym k.same))
box_one t word (Some i) None a h k = absurd (k i h)
box_one t word None (Some j) a h k = absurd (h j k)
box_one t word None None a h k = refl
