-- What is lent of the queues is what items, lanes and tables give.
use Rattle.std.proofs.Common.{◌≡◌, ◌≤◌, ℕ, zero, suc, Bool, true, false, List, [], ◌∷◌}
use Rattle.std.specs.Option.{option_copied}
use Rattle.std.proofs.Common.{Bor, length, Option, Some, None, refl, sym, ap, subst, ◌∙◌, arith}
use Rattle.std.specs.Prelude.{◌&&◌, ◌==◌, IfSome, IsNone, option_and_then, slice_get}
use Rattle.std.proofs.lemmas.Bool.{eq-eqb, eqb-true}
use Rattle.std.proofs.lemmas.Option.{same_Some, slice_get_within}
use Rattle.mta_records.specs.declared.state.Status.{Status}
use Rattle.mta_machine.specs.Items.{ItemValue, has_status, is_pending, is_pending_at, numbered}
use Rattle.mta_machine.specs.Machine.{last_tables}
use Rattle.mta_machine.specs.Rules.{names_peer}
use Rattle.mta_histories.specs.Lanes.{State, activities_of}
use Rattle.mta_histories.specs.Due.{HasQueue, IsAscending, IsNoBatch, IsQueue, IsRoutedTo, IsWaiting, routed}
use Rattle.mta_dues.proofs.Batches.{relayed_named}
use Rattle.mta_queue.specs.Queue as queue
use Rattle.mta_queue.specs.Queues.{AreFor, IsListed, QueuesValue, place_of}
use Rattle.mta_queue.proofs.Marked.{waits_within}
use Rattle.mta_queue.proofs.Places.{place_there}
use Rattle.mta_replay.specs.Queued.{AreQueued, IsMark, place_by}
use Rattle.mta_replay.specs.Touched.{is_waiting}
use Rattle.mta_replay.proofs.Named.{named_at}

-- ---- who waits

both_parts : (a b : Bool) → (a && b) ≡ true → (a ≡ true) × (b ≡ true)
both_parts true b e = (refl, e)
both_parts false b e = absurd cc

waits_so : (s : State) (i r : ℕ) → is_waiting s i r ≡ true → IsWaiting s i r
waits_so s i r does =
    let parts = both_parts (is_pending_at s.machine i r) (activities_of s.lanes.open_lanes i r == 0) does in
    record { pending = parts.0; free = eqb-true (activities_of s.lanes.open_lanes i r) 0 parts.1 }

so_waits : (s : State) (i r : ℕ) → IsWaiting s i r → is_waiting s i r ≡ true
so_waits s i r w =
    ap (λ (b : Bool). b && (activities_of s.lanes.open_lanes i r == 0)) w.pending
    ∙ eq-eqb (activities_of s.lanes.open_lanes i r) 0 w.free

-- who is pending is a recipient of an item
record IsOne (items : List ItemValue) (i r : ℕ) : Type 0 where
  item : ItemValue
  item_is : numbered items i ≡ Some item
  first : 1 ≤ r
  most : r ≤ length item.statuses

is_one : (items : List ItemValue) (i r : ℕ)
    → has_status is_pending (option_and_then (λ (item : ItemValue). numbered item.statuses r) (numbered items i)) ≡ true
    → IsOne items i r
is_one items i r does = by_item (numbered items i) refl does
  where
    by_status : (ss : List (Option Status)) (r : ℕ) → has_status is_pending (numbered ss r) ≡ true
        → (1 ≤ r) × (r ≤ length ss)
    by_status ss zero does = absurd cc
    by_status ss (suc n) does = by_at (slice_get ss n) refl does
      where
        by_at : (o : Option (Option Status)) → slice_get ss n ≡ o → has_status is_pending o ≡ true
            → (1 ≤ suc n) × (suc n ≤ length ss)
        by_at None e does = absurd cc
        by_at (Some x) e does = (omega arith, (let less = slice_get_within ss n x e in omega (arith, less)))

    by_item : (o : Option ItemValue) → numbered items i ≡ o
        → has_status is_pending (option_and_then (λ (item : ItemValue). numbered item.statuses r) o) ≡ true
        → IsOne items i r
    by_item None e does = absurd cc
    by_item (Some item) e does =
        let within = by_status item.statuses r does in
        record { item = item; item_is = e; first = within.0; most = within.1 }

item_within : (items : List ItemValue) (i : ℕ) (item : ItemValue) → numbered items i ≡ Some item → i ≤ length items
item_within items zero item is = absurd cc
item_within items (suc n) item is = (let less = slice_get_within items n item is in omega (arith, less))

-- ---- the queue of a peer

by_there : (words : List (List ℕ)) (o : Option (List ℕ)) (place : ℕ) (peer : List ℕ)
    → place_of words peer ≡ Some place → place_by words o ≡ Some place → o ≡ Some peer
by_there words None place peer at is = absurd cc
by_there words (Some word) place peer at is =
    sym (place_there words word place is) ∙ place_there words peer place at

ascends : (ns : List ℕ) → queue.IsAscending ns → IsAscending ns
ascends [] up = tt
ascends (a ∷ []) up = tt
ascends (a ∷ b ∷ ns) up = (up.0, ascends (b ∷ ns) up.1)

module _ (text : List ℕ) (s : State) (v : QueuesValue) (peer : List ℕ) (queued : AreQueued text s v)
    (last : numbered s.machine.tables (last_tables s.machine) ≡ Some text) where
  route_at : (i r : ℕ)
      → routed (numbered s.machine.tables (last_tables s.machine)) (numbered s.machine.items i) r
      ≡ routed (Some text) (numbered s.machine.items i) r
  route_at i r = ap (λ (t : Option (List ℕ)). routed t (numbered s.machine.items i) r) last

  listed_so : (place i : ℕ) → place_of v.words peer ≡ Some place → IsListed v.rows place i
      → (r : ℕ) × IsRoutedTo s peer i r
  listed_so place i at one =
      let r = one.0 in
      let mark = waits_within v.rows i r one.1 in
      let waits = queued.waits i r mark (λ never. never) in
      let route = queued.routes i r mark in (
        r,
        record {
          waiting = waits_so s i r (sym waits ∙ one.1);
          to_peer =
              route_at i r
              ∙ by_there v.words (routed (Some text) (numbered s.machine.items i) r) place peer at (sym route ∙ one.2);
        },
      )

  so_listed : (place i r : ℕ) → place_of v.words peer ≡ Some place → IsRoutedTo s peer i r → IsListed v.rows place i
  so_listed place i r at to =
      let one = is_one s.machine.items i r to.waiting.pending in
      let counts = queued.counts i one.item one.item_is (item_within s.machine.items i one.item one.item_is) in
      let first = one.first in
      let most = one.most in
      let mark : IsMark v.rows i r = (first, omega (arith, most, counts)) in (
        r,
        queued.waits i r mark (λ never. never) ∙ so_waits s i r to.waiting,
        queued.routes i r mark
            ∙ (ap (place_by v.words) (sym (route_at i r) ∙ to.to_peer) ∙ at),
      )

  is_queue : (items : List ℕ) → AreFor v peer items → IsQueue s peer items
  is_queue items are = record {
    ascending = ascends items are.2.ascending;
    each = λ i. (
      λ among. listed_so are.0 i are.1 ((are.2.each i).0 among),
      λ some. (are.2.each i).1 (so_listed are.0 i some.0 are.1 some.1),
    );
  }

  named_so : (place : ℕ) → place_of v.words peer ≡ Some place → names_peer text peer ≡ true
  named_so place at = by_test (names_peer text peer) refl
    where
      by_test : (b : Bool) → names_peer text peer ≡ b → names_peer text peer ≡ true
      by_test true e = e
      by_test false e = absurd (let none = (queued.named peer).1 e in let never = sym none ∙ at in cc)

-- the queue that is lent of a peer, or none
pub has_queue : (text : List ℕ) (s : State) (v : QueuesValue) (peer : List ℕ) (found : Option (Bor (List ℕ)))
    → AreQueued text s v → numbered s.machine.tables (last_tables s.machine) ≡ Some text
    → IfSome found (λ items. AreFor v peer items.now) → (IsNone found → place_of v.words peer ≡ None)
    → HasQueue s peer (option_copied found)
has_queue text s v peer None queued last some none = λ other is.
    subst (λ (t : List ℕ). names_peer t peer ≡ false) (same_Some text other (sym last ∙ is))
    ((queued.named peer).0 (none refl))
has_queue text s v peer (Some items) queued last some none =
    (is_queue text s v peer queued last items.now some, (text, last, named_so text s v peer queued last some.0 some.1))

-- nobody is relayed to a peer whom the tables do not name
pub unnamed_not_relayed : (s : State) (format : ℕ) (text peer : List ℕ) (moment : ℕ)
    → numbered s.machine.tables (last_tables s.machine) ≡ Some text → format ≡ s.machine.format
    → HasQueue s peer None → IsNoBatch s peer moment
unnamed_not_relayed s format text peer moment last is unnamed i r to =
    let at = relayed_named s format text peer moment last is i r to in
    named_at text peer at.0 at.1 (unnamed text last)
