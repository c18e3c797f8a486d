-- What goes to a peer, found in turn.
use Rattle.std.proofs.Common.{inl, inr, ◌≡◌, ◌≢◌, ◌≤◌, ◌<◌, ◌+◌, ℕ, Bool, true, false}
use Rattle.std.proofs.Common.{List, [], ◌∷◌, ◌++◌, Option, Some, None, length, refl, sym, ap, subst}
use Rattle.std.proofs.Common.{◌∙◌, arith}
use Rattle.std.specs.Prelude.{◌⊎◌, ◌↔◌, option_and_then}
use Rattle.mta_machine.specs.Items.{ItemValue, Machine, has_status, is_pending, is_pending_at, names, numbered}
use Rattle.mta_machine.specs.Rules.{verdict_of}
use Rattle.mta_machine.specs.Machine.{last_tables, relay_by, relay_on, relay_at}
use Rattle.mta_histories.specs.Lanes.{State, activities_of}
use Rattle.mta_histories.specs.Due.{IsToRelay}
use Rattle.mta_dues.specs.Index.{HasPending}
use Rattle.mta_dues.specs.Answers.{AreRelayedUpTo, AreRelayed}
use Rattle.mta_dues.proofs.Ascending.{named_before, named_last, named_more, ascends}
use Rattle.mta_dues.proofs.Scans.{cases_le, past, not_there, no_such}

-- ---- one recipient

pub relay_is : (m : Machine) (i r moment format : ℕ) (text : List ℕ) (item : ItemValue)
    → numbered m.tables (last_tables m) ≡ Some text → format ≡ m.format → numbered m.items i ≡ Some item
    → relay_at m m.format (last_tables m) i r moment
    ≡ relay_by text (verdict_of format text item.octets item.arrival r moment)
relay_is m i r moment format text item text_is format_is item_is =
    ap (λ (t : Option (List ℕ)). relay_on m.format t (numbered m.items i) r moment) text_is
    ∙ ap (λ (x : Option ItemValue). relay_on m.format (Some text) x r moment) item_is
    ∙ ap (λ (f : ℕ). relay_on f (Some text) (Some item) r moment) (sym format_is)

pub relayed : (s : State) (i r moment format : ℕ) (text peer : List ℕ) (item : ItemValue) (b : Bool)
    → numbered s.machine.tables (last_tables s.machine) ≡ Some text → format ≡ s.machine.format
    → numbered s.machine.items i ≡ Some item
    → is_pending_at s.machine i r ≡ true → activities_of s.lanes.open_lanes i r ≡ 0
    → (b ≡ true) ↔ (relay_by text (verdict_of format text item.octets item.arrival r moment) ≡ Some peer)
    → (b ≡ true) ↔ IsToRelay s peer moment i r
relayed s i r moment format text peer item b text_is format_is item_is pending free same = (
  λ does. record {
    waiting = record { pending = pending; free = free };
    relayed = relay_is s.machine i r moment format text item text_is format_is item_is ∙ same.0 does;
  },
  λ to. same.1 (sym (relay_is s.machine i r moment format text item text_is format_is item_is) ∙ to.relayed),
)

pub not_waiting : (s : State) (i r moment : ℕ) (peer : List ℕ)
    → (is_pending_at s.machine i r ≡ false) ⊎ (activities_of s.lanes.open_lanes i r ≢ 0)
    → (false ≡ true) ↔ IsToRelay s peer moment i r
not_waiting s i r moment peer (inl never) =
    (λ e. absurd cc, λ to. let does = to.waiting.pending in absurd cc)
not_waiting s i r moment peer (inr busy) = (λ e. absurd cc, λ to. absurd (busy to.waiting.free))

-- ---- the recipients of an item

none_of_none : (s : State) (peer : List ℕ) (moment i r : ℕ) → is_pending_at s.machine i r ≡ false
    → IsToRelay s peer moment i r → ⊥
none_of_none s peer moment i r never to = let does = to.waiting.pending in absurd cc

-- who is pending is so of the item
pending_of : (m : Machine) (i r : ℕ) (item : ItemValue) → numbered m.items i ≡ Some item
    → is_pending_at m i r ≡ true → has_status is_pending (numbered item.statuses r) ≡ true
pending_of m i r item is does =
    let at_r : Option ItemValue → Bool =
    λ o. has_status is_pending (option_and_then (λ (x : ItemValue). numbered x.statuses r) o) in
    sym (ap at_r is) ∙ does

-- nobody is to be relayed of an item of which nobody is pending
pub unrelayed_unpending : (s : State) (peer : List ℕ) (moment i : ℕ) (item : ItemValue)
    → numbered s.machine.items i ≡ Some item → (HasPending item → ⊥) → AreRelayed s peer moment i []
unrelayed_unpending s peer moment i item is none = record {
  ascending = tt;
  each = λ r. (
    λ e. absurd cc,
    λ to. absurd (none (r, pending_of s.machine i r item is to.waiting.pending)),
  );
}

pub relays_at_first : (s : State) (peer : List ℕ) (moment i : ℕ) (item : ItemValue)
    → numbered s.machine.items i ≡ Some item → AreRelayedUpTo s peer moment i 0 []
relays_at_first s peer moment i item is = record {
  ascending = tt;
  below = λ r e. absurd cc;
  each = λ r low.
      let zero_is : r ≡ 0 = omega (arith, low) in
      let none : numbered item.statuses r ≡ None = rw zero_is refl in
      (λ e. absurd cc, λ to. absurd (none_of_none s peer moment i r (no_such s.machine i r item is none) to));
}

pub relays_further : (s : State) (peer : List ℕ) (moment i most : ℕ) (rs : List ℕ) (b : Bool)
    → AreRelayedUpTo s peer moment i most rs → b ≡ false → (b ≡ true) ↔ IsToRelay s peer moment i (most + 1)
    → AreRelayedUpTo s peer moment i (most + 1) rs
relays_further s peer moment i most rs b are isnt same = record {
  ascending = are.ascending;
  below = λ r e. let low = are.below r e in omega (arith, low);
  each = λ r low. at r low (cases_le r most);
} where
  at : (r : ℕ) → r ≤ most + 1 → (r ≤ most) ⊎ (most < r)
      → (names rs r ≡ true) ↔ IsToRelay s peer moment i r
  at r low (inl below) = are.each r below
  at r low (inr above) =
      let is : r ≡ most + 1 = omega (arith, low, above) in (
        λ e. let under = are.below r e in absurd (omega (arith, under, above)),
        λ to. let does = same.1 (subst (λ (q : ℕ). IsToRelay s peer moment i q) is to) in absurd cc,
      )

pub relays_one_more : (s : State) (peer : List ℕ) (moment i most : ℕ) (rs : List ℕ) (b : Bool)
    → AreRelayedUpTo s peer moment i most rs → b ≡ true → (b ≡ true) ↔ IsToRelay s peer moment i (most + 1)
    → AreRelayedUpTo s peer moment i (most + 1) (rs ++ (most + 1) ∷ [])
relays_one_more s peer moment i most rs b are does same = record {
  ascending = ascends rs (most + 1) are.ascending (λ r e. let low = are.below r e in omega (arith, low));
  below = λ r e. under r (named_more rs (most + 1) r e);
  each = λ r low. at r low (cases_le r most);
} where
  under : (r : ℕ) → (names rs r ≡ true) ⊎ (r ≡ most + 1) → r ≤ most + 1
  under r (inl e) = let low = are.below r e in omega (arith, low)
  under r (inr is) = omega (arith, is)

  at : (r : ℕ) → r ≤ most + 1 → (r ≤ most) ⊎ (most < r)
      → (names (rs ++ (most + 1) ∷ []) r ≡ true) ↔ IsToRelay s peer moment i r
  at r low (inl below) = (
    λ e. elim (named_more rs (most + 1) r e) [
      | inl before ↦ (are.each r below).0 before
      | inr is ↦ absurd (omega (arith, is, below))
    ],
    λ to. named_before rs (most + 1) r ((are.each r below).1 to),
  )
  at r low (inr above) =
      let is : most + 1 ≡ r = omega (arith, low, above) in (
        λ e. subst (λ (q : ℕ). IsToRelay s peer moment i q) is (same.0 does),
        λ to. subst (λ (q : ℕ). names (rs ++ (most + 1) ∷ []) q ≡ true) is (named_last rs (most + 1)),
      )

pub all_relays : (s : State) (peer : List ℕ) (moment i most : ℕ) (item : ItemValue) (rs : List ℕ)
    → numbered s.machine.items i ≡ Some item → length item.statuses ≤ most
    → AreRelayedUpTo s peer moment i most rs → AreRelayed s peer moment i rs
all_relays s peer moment i most item rs is few are = record {
  ascending = are.ascending;
  each = λ r. at r (cases_le r most);
} where
  at : (r : ℕ) → (r ≤ most) ⊎ (most < r) → (names rs r ≡ true) ↔ IsToRelay s peer moment i r
  at r (inl below) = are.each r below
  at r (inr above) = (
    λ e. let under = are.below r e in absurd (omega (arith, under, above)),
    λ to.
        absurd
        (none_of_none s peer moment i r
        (no_such s.machine i r item is (past item.statuses r (omega (arith, few, above)))) to),
  )

-- no recipient of an item that is not there is relayed
pub none_relayed : (s : State) (peer : List ℕ) (moment i : ℕ) → numbered s.machine.items i ≡ None
    → AreRelayed s peer moment i []
none_relayed s peer moment i none = record {
  ascending = tt;
  each = λ r.
      (λ e. absurd cc, λ to. absurd (none_of_none s peer moment i r (not_there s.machine i r none) to));
}

pub ruleset relay_laws = (relays_at_first, relays_further, relays_one_more, all_relays)
