-- Of an item that need not be looked at nothing is due.
use Rattle.std.proofs.Common.{◌≡◌, ◌≤◌, ℕ, zero, suc, Bool, true, false, List, length}
use Rattle.std.proofs.Common.{Option, Some, None, refl, subst, arith}
use Rattle.std.specs.Prelude.{slice_get, option_and_then}
use Rattle.std.specs.List.{All}
use Rattle.std.proofs.lemmas.Option.{get_or_from_slice_get, slice_get_within}
use Rattle.mta_records.specs.declared.step.Step.{Step}
use Rattle.mta_machine.specs.Items.{ItemValue, Machine, numbered, has_status, is_pending, is_pending_at}
use Rattle.mta_machine.specs.Machine.{last_tables}
use Rattle.mta_histories.specs.Lanes.{State}
use Rattle.mta_histories.specs.Kept.{IsKept}
use Rattle.mta_histories.specs.Due.{IsDue}
use Rattle.mta_dues.specs.Agendas.{is_active, IsAllCalled, Rests}
use Rattle.mta_dues.specs.Next.{IsNextIn}
use Rattle.mta_state.specs.Asked.{IsStored}
use Rattle.mta_dues.specs.declared.index.Index.{Index}
use Rattle.mta_dues.specs.Index.{IsIndexed}
use Rattle.mta_dues.proofs.Idle.{nothing_of_idle}
use Rattle.mta_dues.proofs.Recipients.{not_pending}
use Rattle.mta_dues.proofs.Relays.{none_relayed}
use Rattle.mta_dues.proofs.Scans.{first_item, no_item, none_there, nothing_at_first, nothing_further}
use Rattle.mta_dues.proofs.Scans.{NothingDueBetween}

-- the item of a recipient who is pending
pub record IsPendingIn (m : Machine) (i r : ℕ) : Type 0 where
  pub item : ItemValue
  pub item_is : numbered m.items i ≡ Some item
  pub pending : has_status is_pending (numbered item.statuses r) ≡ true
  pub from : 1 ≤ i
  pub within : i ≤ length m.items

pub pending_in : (m : Machine) (i r : ℕ) → is_pending_at m i r ≡ true → IsPendingIn m i r
pending_in m zero r is = absurd cc
pending_in m (suc k) r is = by_item (slice_get m.items k) refl is
  where
    by_item : (o : Option ItemValue) → slice_get m.items k ≡ o
        → has_status is_pending (option_and_then (λ (x : ItemValue). numbered x.statuses r) o) ≡ true
        → IsPendingIn m (suc k) r
    by_item None e p = absurd cc
    by_item (Some item) e p = record {
      item = item;
      item_is = e;
      pending = p;
      from = omega arith;
      within = (let within = slice_get_within m.items k item e in omega (arith, within));
    }

rests : (s : State) (index : Index) (i r moment : ℕ) → IsPendingIn s.machine i r
    → IsAllCalled index.agenda (length s.machine.items) moment → is_active index.agenda i ≡ false
    → Rests index.agenda i moment
rests s index i r moment there called inactive = record {
  aside = record {
    from = there.from;
    known = (let low = there.within in let high = called.known in omega (arith, low, high));
    inactive = inactive;
  };
  since = called.since;
  later = λ until is. called.later until i is;
}

module _ (s : State) (format : ℕ) (text : List ℕ) (index : Index) where
  -- nothing is due of an item that is not active
  pub inactive_not_due : (i r moment : ℕ) (due : Step) → IsKept s
      → numbered s.machine.tables (last_tables s.machine) ≡ Some text → format ≡ s.machine.format
      → IsIndexed format text s.machine.items index → IsAllCalled index.agenda (length s.machine.items) moment
      → is_active index.agenda i ≡ false
      → IsDue s i r moment due → ⊥
  inactive_not_due i r moment due kept text_is format_is indexed called inactive =
      by_test (is_pending_at s.machine i r) refl
    where
      by_test : (b : Bool) → is_pending_at s.machine i r ≡ b → IsDue s i r moment due → ⊥
      by_test false never is = not_pending s i r moment kept never due is
      by_test true does is =
          let there = pending_in s.machine i r does in
          let rest = indexed.rests i moment (rests s index i r moment there called inactive) in
          nothing_of_idle s i moment format text rest.item kept text_is format_is rest.item_is rest.idle r due is

pub stored_at : (items : List ItemValue) (i : ℕ) (item : ItemValue) → All IsStored items
    → numbered items i ≡ Some item → IsStored item
stored_at items zero item all is = absurd cc
stored_at items (suc i) item all is =
    let within = slice_get_within items i item is in
    subst IsStored (get_or_from_slice_get items i item item is) (all i item within)

-- ---- what is passed over

-- nothing is due of the items that are passed over
pub nothing_between : (s : State) (format : ℕ) (text : List ℕ) (index : Index) (after moment : ℕ) (found : Option ℕ)
    → IsKept s
    → numbered s.machine.tables (last_tables s.machine) ≡ Some text → format ≡ s.machine.format
    → IsIndexed format text s.machine.items index → IsAllCalled index.agenda (length s.machine.items) moment
    → IsNextIn (is_active index.agenda) after found
    → NothingDueBetween s after moment found
nothing_between s format text index after moment found kept text_is format_is indexed called next i r due above below =
    inactive_not_due s format text index i r moment due kept text_is format_is indexed called
    (next.lowest i above below)

pub ruleset look_laws = (none_there, nothing_of_idle, stored_at)

pub ruleset item_laws = (nothing_at_first, nothing_between, nothing_further, no_item, first_item)

pub ruleset relayed_laws = (none_relayed, stored_at)
