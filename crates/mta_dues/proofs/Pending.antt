-- Who is pending of an item, found in turn.
use Rattle.std.proofs.Common.{inl, inr, ◌≡◌, ◌≤◌, ◌<◌, ◌+◌, ℕ, zero, suc, false, List, length, Option, refl, ap, subst}
use Rattle.std.proofs.Common.{arith}
use Rattle.std.proofs.lemmas.Bool.{cases_lt}
use Rattle.std.proofs.lemmas.Option.{slice_get_past}
use Rattle.mta_records.specs.declared.state.Status.{Status}
use Rattle.mta_machine.specs.Items.{AreSettled, ItemValue, numbered, has_status, is_pending}
use Rattle.mta_dues.specs.Index.{HasPending, NonePendingUpTo}

pub past : (ss : List (Option Status)) (r : ℕ) → length ss < r → has_status is_pending (numbered ss r) ≡ false
past ss zero above = refl
past ss (suc k) above = ap (has_status is_pending) (slice_get_past ss k (omega (arith, above)))

pub none_pending_settled : (item : ItemValue) (n : ℕ) → AreSettled item.statuses n → NonePendingUpTo item n
none_pending_settled item n settled = settled.none

pub none_pending_further : (item : ItemValue) (n : ℕ) → NonePendingUpTo item n
    → has_status is_pending (numbered item.statuses (n + 1)) ≡ false → NonePendingUpTo item (n + 1)
none_pending_further item n before here r low = elim (cases_lt n r) [
  | inl above ↦ (let is : n + 1 ≡ r = omega (arith, low, above) in
      subst (λ (q : ℕ). has_status is_pending (numbered item.statuses q) ≡ false) is here)
  | inr below ↦ before r below
]

pub none_pending : (item : ItemValue) (most : ℕ) → length item.statuses ≤ most → NonePendingUpTo item most
    → HasPending item → ⊥
none_pending item most few none has = elim (cases_lt most has.0) [
  | inl above ↦ (let never = past item.statuses has.0 (omega (arith, few, above)) in
      let does = has.1 in absurd cc)
  | inr below ↦ (let never = none has.0 below in let does = has.1 in absurd cc)
]

pub ruleset pending_laws = (none_pending_settled, none_pending_further, none_pending)
