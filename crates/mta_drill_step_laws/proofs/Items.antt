-- What has a number, what is pending of it, and what the rules say of it.
use Rattle.std.proofs.Common.{◌≡◌, ◌⊎◌, inl, inr, ◌<◌, ℕ, zero, suc, ◌+◌, Bool, true, false, eqb, List, [], ◌∷◌}
use Rattle.std.proofs.Common.{◌++◌}
use Rattle.std.proofs.Common.{length, Option, Some, None, refl, sym, ap, subst, ◌∙◌, arith}
use Rattle.std.specs.Prelude.{slice_get, option_and_then, ◌||◌, ◌≢◌}
use Rattle.std.proofs.lemmas.Bool.{eq-eqb}
use Rattle.mta_records.specs.declared.state.Status.{Status}
use Rattle.mta_records.specs.declared.state.Status.TheVariants.{Pending}
use Rattle.mta_procedures.specs.declared.verdict.Verdict.{Verdict}
use Rattle.mta_procedures.specs.declared.verdict.Verdict.TheVariants as Verdicts
use Rattle.mta_machine.specs.Items.{ItemValue, has_status, is_pending, names, numbered, status_in}
use Rattle.mta_machine.specs.Machine.{relay_on, settled, verdict_on, with_statuses}
use Rattle.mta_machine.specs.Rules.{passed_back, peer_word, verdict_of}
use Rattle.mta_histories.specs.Due.{IsAscending}
use Rattle.mta_histories.specs.History.{IsExpiredOn}
use Rattle.mta_machine.specs.Rules.{is_expired}

-- ---- lists

-- what has a number where one is appended
get-last : {A : Type 0} (xs : List A) (y : A) (k : ℕ) (x : A) → slice_get (xs ++ y ∷ []) k ≡ Some x
    → (slice_get xs k ≡ Some x) ⊎ ((k ≡ length xs) × (x ≡ y))
get-last [] y zero x e = inr (refl, cc)
get-last [] y (suc k) x e = absurd cc
get-last (z ∷ xs) y zero x e = inl e
get-last (z ∷ xs) y (suc k) x e = elim (get-last xs y k x e) [
  | inl p ↦ inl p
  | inr q ↦ inr (omega (arith, q.0), q.1)
]

pub numbered-last : {A : Type 0} (xs : List A) (y : A) (k : ℕ) (x : A) → numbered (xs ++ y ∷ []) k ≡ Some x
    → (numbered xs k ≡ Some x) ⊎ ((k ≡ length xs + 1) × (x ≡ y))
numbered-last xs y zero x e = absurd cc
numbered-last xs y (suc k) x e = elim (get-last xs y k x e) [
  | inl p ↦ inl p
  | inr q ↦ inr (omega (arith, q.0), q.1)
]

-- the last of one
pub one-last : (xs : List (List ℕ)) (x : List ℕ) → xs ≡ x ∷ [] → numbered xs (length xs) ≡ Some x
one-last xs x e = rw e refl

first-named : (r : ℕ) (rs : List ℕ) → names (r ∷ rs) r ≡ true
first-named r rs = first (eqb r r) (names rs r) (eq-eqb r r refl)
  where
    first : (a b : Bool) → a ≡ true → (a || b) ≡ true
    first true b e = refl
    first false b e = absurd cc

second-named : (q r : ℕ) (rs : List ℕ) → names (q ∷ r ∷ rs) r ≡ true
second-named q r rs = second (eqb r q) (names (r ∷ rs) r) (first-named r rs)
  where
    second : (a b : Bool) → b ≡ true → (a || b) ≡ true
    second true b e = refl
    second false b e = e

-- ascending numbers of which each is 1 are 1 alone
pub only-one : (rs : List ℕ) → rs ≢ [] → IsAscending rs → ((r : ℕ) → names rs r ≡ true → r ≡ 1) → rs ≡ 1 ∷ []
only-one [] some up each = absurd (some refl)
only-one (r ∷ []) some up each = ap (λ x. x ∷ []) (each r (first-named r []))
only-one (q ∷ r ∷ rs) some up each =
    let first = each q (first-named q (r ∷ rs)) in
    let second = each r (second-named q r rs) in
    let less : q < r = up.0 in
    absurd (omega (arith, first, second, less))

-- ---- statuses

-- a pending recipient is one of an item
pub pending-item : (items : List ItemValue) (i r : ℕ) → has_status is_pending (status_in items i r) ≡ true
    → (item : ItemValue) × (numbered items i ≡ Some item)
    × (has_status is_pending (numbered item.statuses r) ≡ true)
pending-item items i r e = found (numbered items i) refl e
  where
    found : (o : Option ItemValue) → numbered items i ≡ o
        → has_status is_pending (option_and_then (λ (item : ItemValue). numbered item.statuses r) o) ≡ true
        → (item : ItemValue) × (numbered items i ≡ Some item)
        × (has_status is_pending (numbered item.statuses r) ≡ true)
    found None q h = absurd cc
    found (Some item) q h = (item, q, h)

pub item-pending : (items : List ItemValue) (i r : ℕ) (item : ItemValue) → numbered items i ≡ Some item
    → has_status is_pending (numbered item.statuses r) ≡ true → has_status is_pending (status_in items i r) ≡ true
item-pending items i r item q h = rw q h

-- of one status
pub one-status : (ss : List (Option Status)) (x : Option Status) (r : ℕ) → ss ≡ x ∷ []
    → has_status is_pending (numbered ss r) ≡ true → (r ≡ 1) × (has_status is_pending (Some x) ≡ true)
one-status ss x r e h = at r (subst (λ z. has_status is_pending (numbered z r) ≡ true) e h)
  where
    at : (r : ℕ) → has_status is_pending (numbered (x ∷ []) r) ≡ true
        → (r ≡ 1) × (has_status is_pending (Some x) ≡ true)
    at zero h = absurd cc
    at (suc zero) h = (omega arith, h)
    at (suc (suc n)) h = absurd cc

pub one-waits : (ss : List (Option Status)) → ss ≡ Some Pending ∷ [] → has_status is_pending (numbered ss 1) ≡ true
one-waits ss e = rw e refl

-- the one status is set
pub status-set : (ss : List (Option Status)) (x y : Status) → ss ≡ Some x ∷ []
    → with_statuses ss (1 ∷ []) y ≡ Some y ∷ []
status-set ss x y e = rw e refl

-- ---- what the rules say, at the first moment and in the format that is set

pub relay-so : (f : ℕ) (a : Option (List ℕ)) (b : Option ItemValue) (text octets : List ℕ) (item : ItemValue)
    (r place : ℕ) → f ≡ 2 → a ≡ Some text → b ≡ Some item → item.octets ≡ octets → item.arrival ≡ 0
    → verdict_of 2 text octets 0 r 0 ≡ Some (Verdicts.Relay place) → relay_on f a b r 0 ≡ peer_word text place
relay-so f a b text octets item r place ef ea eb eo et v = rw (ef, ea, eb) (rw (eo, et, v) refl)

pub verdict-so : (f : ℕ) (items : List ItemValue) (a : Option (List ℕ)) (b : Option ItemValue) (text octets : List ℕ)
    (item : ItemValue) (r : ℕ) (v : Verdict) → f ≡ 2 → a ≡ Some text → b ≡ Some item → item.octets ≡ octets
    → item.arrival ≡ 0 → verdict_of 2 text octets 0 r 0 ≡ Some v
    → verdict_on f items a b r 0 ≡ Some (settled (passed_back text items item) v)
verdict-so f items a b text octets item r v ef ea eb eo et h = rw (ef, ea, eb) (rw (eo, et, h) refl)

pub expired-so : (f : ℕ) (a : Option (List ℕ)) (b : Option ItemValue) (text octets : List ℕ) (item : ItemValue)
    → f ≡ 2 → a ≡ Some text → b ≡ Some item → item.octets ≡ octets → item.arrival ≡ 0
    → is_expired 2 text octets 0 0 ≡ false → IsExpiredOn f a b 0 → ⊥
expired-so f a b text octets item ef ea eb eo et h =
    rw (ef, ea, eb) (rw (eo, et) (λ e. let clash : true ≡ false = sym e ∙ h in absurd cc))
