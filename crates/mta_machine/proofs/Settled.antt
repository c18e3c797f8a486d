-- How many of the first recipients are not pending.
use Rattle.std.proofs.Common.{◌≡◌, ◌≢◌, ◌≤◌, ◌<◌, ◌+◌, ◌++◌, ℕ, zero, suc, false, List, [], ◌∷◌, length, Option, Some}
use Rattle.std.proofs.Common.{None}
use Rattle.std.proofs.Common.{refl, sym, subst, ap, ◌∙◌, arith, inl, inr, set}
use Rattle.std.specs.Prelude.{◌⊎◌, slice_get}
use Rattle.std.proofs.lemmas.Bool.{cases_eq, ne_eqb}
use Rattle.std.proofs.lemmas.List.{length-append, length-set}
use Rattle.mta_records.specs.declared.state.Status.{Status}
use Rattle.mta_machine.specs.Items.{AreSettled, has_status, is_pending, numbered, set_numbered}
use Rattle.mta_machine.proofs.Numbered.{set-same, set-other, set-none}

at_none : (statuses : List (Option Status)) (r : ℕ) → r ≡ 0 → has_status is_pending (numbered statuses r) ≡ false
at_none statuses r none = ap (λ (n : ℕ). has_status is_pending (numbered statuses n)) none

pub none_known : (statuses : List (Option Status)) → AreSettled statuses 0
none_known statuses = record {
  within = omega arith;
  none = λ r least. at_none statuses r (omega (arith, least));
}

-- one more
module _ (statuses : List (Option Status)) (n : ℕ) (status : Option Status) (known : AreSettled statuses n)
    (at : slice_get statuses n ≡ Some status) (not : has_status is_pending (Some status) ≡ false) where
  up_to : (r : ℕ) → r ≤ n + 1 → (r ≡ suc n) ⊎ (r ≡ suc n → ⊥) → has_status is_pending (numbered statuses r) ≡ false
  up_to r most (inl last) =
      ap (λ (k : ℕ). has_status is_pending (numbered statuses k)) last ∙ ap (has_status is_pending) at ∙ not
  up_to r most (inr before) = known.none r (omega (arith, most, before))

  pub one_settled : n < length statuses → AreSettled statuses (n + 1)
  one_settled below = record {
    within = omega (arith, below);
    none = λ r most. up_to r most (cases_eq r (suc n));
  }

-- ---- one recipient

pub one_known : (status : Option Status) → has_status is_pending (Some status) ≡ false → AreSettled (status ∷ []) 1
one_known status not =
    one_settled (status ∷ []) 0 status (none_known (status ∷ [])) refl not (omega arith)

pub only_one : (rest : List (Option Status)) (status : Option Status) → length (rest ++ status ∷ []) ≡ 1
    → status ∷ [] ≡ rest ++ status ∷ []
only_one [] status one = refl
only_one (x ∷ rest) status one = absurd (omega (arith, one, length-append rest (status ∷ [])))

-- of another number nothing is put down
pub set_one : (status now : Option Status) (place : ℕ) → place ≢ 0 → set (status ∷ []) place now ≡ status ∷ []
set_one status now zero other = absurd (other refl)
set_one status now (suc place) other = refl

-- ---- where one has a status from now on

module _ (statuses : List (Option Status)) (place : ℕ) (status : Status) where
  abbrev set_there : List (Option Status)
  set_there = set_numbered statuses (suc place) (Some status)

  elsewhere : (r : ℕ) → (r ≡ suc place → ⊥) → numbered set_there r ≡ numbered statuses r
  elsewhere r other = set-other statuses (suc place) r (Some status) (ne_eqb r (suc place) other)

  there : is_pending status ≡ false → (found : Option (Option Status)) → numbered statuses (suc place) ≡ found
      → has_status is_pending (numbered set_there (suc place)) ≡ false
  there not None none = ap (has_status is_pending) (set-none statuses (suc place) (suc place) (Some status) none)
  there not (Some old) at =
      ap (has_status is_pending) (set-same statuses (suc place) (Some status) old at) ∙ not

  settled_now : (n r : ℕ) → AreSettled statuses n → is_pending status ≡ false → r ≤ n
      → (r ≡ suc place) ⊎ (r ≡ suc place → ⊥) → has_status is_pending (numbered set_there r) ≡ false
  settled_now n r known not most (inl same) =
      ap (λ (k : ℕ). has_status is_pending (numbered set_there k)) same
      ∙ there not (numbered statuses (suc place)) refl
  settled_now n r known not most (inr other) = ap (has_status is_pending) (elsewhere r other) ∙ known.none r most

  pub still_settled : (n : ℕ) → AreSettled statuses n → is_pending status ≡ false
      → AreSettled (set statuses place (Some status)) n
  still_settled n known not = record {
    within = subst (λ (k : ℕ). n ≤ k) (sym (length-set statuses place (Some status))) known.within;
    none = λ r most. settled_now n r known not most (cases_eq r (suc place));
  }

  pub settled_before : (n least : ℕ) → AreSettled statuses n → least ≤ n → least ≤ place
      → AreSettled (set statuses place (Some status)) least
  settled_before n least known fewer before = record {
    within = subst (λ (k : ℕ). least ≤ k) (sym (length-set statuses place (Some status)))
        (omega (arith, fewer, known.within));
    none = λ r most.
        ap (has_status is_pending) (elsewhere r (λ same. omega (arith, same, most, before)))
        ∙ known.none r (omega (arith, most, fewer));
  }
