-- What is due, found in turn.
use Rattle.std.proofs.Common.{inl, inr, ◌≡◌, ◌≤◌, ◌<◌, ◌+◌, ℕ, zero, suc, false}
use Rattle.std.proofs.Common.{List, Option, Some, None, length, refl, sym, subst, arith}
use Rattle.std.specs.Prelude.{◌⊎◌}
use Rattle.std.proofs.lemmas.Bool.{cases_lt, cases_eq}
use Rattle.std.proofs.lemmas.Option.{slice_get_past}
use Rattle.mta_machine.specs.Items.{ItemValue, Machine, numbered, is_pending_at}
use Rattle.mta_histories.specs.Lanes.{State}
use Rattle.mta_histories.specs.Kept.{IsKept}
use Rattle.mta_histories.specs.Due.{IsDue}
use Rattle.mta_records.specs.declared.step.Step.{Step}
use Rattle.mta_dues.specs.Next.{IsBefore}
use Rattle.mta_dues.specs.Answers.{IsDueOf, IsFirstIn, IsFirstOf, IsNextOf, NoneDueUpTo, NothingDueUpTo}
use Rattle.mta_dues.proofs.Recipients.{not_pending}

pub cases_le : (a b : ℕ) → (a ≤ b) ⊎ (b < a)
cases_le a b = elim (cases_lt b a) [ inl above ↦ inr above | inr below ↦ inl below ]

-- a number past a list names nothing
pub past : {A : Type 0} (xs : List A) (n : ℕ) → length xs < n → numbered xs n ≡ None
past xs zero p = refl
past xs (suc n) p = slice_get_past xs n (omega (arith, p))

-- and 0 names nothing
pub not_there : (m : Machine) (i r : ℕ) → numbered m.items i ≡ None → is_pending_at m i r ≡ false
not_there m i r none = rw none refl

pub no_such : (m : Machine) (i r : ℕ) (item : ItemValue) → numbered m.items i ≡ Some item
    → numbered item.statuses r ≡ None → is_pending_at m i r ≡ false
no_such m i r item is none = rw is (rw none refl)

pub none_further : (s : State) (i r moment : ℕ) → NoneDueUpTo s i r moment → IsDueOf s i (r + 1) moment None
    → NoneDueUpTo s i (r + 1) moment
none_further s i r moment before none q due low d = elim (cases_le q r) [
  | inl below ↦ before q due below d
  | inr above ↦ (let is : q ≡ r + 1 = omega (arith, low, above) in
      none due (subst (λ (p : ℕ). IsDue s i p moment due) is d))
]

-- nothing is due of an item
pub no_recipient : (s : State) (i most moment : ℕ) (item : ItemValue) → IsKept s
    → numbered s.machine.items i ≡ Some item → length item.statuses ≤ most → NoneDueUpTo s i most moment
    → IsFirstOf s i moment None
no_recipient s i most moment item kept is few none r due d = elim (cases_le r most) [
  | inl below ↦ none r due below d
  | inr above ↦
      not_pending s i r moment kept
      (no_such s.machine i r item is (past item.statuses r (omega (arith, few, above)))) due d
]

pub first_recipient : (s : State) (i r moment : ℕ) (due : Step) → NoneDueUpTo s i r moment
    → IsDueOf s i (r + 1) moment (Some due) → IsFirstOf s i moment (Some due)
first_recipient s i r moment due before is = record {
  recipient = r + 1;
  is_due = is;
  lowest = λ q other below d. before q other (omega (arith, below)) d;
}

-- ---- items

pub nothing_at_first : (s : State) (moment : ℕ) → IsKept s → NothingDueUpTo s 0 moment
nothing_at_first s moment kept i r due low d =
    let zero_is : i ≡ 0 = omega (arith, low) in
    let none : numbered s.machine.items i ≡ None = rw zero_is refl in
    not_pending s i r moment kept (not_there s.machine i r none) due d

-- nothing is due of the items between two
abbrev pub NothingDueBetween : State → (after moment : ℕ) → Option ℕ → Type 0
NothingDueBetween s after moment found =
    (i r : ℕ) (due : Step) → after < i → IsBefore i found → IsDue s i r moment due → ⊥

pub nothing_further : (s : State) (after number moment : ℕ) → NothingDueUpTo s after moment
    → NothingDueBetween s after moment (Some number) → IsFirstOf s number moment None
    → NothingDueUpTo s number moment
nothing_further s after number moment before between none j r due low d = elim (cases_le j after) [
  | inl below ↦ before j r due below d
  | inr above ↦ elim (cases_lt j number) [
    | inl lower ↦ between j r due above lower d
    | inr high ↦ (let is : j ≡ number = omega (arith, low, high) in
        none r due (subst (λ (k : ℕ). IsDue s k r moment due) is d))
  ]
]

pub no_item : (s : State) (after moment : ℕ) → NothingDueUpTo s after moment
    → NothingDueBetween s after moment None → IsNextOf s moment None
no_item s after moment before between i r due d = elim (cases_le i after) [
  | inl below ↦ before i r due below d
  | inr above ↦ between i r due above tt d
]

-- nothing is due of an item that is not there
pub none_there : (s : State) (i moment : ℕ) → IsKept s → numbered s.machine.items i ≡ None
    → IsFirstOf s i moment None
none_there s i moment kept none r due d =
    not_pending s i r moment kept (not_there s.machine i r none) due d

at_same : (s : State) (i j q moment : ℕ) (due other : Step) (first : IsFirstIn s i moment due)
    → IsDue s j q moment other
    → j ≡ i → (q < first.recipient) ⊎ (first.recipient ≤ q) → first.recipient ≤ q
at_same s i j q moment due other first d same (inl below) =
    absurd (first.lowest q other below (subst (λ (k : ℕ). IsDue s k q moment other) same d))
at_same s i j q moment due other first d same (inr above) = above

by_place : (s : State) (after number j q moment : ℕ) (due other : Step) (first : IsFirstIn s number moment due)
    → NothingDueUpTo s after moment → NothingDueBetween s after moment (Some number) → IsDue s j q moment other
    → (j ≤ after) ⊎ (after < j) → (number < j) ⊎ ((number ≡ j) × (first.recipient ≤ q))
by_place s after number j q moment due other first before between d (inl below) = absurd (before j q other below d)
by_place s after number j q moment due other first before between d (inr above) = elim (cases_lt number j) [
  | inl higher ↦ inl higher
  | inr low ↦ elim (cases_eq j number) [
    | inl same ↦
        inr (sym same, at_same s number j q moment due other first d same (cases_lt q first.recipient))
    | inr apart ↦ absurd (between j q other above (omega (arith, low, apart)) d)
  ]
]

pub first_item : (s : State) (after number moment : ℕ) (due : Step) → NothingDueUpTo s after moment
    → NothingDueBetween s after moment (Some number) → IsFirstOf s number moment (Some due)
    → IsNextOf s moment (Some due)
first_item s after number moment due before between first = record {
  item = number;
  recipient = first.recipient;
  is_due = first.is_due;
  lowest = λ j q other d. by_place s after number j q moment due other first before between d (cases_le j after);
}

pub ruleset recipient_laws = (none_further, no_recipient, first_recipient)
