-- Agents by their names, where all can be told apart.
use Rattle.std.proofs.Common.{◌≡◌, ℕ, ◌<◌, Bool, true, List, Option, Some, None, refl, sym, ap, ◌∙◌, inl, inr, arith}
use Rattle.std.proofs.Common.{◌↔◌}
use Rattle.std.specs.Prelude.{slice_get, IsTrue}
use Rattle.std.proofs.lemmas.Slice.Eq.{bytes_eq-Decides}
use Rattle.mta_tables.specs.Indexes.{passes_in, passes_at}
use Rattle.mta_tables.specs.Tables.{TablesValue}
use Rattle.mta_tables.proofs.Places.{Passes, position_passes, position_none, cases_option}
use Rattle.mta_rehearse_run.specs.declared.turn.Turn.TheVariants.{On}
use Rattle.mta_rehearse_run.specs.Agents.{has_name, agent_named, AreApart}
use Rattle.mta_rehearse_run.specs.Turns.{on_or_unknown, to_word}

in_option : (word : List ℕ) (xs : List TablesValue) (i : ℕ) (o : Option TablesValue) → slice_get xs i ≡ o
    → passes_in (has_name word) o ≡ true → Passes (has_name word) xs i
in_option word xs i None e h = absurd cc
in_option word xs i (Some x) e h = (x, e, h)

at_place : (word : List ℕ) (xs : List TablesValue) (i : ℕ) → passes_at (has_name word) xs i ≡ true
    → Passes (has_name word) xs i
at_place word xs i h = in_option word xs i (slice_get xs i) refl h

passing : (word : List ℕ) (xs : List TablesValue) (i : ℕ) → Passes (has_name word) xs i
    → passes_at (has_name word) xs i ≡ true
passing word xs i h = ap (passes_in (has_name word)) h.1 ∙ h.2

-- two places with one name are one
twice_below : (word : List ℕ) (xs : List TablesValue) (i j : ℕ) → AreApart xs → Passes (has_name word) xs i
    → Passes (has_name word) xs j → i < j → ⊥
twice_below word xs i j apart h k l = apart j (record {
  earlier = i;
  before = l;
  same = record {
    first = h.0;
    second = k.0;
    there = record { found = h.1 };
    here = record { found = k.1 };
    same = inl ((bytes_eq-Decides h.0.own word).0 h.2 ∙ sym ((bytes_eq-Decides k.0.own word).0 k.2));
  };
})

pub equal : (m n : ℕ) → (m < n → ⊥) → (n < m → ⊥) → m ≡ n
equal m n h k = omega arith

pub one_place : (word : List ℕ) (xs : List TablesValue) (i j : ℕ) → AreApart xs → Passes (has_name word) xs i
    → Passes (has_name word) xs j → i ≡ j
one_place word xs i j apart h k =
    equal i j (twice_below word xs i j apart h k) (twice_below word xs j i apart k h)

pub named_at : (xs : List TablesValue) (word : List ℕ) (a : ℕ) → AreApart xs
    → passes_at (has_name word) xs a ≡ true → agent_named xs word ≡ Some a
named_at xs word a apart h = elim (cases_option (agent_named xs word)) [
  | inl none ↦ absurd (position_none (has_name word) xs a none (at_place word xs a h))
  | inr f ↦ (
      let same = one_place word xs f.0 a apart (position_passes (has_name word) xs f.0 f.1) (at_place word xs a h) in
      f.1 ∙ ap Some same)
]

pub passes_named : (xs : List TablesValue) (word : List ℕ) (a : ℕ) → agent_named xs word ≡ Some a
    → passes_at (has_name word) xs a ≡ true
passes_named xs word a e = passing word xs a (position_passes (has_name word) xs a e)

-- ---- where a name is sent on to the agent of a peer's name

pub on_some : (o : Option ℕ) (word : List ℕ) (a : ℕ) → on_or_unknown o word ≡ On a → o ≡ Some a
on_some None word a e = absurd cc
on_some (Some b) word a e = cc

pub word_on : (xs : List TablesValue) (word : List ℕ) (a : ℕ) (r : Bool) → AreApart xs
    → r ≡ passes_at (has_name word) xs a → (IsTrue r ↔ (to_word xs word ≡ On a))
word_on xs word a r apart e = (
  λ t. ap (λ (o : Option ℕ). on_or_unknown o word) (named_at xs word a apart (sym e ∙ t)),
  λ s. e ∙ passes_named xs word a (on_some (agent_named xs word) word a s),
)
