-- Flags of the chosen positions: none is chosen yet, and one position more.
use Rattle.std.proofs.Common.{◌≡◌, ◌<◌, ◌+◌, ◌==◌, ◌||◌, ℕ, Bool, true, false, List, [], ◌∷◌, ◌++◌, length, take}
use Rattle.std.proofs.Common.{get_or, replicate, set, sym, ap, subst, ◌∙◌, arith, inl, inr}
use Rattle.std.specs.Prelude.{◌⊎◌}
use Rattle.std.proofs.Math.Bool.{or-false, or-true}
use Rattle.std.proofs.lemmas.Bool.{cases_eq, eq-eqb, ne_eqb}
use Rattle.std.proofs.lemmas.List.{take_more, length-set, length-replicate}
use Rattle.std.proofs.lemmas.List.{get_or-replicate, get_or-set_same, get_or-set_other}
use Rattle.std.proofs.lemmas.List.Folds.{list_any-append}
use Rattle.mta_procedures.specs.Copies.{is_chosen}
use Rattle.mta_copies.specs.Flags.{AreFlags}

pub none_chosen : (count : ℕ) → AreFlags [] (replicate count false)
none_chosen count place below =
    get_or-replicate count place false false (subst (λ (n : ℕ). place < n) (length-replicate count false) below)

module _ (chosen : List ℕ) (flags : List Bool) (p : ℕ) (so : AreFlags chosen flags) where
  more : (position : ℕ) → is_chosen (chosen ++ p ∷ []) position ≡ (is_chosen chosen position || (p == position))
  more position =
      list_any-append (λ (c : ℕ). c == position) chosen (p ∷ [])
      ∙ ap (λ (b : Bool). is_chosen chosen position || b) (or-false (p == position))

  another : (place : ℕ) → (place + 1 ≡ p → ⊥) → is_chosen (chosen ++ p ∷ []) (place + 1) ≡ is_chosen chosen (place + 1)
  another place other =
      more (place + 1)
      ∙ ap (λ (b : Bool). is_chosen chosen (place + 1) || b) (ne_eqb p (place + 1) (λ same. other (sym same)))
      ∙ or-false (is_chosen chosen (place + 1))

  pub passed_over : ((place : ℕ) → place < length flags → place + 1 ≡ p → ⊥) → AreFlags (chosen ++ p ∷ []) flags
  passed_over none place below = so place below ∙ sym (another place (none place below))

  module _ (at : ℕ) (here : at + 1 ≡ p) (within : at < length flags) where
    flag : (place : ℕ) → place < length flags → (place ≡ at) ⊎ (place ≡ at → ⊥)
        → get_or (set flags at true) place false ≡ is_chosen (chosen ++ p ∷ []) (place + 1)
    flag place below (inl same) =
        let said : (p == place + 1) ≡ true = eq-eqb p (place + 1) (sym here ∙ ap (λ (n : ℕ). n + 1) (sym same)) in
        ap (λ (n : ℕ). get_or (set flags at true) n false) same
        ∙ get_or-set_same flags at true false within
        ∙ sym (more (place + 1) ∙ ap (λ (b : Bool). is_chosen chosen (place + 1) || b) said
        ∙ or-true (is_chosen chosen (place + 1)))
    flag place below (inr other) =
        get_or-set_other flags at place true false other
        ∙ so place below
        ∙ sym (another place (λ same. other (omega (arith, same, here))))

    pub one_chosen : AreFlags (chosen ++ p ∷ []) (set flags at true)
    one_chosen place below =
        flag place (subst (λ (n : ℕ). place < n) (length-set flags at true) below) (cases_eq place at)

-- the next of the positions
pub next_chosen : (chosen : List ℕ) (k p : ℕ) (flags : List Bool) → k < length chosen → p ≡ get_or chosen k 0
    → AreFlags (take k chosen ++ p ∷ []) flags → AreFlags (take (k + 1) chosen) flags
next_chosen chosen k p flags below is =
    subst (λ (xs : List ℕ). AreFlags xs flags)
    (ap (λ (n : ℕ). take k chosen ++ n ∷ []) is ∙ sym (take_more chosen k 0 below))
