-- The first lane of a name.
use Rattle.std.proofs.Common.{◌≡◌, ◌≤◌, ◌<◌, ◌+◌, ℕ, Bool, true, false, List, ◌∷◌, length, drop, get_or}
use Rattle.std.proofs.Common.{Option, None, Some, inl, inr, refl, sym, subst}
use Rattle.std.specs.Prelude.{◌↔◌}
use Rattle.std.proofs.lemmas.List.{at_drop_all, at_drop_more}
use Rattle.mta_records.specs.Reference.{Identifier}
use Rattle.mta_records.specs.declared.lane.LaneRole.{LaneRole}
use Rattle.mta_histories.specs.Lanes.{Lane}
use Rattle.mta_lanes.specs.Finds.{IsNamed}
use Rattle.mta_spool.specs.Looking.{IsFirstNamed}

module _ (role : LaneRole) (peer : List ℕ) (reference : Option Identifier) (xs : List Lane) where
  -- whatever is first behind the lanes before a place is first of all
  abbrev pub LeadsFrom : ℕ → Type 0
  LeadsFrom i = (found : Option ℕ) → IsFirstNamed role peer reference (drop i xs) found
      → IsFirstNamed role peer reference xs found

  pub named_here : (i : ℕ) (lane : Lane) (b : Bool) → i < length xs → lane ≡ get_or xs i lane
      → (b ≡ true) ↔ IsNamed role peer reference lane → b ≡ true → LeadsFrom i
      → IsFirstNamed role peer reference xs (Some lane.number)
  named_here i lane b within is same does leads =
      leads (Some lane.number)
      (subst (λ (ls : List Lane). IsFirstNamed role peer reference ls (Some lane.number))
      (sym (at_drop_more (λ (ls : List Lane). ls) xs i lane within))
      (subst (λ (l : Lane). IsFirstNamed role peer reference (l ∷ drop (i + 1) xs) (Some lane.number)) is
      (inl (same.0 does, refl))))

  pub named_further : (i : ℕ) (lane : Lane) (b : Bool) → i < length xs → lane ≡ get_or xs i lane
      → (b ≡ true) ↔ IsNamed role peer reference lane → b ≡ false → LeadsFrom i → LeadsFrom (i + 1)
  named_further i lane b within is same isnt leads found first =
      leads found
      (subst (λ (ls : List Lane). IsFirstNamed role peer reference ls found)
      (sym (at_drop_more (λ (ls : List Lane). ls) xs i lane within))
      (subst (λ (l : Lane). IsFirstNamed role peer reference (l ∷ drop (i + 1) xs) found) is
      (inr (λ named. let does : b ≡ true = same.1 named in absurd cc, first))))

  pub none_named : (i : ℕ) → length xs ≤ i → LeadsFrom i → IsFirstNamed role peer reference xs None
  none_named i past leads =
      leads None
      (subst (λ (ls : List Lane). IsFirstNamed role peer reference ls None)
      (sym (at_drop_all (λ (ls : List Lane). ls) xs i past)) refl)

pub ruleset first_laws = (named_here, named_further, none_named)
