-- Recipients of an activity's item that are discharged one after the other.
use Rattle.std.proofs.Common.{◌≡◌, ◌≤◌, ◌<◌, ◌+◌, ℕ, List, [], ◌∷◌, ◌++◌, length}
use Rattle.std.proofs.Common.{take, refl, ap, arith, get_or}
use Rattle.std.specs.Prelude.{option_to_list}
use Rattle.std.proofs.lemmas.List.{take_more}
use Rattle.mta_machine.specs.Items.{Machine}
use Rattle.mta_state.specs.declared.change.Settlement.{Settlement}
use Rattle.mta_state.specs.Kept.{settled_one, settled_in_turn, made_by_all}

-- the last of them is discharged first
pub last_first : (m : Machine) (i : ℕ) (xs : List Settlement) (x : Settlement) (moment : ℕ)
    → settled_in_turn m i (xs ++ x ∷ []) moment ≡ settled_in_turn (settled_one m i x moment) i xs moment
last_first m i [] x moment = refl
last_first m i (y ∷ xs) x moment =
    ap (λ (n : Machine). settled_one n i y moment) (last_first m i xs x moment)

pub made_behind : (xs : List Settlement) (x : Settlement)
    → made_by_all (xs ++ x ∷ []) ≡ made_by_all xs + length (option_to_list x.made)
made_behind [] x = omega arith
made_behind (y ∷ xs) x = let more = made_behind xs x in omega (arith, more)

pub made_more : (xs : List Settlement) (i : ℕ) (d : Settlement) → i < length xs
    → made_by_all (take (i + 1) xs) ≡ made_by_all (take i xs) + length (option_to_list (get_or xs i d).made)
made_more xs i d p = rw (take_more xs i d p) (made_behind (take i xs) (get_or xs i d))
