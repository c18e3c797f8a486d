-- A clock in memory never tells more later.
use Rattle.std.proofs.Common.{inl, inr, ⊎_elim, ◌≡◌, ◌⊎◌, ℕ, suc, ◌+◌, ◌<◌, List, [], ◌∷◌, length, drop, sym, ap, subst}
use Rattle.std.proofs.Common.{refl, ◌∙◌, arith, slice_index_or}
use Rattle.std.proofs.lemmas.List.{drop_more, length-drop}
use Rattle.mta_edge.specs.Moments.{may_tell}

one_more : (x : ℕ) (left : List ℕ) (m : ℕ) → 0 < length left → may_tell left m → may_tell (x ∷ left) m
one_more x left m some tells = ⊎_elim {C = may_tell (x ∷ left) m}
    (λ one. inl (suc one.0, omega (arith, one.1), one.2))
    (λ none. absurd (omega (arith, some, ap length none.0))) tells

pub later_tells : (moments : List ℕ) (at m : ℕ) → at + 1 < length moments → may_tell (drop (at + 1) moments) m
    → may_tell (drop at moments) m
later_tells moments at m le tells =
    subst (λ (left : List ℕ). may_tell left m) (sym (drop_more moments at 0 (omega (arith, le))))
    (one_more (slice_index_or moments at 0) (drop (at + 1) moments) m
    (omega (arith, le, length-drop (at + 1) moments)) tells)
