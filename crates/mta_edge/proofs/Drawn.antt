-- What is left of a source from which a part was taken.
use Rattle.std.proofs.Common.{◌≡◌, ℕ, suc, ◌+◌, ◌≤◌, List, [], ◌∷◌, ◌++◌, length, drop, refl, sym, ap, ◌∙◌, arith}
use Rattle.mta_edge.specs.Streams.{LeavesBut}

drop_behind : (all h : List ℕ) (n : ℕ) → drop (length all + n) (all ++ h) ≡ drop n h
drop_behind [] h n = let e : 0 + n ≡ n = omega arith in ap (λ (k : ℕ). drop k h) e
drop_behind (x ∷ xs) h n = let e : suc (length xs) + n ≡ suc (length xs + n) = omega arith in
    ap (λ (k : ℕ). drop k (x ∷ (xs ++ h))) e ∙ drop_behind xs h n

-- of f all of these octets were taken, and of the others the first n
pub leaves_but : (all f h k : List ℕ) (n most : ℕ) → f ≡ all ++ h → k ≡ drop n h → length all + n ≤ most
    → LeavesBut most f k
leaves_but all f h k n most before behind le =
    (length all + n, le, behind ∙ sym (ap (λ (x : List ℕ). drop (length all + n) x) before ∙ drop_behind all h n))
