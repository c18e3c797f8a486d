-- The pieces of an activity, joined, are its octets.
use Rattle.std.proofs.Common.{◌≡◌, ◌≤◌, ℕ, zero, suc, ◌+◌, ◌-◌, ◌*◌, ◌==◌, Bool, true, false, nat_le, if◌then◌else◌}
use Rattle.std.proofs.Common.{List, [], ◌∷◌, ◌++◌, length, take, drop, refl, sym, ◌∙◌, ap, subst, arith, append_assoc}
use Rattle.std.proofs.Common.{append-nil, length-append, add-one, inl, inr}
use Rattle.std.proofs.Math.Seq.{take-add}
use Rattle.std.proofs.Math.Nat.{mul-suc}
use Rattle.std.proofs.lemmas.List.{take_all, take-append-le, take-append-drop}
use Rattle.std.proofs.lemmas.Bool.{leb-true, cases_lt}
use Rattle.mta_transfer_rules.specs.Pieces.{piece_of, is_last, joined, octets_with}

-- pieces 1 to n
pub firsts : (size : ℕ) → List ℕ → ℕ → List (List ℕ)
firsts size o zero = []
firsts size o (suc n) = firsts size o n ++ piece_of size o (suc n) ∷ []

pub firsts-none : (size : ℕ) (o : List ℕ) → firsts size o 0 ≡ []
unfolding firsts
firsts-none size o = refl

pub firsts-next : (size : ℕ) (o : List ℕ) (n : ℕ) → firsts size o (suc n) ≡ firsts size o n ++ piece_of size o (suc n) ∷
    []
unfolding firsts
firsts-next size o n = refl

length-firsts : (size : ℕ) (o : List ℕ) (n : ℕ) → length (firsts size o n) ≡ n
length-firsts size o zero = ap length (firsts-none size o)
length-firsts size o (suc n) =
    ap length (firsts-next size o n) ∙ length-append (firsts size o n) (piece_of size o (suc n) ∷ [])
    ∙ ap (λ (z : ℕ). z + 1) (length-firsts size o n) ∙ add-one n

pub take-firsts : (size : ℕ) (o : List ℕ) (m n : ℕ) → m ≤ n → take m (firsts size o n) ≡ firsts size o m
take-firsts size o m zero le =
    let e : m ≡ 0 = omega arith in
    take_all m (firsts size o 0) (omega (arith, length-firsts size o 0)) ∙ sym (ap (firsts size o) e)
take-firsts size o m (suc n) le =
    elim (cases_lt m (suc n)) [
      | inl lt ↦ ap (take m) (firsts-next size o n)
          ∙ take-append-le m (firsts size o n) (piece_of size o (suc n) ∷ [])
          (omega (arith, lt, length-firsts size o n))
          ∙ take-firsts size o m n (omega (arith, lt))
      | inr ge ↦ (let e : m ≡ suc n = omega (arith, ge, le) in
          take_all m (firsts size o (suc n)) (omega (arith, ge, length-firsts size o (suc n)))
          ∙ sym (ap (firsts size o) e))
    ]

joined-more : (xs : List (List ℕ)) (y : List ℕ) → joined (xs ++ y ∷ []) ≡ joined xs ++ y
joined-more [] y = append-nil y
joined-more (x ∷ xs) y = ap (λ (z : List ℕ). x ++ z) (joined-more xs y) ∙ sym (append_assoc x (joined xs) y)

-- a piece where the size is not 0
piece-cut : (size : ℕ) (o : List ℕ) (n : ℕ) → (size == 0) ≡ false
    → piece_of size o (suc n) ≡ take size (drop (size * n) o)
piece-cut size o n e =
    let one : suc n - 1 ≡ n = omega arith in
    rw (e, one) refl

joined-firsts : (size : ℕ) (o : List ℕ) (n : ℕ) → (size == 0) ≡ false → joined (firsts size o n) ≡ take (size * n) o
joined-firsts size o zero e =
    let z : size * 0 ≡ 0 = omega arith in
    ap joined (firsts-none size o) ∙ sym (rw z refl)
joined-firsts size o (suc n) e =
    ap joined (firsts-next size o n)
    ∙ joined-more (firsts size o n) (piece_of size o (suc n))
    ∙ ap (λ (z : List ℕ). z ++ piece_of size o (suc n)) (joined-firsts size o n e)
    ∙ ap (λ (z : List ℕ). take (size * n) o ++ z) (piece-cut size o n e)
    ∙ sym (take-add (size * n) size o)
    ∙ ap (λ (z : ℕ). take z o) (sym (mul-suc size n))

-- with the last piece they are all octets
whole-by : (size : ℕ) (o : List ℕ) (n : ℕ) (b : Bool) → (size == 0) ≡ b → (b ≡ true → n ≡ 0)
    → is_last size o (suc n) ≡ true → joined (firsts size o n) ++ piece_of size o (suc n) ≡ o
whole-by size o n true e one l =
    let z : n ≡ 0 = one refl in
    let none : joined (firsts size o n) ≡ [] = ap (λ (m : ℕ). joined (firsts size o m)) z
    ∙ ap joined (firsts-none size o) in
    let all : piece_of size o (suc n) ≡ o = rw e refl in
    ap (λ (x : List ℕ). x ++ piece_of size o (suc n)) none ∙ all
whole-by size o n false e one l =
    let le : nat_le (length o) (size * suc n) ≡ true =
    subst (λ (b : Bool). (if b then true else nat_le (length o) (size * suc n)) ≡ true) e l in
    let within : length o ≤ size * n + size = omega (arith, leb-true (length o) (size * suc n) le, mul-suc size n) in
    ap (λ (x : List ℕ). x ++ piece_of size o (suc n)) (joined-firsts size o n e)
    ∙ ap (λ (x : List ℕ). take (size * n) o ++ x) (piece-cut size o n e)
    ∙ sym (take-add (size * n) size o)
    ∙ take_all (size * n + size) o within

-- what a receiving end completes
pub whole : (size : ℕ) (o : List ℕ) (pieces : List (List ℕ)) (piece : List ℕ) (n : ℕ) → take n pieces ≡ firsts size o n
    → ((size == 0) ≡ true → n ≡ 0)
    → piece ≡ piece_of size o (suc n) → is_last size o (suc n) ≡ true → octets_with pieces (suc n) piece ≡ o
whole size o pieces piece n same one cut l =
    let less : suc n - 1 ≡ n = omega arith in
    ap (λ (m : ℕ). joined (take m pieces) ++ piece) less
    ∙ ap (λ (x : List (List ℕ)). joined x ++ piece) same
    ∙ ap (λ (x : List ℕ). joined (firsts size o n) ++ x) cut
    ∙ whole-by size o n (size == 0) refl one l

-- what it found faulty at a Sync begins its octets
pub front : (size : ℕ) (o : List ℕ) (pieces : List (List ℕ)) (piece : List ℕ) (n : ℕ) → take n pieces ≡ firsts size o n
    → (size == 0) ≡ false → piece ≡ piece_of size o (suc n)
    → octets_with pieces (suc n) piece ++ drop (size * suc n) o ≡ o
front size o pieces piece n same sz cut =
    let less : suc n - 1 ≡ n = omega arith in
    ap (λ (z : List ℕ). z ++ drop (size * suc n) o)
    (ap (λ (m : ℕ). joined (take m pieces) ++ piece) less
    ∙ ap (λ (x : List (List ℕ)). joined x ++ piece) same
    ∙ ap (λ (x : List ℕ). joined (firsts size o n) ++ x) cut
    ∙ sym (joined-more (firsts size o n) (piece_of size o (suc n)))
    ∙ ap joined (sym (firsts-next size o n))
    ∙ joined-firsts size o (suc n) sz)
    ∙ take-append-drop (size * suc n) o
