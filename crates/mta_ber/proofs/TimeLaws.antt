-- The front of a text.
use Rattle.std.proofs.Common.{◌≡◌, ℕ, zero, suc, ◌≤◌, List, [], ◌∷◌, ◌++◌, length, take, refl, sym, ap, ◌∙◌}
use Rattle.std.proofs.Common.{append_assoc, arith, inl, inr, true, None, Result, Ok, Err, ◌-◌, ◌<◌}
use Rattle.std.proofs.lemmas.List.{take-append-le, length-take}
use Rattle.std.proofs.lemmas.Bool.{cases_lt, lt-ltb}
use Rattle.mta_ber.specs.declared.fault.Fault.{Fault}
use Rattle.mta_ber.specs.Head.{◌>>=◌}
use Rattle.mta_ber.specs.Element.{Part}
use Rattle.mta_ber.specs.Strings.{octets_piece, joined_as}
use Rattle.mta_ber.specs.Times.{kept, line_piece, line_in, moment_of, timed, utc_in}
use Rattle.mta_ber.proofs.Maps.{seen, gather_map}

pub take_take_append : (n : ℕ) (a b : List ℕ) → take n (take n a ++ b) ≡ take n (a ++ b)
take_take_append zero a b = refl
take_take_append (suc n) [] b = refl
take_take_append (suc n) (x ∷ a) b = ap (λ l. x ∷ l) (take_take_append n a b)

take_all : (n : ℕ) (a : List ℕ) → length a ≤ n → take n a ≡ a
take_all zero [] h = refl
take_all zero (x ∷ a) h = absurd (omega arith)
take_all (suc n) [] h = refl
take_all (suc n) (x ∷ a) h = ap (λ l. x ∷ l) (take_all n a (omega arith))

pub kept_all : (a : List ℕ) → length a ≤ 18 → kept a ≡ a
kept_all a h = take_all 18 a h

pub kept_full : (a b : List ℕ) → length a ≡ 18 → kept (a ++ b) ≡ a
kept_full a b h = sym (take_take_append 18 a b) ∙ ap (λ l. take 18 (l ++ b)) (take_all 18 a (omega arith)) ∙ full a b h
  where
    full : (a b : List ℕ) → length a ≡ 18 → take 18 (a ++ b) ≡ a
    full a b h = let le : 18 ≤ length a = omega arith in rw take-append-le (take_all 18 a (omega arith))

-- one character more
pub kept_more : (s front : List ℕ) (c : ℕ) → kept (kept (s ++ front) ++ c ∷ []) ≡ kept (s ++ (front ++ c ∷ []))
kept_more s front c = take_take_append 18 (s ++ front) (c ∷ []) ∙ ap (take 18) (append_assoc s front (c ∷ []))

-- ---- the moment of a text is that of its front

long_none : (t : List ℕ) → 17 < length t → moment_of t ≡ None
unfolding moment_of
long_none t long = rw (lt-ltb 17 (length t) long) refl

pub moment_kept : (t : List ℕ) → moment_of (kept t) ≡ moment_of t
moment_kept t = elim (cases_lt 18 (length t)) [
  | inl long ↦ long_none (kept t) (omega (arith, length-take 18 t)) ∙ sym (long_none t (omega arith))
  | inr short ↦ ap moment_of (kept_all t short)
]

line_is : (p : Part) → line_in p ≡ seen kept (joined_as 23 p)
unfolding joined_as
line_is p = gather_map kept octets_piece line_piece
    (λ last s p. ap (λ (x : List ℕ). Ok x) (take_take_append 18 s p.content)) 4 23 (17 - p.depth) true [] p

pub utc_refused : (p : Part) (f : Fault) → line_in p ≡ Err f → utc_in p ≡ Err f
unfolding utc_in
utc_refused p f e = go (joined_as 23 p) (sym (line_is p) ∙ e)
  where
    go : (r : Result (List ℕ) Fault) → seen kept r ≡ Err f → (r >>= λ t. timed p.at (moment_of t)) ≡ Err f
    go (Ok t) e = absurd cc
    go (Err g) e = cc

pub utc_line : (p : Part) (l : List ℕ) → line_in p ≡ Ok l → utc_in p ≡ timed p.at (moment_of l)
unfolding utc_in
utc_line p l e = go (joined_as 23 p) (sym (line_is p) ∙ e)
  where
    kept_so : (t : List ℕ) → ◌≡◌ {A = Result (List ℕ) Fault} (Ok (kept t)) (Ok l) → kept t ≡ l
    kept_so t e = cc

    go : (r : Result (List ℕ) Fault) → seen kept r ≡ Ok l
        → (r >>= λ t. timed p.at (moment_of t)) ≡ timed p.at (moment_of l)
    go (Ok t) e = ap (timed p.at) (sym (moment_kept t) ∙ ap moment_of (kept_so t e))
    go (Err g) e = absurd cc
