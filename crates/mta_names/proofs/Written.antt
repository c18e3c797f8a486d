-- What a writer has, part by part.
use Rattle.std.proofs.Common.{◌≡◌, ℕ, suc, ◌+◌, ◌<◌, List, [], ◌∷◌, ◌++◌, length, drop, get_or, sym, ap, ◌∙◌}
use Rattle.std.proofs.Common.{append-nil, append_assoc, add-one}
use Rattle.std.specs.List.{flat_map}
use Rattle.std.proofs.Math.Seq.{drop-cons}
use Rattle.mta_ber.specs.Canon.{Written, appended}

pub appended_none : (w : Written) → appended w [] ≡ w
appended_none w = ap (λ (o : List ℕ). record { frames = w.frames; octets = o }) (append-nil w.octets)

pub appended_twice : (w : Written) (a b : List ℕ) → appended (appended w a) b ≡ appended w (a ++ b)
appended_twice w a b = ap (λ (o : List ℕ). record { frames = w.frames; octets = o }) (append_assoc w.octets a b)

-- what is left to be written of a list, behind what was written
abbrev pub Left : {X : Type 0} → (X → List ℕ) → Written → List X → ℕ → Written → Type 0
Left f begun xs i now = appended now (flat_map f (drop i xs)) ≡ appended begun (flat_map f xs)

pub one_less : {X : Type 0} (f : X → List ℕ) (begun now then : Written) (xs : List X) (i : ℕ) (x : X) → i < length xs
    → x ≡ get_or xs i x → then ≡ appended now (f x) → Left f begun xs i now → Left f begun xs (i + 1) then
one_less f begun now then xs i x lt is e h =
    let rest : drop i xs ≡ x ∷ drop (i + 1) xs =
    rw add-one (drop-cons xs i x lt ∙ ap (λ y. y ∷ drop (suc i) xs) (sym is)) in
    ap (λ v. appended v (flat_map f (drop (i + 1) xs))) e ∙ appended_twice now (f x) (flat_map f (drop (i + 1) xs))
    ∙ sym (ap (λ ys. appended now (flat_map f ys)) rest) ∙ h

pub none_left : {X : Type 0} (f : X → List ℕ) (begun now : Written) (xs : List X) (i : ℕ) → drop i xs ≡ []
    → Left f begun xs i now → now ≡ appended begun (flat_map f xs)
none_left f begun now xs i none h = sym (appended_none now) ∙ sym (ap (λ ys. appended now (flat_map f ys)) none) ∙ h
