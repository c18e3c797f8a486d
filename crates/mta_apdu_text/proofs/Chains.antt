-- Pieces that are appended one behind the other.
use Rattle.std.proofs.Common.{◌≡◌, ℕ, suc, ◌+◌, ◌<◌, List, [], ◌∷◌, ◌++◌, length, drop, get_or, refl, sym, ap, ◌∙◌}
use Rattle.std.proofs.Common.{append_assoc, append-nil, add-one}
use Rattle.std.specs.List.{flat_map}
use Rattle.std.proofs.Math.Seq.{drop-cons}
use Rattle.mta_ber.specs.Canon.{ident_octets, length_octets, element, primitive}
use Rattle.mta_ber.specs.Contents.{utc_content}

-- the contents of a UTCTime stand behind two octets of header
pub behind_utc : (moment : ℕ) → drop 2 (element (primitive 0 23) (utc_content moment)) ≡ utc_content moment
unfolding element ident_octets length_octets utc_content
behind_utc moment = refl

-- what is left to be printed of a list, behind what was printed
abbrev pub Left : {X : Type 0} → (X → List ℕ) → List ℕ → List X → ℕ → List ℕ → Type 0
Left f begun xs i now = now ++ flat_map f (drop i xs) ≡ begun ++ flat_map f xs

pub one_less : {X : Type 0} (f : X → List ℕ) (begun now then : List ℕ) (xs : List X) (i : ℕ) (x : X) → i < length xs
    → x ≡ get_or xs i x → then ≡ now ++ f x → Left f begun xs i now → Left f begun xs (i + 1) then
one_less f begun now then xs i x lt is e h =
    let rest : drop i xs ≡ x ∷ drop (i + 1) xs =
    rw add-one (drop-cons xs i x lt ∙ ap (λ y. y ∷ drop (suc i) xs) (sym is)) in
    ap (λ v. v ++ flat_map f (drop (i + 1) xs)) e ∙ append_assoc now (f x) (flat_map f (drop (i + 1) xs))
    ∙ sym (ap (λ ys. now ++ flat_map f ys) rest) ∙ h

pub none_left : {X : Type 0} (f : X → List ℕ) (begun now : List ℕ) (xs : List X) (i : ℕ) → drop i xs ≡ []
    → Left f begun xs i now → now ≡ begun ++ flat_map f xs
none_left f begun now xs i none h = sym (append-nil now) ∙ sym (ap (λ ys. now ++ flat_map f ys) none) ∙ h

-- ---- pieces in a row

pub joined : (old a b mid new : List ℕ) → mid ≡ old ++ a → new ≡ mid ++ b → new ≡ old ++ (a ++ b)
joined old a b mid new e f = f ∙ ap (λ x. x ++ b) e ∙ append_assoc old a b

pub three : (old a b c o1 o2 o3 : List ℕ) → o1 ≡ old ++ a → o2 ≡ o1 ++ b → o3 ≡ o2 ++ c → o3 ≡ old ++ (a ++ (b ++ c))
three old a b c o1 o2 o3 e f g = joined old a (b ++ c) o1 o3 e (joined o1 b c o2 o3 f g)

pub four : (old a b c d o1 o2 o3 o4 : List ℕ) → o1 ≡ old ++ a → o2 ≡ o1 ++ b → o3 ≡ o2 ++ c → o4 ≡ o3 ++ d → o4 ≡ old
    ++ (a ++ (b ++ (c ++ d)))
four old a b c d o1 o2 o3 o4 e f g h = joined old a (b ++ (c ++ d)) o1 o4 e (three o1 b c d o2 o3 o4 f g h)

pub five : (old a b c d k o1 o2 o3 o4 o5 : List ℕ) → o1 ≡ old ++ a → o2 ≡ o1 ++ b → o3 ≡ o2 ++ c → o4 ≡ o3 ++ d
    → o5 ≡ o4 ++ k → o5 ≡ old ++ (a ++ (b ++ (c ++ (d ++ k))))
five old a b c d k o1 o2 o3 o4 o5 e f g h i =
    joined old a (b ++ (c ++ (d ++ k))) o1 o5 e (four o1 b c d k o2 o3 o4 o5 f g h i)

pub eight : (old a b c d k l m n o1 o2 o3 o4 o5 o6 o7 o8 : List ℕ) → o1 ≡ old ++ a → o2 ≡ o1 ++ b → o3 ≡ o2 ++ c
    → o4 ≡ o3 ++ d → o5 ≡ o4 ++ k → o6 ≡ o5 ++ l → o7 ≡ o6 ++ m → o8 ≡ o7 ++ n
    → o8 ≡ old ++ (a ++ (b ++ (c ++ (d ++ (k ++ (l ++ (m ++ n)))))))
eight old a b c d k l m n o1 o2 o3 o4 o5 o6 o7 o8 e1 e2 e3 e4 e5 e6 e7 e8 =
    three old a b (c ++ (d ++ (k ++ (l ++ (m ++ n))))) o1 o2 o8 e1 e2
    (three o2 c d (k ++ (l ++ (m ++ n))) o3 o4 o8 e3 e4 (four o4 k l m n o5 o6 o7 o8 e5 e6 e7 e8))
