-- How a text is cut at the first line between two.
use Rattle.std.proofs.Common.{◌≡◌, ℕ, zero, suc, ◌+◌, ◌-◌, ◌<◌, ◌≤◌, Bool, true, false, List, [], ◌∷◌, ◌++◌, length}
use Rattle.std.proofs.Common.{get_or, take, drop, Option, Some, None, refl, sym, ap, subst, ◌∙◌, arith, append_assoc}
use Rattle.std.proofs.Common.{add-one, drop-cons, length-drop}
use Rattle.std.specs.Prelude.{◌==◌, ◌&&◌, codes}
use Rattle.std.proofs.Math.Seq.{drop-nil}
use Rattle.std.proofs.lemmas.List.{take_more, take_all, drop_all, length-take, append-nil}
use Rattle.std.proofs.lemmas.Slice.Eq.{bytes_eq-Decides}
use Rattle.mta_rehearse_run.specs.Network.{begins_separator, parted}

abbrev pub behind : List ℕ → List ℕ × Option (List ℕ) → List ℕ × Option (List ℕ)
behind front p = (front ++ p.0, p.1)

parted_on : (fresh : Bool) (c : ℕ) (cs : List ℕ) → (fresh && begins_separator (c ∷ cs)) ≡ false
    → parted fresh (c ∷ cs) ≡ behind (c ∷ []) (parted (c == 10) cs)
parted_on fresh c cs e = rw e refl

parted_here : (fresh : Bool) (c : ℕ) (cs : List ℕ) → (fresh && begins_separator (c ∷ cs)) ≡ true
    → parted fresh (c ∷ cs) ≡ ([], Some (drop 4 (c ∷ cs)))
parted_here fresh c cs e = rw e refl

abbrev before : Option (List ℕ) → List ℕ → List ℕ × Option (List ℕ)
before rest front = (front, rest)

behind_more : (front : List ℕ) (c : ℕ) (p : List ℕ × Option (List ℕ))
    → behind front (behind (c ∷ []) p) ≡ behind (front ++ c ∷ []) p
behind_more front c p = ap (before p.1) (sym (append_assoc front (c ∷ []) p.0))

-- all octets from a place on
pub rest_all : (octets : List ℕ) (i : ℕ) → take (length octets - i) (drop i octets) ≡ drop i octets
rest_all octets i = take_all (length octets - i) (drop i octets) (omega (arith, length-drop i octets))

-- one octet more
pub octet_more : (octets : List ℕ) (i : ℕ) (fresh : Bool) → i < length octets
    → (fresh && begins_separator (drop i octets)) ≡ false
    → behind (take i octets) (parted fresh (drop i octets))
    ≡ behind (take (i + 1) octets) (parted (get_or octets i 0 == 10) (drop (i + 1) octets))
octet_more octets i fresh l f =
    let x = get_or octets i 0 in
    let rest = drop (i + 1) octets in
    let e : drop i octets ≡ x ∷ rest = rw add-one (drop-cons octets i 0 l) in
    let g : (fresh && begins_separator (x ∷ rest)) ≡ false
    = subst (λ (ys : List ℕ). (fresh && begins_separator ys) ≡ false) e f in
    ap (λ (ys : List ℕ). behind (take i octets) (parted fresh ys)) e
    ∙ ap (behind (take i octets)) (parted_on fresh x rest g)
    ∙ behind_more (take i octets) x (parted (x == 10) rest)
    ∙ ap (λ (ys : List ℕ). behind ys (parted (x == 10) rest)) (sym (take_more octets i 0 l))

-- ---- at the line between two texts, and at the end

second : (b c : Bool) → (b && c) ≡ true → c ≡ true
second true c h = h
second false c h = absurd cc

here_on : (front ys : List ℕ) (fresh : Bool) → (fresh && begins_separator ys) ≡ true
    → behind front (parted fresh ys) ≡ (front, Some (drop 4 ys))
here_on front [] fresh h = (let e = second fresh (begins_separator []) h in absurd cc)
here_on front (c ∷ cs) fresh h =
    ap (behind front) (parted_here fresh c cs h) ∙ ap (before (Some (drop 4 (c ∷ cs)))) (append-nil front)

drop_on : (n i : ℕ) (xs : List ℕ) → drop n (drop i xs) ≡ drop (i + n) xs
drop_on n zero xs = (let e : n ≡ 0 + n = omega arith in ap (λ (k : ℕ). drop k xs) e)
drop_on n (suc i) [] = drop-nil n ∙ sym (drop-nil (suc i + n))
drop_on n (suc i) (x ∷ xs) =
    let e : suc (i + n) ≡ suc i + n = omega arith in
    drop_on n i xs ∙ ap (λ (k : ℕ). drop k (x ∷ xs)) e

pub octets_here : (octets : List ℕ) (i : ℕ) (fresh : Bool) → (fresh && begins_separator (drop i octets)) ≡ true
    → behind (take i octets) (parted fresh (drop i octets)) ≡ (take i octets, Some (drop (i + 4) octets))
octets_here octets i fresh h =
    here_on (take i octets) (drop i octets) fresh h
    ∙ ap (λ (ys : List ℕ). before (Some ys) (take i octets)) (drop_on 4 i octets)

four : (n : ℕ) (ys : List ℕ) → length (take 4 ys) ≡ n → n ≡ 4 → 4 ≤ length ys
four n ys e f = omega (arith, e, f, length-take 4 ys)

pub within_here : (octets : List ℕ) (i : ℕ) (fresh : Bool) → i < length octets
    → (fresh && begins_separator (drop i octets)) ≡ true → i + 4 ≤ length octets
within_here octets i fresh l h =
    let rest = drop i octets in
    let e : take 4 rest ≡ codes "---\n"
    = (bytes_eq-Decides (take 4 rest) (codes "---\n")).0 (second fresh (begins_separator rest) h) in
    let long = four (length (codes "---\n")) rest (ap length e) refl in
    omega (arith, long, length-drop i octets, l)

pub octets_end : (octets : List ℕ) (n : ℕ) (fresh : Bool) → length octets ≤ n
    → behind (take n octets) (parted fresh (drop n octets)) ≡ (octets, None)
octets_end octets n fresh l =
    ap (λ (ys : List ℕ). behind (take n octets) (parted fresh ys)) (drop_all n octets l)
    ∙ ap (before None) (append-nil (take n octets) ∙ take_all n octets l)
