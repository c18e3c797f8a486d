-- What is written part by part is the text form.
use Rattle.std.proofs.Common.{◌≡◌, ℕ, suc, ◌+◌, ◌≤◌, ◌<◌, List, [], ◌∷◌, ◌++◌, length, drop, get_or, refl, sym, ap, ◌∙◌}
use Rattle.std.proofs.Common.{append_assoc, append-nil, add-one, arith, length-append}
use Rattle.std.specs.Prelude.{map}
use Rattle.std.specs.List.{flat_map}
use Rattle.std.proofs.Math.Seq.{drop-cons}
use Rattle.mta_names.specs.declared.attributes.Attributes.{Attributes}
use Rattle.mta_name_text.specs.declared.key.Key.TheVariants as Keys
use Rattle.mta_name_text.specs.declared.part.Part.{Part}
use Rattle.mta_name_text.specs.Forms.{key_text, keyed_if, labelled_if, units_keyed, person_keyed, pairs_keyed, keyed_of}
use Rattle.mta_name_text.specs.Forms.{part_text, behind_semicolon, joined, text_form, followed, followed_all}

pub part_written : (o k t v : List ℕ) → (((o ++ k) ++ t) ++ 61 ∷ []) ++ v ≡ o ++ (k ++ (t ++ 61 ∷ v))
part_written o k t v = simp append_assoc

pub followed_twice : (t : List ℕ) (a b : List Part) → followed_all (followed_all t a) b ≡ followed_all t (a ++ b)
followed_twice t [] b = refl
followed_twice t (k ∷ a) b = followed_twice (followed t k) a b

followed_some : (t : List ℕ) (k : Part) → 1 ≤ length t → followed t k ≡ t ++ 59 ∷ part_text k
followed_some [] k h = absurd (omega arith)
followed_some (c ∷ cs) k h = refl

-- behind some text each part stands behind a semicolon
behind_all : (t : List ℕ) (ks : List Part) → 1 ≤ length t → followed_all t ks ≡ t
    ++ flat_map behind_semicolon (map part_text ks)
behind_all t [] h = sym (append-nil t)
behind_all t (k ∷ ks) h =
    let long : 1 ≤ length (t ++ 59 ∷ part_text k) = omega (arith, length-append t (59 ∷ part_text k)) in
    ap (λ x. followed_all x ks) (followed_some t k h) ∙ behind_all (t ++ 59 ∷ part_text k) ks long
    ∙ append_assoc t (59 ∷ part_text k) (flat_map behind_semicolon (map part_text ks))

part_long : (k : Part) → 1 ≤ length (part_text k)
part_long k = omega (
  arith,
  length-append (key_text k.key) (k.kind ++ 61 ∷ k.value),
  length-append k.kind (61 ∷ k.value),
)

pub all_joined : (ks : List Part) → followed_all [] ks ≡ joined (map part_text ks)
all_joined [] = refl
all_joined (k ∷ ks) = behind_all (part_text k) ks (part_long k)

-- ---- lists

abbrev pub Left : {X : Type 0} → (X → Part) → List ℕ → List X → ℕ → List ℕ → Type 0
Left f begun xs i now = followed_all now (map f (drop i xs)) ≡ followed_all begun (map f xs)

pub one_less : {X : Type 0} (f : X → Part) (begun now then : List ℕ) (xs : List X) (i : ℕ) (x : X) → i < length xs
    → x ≡ get_or xs i x → then ≡ followed now (f x) → Left f begun xs i now → Left f begun xs (i + 1) then
one_less f begun now then xs i x lt is e h =
    let rest : drop i xs ≡ x ∷ drop (i + 1) xs =
    rw add-one (drop-cons xs i x lt ∙ ap (λ y. y ∷ drop (suc i) xs) (sym is)) in
    ap (λ v. followed_all v (map f (drop (i + 1) xs))) e ∙ sym (ap (λ ys. followed_all now (map f ys)) rest) ∙ h

-- ---- a whole name

pub whole : (n : Attributes) (o0 o1 o2 o3 o4 o5 o6 o7 o8 o9 o10 o11 : List ℕ) → o0 ≡ []
    → o1 ≡ followed_all o0 (labelled_if Keys.Country n.country) → o2 ≡ followed_all o1 (labelled_if Keys.Admd n.admd)
    → o3 ≡ followed_all o2 (labelled_if Keys.Prmd n.prmd)
    → o4 ≡ followed_all o3 (keyed_if Keys.Organization n.organization) → o5 ≡ followed_all o4 (units_keyed n.units)
    → o6 ≡ followed_all o5 (person_keyed n.person) → o7 ≡ followed_all o6 (keyed_if Keys.Common n.common)
    → o8 ≡ followed_all o7 (keyed_if Keys.Network n.network) → o9 ≡ followed_all o8 (keyed_if Keys.Terminal n.terminal)
    → o10 ≡ followed_all o9 (keyed_if Keys.User n.user) → o11 ≡ followed_all o10 (pairs_keyed n.pairs)
    → o11 ≡ text_form n
unfolding text_form
whole n o0 o1 o2 o3 o4 o5 o6 o7 o8 o9 o10 o11 e0 e1 e2 e3 e4 e5 e6 e7 e8 e9 e10 e11 =
    e11
    ∙ join o9 o10 (keyed_if Keys.User n.user) (pairs_keyed n.pairs) e10
    ∙ join o8 o9 (keyed_if Keys.Terminal n.terminal) _ e9
    ∙ join o7 o8 (keyed_if Keys.Network n.network) _ e8
    ∙ join o6 o7 (keyed_if Keys.Common n.common) _ e7
    ∙ join o5 o6 (person_keyed n.person) _ e6
    ∙ join o4 o5 (units_keyed n.units) _ e5
    ∙ join o3 o4 (keyed_if Keys.Organization n.organization) _ e4
    ∙ join o2 o3 (labelled_if Keys.Prmd n.prmd) _ e3
    ∙ join o1 o2 (labelled_if Keys.Admd n.admd) _ e2
    ∙ join o0 o1 (labelled_if Keys.Country n.country) _ e1
    ∙ ap (λ o. followed_all o (keyed_of n)) e0
    ∙ all_joined (keyed_of n)
  where
    join : (t u : List ℕ) (a b : List Part) → u ≡ followed_all t a → followed_all u b ≡ followed_all t (a ++ b)
    join t u a b e = ap (λ x. followed_all x b) e ∙ followed_twice t a b
