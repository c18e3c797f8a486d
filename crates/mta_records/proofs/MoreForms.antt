-- The laws of the forms that go by a key, and of those of one value.
use Rattle.std.proofs.Common.{◌≡◌, ℕ, ◌<◌, Bool, true, false, cond, eqb, List, [], ◌∷◌, ◌++◌, length, Option, Some}
use Rattle.std.proofs.Common.{None}
use Rattle.std.proofs.Common.{Result, Ok, Err, refl, sym, ap, subst, ◌∙◌, append_assoc}
use Rattle.std.specs.Prelude.{find}
use Rattle.std.proofs.lemmas.Bool.{eqb-true}
use Rattle.mta_records.specs.Form.{◌>>=◌, Form, an_octet, nothing_for, blanked, nothing_but, variant, keyed, one_listed}
use Rattle.mta_records.proofs.Splits.{AreOctets, chained, given-same, Splits, splits-then}
use Rattle.mta_records.proofs.Forms.{IsForm, octet_is, Signs, standing_for_is}

-- ---- one value

nothing_splits : {A : Type 0} (x : A) (octets : List ℕ) (y : A) (rest : List ℕ) → AreOctets octets
    → (nothing_for x).at octets ≡ Ok (y, rest) → Splits octets [] rest × (y ≡ x)
nothing_splits {A} x octets y rest each e =
    subst (λ (z : A × List ℕ). Splits octets [] z.1 × (z.0 ≡ x)) (given-same (x, octets) (y, rest) e)
    (record { whole = refl; each = each }, refl)

pub nothing_for_is : {A : Type 0} (x : A) → IsForm (nothing_for x)
nothing_for_is {A} x = record {
  again = λ y rest fits. ap (λ (z : A). Ok (z, rest)) (sym fits);
  splits = nothing_splits x;
}

-- ---- nothing else than one value

pub record IsOnly {A : Type 0} (f : Form A) (blank : A) (is_blank : A → Bool) : Type 0 where
  pub fits : f.Fits blank
  pub here : is_blank blank ≡ true
  pub only : (x : A) → is_blank x ≡ true → x ≡ blank

blanked_is : (left : ℕ) (b : Bool) (octets : List ℕ) (rest : List ℕ) (u : Unit {0})
    → blanked left b octets ≡ Ok (u, rest) → (b ≡ true) × (octets ≡ rest)
blanked_is left true octets rest u e = (refl, ap (λ (z : Unit {0} × List ℕ). z.1) (given-same (tt, octets) (u, rest) e))
blanked_is left false octets rest u e = absurd cc

only_splits : {A : Type 0} (f : Form A) (blank : A) (is_blank : A → Bool) → IsForm f → IsOnly f blank is_blank
    → (octets : List ℕ) (u : Unit {0}) (rest : List ℕ) → AreOctets octets
    → (nothing_but f blank is_blank).at octets ≡ Ok (u, rest) → Splits octets (f.spelled blank) rest × Unit {0}
only_splits {A} f blank is_blank F B octets u rest each e =
    let c = chained (f.at octets) (λ x. blanked (length octets) (is_blank x.0) x.1) (u, rest) e in
    let b = blanked_is (length octets) (is_blank c.0.0) c.0.1 rest u c.2 in
    let s = F.splits octets c.0.0 c.0.1 each c.1 in
    let front : Splits octets (f.spelled blank) c.0.1 =
    subst (λ (x : A). Splits octets (f.spelled x) c.0.1) (B.only c.0.0 b.0) s.0 in
    (subst (λ (r : List ℕ). Splits octets (f.spelled blank) r) b.1 front, tt)

only_again : {A : Type 0} (f : Form A) (blank : A) (is_blank : A → Bool) → IsForm f → IsOnly f blank is_blank
    → (u : Unit {0}) (rest : List ℕ) → Unit {0}
    → (nothing_but f blank is_blank).at (f.spelled blank ++ rest) ≡ Ok (tt, rest)
only_again f blank is_blank F B u rest fits = rw (F.again blank rest B.fits, B.here) refl

pub nothing_but_is : {A : Type 0} (f : Form A) (blank : A) (is_blank : A → Bool) → IsForm f → IsOnly f blank is_blank
    → IsForm (nothing_but f blank is_blank)
nothing_but_is f blank is_blank F B =
    record { again = only_again f blank is_blank F B; splits = only_splits f blank is_blank F B }

-- ---- values that are made of others

variant_splits : {A B : Type 0} (f : Form A) (make : A → B) (parts : B → A) → IsForm f
    → ((x : A) → parts (make x) ≡ x) → (octets : List ℕ) (y : B) (rest : List ℕ) → AreOctets octets
    → (variant f make parts).at octets ≡ Ok (y, rest)
    → Splits octets (f.spelled (parts y)) rest × (f.Fits (parts y) × (make (parts y) ≡ y))
variant_splits {A} {B} f make parts F back octets y rest each e =
    let c = chained (f.at octets) (λ x. Ok (make x.0, x.1)) (y, rest) e in
    let s = F.splits octets c.0.0 c.0.1 each c.1 in
    let at_make : Splits octets (f.spelled (parts (make c.0.0))) c.0.1
    × (f.Fits (parts (make c.0.0)) × (make (parts (make c.0.0)) ≡ make c.0.0)) = (
      subst (λ (x : A). Splits octets (f.spelled x) c.0.1) (sym (back c.0.0)) s.0,
      (subst (λ (x : A). f.Fits x) (sym (back c.0.0)) s.1, ap make (back c.0.0)),
    ) in
    subst (λ (z : B × List ℕ). Splits octets (f.spelled (parts z.0)) z.1
    × (f.Fits (parts z.0) × (make (parts z.0) ≡ z.0)))
    (given-same (make c.0.0, c.0.1) (y, rest) c.2) at_make

variant_again : {A B : Type 0} (f : Form A) (make : A → B) (parts : B → A) → IsForm f → (y : B) (rest : List ℕ)
    → f.Fits (parts y) × (make (parts y) ≡ y) → (variant f make parts).at (f.spelled (parts y) ++ rest) ≡ Ok (y, rest)
variant_again f make parts F y rest h = rw (F.again (parts y) rest h.0, h.1) refl

pub variant_is : {A B : Type 0} (f : Form A) (make : A → B) (parts : B → A) → IsForm f
    → ((x : A) → parts (make x) ≡ x) → IsForm (variant f make parts)
variant_is f make parts F back =
    record { again = variant_again f make parts F; splits = variant_splits f make parts F back }

-- ---- values of a form that goes with a key

keyed_splits : {K A : Type 0} (f : Form K) (g : K → Form A) (key : A → K) → IsForm f → ((k : K) → IsForm (g k))
    → ((k : K) (x : A) → (g k).Fits x → key x ≡ k) → (octets : List ℕ) (x : A) (rest : List ℕ) → AreOctets octets
    → (keyed f g key).at octets ≡ Ok (x, rest)
    → Splits octets (f.spelled (key x) ++ (g (key x)).spelled x) rest × (f.Fits (key x) × (g (key x)).Fits x)
keyed_splits {K} {A} f g key F G has octets x rest each e =
    let c = chained (f.at octets) (λ k. (g k.0).at k.1) (x, rest) e in
    let s = F.splits octets c.0.0 c.0.1 each c.1 in
    let t = (G c.0.0).splits c.0.1 x rest s.0.each c.2 in
    let whole : Splits octets (f.spelled c.0.0 ++ (g c.0.0).spelled x) rest =
    splits-then octets (f.spelled c.0.0) c.0.1 ((g c.0.0).spelled x) rest s.0 t.0 in
    subst (λ (k : K). Splits octets (f.spelled k ++ (g k).spelled x) rest × (f.Fits k × (g k).Fits x))
    (sym (has c.0.0 x t.1)) (whole, (s.1, t.1))

keyed_again : {K A : Type 0} (f : Form K) (g : K → Form A) (key : A → K) → IsForm f → ((k : K) → IsForm (g k))
    → (x : A) (rest : List ℕ) → f.Fits (key x) × (g (key x)).Fits x
    → (keyed f g key).at ((f.spelled (key x) ++ (g (key x)).spelled x) ++ rest) ≡ Ok (x, rest)
keyed_again f g key F G x rest h =
    rw (
      append_assoc (f.spelled (key x)) ((g (key x)).spelled x) rest,
      F.again (key x) ((g (key x)).spelled x ++ rest) h.0,
    ) ((G (key x)).again x rest h.1)

pub keyed_is : {K A : Type 0} (f : Form K) (g : K → Form A) (key : A → K) → IsForm f → ((k : K) → IsForm (g k))
    → ((k : K) (x : A) → (g k).Fits x → key x ≡ k) → IsForm (keyed f g key)
keyed_is f g key F G has = record { again = keyed_again f g key F G; splits = keyed_splits f g key F G has }

-- ---- octets that are listed

found-same : {K : Type 0} (x y : K) → ◌≡◌ {A = Option K} (Some x) (Some y) → x ≡ y
found-same x y e = cc

found_passes : {K : Type 0} (octet : K → ℕ) (o : ℕ) (all : List K) (k : K) → find (λ l. eqb (octet l) o) all ≡ Some k
    → octet k ≡ o
found_passes octet o [] k e = absurd cc
found_passes {K} octet o (first ∷ all) k e =
    by_test (eqb (octet first) o) refl (found_passes octet o all k) e
  where
    by_test : (b : Bool) → eqb (octet first) o ≡ b → (find (λ l. eqb (octet l) o) all ≡ Some k → octet k ≡ o)
        → cond b (Some first) (find (λ l. eqb (octet l) o) all) ≡ Some k → octet k ≡ o
    by_test true is later w = subst (λ (z : K). octet z ≡ o) (found-same first k w) (eqb-true _ _ is)
    by_test false is later w = later w

pub one_listed_is : {K : Type 0} (all : List K) (octet : K → ℕ) → ((k : K) → octet k < 256)
    → ((k : K) → find (λ l. eqb (octet l) (octet k)) all ≡ Some k) → IsForm (one_listed all octet)
one_listed_is {K} all octet small listed =
    standing_for_is an_octet (λ o. find (λ k. eqb (octet k) o) all) octet (λ _. Unit {0}) octet_is
    (record {
      signs = λ k t. small k;
      means = λ k t. listed k;
      one = λ o k e. found_passes octet o all k e;
      fits = λ o k s e. tt;
    })
