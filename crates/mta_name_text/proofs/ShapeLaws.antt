-- What a value may be, and what some value begins with.
use Rattle.std.proofs.Common.{◌≡◌, ℕ, zero, suc, ◌+◌, ◌-◌, ◌≤◌, Bool, true, false, eqb, leb, List, [], ◌∷◌, ◌++◌}
use Rattle.std.proofs.Common.{length, replicate, refl, sym, ap, ◌∙◌, inl, inr, arith, length-append, ◌&&◌}
use Rattle.std.specs.List.{list_all}
use Rattle.std.proofs.lemmas.Bool.{and_parts, and_from, or_cases, or_left, or_right, eqb-true, eq-eqb, leb-true, le-leb}
use Rattle.std.proofs.lemmas.Bool.{cases_Bool}
use Rattle.std.proofs.lemmas.List.{length-replicate}
use Rattle.std.proofs.lemmas.List.Folds.{list_all-append}
use Rattle.mta_ber.specs.Strings.{in_class}
use Rattle.mta_ber.specs.declared.text.TextClass.{TextClass}
use Rattle.mta_ber.specs.declared.text.TextClass.TheVariants.{Numeric, Printable, Ia5}
use Rattle.mta_names.specs.Values.{is_letter, is_digit}
use Rattle.mta_name_text.specs.declared.shape.Shape.{Shape}
use Rattle.mta_name_text.specs.declared.shape.Shape.TheVariants.{Country, Kind, Text}
use Rattle.mta_name_text.specs.Shapes.{is_no_equals, is_value, is_begun}

-- some text is such a value, and no such value has a semicolon
abbrev pub IsSound : Shape → Type 0
IsSound Country = Unit {0}
IsSound Kind = Unit {0}
IsSound (Text class low high) = (low ≤ high) × (in_class class 59 ≡ false)

-- ---- characters

front_all : (p : ℕ → Bool) (v w : List ℕ) → list_all p (v ++ w) ≡ true → list_all p v ≡ true
front_all p v w h = (and_parts (list_all p v) (list_all p w) (sym (list_all-append p v w) ∙ h)).0

front_short : (v w : List ℕ) (n : ℕ) → leb (length (v ++ w)) n ≡ true → leb (length v) n ≡ true
front_short v w n h =
    let m : length (v ++ w) ≤ n = leb-true (length (v ++ w)) n h in
    le-leb (length v) n (omega (arith, length-append v w))

unlike : (p : ℕ → Bool) (s : ℕ) → p s ≡ false → (v : List ℕ) (c : ℕ) → list_all p (v ++ c ∷ []) ≡ true → eqb c s ≡ false
unlike p s none v c h =
    elim (cases_Bool (eqb c s)) [
      | inr other ↦ other
      | inl same ↦
          let a = and_parts (list_all p v) (list_all p (c ∷ [])) (sym (list_all-append p v (c ∷ [])) ∙ h) in
          let b : p c ≡ true = (and_parts (p c) true a.1).0 in
          absurd (cc (b, ap p (eqb-true c s same), none))
    ]

all_of_one : (p : ℕ → Bool) (x n : ℕ) → p x ≡ true → list_all p (replicate n x) ≡ true
all_of_one p x zero h = refl
all_of_one p x (suc n) h = and_from (p x) (list_all p (replicate n x)) h (all_of_one p x n h)

all_behind : (p : ℕ → Bool) (x n : ℕ) (v : List ℕ) → list_all p v ≡ true → p x ≡ true
    → list_all p (v ++ replicate n x) ≡ true
all_behind p x n v h one = list_all-append p v (replicate n x) ∙ and_from _ _ h (all_of_one p x n one)

zero_in : (class : TextClass) → in_class class 48 ≡ true
zero_in Numeric = refl
zero_in Printable = refl
zero_in Ia5 = refl

-- ---- countries

within : (p : ℕ → Bool) (v : List ℕ) (n : ℕ) → (list_all p v && eqb (length v) n) ≡ true
    → (list_all p v && leb (length v) n) ≡ true
within p v n h =
    let a = and_parts (list_all p v) (eqb (length v) n) h in
    let l : length v ≤ n = omega (arith, eqb-true (length v) n a.1) in
    and_from (list_all p v) (leb (length v) n) a.0 (le-leb (length v) n l)

front_within : (p : ℕ → Bool) (v w : List ℕ) (n : ℕ) → (list_all p (v ++ w) && leb (length (v ++ w)) n) ≡ true
    → (list_all p v && leb (length v) n) ≡ true
front_within p v w n h =
    let a = and_parts (list_all p (v ++ w)) (leb (length (v ++ w)) n) h in
    and_from (list_all p v) (leb (length v) n) (front_all p v w a.0) (front_short v w n a.1)

filled : (p : ℕ → Bool) (x n : ℕ) (v : List ℕ) → p x ≡ true → (list_all p v && leb (length v) n) ≡ true
    → (list_all p (v ++ replicate (n - length v) x) && eqb (length (v ++ replicate (n - length v) x)) n) ≡ true
filled p x n v one h =
    let a = and_parts (list_all p v) (leb (length v) n) h in
    let l : length v ≤ n = leb-true (length v) n a.1 in
    let m : length (v ++ replicate (n - length v) x) ≡ n =
    omega (arith, length-append v (replicate (n - length v) x), length-replicate (n - length v) x) in
    and_from _ _ (all_behind p x (n - length v) v a.0 one) (eq-eqb _ n m)

-- ---- a text of at least `low` characters

topped_length : (v : List ℕ) (x low : ℕ) → length (v ++ replicate (low - length v) x) ≡ length v + (low - length v)
topped_length v x low = length-append v (replicate (low - length v) x)
    ∙ ap (λ n. length v + n) (length-replicate (low - length v) x)

least : (v : List ℕ) (x low : ℕ) → leb low (length (v ++ replicate (low - length v) x)) ≡ true
least v x low = let e = topped_length v x low in le-leb low _ (omega arith)

most : (v : List ℕ) (x low high : ℕ) → low ≤ high → leb (length v) high ≡ true
    → leb (length (v ++ replicate (low - length v) x)) high ≡ true
most v x low high l h =
    let e = topped_length v x low in
    let m : length v ≤ high = leb-true (length v) high h in
    le-leb _ high (omega arith)

-- ---- values

-- a value begins with itself
pub value_begun : (s : Shape) (v : List ℕ) → is_value s v ≡ true → is_begun s v ≡ true
unfolding is_value is_begun
value_begun Country v h =
    elim (or_cases (list_all is_letter v && eqb (length v) 2) (list_all is_digit v && eqb (length v) 3) h) [
      | inl l ↦ or_left _ _ (within is_letter v 2 l)
      | inr d ↦ or_right _ _ (within is_digit v 3 d)
    ]
value_begun Kind v h =
    let a = and_parts (list_all is_no_equals v && list_all (in_class Printable) v && leb 1 (length v))
    (leb (length v) 8) h in
    and_from _ _ (and_parts (list_all is_no_equals v && list_all (in_class Printable) v) (leb 1 (length v)) a.0).0 a.1
value_begun (Text class low high) v h =
    let a = and_parts (list_all (in_class class) v && leb low (length v)) (leb (length v) high) h in
    and_from _ _ (and_parts (list_all (in_class class) v) (leb low (length v)) a.0).0 a.1

-- what begins a value is begun
pub begun_front : (s : Shape) (v w : List ℕ) → is_begun s (v ++ w) ≡ true → is_begun s v ≡ true
unfolding is_begun
begun_front Country v w h =
    elim (or_cases (list_all is_letter (v ++ w) && leb (length (v ++ w)) 2)
    (list_all is_digit (v ++ w) && leb (length (v ++ w)) 3) h) [
      | inl l ↦ or_left _ _ (front_within is_letter v w 2 l)
      | inr d ↦ or_right _ _ (front_within is_digit v w 3 d)
    ]
begun_front Kind v w h =
    let a = and_parts (list_all is_no_equals (v ++ w) && list_all (in_class Printable) (v ++ w))
    (leb (length (v ++ w)) 8) h in
    let b = and_parts (list_all is_no_equals (v ++ w)) (list_all (in_class Printable) (v ++ w)) a.0 in
    and_from _ _ (and_from _ _ (front_all is_no_equals v w b.0) (front_all (in_class Printable) v w b.1))
    (front_short v w 8 a.1)
begun_front (Text class low high) v w h = front_within (in_class class) v w high h

-- no semicolon is in a value
pub no_semicolon : (s : Shape) (v : List ℕ) (c : ℕ) → IsSound s → is_begun s (v ++ c ∷ []) ≡ true → eqb c 59 ≡ false
unfolding is_begun
no_semicolon Country v c sound h =
    elim (or_cases (list_all is_letter (v ++ c ∷ []) && leb (length (v ++ c ∷ [])) 2)
    (list_all is_digit (v ++ c ∷ []) && leb (length (v ++ c ∷ [])) 3) h) [
      | inl l ↦ unlike is_letter 59 refl v c (and_parts _ _ l).0
      | inr d ↦ unlike is_digit 59 refl v c (and_parts _ _ d).0
    ]
no_semicolon Kind v c sound h =
    unlike (in_class Printable) 59 refl v c
    (and_parts (list_all is_no_equals (v ++ c ∷ [])) (list_all (in_class Printable) (v ++ c ∷ []))
    (and_parts _ _ h).0).1
no_semicolon (Text class low high) v c sound h = unlike (in_class class) 59 sound.1 v c (and_parts _ _ h).0

-- no equals sign is in the type of a domain-defined attribute
pub no_equals : (v : List ℕ) (c : ℕ) → is_begun Kind (v ++ c ∷ []) ≡ true → eqb c 61 ≡ false
unfolding is_begun
no_equals v c h =
    unlike is_no_equals 61 refl v c
    (and_parts (list_all is_no_equals (v ++ c ∷ [])) (list_all (in_class Printable) (v ++ c ∷ []))
    (and_parts _ _ h).0).0

-- nothing begins a value
pub empty_begun : (s : Shape) → is_begun s [] ≡ true
unfolding is_begun
empty_begun Country = refl
empty_begun Kind = refl
empty_begun (Text class low high) = le-leb 0 high (omega arith)

-- what is begun can be completed
pub completed : (s : Shape) (v : List ℕ) → IsSound s → is_begun s v ≡ true → (w : List ℕ) × (is_value s (v ++ w) ≡ true)
unfolding is_value is_begun
completed Country v sound h =
    elim (or_cases (list_all is_letter v && leb (length v) 2) (list_all is_digit v && leb (length v) 3) h) [
      | inl l ↦ (replicate (2 - length v) 65, or_left _ _ (filled is_letter 65 2 v refl l))
      | inr d ↦ (replicate (3 - length v) 48, or_right _ _ (filled is_digit 48 3 v refl d))
    ]
completed Kind v sound h =
    let a = and_parts (list_all is_no_equals v && list_all (in_class Printable) v) (leb (length v) 8) h in
    let b = and_parts (list_all is_no_equals v) (list_all (in_class Printable) v) a.0 in
    let n = 1 - length v in (
      replicate n 48,
      and_from _ _ (and_from _ _
          (and_from _ _ (all_behind is_no_equals 48 n v b.0 refl) (all_behind (in_class Printable) 48 n v b.1 refl))
          (least v 48 1)) (most v 48 1 8 (omega arith) a.1),
    )
completed (Text class low high) v sound h =
    let a = and_parts (list_all (in_class class) v) (leb (length v) high) h in
    let n = low - length v in (
      replicate n 48,
      and_from _ _ (and_from _ _ (all_behind (in_class class) 48 n v a.0 (zero_in class))
          (least v 48 low)) (most v 48 low high sound.0 a.1),
    )
