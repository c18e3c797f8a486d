-- What a reader of text forms answers, and that what it makes is a name or a pattern.
use Rattle.std.proofs.Common.{◌≡◌, ℕ, ◌+◌, ◌-◌, ◌≤◌, ◌<◌, true, false, cond, eqb, leb, ltb, List, [], ◌∷◌, length}
use Rattle.std.proofs.Common.{Result, Ok, Err, refl, sym, ap, ◌∙◌, inl, inr, arith, ◌&&◌, ◌||◌}
use Rattle.std.proofs.lemmas.Bool.{and_parts, or_cases, eqb-true, ne_eqb, ltb-true, lt-ltb}
use Rattle.mta_names.specs.declared.attributes.Attributes.{Attributes}
use Rattle.mta_name_text.specs.declared.fault.NameFault.{NameFault}
use Rattle.mta_name_text.specs.declared.fault.NameFault.TheVariants as Faults
use Rattle.mta_name_text.specs.declared.key.Key.{Key}
use Rattle.mta_name_text.specs.declared.key.Key.TheVariants as Keys
use Rattle.mta_name_text.specs.declared.part.Part.{Part}
use Rattle.mta_name_text.specs.declared.place.Grammar.TheVariants.{Names, Patterns}
use Rattle.mta_name_text.specs.declared.place.Place.{Place}
use Rattle.mta_name_text.specs.Grammar.{start, behind, is_again, follows, Follow, IsFirstFault}
use Rattle.mta_name_text.specs.Made.{name_of, made, IsTextForm, name_of_text, values_of, IsPattern, IsPatternForm}
use Rattle.mta_name_text.specs.Made.{pattern_of_text}
use Rattle.mta_name_text.specs.Reading.{parts_of_text, Reads, IsReadAs}
use Rattle.mta_name_text.proofs.Again.{form_read, parts_found, first_fault, fault_read}

-- ---- what is made of what is read

abbrev ok : {X : Type 0} → X → Result X ℕ
ok x = Ok x

abbrev failed : {X : Type 0} → ℕ → Result X ℕ
failed at = Err at

pub made_ok : {X : Type 0} (f : List Part → X) (r : Result (List Part) ℕ) (x : X) → made f r ≡ Ok x
    → (parts : List Part) × (r ≡ Ok parts) × (x ≡ f parts)
made_ok f (Ok parts) x e = (parts, refl, (cc))
made_ok f (Err at) x e = absurd cc

pub made_err : {X : Type 0} (f : List Part → X) (r : Result (List Part) ℕ) (at : ℕ) → made f r ≡ Err at → r ≡ Err at
made_err f (Ok parts) at e = absurd cc
made_err f (Err k) at e = cc

pub name_found : (text : List ℕ) (n : Attributes) → name_of_text text ≡ Ok n → IsTextForm text n
unfolding name_of_text
name_found text n e =
    let m = made_ok name_of (parts_of_text Names text) n e in
    record { parts = m.0; form = parts_found Names text m.0 m.1; name_is = m.2 }

pub name_read : (text : List ℕ) (n : Attributes) → IsTextForm text n → name_of_text text ≡ Ok n
unfolding name_of_text
name_read text n h = ap (made name_of) (form_read Names text h.parts h.form) ∙ ap ok (sym h.name_is)

pub name_fault : (text : List ℕ) (at : ℕ) → name_of_text text ≡ Err at → IsFirstFault Names text at
unfolding name_of_text
name_fault text at e = first_fault Names text at (made_err name_of (parts_of_text Names text) at e)

pub fault_of_name : (text : List ℕ) (at : ℕ) → IsFirstFault Names text at → name_of_text text ≡ Err at
unfolding name_of_text
fault_of_name text at f = ap (made name_of) (fault_read Names text at f)

pub pattern_found : (text : List ℕ) (values : List (List ℕ)) → pattern_of_text text ≡ Ok values
    → IsPatternForm text values
unfolding pattern_of_text
pattern_found text values e =
    let m = made_ok values_of (parts_of_text Patterns text) values e in
    record { parts = m.0; form = parts_found Patterns text m.0 m.1; values_are = m.2 }

pub pattern_read : (text : List ℕ) (values : List (List ℕ)) → IsPatternForm text values
    → pattern_of_text text ≡ Ok values
unfolding pattern_of_text
pattern_read text values h = ap (made values_of) (form_read Patterns text h.parts h.form) ∙ ap ok (sym h.values_are)

pub pattern_fault : (text : List ℕ) (at : ℕ) → pattern_of_text text ≡ Err at → IsFirstFault Patterns text at
unfolding pattern_of_text
pattern_fault text at e = first_fault Patterns text at (made_err values_of (parts_of_text Patterns text) at e)

pub fault_of_pattern : (text : List ℕ) (at : ℕ) → IsFirstFault Patterns text at → pattern_of_text text ≡ Err at
unfolding pattern_of_text
fault_of_pattern text at f = ap (made values_of) (fault_read Patterns text at f)

-- ---- what is answered

same_ok : {X : Type 0} (x y : X) → ok x ≡ ok y → x ≡ y
same_ok x y e = cc

not_ok : {X : Type 0} (at : ℕ) (x : X) (r : Result X ℕ) → r ≡ Err at → r ≡ ok x → ⊥
not_ok at x r e f = cc

pub only_read : {X : Type 0} (read : Result X ℕ) (r : Result X NameFault) (x : X) → Reads r read → read ≡ Ok x
    → IsReadAs r x
only_read read (Ok y) x h e = same_ok y x (sym h ∙ e)
only_read read (Err (Faults.NameText at)) x h e = not_ok at x read h e
only_read read (Err Faults.Memory) x h e = tt

abbrev fault : {X : Type 0} → ℕ → Result X NameFault
fault at = Err (Faults.NameText at)

abbrev memory : {X : Type 0} → Result X NameFault
memory = Err Faults.Memory

place_is : {X : Type 0} (k at : ℕ) → fault {X = X} k ≡ fault at → k ≡ at
place_is k at e = cc

memory_is : {X : Type 0} (at : ℕ) → memory {X = X} ≡ fault at → ⊥
memory_is at e = cc

fault_is : {X : Type 0} (x : X) (at : ℕ) (r : Result X NameFault) → r ≡ Ok x → r ≡ fault at → ⊥
fault_is x at r e f = cc

pub fault_read_as : {X : Type 0} (read : Result X ℕ) (r : Result X NameFault) (at : ℕ) → Reads r read
    → r ≡ Err (Faults.NameText at) → read ≡ Err at
fault_read_as read (Ok x) at h e = absurd (fault_is x at (Ok x) refl e)
fault_read_as {X} read (Err (Faults.NameText k)) at h e = h ∙ ap (failed {X = X}) (place_is {X = X} k at e)
fault_read_as {X} read (Err Faults.Memory) at h e = absurd (memory_is {X = X} at e)

-- ---- patterns are short

-- how many parts may still follow
abbrev room : Place → ℕ
room p = (5 - p.last) + p.left + cond (ltb p.last 5) 3 0

closer : (last left place more : ℕ) → (eqb (last + 1) place || (eqb last place && ltb 0 left)) ≡ true → place ≤ 5
    → more + cond (ltb place 5) 3 0 ≡ 3
    → 1 + ((5 - place) + cond (eqb last place) (left - 1) more + cond (ltb place 5) 3 0) ≤ (5 - last) + left + cond
    (ltb last 5) 3 0
closer last left place more h l m =
    elim (or_cases (eqb (last + 1) place) (eqb last place && ltb 0 left) h) [
      | inl next ↦ (
          let e : last + 1 ≡ place = eqb-true (last + 1) place next in
          let other : eqb last place ≡ false = ne_eqb last place (λ f. omega arith) in
          let below : ltb last 5 ≡ true = lt-ltb last 5 (omega arith) in
          rw (other, below) (omega arith))
      | inr again ↦ (
          let a = and_parts (eqb last place) (ltb 0 left) again in
          let e : last ≡ place = eqb-true last place a.0 in
          let some : 0 < left = ltb-true 0 left a.1 in
          let same : cond {A = ℕ} (ltb place 5) 3 0 ≡ cond {A = ℕ} (ltb last 5) 3 0 =
          ap (λ k. cond {A = ℕ} (ltb k 5) 3 0) (sym e) in
          rw a.0 (omega arith))
    ]

closer_key : (k : Key) (p : Place) → follows Patterns p k ≡ true → 1 + room (behind p k) ≤ room p
closer_key Keys.Country p h = closer p.last p.left 1 0 (and_parts _ _ h).0 (omega arith) refl
closer_key Keys.Admd p h = closer p.last p.left 2 0 (and_parts _ _ h).0 (omega arith) refl
closer_key Keys.Prmd p h = closer p.last p.left 3 0 (and_parts _ _ h).0 (omega arith) refl
closer_key Keys.Organization p h = closer p.last p.left 4 0 (and_parts _ _ h).0 (omega arith) refl
closer_key Keys.Unit p h = closer p.last p.left 5 3 (and_parts _ _ h).0 (omega arith) refl
closer_key Keys.Surname p h = let e = (and_parts (eqb (p.last + 1) 6 || is_again p Keys.Surname) (leb 6 5) h).1 in
    absurd cc
closer_key Keys.Given p h = let e = (and_parts (eqb (p.last + 1) 7 || is_again p Keys.Given) (leb 7 5) h).1 in absurd cc
closer_key Keys.Initials p h = let e = (and_parts (eqb (p.last + 1) 8 || is_again p Keys.Initials) (leb 8 5) h).1 in
    absurd cc
closer_key Keys.Generation p h = let e = (and_parts (eqb (p.last + 1) 9 || is_again p Keys.Generation) (leb 9 5) h).1 in
    absurd cc
closer_key Keys.Common p h = let e = (and_parts (eqb (p.last + 1) 10 || is_again p Keys.Common) (leb 10 5) h).1 in
    absurd cc
closer_key Keys.Network p h = let e = (and_parts (eqb (p.last + 1) 11 || is_again p Keys.Network) (leb 11 5) h).1 in
    absurd cc
closer_key Keys.Terminal p h = let e = (and_parts (eqb (p.last + 1) 12 || is_again p Keys.Terminal) (leb 12 5) h).1 in
    absurd cc
closer_key Keys.User p h = let e = (and_parts (eqb (p.last + 1) 13 || is_again p Keys.User) (leb 13 5) h).1 in absurd cc
closer_key Keys.Pair p h = let e = (and_parts (eqb (p.last + 1) 14 || is_again p Keys.Pair) (leb 14 5) h).1 in absurd cc

parts_short : (xs : List Part) (p q : Place) → Follow Patterns p xs q → length xs ≤ room p
parts_short [] p q h = omega arith
parts_short (x ∷ xs) p q h =
    let more = closer_key x.key p h.0 in
    let rest = parts_short xs (behind p x.key) q h.2 in
    omega arith

values_length : (xs : List Part) → length (values_of xs) ≡ length xs
values_length [] = refl
values_length (x ∷ xs) = omega (arith, values_length xs)

pub pattern_fits : (text : List ℕ) (values : List (List ℕ)) → IsPatternForm text values → IsPattern values
pattern_fits text values h =
    let same : length values ≡ length h.parts = ap length h.values_are ∙ values_length h.parts in
    let short : length h.parts ≤ 8 = parts_short h.parts start h.form.last h.form.follow in
    let some : 1 ≤ length h.parts = h.form.some in
    record {
      parts = h.parts;
      last = h.form.last;
      follow = h.form.follow;
      values_are = h.values_are;
      some = omega arith;
      few = omega arith;
    }
