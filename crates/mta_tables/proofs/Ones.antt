-- The one list of a word.
use Rattle.std.proofs.Common.{◌≡◌, ℕ, zero, suc, ◌<◌, Bool, true, false, leb, List, [], ◌∷◌, ◌++◌, length, get_or, set}
use Rattle.std.proofs.Common.{Option, Some, None, refl, sym, ap, subst, ◌∙◌, inl, inr, arith}
use Rattle.std.specs.Prelude.{slice_get, map, ◌&&◌}
use Rattle.std.specs.List.{position, list_any, Any, AllPairs}
use Rattle.std.specs.Str.{bytes_eq}
use Rattle.std.proofs.lemmas.Bool.{cases_Bool, both_ways, and_parts, and_from, cases_order}
use Rattle.std.proofs.lemmas.List.Folds.{Any-from_list_any, list_any-from_Any, list_any_at}
use Rattle.std.proofs.lemmas.List.Quantifiers.{all_pairs_push}
use Rattle.std.proofs.lemmas.Option.{slice_get_within, slice_get_cases, get_or_from_slice_get}
use Rattle.std.proofs.lemmas.Slice.Eq.{bytes_eq-Decides}
use Rattle.mta_names.specs.declared.attributes.Attributes.{Attributes}
use Rattle.mta_tables.specs.declared.entry.MailList.{MailList}
use Rattle.mta_tables.specs.declared.line.ListHead.{ListHead}
use Rattle.mta_tables.specs.Reading.{has_list_word, is_full_from, is_full_list, opened, permitted, joined}
use Rattle.mta_tables.specs.Sameness.{DifferInWord}
use Rattle.mta_tables.proofs.Places.{Passes, position_passes, position_none, any_at, place_is}

-- ---- at most one passes

abbrev pub IsAlone : {X : Type 0} → (X → Bool) → List X → Type 0
IsAlone {X} p xs = (i j : ℕ) (x y : X) → slice_get xs i ≡ Some x → slice_get xs j ≡ Some y → p x ≡ true → p y ≡ true
    → i ≡ j

differ_at : (ls : List MailList) (i j : ℕ) (l m : MailList) → AllPairs DifferInWord ls → slice_get ls i ≡ Some l
    → slice_get ls j ≡ Some m → i < j → l.word ≡ m.word → ⊥
differ_at ls i j l m h e f lt same =
    let a = h i j l lt (slice_get_within ls j m f) in
    let earlier = get_or_from_slice_get ls i l l e in
    let later = get_or_from_slice_get ls j m l f in
    a (ap (λ (x : MailList). x.word) earlier ∙ same ∙ ap (λ (x : MailList). x.word) (sym later))

pub words_alone : (word : List ℕ) (ls : List MailList) → AllPairs DifferInWord ls → IsAlone (has_list_word word) ls
words_alone word ls h i j l m e f p q =
    let same : l.word ≡ m.word = (bytes_eq-Decides l.word word).0 p ∙ sym ((bytes_eq-Decides m.word word).0 q) in
    elim (cases_order i j) [
      | inl s ↦ s
      | inr (inl lt) ↦ absurd (differ_at ls i j l m h e f lt same)
      | inr (inr lt) ↦ absurd (differ_at ls j i m l h f e lt (sym same))
    ]

pub words_more : (ls : List MailList) (h : ListHead) → AllPairs DifferInWord ls
    → list_any (has_list_word h.word) ls ≡ false → AllPairs DifferInWord (ls ++ opened h ∷ [])
words_more ls h apart none =
    all_pairs_push DifferInWord ls (opened h) apart
    (λ k d l same. both_ways (list_any (has_list_word h.word) ls) none
    (list_any_at (has_list_word h.word) ls k d l ((bytes_eq-Decides (get_or ls k d).word h.word).1 same)))

-- ---- what the one has

any_both : {X : Type 0} (p q : X → Bool) (xs : List X) → list_any (λ x. p x && q x) xs ≡ true → (i : ℕ)
    × ((x : X) × ((slice_get xs i ≡ Some x) × ((p x ≡ true) × (q x ≡ true))))
any_both p q xs h =
    let a = Any-from_list_any (λ x. p x && q x) xs h in
    let both = and_parts (p a.1) (q a.1) a.4 in
    elim ((slice_get_cases xs a.0).1) [
      | inl f ↦ (
          let same : f.0 ≡ a.1 = sym (get_or_from_slice_get xs a.0 f.0 a.1 f.2) ∙ a.3 in
          (a.0, (f.0, (f.2, (ap p same ∙ both.0, ap q same ∙ both.1)))))
      | inr g ↦ (let w = a.2 in absurd (omega (arith, g.0)))
    ]

is_false : (b : Bool) → (b ≡ true → ⊥) → b ≡ false
is_false true h = absurd (h refl)
is_false false h = refl

pub none_full : {X : Type 0} (p q : X → Bool) (xs : List X) → position p xs ≡ None
    → list_any (λ x. p x && q x) xs ≡ false
none_full p q xs e = is_false (list_any (λ x. p x && q x) xs)
    (λ h. (let a = any_both p q xs h in position_none p xs a.0 e (a.1.0, a.1.1.0, a.1.1.1.0)))

some_is : {X : Type 0} (x y : X) → Some x ≡ Some y → x ≡ y
some_is x y e = cc

pub one_full : {X : Type 0} (p q : X → Bool) (xs : List X) (i : ℕ) (x : X) → IsAlone p xs → position p xs ≡ Some i
    → slice_get xs i ≡ Some x → list_any (λ x. p x && q x) xs ≡ q x
one_full p q xs i x alone e at =
    let f = position_passes p xs i e in
    let same : f.0 ≡ x = some_is f.0 x (sym f.1 ∙ at) in
    let passes : p x ≡ true = ap p (sym same) ∙ f.2 in
    elim (cases_Bool (q x)) [
      | inl holds ↦ list_any-from_Any (λ x. p x && q x) xs
          (any_at (λ x. (p x && q x) ≡ true) xs i x at (and_from (p x) (q x) passes holds)) ∙ sym holds
      | inr other ↦ (
          is_false (list_any (λ x. p x && q x) xs) (λ h. (
          let a = any_both p q xs h in
          let place : a.0 ≡ i = alone a.0 i a.1.0 x a.1.1.0 at a.1.1.1.0 passes in
          let there : slice_get xs i ≡ Some a.1.0 = ap (slice_get xs) (sym place) ∙ a.1.1.0 in
          let one : a.1.0 ≡ x = some_is a.1.0 x (sym there ∙ at) in
          both_ways (q x) other (ap q (sym one) ∙ a.1.1.1.1)))
          ∙ sym other)
    ]

-- ---- changing the one

same_all : {X : Type 0} (f : X → X) (xs : List X) → ((j : ℕ) (y : X) → slice_get xs j ≡ Some y → f y ≡ y)
    → map f xs ≡ xs
same_all f [] h = refl
same_all f (x ∷ xs) h =
    let a = h 0 x refl in
    let b = same_all f xs (λ j y e. h (suc j) y e) in
    rw (a, b) refl

pub set_one : {X : Type 0} (f : X → X) (xs : List X) (i : ℕ) (x : X) → slice_get xs i ≡ Some x
    → ((j : ℕ) (y : X) → slice_get xs j ≡ Some y → (j ≡ i → ⊥) → f y ≡ y) → map f xs ≡ set xs i (f x)
set_one f [] i x e h = absurd cc
set_one f (y ∷ ys) zero x e h =
    let same : y ≡ x = some_is y x e in
    let rest = same_all f ys (λ j z at. h (suc j) z at (λ k. absurd (omega arith))) in
    rw (rest, same) refl
set_one f (y ∷ ys) (suc i) x e h =
    let first = h 0 y refl (λ k. absurd (omega arith)) in
    let rest = set_one f ys i x e (λ j z at other. h (suc j) z at (λ k. other (omega arith))) in
    rw (first, rest) refl

other_word : (word : List ℕ) (p : List (List ℕ)) (l : MailList) → has_list_word word l ≡ false → permitted word p l ≡ l
other_word word p l h = rw h refl

other_member : (word : List ℕ) (n : Attributes) (l : MailList) → has_list_word word l ≡ false → joined word n l ≡ l
other_member word n l h = rw h refl

-- what does not pass is at another place
not_there : {X : Type 0} (p : X → Bool) (xs : List X) (i j : ℕ) (x y : X) → IsAlone p xs → slice_get xs i ≡ Some x
    → p x ≡ true → slice_get xs j ≡ Some y → (j ≡ i → ⊥) → p y ≡ false
not_there p xs i j x y alone at passes there other = is_false (p y) (λ h. other (alone j i y x there at h passes))

pub permitted_one : (word : List ℕ) (p : List (List ℕ)) (ls : List MailList) (i : ℕ) (l : MailList)
    → IsAlone (has_list_word word) ls → position (has_list_word word) ls ≡ Some i → slice_get ls i ≡ Some l
    → map (permitted word p) ls ≡ set ls i (record l { from = l.from ++ p ∷ [] })
permitted_one word p ls i l alone e at =
    let f = position_passes (has_list_word word) ls i e in
    let same : f.0 ≡ l = some_is f.0 l (sym f.1 ∙ at) in
    let passes : has_list_word word l ≡ true = ap (has_list_word word) (sym same) ∙ f.2 in
    let here : permitted word p l ≡ record l { from = l.from ++ p ∷ [] } = rw passes refl in
    set_one (permitted word p) ls i l at
    (λ j m there other. other_word word p m (not_there (has_list_word word) ls i j l m alone at passes there other))
    ∙ ap (set ls i) here

pub joined_one : (word : List ℕ) (n : Attributes) (ls : List MailList) (i : ℕ) (l : MailList)
    → IsAlone (has_list_word word) ls → position (has_list_word word) ls ≡ Some i → slice_get ls i ≡ Some l
    → map (joined word n) ls ≡ set ls i (record l { members = l.members ++ n ∷ [] })
joined_one word n ls i l alone e at =
    let f = position_passes (has_list_word word) ls i e in
    let same : f.0 ≡ l = some_is f.0 l (sym f.1 ∙ at) in
    let passes : has_list_word word l ≡ true = ap (has_list_word word) (sym same) ∙ f.2 in
    let here : joined word n l ≡ record l { members = l.members ++ n ∷ [] } = rw passes refl in
    set_one (joined word n) ls i l at
    (λ j m there other. other_member word n m
    (not_there (has_list_word word) ls i j l m alone at passes there other)) ∙ ap (set ls i) here

pub permitted_none : (word : List ℕ) (p : List (List ℕ)) (ls : List MailList) → position (has_list_word word) ls ≡ None
    → map (permitted word p) ls ≡ ls
permitted_none word p ls e = same_all (permitted word p) ls
    (λ j m at. other_word word p m (is_false (has_list_word word m)
    (λ h. position_none (has_list_word word) ls j e (m, at, h))))

pub joined_none : (word : List ℕ) (n : Attributes) (ls : List MailList) → position (has_list_word word) ls ≡ None
    → map (joined word n) ls ≡ ls
joined_none word n ls e = same_all (joined word n) ls
    (λ j m at. other_member word n m
    (is_false (has_list_word word m) (λ h. position_none (has_list_word word) ls j e (m, at, h))))

pub at_index : {X : Type 0} (xs : List X) (i : ℕ) (x : X) → i < length xs → x ≡ get_or xs i x → slice_get xs i ≡ Some x
at_index xs i x l e =
    elim ((slice_get_cases xs i).1) [
      | inl f ↦ f.2 ∙ ap (λ y. Some y) (sym (e ∙ get_or_from_slice_get xs i f.0 x f.2))
      | inr g ↦ absurd (omega (arith, g.0))
    ]
