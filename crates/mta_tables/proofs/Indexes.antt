-- What is found by an index is what a scan finds.
use Rattle.std.proofs.Common.{◌≡◌, ℕ, zero, suc, ◌<◌, Bool, true, false, cond, List, [], ◌∷◌, ◌++◌, length, set, Option}
use Rattle.std.proofs.Common.{Some, None, refl, sym, ap, subst, ◌∙◌, ◌⊎◌, inl, inr}
use Rattle.std.specs.Prelude.{slice_get, is_some}
use Rattle.std.specs.List.{position, list_any}
use Rattle.std.specs.Str.{bytes_eq}
use Rattle.std.proofs.lemmas.Bool.{cases_Bool}
use Rattle.std.proofs.lemmas.List.Folds.{list_any-from_Any}
use Rattle.std.proofs.lemmas.Slice.Eq.{bytes_eq-Decides}
use Rattle.mta_names.specs.declared.attributes.Attributes.{Attributes}
use Rattle.mta_names.specs.Normal.{is_same_name, is_same_texts, is_same_text, normal_text}
use Rattle.mta_names.proofs.NormalLaws.{name_decides, list_decides, text_decides}
use Rattle.mta_name_digest.specs.Digests.{name_digest, texts_digest}
use Rattle.mta_name_digest.specs.Places.{PlacesValue, place_of, Adds}
use Rattle.mta_tables.specs.Indexes.{IsIndex, passes_in, passes_at, checked, word_digest, digest_of_name}
use Rattle.mta_tables.specs.Indexes.{pattern_digest}
use Rattle.mta_tables.proofs.Places.{some_place, Passes, place_is, position_passes, position_none, cases_option}
use Rattle.mta_tables.proofs.Places.{at_more, any_at}

-- ---- one place more

some_is : {X : Type 0} (x y : X) → Some x ≡ Some y → x ≡ y
some_is x y e = cc

none_some : (i : ℕ) (o : Option ℕ) → o ≡ None → o ≡ some_place i → ⊥
none_some i o e f = absurd cc

apart_from : (old : PlacesValue) (d e i : ℕ) → place_of old d ≡ None → place_of old e ≡ Some i → d ≡ e → ⊥
apart_from old d e i free there same = none_some i (place_of old e) (ap (place_of old) (sym same) ∙ free) there

-- what was in the index is in it still
pub index_kept : {X : Type 0} (digest : X → ℕ) (xs : List X) (d place : ℕ) (old new : PlacesValue)
    → IsIndex digest xs old → (new.whole ≡ true → Adds old d place new) → IsIndex digest xs new
index_kept digest xs d place old new h adds w i y e =
    let a = adds w in
    let o = h a.whole i y e in
    a.others (digest y) (apart_from old d (digest y) i a.free o) ∙ o

pub index_more : {X : Type 0} (digest : X → ℕ) (xs : List X) (x : X) (old new : PlacesValue) → IsIndex digest xs old
    → (new.whole ≡ true → Adds old (digest x) (length xs) new) → IsIndex digest (xs ++ x ∷ []) new
index_more {X} digest xs x old new h adds w i y e = at (at_more xs x i y e)
  where
    at : (slice_get xs i ≡ Some y) ⊎ ((i ≡ length xs) × (y ≡ x)) → place_of new (digest y) ≡ Some i
    at (inl k) = index_kept digest xs (digest x) (length xs) old new h adds w i y k
    at (inr k) = (let a = adds w in ap (λ z. place_of new (digest z)) k.1 ∙ a.here ∙ ap some_place (sym k.0))

-- the same, where the digest and the place that were added are known by equations
pub index_put : {X : Type 0} (digest : X → ℕ) (xs : List X) (x : X) (d place : ℕ) (old new : PlacesValue) → d ≡ digest x
    → place ≡ length xs → IsIndex digest xs old → (new.whole ≡ true → Adds old d place new)
    → IsIndex digest (xs ++ x ∷ []) new
index_put digest xs x d place old new e f h adds =
    index_more digest xs x old new h
    (λ w. subst (λ k. Adds old (digest x) k new) f (subst (λ k. Adds old k place new) e (adds w)))

pub index_empty : {X : Type 0} (digest : X → ℕ) (places : PlacesValue) → IsIndex digest [] places
index_empty digest places w i x e = absurd cc

-- ---- one changed

at_set : {X : Type 0} (xs : List X) (i : ℕ) (x y : X) (j : ℕ) (z : X) → slice_get xs i ≡ Some x
    → slice_get (set xs i y) j ≡ Some z → ((j ≡ i) × (z ≡ y)) ⊎ (slice_get xs j ≡ Some z)
at_set [] i x y j z e f = absurd cc
at_set (a ∷ xs) zero x y zero z e f = inl (refl, sym (some_is y z f))
at_set (a ∷ xs) zero x y (suc j) z e f = inr f
at_set (a ∷ xs) (suc i) x y zero z e f = inr f
at_set (a ∷ xs) (suc i) x y (suc j) z e f =
    elim (at_set xs i x y j z e f) [ inl h ↦ inl (ap suc h.0, h.1) | inr h ↦ inr h ]

pub index_set : {X : Type 0} (digest : X → ℕ) (xs : List X) (i : ℕ) (x y : X) (places : PlacesValue)
    → IsIndex digest xs places → slice_get xs i ≡ Some x → digest y ≡ digest x → IsIndex digest (set xs i y) places
index_set {X} digest xs i x y places h there same w j z f =
    elim (at_set xs i x y j z there f) [
      | inl k ↦ ap (λ v. place_of places (digest v)) k.1 ∙ ap (place_of places) same ∙ h w i x there
          ∙ ap some_place (sym k.0)
      | inr k ↦ h w j z k
    ]

-- ---- looking up

-- what passes has the digest
abbrev pub HaveDigest : {X : Type 0} → (X → Bool) → (X → ℕ) → ℕ → Type 0
HaveDigest {X} p digest d = (x : X) → p x ≡ true → digest x ≡ d

in_option : {X : Type 0} (p : X → Bool) (xs : List X) (i : ℕ) (o : Option X) → slice_get xs i ≡ o → passes_in p o ≡ true
    → Passes p xs i
in_option p xs i None e h = absurd cc
in_option p xs i (Some x) e h = (x, e, h)

at_place : {X : Type 0} (p : X → Bool) (xs : List X) (i : ℕ) → passes_at p xs i ≡ true → Passes p xs i
at_place p xs i h = in_option p xs i (slice_get xs i) refl h

passing : {X : Type 0} (p : X → Bool) (xs : List X) (i : ℕ) → Passes p xs i → passes_at p xs i ≡ true
passing p xs i h = ap (passes_in p) h.1 ∙ h.2

-- the place that is said is the one of the first that passes
said_is : {X : Type 0} (p : X → Bool) (digest : X → ℕ) (d : ℕ) (xs : List X) (places : PlacesValue)
    → IsIndex digest xs places → places.whole ≡ true → HaveDigest p digest d
    → (i : ℕ) → position p xs ≡ Some i → place_of places d ≡ Some i
said_is p digest d xs places h w k i e =
    let y = position_passes p xs i e in
    ap (place_of places) (sym (k y.0 y.2)) ∙ h w i y.0 y.1

checked_some : {X : Type 0} (p : X → Bool) (xs : List X) (i : ℕ) → Passes p xs i → checked p xs (Some i) ≡ Some i
checked_some p xs i h = (let t = passing p xs i h in rw t refl)

checked_none : {X : Type 0} (p : X → Bool) (xs : List X) → position p xs ≡ None → (o : Option ℕ) → checked p xs o ≡ None
checked_none p xs e None = refl
checked_none p xs e (Some i) = elim (cases_Bool (passes_at p xs i)) [
  | inl h ↦ absurd (position_none p xs i e (at_place p xs i h))
  | inr h ↦ rw h refl
]

-- looking up by an index that is whole is scanning
pub looked_up : {X : Type 0} (p : X → Bool) (digest : X → ℕ) (d : ℕ) (xs : List X) (places : PlacesValue)
    → IsIndex digest xs places → places.whole ≡ true → HaveDigest p digest d
    → checked p xs (place_of places d) ≡ position p xs
looked_up p digest d xs places h w k = elim (cases_option (position p xs)) [
  | inl e ↦ checked_none p xs e (place_of places d) ∙ sym e
  | inr f ↦ (
      let said = said_is p digest d xs places h w k f.0 f.1 in
      ap (checked p xs) said ∙ checked_some p xs f.0 (position_passes p xs f.0 f.1) ∙ sym f.1)
]

-- what a look-up answers: the place that was said for the digest, where what stands there passes
pub found_by : {X : Type 0} (p : X → Bool) (digest : X → ℕ) (d : ℕ) (xs ys : List X) (places : PlacesValue)
    (said result : Option ℕ) → xs ≡ ys → IsIndex digest xs places → places.whole ≡ true → HaveDigest p digest d
    → said ≡ place_of places d → result ≡ checked p ys said → result ≡ position p ys
found_by {X} p digest d xs ys places said result same h w k s r =
    r ∙ ap (checked p ys) s ∙ subst (λ (zs : List X). checked p zs (place_of places d) ≡ position p zs) same
    (looked_up p digest d xs places h w k)

is_false : (b : Bool) → (b ≡ true → ⊥) → b ≡ false
is_false true h = absurd (h refl)
is_false false h = refl

any_where : {X : Type 0} (p : X → Bool) (xs : List X) → list_any p xs ≡ true → (i : ℕ) × Passes p xs i
any_where p [] h = absurd cc
any_where p (x ∷ xs) h = elim (cases_Bool (p x)) [
  | inl t ↦ (0, (x, refl, t))
  | inr f ↦ (let rest = any_where p xs (rw f at h) in (suc rest.0, rest.1))
]

-- one passes where there is a place of one
pub position_any : {X : Type 0} (p : X → Bool) (xs : List X) → is_some (position p xs) ≡ list_any p xs
position_any p xs = elim (cases_option (position p xs)) [
  | inl e ↦ ap is_some e ∙ sym (is_false (list_any p xs)
      (λ h. (let a = any_where p xs h in position_none p xs a.0 e a.1)))
  | inr f ↦ (let x = position_passes p xs f.0 f.1 in ap is_some f.1
      ∙ sym (list_any-from_Any p xs (any_at (λ y. p y ≡ true) xs f.0 x.0 x.1 x.2)))
]

-- ---- digests of what is the same

pub same_name_digest : (m n : Attributes) → is_same_name m n ≡ true → digest_of_name m ≡ digest_of_name n
same_name_digest m n h = ap name_digest ((name_decides m n).0 h)

pub same_word_digest : (v w : List ℕ) → bytes_eq v w ≡ true → word_digest v ≡ word_digest w
same_word_digest v w h = ap word_digest ((bytes_eq-Decides v w).0 h)

pub same_pattern_digest : (p q : List (List ℕ)) → is_same_texts p q ≡ true → pattern_digest p ≡ pattern_digest q
same_pattern_digest p q h = ap (texts_digest 0) ((list_decides is_same_text normal_text text_decides p q).0 h)
