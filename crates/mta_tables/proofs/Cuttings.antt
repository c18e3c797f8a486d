-- A text is cut at a separator where it has one.
use Rattle.std.proofs.Common.{◌≡◌, ◌≢◌, ℕ, suc, ◌+◌, ◌<◌, Bool, true, false, cond, eqb, List, [], ◌∷◌, ◌++◌, length}
use Rattle.std.proofs.Common.{get_or, take, drop, Option, Some, None, refl, sym, ap, subst, ◌∙◌, inl, inr, add-one}
use Rattle.std.proofs.Common.{drop-cons}
use Rattle.std.proofs.lemmas.List.{take-append-drop}
use Rattle.std.specs.Prelude.{All}
use Rattle.std.specs.List.{list_all}
use Rattle.std.proofs.lemmas.Bool.{cases_Bool, and_parts, eqb-true, eqb-false, eq-eqb, ne_eqb}
use Rattle.std.proofs.lemmas.List.Elements.{All-nil, All-cons, All-head, All-tail}
use Rattle.mta_tables.specs.Grammar.{HasNo}
use Rattle.mta_tables.specs.Words.{cut_at, cut_before, cut_last}

-- ---- at the first separator

pub cut_made : (s : ℕ) (front rest : List ℕ) → HasNo s front → cut_at s (front ++ s ∷ rest) ≡ (front, Some rest)
cut_made s [] rest h = (let e : eqb s s ≡ true = eq-eqb s s refl in rw e refl)
cut_made s (c ∷ cs) rest h =
    let other : eqb c s ≡ false = ne_eqb c s (All-head (λ x. x ≢ s) c cs h) in
    let r = cut_made s cs rest (All-tail (λ x. x ≢ s) c cs h) in
    rw (other, r) refl

pub cut_none : (s : ℕ) (text : List ℕ) → HasNo s text → cut_at s text ≡ (text, None)
cut_none s [] h = refl
cut_none s (c ∷ cs) h =
    let other : eqb c s ≡ false = ne_eqb c s (All-head (λ x. x ≢ s) c cs h) in
    let r = cut_none s cs (All-tail (λ x. x ≢ s) c cs h) in
    rw (other, r) refl

pub cut_clean : (s : ℕ) (text : List ℕ) → HasNo s (cut_at s text).0
cut_clean s [] = All-nil (λ x. x ≢ s)
cut_clean s (c ∷ cs) =
    elim (cases_Bool (eqb c s)) [
      | inl same ↦ rw same (All-nil (λ x. x ≢ s))
      | inr other ↦ rw other (All-cons (λ x. x ≢ s) c (cut_at s cs).0 (eqb-false c s other) (cut_clean s cs))
    ]

-- a text of its parts
abbrev pub rejoined : ℕ → List ℕ → Option (List ℕ) → List ℕ
rejoined s front None = front
rejoined s front (Some rest) = front ++ s ∷ rest

rejoined_more : (s c : ℕ) (front : List ℕ) (rest : Option (List ℕ)) → c ∷
    rejoined s front rest ≡ rejoined s (c ∷ front) rest
rejoined_more s c front None = refl
rejoined_more s c front (Some rest) = refl

pub cut_back : (s : ℕ) (text : List ℕ) → text ≡ rejoined s (cut_at s text).0 (cut_at s text).1
cut_back s [] = refl
cut_back s (c ∷ cs) =
    elim (cases_Bool (eqb c s)) [
      | inl same ↦ rw same (ap (λ x. x ∷ cs) (eqb-true c s same))
      | inr other ↦ rw other (ap (λ x. c ∷ x) (cut_back s cs) ∙ rejoined_more s c (cut_at s cs).0 (cut_at s cs).1)
    ]

-- ---- at the last separator

pub last_none : (s : ℕ) (text : List ℕ) → HasNo s text → cut_last s text ≡ (None, text)
last_none s [] h = refl
last_none s (c ∷ cs) h =
    let other : eqb c s ≡ false = ne_eqb c s (All-head (λ x. x ≢ s) c cs h) in
    let r = last_none s cs (All-tail (λ x. x ≢ s) c cs h) in
    rw (r, other) refl

pub last_made : (s : ℕ) (front last : List ℕ) → HasNo s last → cut_last s (front ++ s ∷ last) ≡ (Some front, last)
last_made s [] last h =
    let r = last_none s last h in
    let e : eqb s s ≡ true = eq-eqb s s refl in
    rw (r, e) refl
last_made s (c ∷ cs) last h = (let r = last_made s cs last h in rw r refl)

-- a text of its parts
abbrev pub rejoined_last : ℕ → Option (List ℕ) → List ℕ → List ℕ
rejoined_last s None last = last
rejoined_last s (Some front) last = front ++ s ∷ last

before_back : (s c : ℕ) (cs : List ℕ) (o : Option (List ℕ)) (last : List ℕ) → cs ≡ rejoined_last s o last → c ∷
    cs ≡ rejoined_last s (cut_before s c cs o last).0 (cut_before s c cs o last).1
before_back s c cs (Some front) last e = ap (λ x. c ∷ x) e
before_back s c cs None last e =
    elim (cases_Bool (eqb c s)) [
      | inl same ↦ rw same (ap (λ x. x ∷ cs) (eqb-true c s same))
      | inr other ↦ rw other refl
    ]

pub last_back : (s : ℕ) (text : List ℕ) → text ≡ rejoined_last s (cut_last s text).0 (cut_last s text).1
last_back s [] = refl
last_back s (c ∷ cs) = before_back s c cs (cut_last s cs).0 (cut_last s cs).1 (last_back s cs)

before_clean : (s c : ℕ) (cs : List ℕ) (o : Option (List ℕ)) (last : List ℕ) → cs ≡ rejoined_last s o last
    → HasNo s last → HasNo s (cut_before s c cs o last).1
before_clean s c cs (Some front) last e h = h
before_clean s c cs None last e h =
    let all : HasNo s cs = subst (HasNo s) (sym e) h in
    elim (cases_Bool (eqb c s)) [
      | inl same ↦ rw same all
      | inr other ↦ rw other (All-cons (λ x. x ≢ s) c cs (eqb-false c s other) all)
    ]

pub last_clean : (s : ℕ) (text : List ℕ) → HasNo s (cut_last s text).1
last_clean s [] = All-nil (λ x. x ≢ s)
last_clean s (c ∷ cs) = before_clean s c cs (cut_last s cs).0 (cut_last s cs).1 (last_back s cs) (last_clean s cs)

-- the separator at a place behind which there is none is the last
pub last_found : (s : ℕ) (text : List ℕ) (i : ℕ) → i < length text → get_or text i 0 ≡ s → HasNo s (drop (i + 1) text)
    → cut_last s text ≡ (Some (take i text), drop (i + 1) text)
last_found s text i lt e none =
    let next : drop i text ≡ s ∷ drop (i + 1) text =
    rw add-one (drop-cons text i 0 lt ∙ ap (λ x. x ∷ drop (suc i) text) e) in
    let whole : text ≡ take i text ++ s ∷ drop (i + 1) text = sym (take-append-drop i text)
    ∙ ap (λ r. take i text ++ r) next in
    ap (cut_last s) whole ∙ last_made s (take i text) (drop (i + 1) text) none

-- a character before it that is none
pub none_before : (s : ℕ) (text : List ℕ) (i : ℕ) → i < length text → get_or text i 0 ≢ s → HasNo s (drop (i + 1) text)
    → HasNo s (drop i text)
none_before s text i lt e none =
    let next : drop i text ≡ get_or text i 0 ∷ drop (i + 1) text = rw add-one (drop-cons text i 0 lt) in
    subst (HasNo s) (sym next) (All-cons (λ x. x ≢ s) (get_or text i 0) (drop (i + 1) text) e none)

-- ---- words have no spaces

pub none_of : (p : ℕ → Bool) (s : ℕ) (text : List ℕ) → p s ≡ false → list_all p text ≡ true → HasNo s text
none_of p s [] lacks h = All-nil (λ x. x ≢ s)
none_of p s (c ∷ cs) lacks h =
    let a = and_parts (p c) (list_all p cs) h in
    All-cons (λ x. x ≢ s) c cs (λ e. (let b = ap p e in absurd (cc (a.0, b, lacks)))) (none_of p s cs lacks a.1)
