-- The keys: what stands before a value, and which key begins so.
use Rattle.std.proofs.Common.{◌≡◌, ℕ, ◌-◌, ◌≤◌, Bool, true, false, cond, eqb, get_or, take, drop, List, [], ◌∷◌, ◌++◌}
use Rattle.std.proofs.Common.{length, Option, Some, refl, sym, ap, ◌∙◌, inl, inr, ◌⊎◌, arith, append_assoc, ◌&&◌, lit≤}
use Rattle.std.specs.List.{find, list_any}
use Rattle.std.specs.Str.{bytes_eq}
use Rattle.std.proofs.lemmas.Bool.{and_parts, and_from, or_cases, or_left, or_right, eqb-true, eq-eqb, cases_Bool}
use Rattle.std.proofs.lemmas.List.{take_rest}
use Rattle.std.proofs.lemmas.Slice.Eq.{bytes_eq-Decides}
use Rattle.mta_name_text.specs.declared.key.Key.{Key}
use Rattle.mta_name_text.specs.declared.key.Key.TheVariants.{Country, Admd, Prmd, Organization, Unit, Surname, Given}
use Rattle.mta_name_text.specs.declared.key.Key.TheVariants.{Initials, Generation, Common, Network, Terminal, User}
use Rattle.mta_name_text.specs.declared.key.Key.TheVariants.{Pair}
use Rattle.mta_name_text.specs.declared.place.Grammar.{Grammar}
use Rattle.mta_name_text.specs.declared.place.Place.{Place}
use Rattle.mta_name_text.specs.Grammar.{follows, is_kind}
use Rattle.mta_name_text.specs.Keys.{keys, lead_of, lead, shape_of}
use Rattle.mta_name_text.specs.Reading.{begins, is_front, named}
use Rattle.mta_name_text.proofs.ShapeLaws.{IsSound}

-- each key's values are sound
pub key_sound : (k : Key) → IsSound (shape_of k)
key_sound Country = tt
key_sound Admd = (lit≤ tt, refl)
key_sound Prmd = (lit≤ tt, refl)
key_sound Organization = (lit≤ tt, refl)
key_sound Unit = (lit≤ tt, refl)
key_sound Surname = (lit≤ tt, refl)
key_sound Given = (lit≤ tt, refl)
key_sound Initials = (lit≤ tt, refl)
key_sound Generation = (lit≤ tt, refl)
key_sound Common = (lit≤ tt, refl)
key_sound Network = (lit≤ tt, refl)
key_sound Terminal = (lit≤ tt, refl)
key_sound User = (lit≤ tt, refl)
key_sound Pair = (lit≤ tt, refl)

-- ---- tests over all keys

abbrev Among : Key → List Key → Type 0
Among k [] = ⊥
Among k (x ∷ xs) = (x ≡ k) ⊎ Among k xs

among_keys : (k : Key) → Among k keys
among_keys Country = inl refl
among_keys Admd = inr (inl refl)
among_keys Prmd = inr (inr (inl refl))
among_keys Organization = inr (inr (inr (inl refl)))
among_keys Unit = inr (inr (inr (inr (inl refl))))
among_keys Surname = inr (inr (inr (inr (inr (inl refl)))))
among_keys Given = inr (inr (inr (inr (inr (inr (inl refl))))))
among_keys Initials = inr (inr (inr (inr (inr (inr (inr (inl refl)))))))
among_keys Generation = inr (inr (inr (inr (inr (inr (inr (inr (inl refl))))))))
among_keys Common = inr (inr (inr (inr (inr (inr (inr (inr (inr (inl refl)))))))))
among_keys Network = inr (inr (inr (inr (inr (inr (inr (inr (inr (inr (inl refl))))))))))
among_keys Terminal = inr (inr (inr (inr (inr (inr (inr (inr (inr (inr (inr (inl refl)))))))))))
among_keys User = inr (inr (inr (inr (inr (inr (inr (inr (inr (inr (inr (inr (inl refl))))))))))))
among_keys Pair = inr (inr (inr (inr (inr (inr (inr (inr (inr (inr (inr (inr (inr (inl refl)))))))))))))

any_among : (test : Key → Bool) (xs : List Key) (k : Key) → Among k xs → test k ≡ true → list_any test xs ≡ true
any_among test [] k h e = absurd h
any_among test (x ∷ xs) k h e =
    elim h [
      | inl same ↦ or_left (test x) (list_any test xs) (ap test same ∙ e)
      | inr other ↦ or_right (test x) (list_any test xs) (any_among test xs k other e)
    ]

some_key : (test : Key → Bool) (xs : List Key) → list_any test xs ≡ true → (k : Key) × (test k ≡ true)
some_key test [] e = absurd cc
some_key test (x ∷ xs) e =
    elim (or_cases (test x) (list_any test xs) e) [
      | inl here ↦ (x, here)
      | inr there ↦ some_key test xs there
    ]

abbrev some : Key → Option Key
some k = Some k

some_is : (j k : Key) → some j ≡ some k → j ≡ k
some_is j k e = cc

found_key : (test : Key → Bool) (xs : List Key) (k : Key) → find test xs ≡ Some k → test k ≡ true
found_key test [] k e = absurd cc
found_key test (x ∷ xs) k e =
    elim (cases_Bool (test x)) [
      | inl here ↦ (let f : some x ≡ Some k = rw here at e in let g : x ≡ k = some_is x k f in ap test (sym g) ∙ here)
      | inr there ↦ (let f : find test xs ≡ Some k = rw there at e in found_key test xs k f)
    ]

-- a key that is not the first
pub find_next : (test : Key → Bool) (ks : List Key) (d : Key) (r : Option Key) → 1 ≤ length ks
    → test (get_or ks 0 d) ≡ false → r ≡ find test (take (length ks - 1) (drop 1 ks)) → r ≡ find test ks
find_next test [] d r l e f = absurd (omega arith)
find_next test (x ∷ xs) d r l e f = f ∙ ap (find test) (take_rest (x ∷ xs) 1) ∙ sym (later (test x) e)
  where
    later : (b : Bool) → b ≡ false → cond b (Some x) (find test xs) ≡ find test xs
    later b g = rw g refl

-- ---- the beginning of a key

pub begins_more : (front : List ℕ) (c : ℕ) (cs : List ℕ) → begins front (front ++ c ∷ cs) ≡ true
begins_more [] c cs = refl
begins_more (d ∷ ds) c cs = and_from (eqb d d) (begins ds (ds ++ c ∷ cs)) (eq-eqb d d refl) (begins_more ds c cs)

pub begins_rest : (front whole : List ℕ) → begins front whole ≡ true → (rest : List ℕ) × (whole ≡ front ++ rest)
begins_rest [] [] e = absurd cc
begins_rest [] (d ∷ ds) e = (d ∷ ds, refl)
begins_rest (c ∷ cs) [] e = absurd cc
begins_rest (c ∷ cs) (d ∷ ds) e =
    let a = and_parts (eqb c d) (begins cs ds) e in
    let same : c ≡ d = eqb-true c d a.0 in
    let r = begins_rest cs ds a.1 in
    (r.0, ap (λ x. x ∷ ds) (sym same) ∙ ap (λ x. c ∷ x) r.1)

-- a key that may stand here begins so
pub record BeginsKey (g : Grammar) (p : Place) (front : List ℕ) : Type 0 where
  pub key : Key
  pub rest : List ℕ
  pub lead_is : lead key ≡ front ++ rest
  pub open_here : follows g p key ≡ true

pub front_key : (g : Grammar) (p : Place) (front : List ℕ) → is_front g p front ≡ true → BeginsKey g p front
unfolding is_front
front_key g p front e =
    let s = some_key (λ k. begins front (lead k) && follows g p k) keys e in
    let a = and_parts (begins front (lead s.0)) (follows g p s.0) s.1 in
    let r = begins_rest front (lead s.0) a.0 in
    record { key = s.0; rest = r.0; lead_is = r.1; open_here = a.1 }

pub key_front : (g : Grammar) (p : Place) (front : List ℕ) (k : Key) (c : ℕ) (cs : List ℕ) → lead k ≡ front ++ c ∷ cs
    → follows g p k ≡ true → is_front g p front ≡ true
unfolding is_front
key_front g p front k c cs e f =
    any_among (λ j. begins front (lead j) && follows g p j) keys k (among_keys k)
    (and_from (begins front (lead k)) (follows g p k) (ap (begins front) e ∙ begins_more front c cs) f)

-- no key begins another
pub lead_front : (g : Grammar) (p : Place) (k : Key) → is_front g p (lead k) ≡ false
unfolding is_front
lead_front g p Country = refl
lead_front g p Admd = refl
lead_front g p Prmd = refl
lead_front g p Organization = refl
lead_front g p Unit = refl
lead_front g p Surname = refl
lead_front g p Given = refl
lead_front g p Initials = refl
lead_front g p Generation = refl
lead_front g p Common = refl
lead_front g p Network = refl
lead_front g p Terminal = refl
lead_front g p User = refl
lead_front g p Pair = refl

pub named_lead : (k : Key) → named (lead k) ≡ Some k
unfolding named
named_lead Country = refl
named_lead Admd = refl
named_lead Prmd = refl
named_lead Organization = refl
named_lead Unit = refl
named_lead Surname = refl
named_lead Given = refl
named_lead Initials = refl
named_lead Generation = refl
named_lead Common = refl
named_lead Network = refl
named_lead Terminal = refl
named_lead User = refl
named_lead Pair = refl

pub named_is : (front : List ℕ) (k : Key) → named front ≡ Some k → lead k ≡ front
unfolding named
named_is front k e = (bytes_eq-Decides (lead k) front).0 (found_key (λ j. bytes_eq (lead j) front) keys k e)

pub lead_some : (k : Key) → (c : ℕ) × (cs : List ℕ) × (lead k ≡ c ∷ cs)
lead_some Country = (_, _, refl)
lead_some Admd = (_, _, refl)
lead_some Prmd = (_, _, refl)
lead_some Organization = (_, _, refl)
lead_some Unit = (_, _, refl)
lead_some Surname = (_, _, refl)
lead_some Given = (_, _, refl)
lead_some Initials = (_, _, refl)
lead_some Generation = (_, _, refl)
lead_some Common = (_, _, refl)
lead_some Network = (_, _, refl)
lead_some Terminal = (_, _, refl)
lead_some User = (_, _, refl)
lead_some Pair = (_, _, refl)

-- ---- what follows a key

abbrev pub tail_of : Bool → List ℕ → List ℕ → List ℕ
tail_of true t v = t ++ 61 ∷ v
tail_of false t v = v

pub lead_tail : (b : Bool) (text t v : List ℕ) → is_kind b t ≡ true → text ++ (t ++ 61 ∷ v) ≡ lead_of b text
    ++ tail_of b t v
lead_tail true text t v h = refl
lead_tail false text [] v h = sym (append_assoc text (61 ∷ []) v)
lead_tail false text (c ∷ t) v h = absurd cc
