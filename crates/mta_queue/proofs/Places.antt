-- The places of peers, and their queues.
use Rattle.std.proofs.Common.{◌≡◌, ◌≢◌, ◌≤◌, ◌<◌, ◌+◌, ◌-◌, ℕ, zero, suc, Bool, true, false, cond, eqb, List, [], ◌∷◌}
use Rattle.std.proofs.Common.{◌++◌}
use Rattle.std.proofs.Common.{inl, inr, length, map, Option, Some, None, refl, sym, ap, subst, ◌∙◌, arith}
use Rattle.std.specs.Prelude.{◌⊎◌, ◌↔◌, IfSome, is_some, min, nat_eq, option_map, position, slice_get, slice_set}
use Rattle.std.specs.List.{position_from, position_or_len}
use Rattle.std.specs.Cmp.Lexicographic.{bytes_decides, pointwise}
use mathlib.Core.Bool.{beq}
use Rattle.std.specs.Map.{keys_of, lookup, values_of}
use Rattle.std.proofs.lemmas.Bool.{cases_lt, eq-eqb, eqb-true}
use Rattle.std.proofs.lemmas.Iterator.Adapters.{position_from-zero}
use Rattle.std.proofs.lemmas.Option.{same_Some, slice_get_within}
use Rattle.indexmap.specs.IndexMap.{IndexMap, keys, values, with_value_at}
use Rattle.indexmap.specs.Layout.{set_value_at}
use Rattle.indexmap.proofs.CallerLemmas.{keys-with_value_at}
use Rattle.mta_queue.proofs.Marked.{same_or_not, unequal}
use Rattle.mta_queue.specs.Queue.{QueueValue, count_beside, more_of, waits}
use Rattle.mta_queue.specs.Queues.{Names, PeersValue, place_of, places_at, room_at, room_by, waits_at, waits_by}

-- ---- places

from_map : {A B : Type 0} (f : A → B) (t : B → Bool) (i : ℕ) (xs : List A)
    → position_from (λ x. t (f x)) i xs ≡ position_from t i (map f xs)
from_map f t i [] = refl
from_map f t i (x ∷ xs) = ap (λ (o : Option ℕ). cond (t (f x)) (Some i) o) (from_map f t (i + 1) xs)

-- a search among keys is one among the words that they are seen as
pub place_in : {A : Type 0} (f : A → List ℕ) (word : List ℕ) (xs : List A)
    → position (λ x. pointwise nat_eq word (f x)) xs ≡ place_of (map f xs) word
place_in f word xs =
    position_from-zero (λ x. pointwise nat_eq word (f x)) xs ∙ from_map f (pointwise nat_eq word) 0 xs

-- what a search that began at a place found
record IsFound {A : Type 0} (t : A → Bool) (i : ℕ) (xs : List A) (p : ℕ) : Type 0 where
  far : ℕ
  is : A
  place : p ≡ i + far
  there : slice_get xs far ≡ Some is
  does : t is ≡ true

from_there : {A : Type 0} (t : A → Bool) (i : ℕ) (xs : List A) (p : ℕ) → position_from t i xs ≡ Some p
    → IsFound t i xs p
from_there t i [] p is = absurd cc
from_there t i (x ∷ xs) p is = by_test (t x) refl (λ later. from_there t (i + 1) xs p later) is
  where
    by_test : (b : Bool) → t x ≡ b → (position_from t (i + 1) xs ≡ Some p → IsFound t (i + 1) xs p)
        → cond b (Some i) (position_from t (i + 1) xs) ≡ Some p → IsFound t i (x ∷ xs) p
    by_test true e again is =
        record { far = 0; is = x; place = (let same = same_Some i p is in omega (arith, same)); there = refl; does = e }
    by_test false e again is =
        let later = again is in
        record {
          far = suc later.far;
          is = later.is;
          place = (let at = later.place in omega (arith, at));
          there = later.there;
          does = later.does;
        }

-- at the place of a peer stands its word
pub place_there : (words : List (List ℕ)) (word : List ℕ) (p : ℕ) → place_of words word ≡ Some p
    → slice_get words p ≡ Some word
place_there words word p is =
    let found = from_there (pointwise nat_eq word) 0 words p is in
    let same : word ≡ found.is = (bytes_decides word found.is).0 found.does in
    let at : p ≡ found.far = (let e = found.place in omega (arith, e)) in
    ap (λ (k : ℕ). slice_get words k) at ∙ (found.there ∙ ap Some (sym same))

from_more : {A : Type 0} (t : A → Bool) (i : ℕ) (xs : List A) (y : A) → position_from t i xs ≡ None
    → t y ≡ false → position_from t i (xs ++ y ∷ []) ≡ None
from_more t i [] y is isnt = ap (λ (b : Bool). cond b (Some i) None) isnt
from_more t i (x ∷ xs) y is isnt = by_test (t x) (λ later. from_more t (i + 1) xs y later isnt) is
  where
    by_test : (b : Bool) → (position_from t (i + 1) xs ≡ None → position_from t (i + 1) (xs ++ y ∷ []) ≡ None)
        → cond b (Some i) (position_from t (i + 1) xs) ≡ None
        → cond b (Some i) (position_from t (i + 1) (xs ++ y ∷ [])) ≡ None
    by_test true again is = absurd cc
    by_test false again is = again is

from_fewer : {A : Type 0} (t : A → Bool) (i : ℕ) (xs : List A) (y : A)
    → position_from t i (xs ++ y ∷ []) ≡ None → (position_from t i xs ≡ None) × (t y ≡ false)
from_fewer t i [] y is = (refl, by_test (t y) is)
  where
    by_test : (b : Bool) → cond b (Some i) None ≡ None → b ≡ false
    by_test true is = absurd cc
    by_test false is = refl
from_fewer t i (x ∷ xs) y is = by_test (t x) (λ later. from_fewer t (i + 1) xs y later) is
  where
    by_test : (b : Bool) → (position_from t (i + 1) (xs ++ y ∷ []) ≡ None
        → (position_from t (i + 1) xs ≡ None) × (t y ≡ false))
        → cond b (Some i) (position_from t (i + 1) (xs ++ y ∷ [])) ≡ None
        → (cond b (Some i) (position_from t (i + 1) xs) ≡ None) × (t y ≡ false)
    by_test true again is = absurd cc
    by_test false again is = again is

other_word : (w word : List ℕ) → w ≢ word → pointwise nat_eq w word ≡ false
other_word w word never = by_test (pointwise nat_eq w word) refl
  where
    by_test : (b : Bool) → pointwise nat_eq w word ≡ b → pointwise nat_eq w word ≡ false
    by_test true e = absurd (never ((bytes_decides w word).0 e))
    by_test false e = e

same_word : (w : List ℕ) → pointwise nat_eq w w ≡ true
same_word w = (bytes_decides w w).1 refl

-- one word more
pub names_more : (words : List (List ℕ)) (word : List ℕ) → Names words (words ++ word ∷ []) word
names_more words word w = (
  λ none. (let parts = from_fewer (pointwise nat_eq w) 0 words word none in (parts.0, λ same. differs same parts.1)),
  λ parts. from_more (pointwise nat_eq w) 0 words word parts.0 (other_word w word parts.1),
)
  where
    differs : w ≡ word → pointwise nat_eq w word ≡ false → ⊥
    differs same isnt =
        let does : pointwise nat_eq w word ≡ true =
        subst (λ (x : List ℕ). pointwise nat_eq w x ≡ true) same (same_word w) in
        cc

-- a word that stands there already
pub names_again : (words : List (List ℕ)) (word : List ℕ) → is_some (place_of words word) ≡ true
    → Names words words word
names_again words word there w = (
  λ none. (none, λ same. absent (subst (λ (x : List ℕ). place_of words x ≡ None) same none)),
  λ parts. parts.0,
)
  where
    absent : place_of words word ≡ None → ⊥
    absent none = (let isnt : is_some (place_of words word) ≡ false = ap is_some none in cc)

-- ---- queues

module _ {K : Type 0} where
  pub values_put : (es : List (K × QueueValue)) (i : ℕ) (q : QueueValue)
      → values_of (set_value_at es i q) ≡ slice_set (values_of es) i q
  values_put [] i q = refl
  values_put (e ∷ es) zero q = refl
  values_put (e ∷ es) (suc i) q = ap (λ qs. e.1 ∷ qs) (values_put es i q)

  values_more : (es : List (K × QueueValue)) (k : K) (q : QueueValue)
      → values_of (es ++ (k, q) ∷ []) ≡ values_of es ++ q ∷ []
  values_more [] k q = refl
  values_more (e ∷ es) k q = ap (λ qs. e.1 ∷ qs) (values_more es k q)

  words_more : (f : K → List ℕ) (es : List (K × QueueValue)) (k : K) (q : QueueValue)
      → map f (keys_of (es ++ (k, q) ∷ [])) ≡ map f (keys_of es) ++ f k ∷ []
  words_more f [] k q = refl
  words_more f (e ∷ es) k q = ap (λ ws. f e.0 ∷ ws) (words_more f es k q)

  pub length_values : (es : List (K × QueueValue)) → length (values_of es) ≡ length es
  length_values [] = refl
  length_values (e ∷ es) = ap suc (length_values es)

  pub value_at : (es : List (K × QueueValue)) (i : ℕ)
      → slice_get (values_of es) i ≡ option_map (λ (e : K × QueueValue). e.1) (slice_get es i)
  value_at [] i = refl
  value_at (e ∷ es) zero = refl
  value_at (e ∷ es) (suc i) = value_at es i

-- a queue more in which nothing waits
more_queues : (queues : List QueueValue) (q : QueueValue) (p i : ℕ) → waits q i ≡ 0
    → waits_at (queues ++ q ∷ []) p i ≡ waits_at queues p i
more_queues [] q zero i none = none
more_queues [] q (suc p) i none = refl
more_queues (x ∷ queues) q zero i none = refl
more_queues (x ∷ queues) q (suc p) i none = more_queues queues q p i none

put_same_place : (queues : List QueueValue) (place : ℕ) (new : QueueValue) → place < length queues
    → slice_get (slice_set queues place new) place ≡ Some new
put_same_place [] place new within = absurd (omega (arith, within))
put_same_place (q ∷ qs) zero new within = refl
put_same_place (q ∷ qs) (suc place) new within = put_same_place qs place new (omega (arith, within))

put_other_place : (queues : List QueueValue) (place p : ℕ) (new : QueueValue) → (p ≡ place → ⊥)
    → slice_get (slice_set queues place new) p ≡ slice_get queues p
put_other_place [] place p new never = refl
put_other_place (q ∷ qs) zero zero new never = absurd (never refl)
put_other_place (q ∷ qs) zero (suc p) new never = refl
put_other_place (q ∷ qs) (suc place) zero new never = refl
put_other_place (q ∷ qs) (suc place) (suc p) new never = put_other_place qs place p new (λ e. never (ap suc e))

pub length_put : (queues : List QueueValue) (place : ℕ) (q : QueueValue)
    → length (slice_set queues place q) ≡ length queues
length_put [] place q = refl
length_put (x ∷ queues) zero q = refl
length_put (x ∷ queues) (suc place) q = ap suc (length_put queues place q)

-- what a queue at a place becomes
module _ (queues : List QueueValue) (place : ℕ) (old new : QueueValue) (is : slice_get queues place ≡ Some old) where
  within : place < length queues
  within = slice_get_within queues place old is

  -- what is said of the queue there before and after, and of the others, is said of the queue at each place
  each_place : (P : ℕ → Option QueueValue → Option QueueValue → Type 0) → P place (Some old) (Some new)
      → ((p : ℕ) → (p ≡ place → ⊥) → P p (slice_get queues p) (slice_get queues p)) → (p : ℕ)
      → P p (slice_get queues p) (slice_get (slice_set queues place new) p)
  each_place P here others p = by_place (same_or_not p place)
    where
      by_place : (p ≡ place) ⊎ (p ≡ place → ⊥)
          → P p (slice_get queues p) (slice_get (slice_set queues place new) p)
      by_place (inl same) =
          subst (λ (k : ℕ). P k (slice_get queues k) (slice_get (slice_set queues place new) k)) (sym same)
          (subst (λ (o : Option QueueValue). P place (slice_get queues place) o)
          (sym (put_same_place queues place new within))
          (subst (λ (o : Option QueueValue). P place o (Some new)) (sym is) here))
      by_place (inr never) =
          subst (λ (o : Option QueueValue). P p (slice_get queues p) o)
          (sym (put_other_place queues place p new never)) (others p never)

  self_at : eqb place place ≡ true
  self_at = eq-eqb place place refl

  pub put_more : (item : ℕ) → ((i : ℕ) → waits new i ≡ waits old i + more_of item 1 i) → (p i : ℕ)
      → waits_at (slice_set queues place new) p i
      ≡ waits_at queues p i + cond (eqb p place) (more_of item 1 i) 0
  put_more item each p i =
      each_place
      (λ k before after. waits_by after i ≡ waits_by before i + cond (eqb k place) (more_of item 1 i) 0)
      (each i ∙ ap (λ (b : Bool). waits old i + cond b (more_of item 1 i) 0) (sym self_at))
      (λ k never. (let none : cond (eqb k place) (more_of item 1 i) 0 ≡ 0 =
      ap (λ (b : Bool). cond b (more_of item 1 i) 0) (unequal k place never) in
      omega (arith, none)))
      p

  pub put_fewer : (item : ℕ) → ((i : ℕ) → waits new i + more_of item 1 i ≡ waits old i) → (p i : ℕ)
      → waits_at (slice_set queues place new) p i + cond (eqb p place) (more_of item 1 i) 0
      ≡ waits_at queues p i
  put_fewer item each p i =
      each_place
      (λ k before after. waits_by after i + cond (eqb k place) (more_of item 1 i) 0 ≡ waits_by before i)
      (ap (λ (b : Bool). waits new i + cond b (more_of item 1 i) 0) self_at ∙ each i)
      (λ k never. (let none : cond (eqb k place) (more_of item 1 i) 0 ≡ 0 =
      ap (λ (b : Bool). cond b (more_of item 1 i) 0) (unequal k place never) in
      omega (arith, none)))
      p

  pub put_same : ((i : ℕ) → waits new i ≡ waits old i) → (p i : ℕ)
      → waits_at (slice_set queues place new) p i ≡ waits_at queues p i
  put_same each p i = each_place (λ k before after. waits_by after i ≡ waits_by before i) (each i) (λ k e. refl) p

  pub put_room : old.room ≤ new.room → (p : ℕ) → room_at queues p ≤ room_at (slice_set queues place new) p
  put_room grows p = each_place (λ k before after. room_by before ≤ room_by after) grows (λ k e. omega arith) p

  pub put_places : (item : ℕ) → old.room + min 1 (waits old item) ≤ new.room + min 1 (waits new item) → (p : ℕ)
      → places_at queues p item ≤ places_at (slice_set queues place new) p item
  put_places item grows p =
      each_place
      (λ k before after. room_by before + min 1 (waits_by before item) ≤ room_by after + min 1 (waits_by after item))
      grows (λ k e. omega arith) p

  pub put_here : room_at (slice_set queues place new) place ≡ new.room
  put_here = ap room_by (put_same_place queues place new within)

-- ---- the map of peers

-- a peer more, for whom nothing waits
module _ {K : Type 0} (f : K → List ℕ) (es new : List (K × QueueValue)) (k : K) (q : QueueValue)
    (is : new ≡ es ++ (k, q) ∷ []) where
  pub names_new : (word : List ℕ) → f k ≡ word → Names (map f (keys_of es)) (map f (keys_of new)) word
  names_new word same =
      subst (λ (words : List (List ℕ)). Names (map f (keys_of es)) words word)
      (sym (ap (λ (xs : List (K × QueueValue)). map f (keys_of xs)) is ∙ words_more f es k q))
      (subst (λ (w : List ℕ). Names (map f (keys_of es)) (map f (keys_of es) ++ f k ∷ []) w) same
      (names_more (map f (keys_of es)) (f k)))

  pub waits_new : q.numbers ≡ [] → (p i : ℕ) → waits_at (values_of new) p i ≡ waits_at (values_of es) p i
  waits_new none p i =
      ap (λ (xs : List (K × QueueValue)). waits_at (values_of xs) p i) is
      ∙ (ap (λ (qs : List QueueValue). waits_at qs p i) (values_more es k q)
      ∙ more_queues (values_of es) q p i (ap (λ (ns : List ℕ). count_beside ns q.counts i) none))

-- the queue at a place becomes another
module _ {K S : Type 0} (f : K → List ℕ) (m : IndexMap K QueueValue S) (v : PeersValue) (place : ℕ)
    (old new : QueueValue)
    (view : ◌≡◌ {A = PeersValue} (record { words = map f (keys m); queues = values m }) v)
    (is : slice_get (values m) place ≡ Some old) where
  abbrev put : List QueueValue
  put = slice_set (values m) place new

  is_put : values (with_value_at m place new) ≡ put
  is_put = values_put m.entries place new

  pub kept_words : map f (keys (with_value_at m place new)) ≡ v.words
  kept_words = ap (map f) (keys-with_value_at m place new) ∙ ap (λ (x : PeersValue). x.words) view

  pub kept_count : length (values (with_value_at m place new)) ≡ length v.queues
  kept_count =
      ap length is_put
      ∙ (length_put (values m) place new ∙ ap (λ (x : PeersValue). length x.queues) view)

  pub kept_waits : ((i : ℕ) → waits new i ≡ waits old i) → (p i : ℕ)
      → waits_at (values (with_value_at m place new)) p i ≡ waits_at v.queues p i
  kept_waits each p i =
      ap (λ (qs : List QueueValue). waits_at qs p i) is_put
      ∙ (put_same (values m) place old new is each p i ∙ ap (λ (x : PeersValue). waits_at x.queues p i) view)

  pub kept_room : old.room ≤ new.room → (p : ℕ)
      → room_at v.queues p ≤ room_at (values (with_value_at m place new)) p
  kept_room grows p =
      let less = put_room (values m) place old new is grows p in
      let before = ap (λ (x : PeersValue). room_at x.queues p) view in
      let after = ap (λ (qs : List QueueValue). room_at qs p) is_put in
      omega (arith, less, before, after)

  pub new_room : room_at (values (with_value_at m place new)) place ≡ new.room
  new_room = ap (λ (qs : List QueueValue). room_at qs place) is_put ∙ put_here (values m) place old new is

  pub more_waits : (item : ℕ) → ((i : ℕ) → waits new i ≡ waits old i + more_of item 1 i) → (p i : ℕ)
      → waits_at (values (with_value_at m place new)) p i
      ≡ waits_at v.queues p i + cond (eqb p place) (more_of item 1 i) 0
  more_waits item each p i =
      ap (λ (qs : List QueueValue). waits_at qs p i) is_put
      ∙ (put_more (values m) place old new is item each p i
      ∙ ap (λ (x : PeersValue). waits_at x.queues p i + cond (eqb p place) (more_of item 1 i) 0) view)

  pub fewer_waits : (item : ℕ) → ((i : ℕ) → waits new i + more_of item 1 i ≡ waits old i) → (p i : ℕ)
      → waits_at (values (with_value_at m place new)) p i + cond (eqb p place) (more_of item 1 i) 0
      ≡ waits_at v.queues p i
  fewer_waits item each p i =
      ap (λ (qs : List QueueValue). waits_at qs p i + cond (eqb p place) (more_of item 1 i) 0) is_put
      ∙ (put_fewer (values m) place old new is item each p i
      ∙ ap (λ (x : PeersValue). waits_at x.queues p i) view)

  pub kept_places : (item : ℕ) → old.room + min 1 (waits old item) ≤ new.room + min 1 (waits new item) → (p : ℕ)
      → places_at v.queues p item ≤ places_at (values (with_value_at m place new)) p item
  kept_places item grows p =
      let less = put_places (values m) place old new is item grows p in
      let before = ap (λ (x : PeersValue). places_at x.queues p item) view in
      let after = ap (λ (qs : List QueueValue). places_at qs p item) is_put in
      omega (arith, less, before, after)

-- room in the queues before a place, and in the one there
pub room_more : (old new : List QueueValue) (place count : ℕ)
    → ((p : ℕ) → p < place → count ≤ room_at old p) → ((p : ℕ) → room_at old p ≤ room_at new p)
    → count ≤ room_at new place → (p : ℕ) → p < place + 1 → count ≤ room_at new p
room_more old new place count before grows here p within = by_place (same_or_not p place)
  where
    by_place : (p ≡ place) ⊎ (p ≡ place → ⊥) → count ≤ room_at new p
    by_place (inl same) = subst (λ (k : ℕ). count ≤ room_at new k) (sym same) here
    by_place (inr never) =
        let less = before p (earlier (cases_lt p place)) in
        let more = grows p in
        omega (arith, less, more)
      where
        earlier : (p < place) ⊎ (place ≤ p) → p < place
        earlier (inl less) = less
        earlier (inr far) = absurd (never (omega (arith, far, within)))

-- ---- tests

pub test_same : (a b : Bool) → beq a b ≡ true → a ≡ b
test_same true true e = refl
test_same true false e = absurd cc
test_same false true e = absurd cc
test_same false false e = refl

pub test_differs : (a b : Bool) → beq a b ≡ false → a ≡ b → ⊥
test_differs true true e same = cc
test_differs true false e same = cc
test_differs false true e same = cc
test_differs false false e same = cc

pub none_by : {A : Type 0} (o : Option A) → is_some o ≡ false → o ≡ None
none_by None e = refl
none_by (Some x) e = absurd cc
