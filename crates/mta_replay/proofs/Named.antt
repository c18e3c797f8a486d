-- The peers that are named are those of the tables.
use Rattle.std.proofs.Common.{◌≡◌, ◌≤◌, ◌<◌, ◌+◌, ℕ, zero, suc, Bool, true, false, cond, List, [], ◌∷◌, get_or}
use Rattle.std.proofs.Common.{inl, inr, Option, Some, None, refl, sym, ap, subst, ◌∙◌, arith}
use Rattle.std.specs.Prelude.{◌⊎◌, ◌↔◌, is_some, option_and_then, option_map, slice_get}
use Rattle.std.specs.List.{position, position_from}
use Rattle.std.proofs.lemmas.Bool.{cases_lt}
use Rattle.std.proofs.lemmas.List.Quantifiers.{position-Some}
use Rattle.std.proofs.lemmas.Iterator.Adapters.{position_from-zero}
use Rattle.std.proofs.lemmas.Option.{same_Some, slice_get-get_or}
use Rattle.std.proofs.lemmas.Slice.Eq.{bytes_eq-Decides}
use Rattle.mta_tables.specs.declared.entry.Peer.{Peer}
use Rattle.mta_tables.specs.Reading.{has_peer_word}
use Rattle.mta_tables.specs.Tables.{TablesValue, peer_of}
use Rattle.mta_machine.specs.Rules.{names_peer, peer_at, peer_word, tables_value, word_of_peer}
use Rattle.mta_queue.specs.Queues.{Names, place_of}
use Rattle.mta_replay.specs.Queued.{IsNamedBy}

-- the words are those of the peers before a place
abbrev pub IsNamedUpTo : (text : List ℕ) → List (List ℕ) → ℕ → Type 0
IsNamedUpTo text words place =
    (w : List ℕ) → (place_of words w ≡ None) ↔ ((p : ℕ) → p < place → peer_word text p ≡ Some w → ⊥)

pub named_none : (text : List ℕ) (words : List (List ℕ)) → words ≡ [] → IsNamedUpTo text words 0
named_none text words none w = (
  λ is p less there. omega (arith, less),
  λ never. ap (λ (ws : List (List ℕ)). place_of ws w) none,
)

pub named_more : (text : List ℕ) (words new : List (List ℕ)) (place : ℕ) (word : List ℕ)
    → IsNamedUpTo text words place → peer_word text place ≡ Some word → Names words new word
    → IsNamedUpTo text new (place + 1)
named_more text words new place word named is more w = (
  λ none p less there.
      by_place p (cases_lt p place) less there ((named w).0 ((more w).0 none).0) ((more w).0 none).1,
  λ never. (more w).1 (
    (named w).1 (λ p less there. never p (omega (arith, less)) there),
    λ same. never place (omega arith) (is ∙ ap Some (sym same)),
  ),
)
  where
    by_place : (p : ℕ) → (p < place) ⊎ (place ≤ p) → p < place + 1 → peer_word text p ≡ Some w
        → ((q : ℕ) → q < place → peer_word text q ≡ Some w → ⊥) → (w ≡ word → ⊥) → ⊥
    by_place p (inl before) less there never other = never p before there
    by_place p (inr far) less there never other =
        let at : place ≡ p = omega (arith, far, less) in
        other
        (sym (same_Some word w (sym is ∙ (ap (λ (k : ℕ). peer_word text k) at ∙ there))))

-- ---- all peers

from_none : {A : Type 0} (t : A → Bool) (i : ℕ) (xs : List A) (k : ℕ) (x : A) → position_from t i xs ≡ None
    → slice_get xs k ≡ Some x → t x ≡ false
from_none t i [] k x none there = absurd cc
from_none t i (y ∷ xs) k x none there =
    by_test (t y) refl none (λ later j at. from_none t (i + 1) xs j x later at) k there
  where
    by_test : (b : Bool) → t y ≡ b → cond b (Some i) (position_from t (i + 1) xs) ≡ None
        → (position_from t (i + 1) xs ≡ None → (j : ℕ) → slice_get xs j ≡ Some x → t x ≡ false)
        → (k : ℕ) → slice_get (y ∷ xs) k ≡ Some x → t x ≡ false
    by_test true e none again k there = absurd cc
    by_test false e none again zero there = subst (λ (z : _). t z ≡ false) (same_Some y x there) e
    by_test false e none again (suc j) there = again none j there

absent : (peers : List Peer) (w : List ℕ) (p : ℕ) → position (has_peer_word w) peers ≡ None
    → option_map word_of_peer (slice_get peers p) ≡ Some w → ⊥
absent peers w p none there = by_peer (slice_get peers p) refl there
  where
    by_peer : (o : Option Peer) → slice_get peers p ≡ o → option_map word_of_peer o ≡ Some w → ⊥
    by_peer None e there = cc
    by_peer (Some x) e there =
        let isnt = from_none (has_peer_word w) 0 peers p x
        (sym (position_from-zero (has_peer_word w) peers) ∙ none) e in
        let does : has_peer_word w x ≡ true = (bytes_eq-Decides x.name w).1 (same_Some x.name w there) in
        cc

present : (peers : List Peer) (w : List ℕ) (i : ℕ) → position (has_peer_word w) peers ≡ Some i
    → option_map word_of_peer (slice_get peers i) ≡ Some w
present [] w i found = absurd cc
present (x ∷ peers) w i found =
    let at = position-Some (has_peer_word w) (x ∷ peers) i x found in
    let same : (get_or (x ∷ peers) i x).name ≡ w = (bytes_eq-Decides (get_or (x ∷ peers) i x).name w).0 at.1 in
    ap (option_map word_of_peer) (slice_get-get_or (x ∷ peers) i x at.0) ∙ ap Some same

behind : (peers : List Peer) (place p : ℕ) → option_map word_of_peer (slice_get peers place) ≡ None → place ≤ p
    → option_map word_of_peer (slice_get peers p) ≡ None
behind [] place p none far = refl
behind (x ∷ peers) zero p none far = absurd cc
behind (x ∷ peers) (suc place) zero none far = absurd (omega (arith, far))
behind (x ∷ peers) (suc place) (suc p) none far = behind peers place p none (omega (arith, far))

in_tables : (t : TablesValue) (w : List ℕ) (place : ℕ) → peer_at t place ≡ None
    → ((p : ℕ) → p < place → peer_at t p ≡ Some w → ⊥) ↔ (is_some (peer_of t w) ≡ false)
in_tables t w place none = (λ never. by_found (peer_of t w) refl never, λ isnt p less there. by_none isnt p there)
  where
    by_found : (o : Option ℕ) → peer_of t w ≡ o → ((p : ℕ) → p < place → peer_at t p ≡ Some w → ⊥)
        → is_some o ≡ false
    by_found None e never = refl
    by_found (Some i) e never = absurd (never i (before (cases_lt i place)) (present t.peers w i e))
      where
        before : (i < place) ⊎ (place ≤ i) → i < place
        before (inl less) = less
        before (inr far) =
            absurd (let gone = behind t.peers place i none far in let here = present t.peers w i e in cc)

    by_none : is_some (peer_of t w) ≡ false → (p : ℕ) → peer_at t p ≡ Some w → ⊥
    by_none isnt p there = by_place (peer_of t w) refl isnt
      where
        by_place : (o : Option ℕ) → peer_of t w ≡ o → is_some o ≡ false → ⊥
        by_place None e isnt = absent t.peers w p e there
        by_place (Some i) e isnt = cc

all_named : (o : Option TablesValue) (w : List ℕ) (place : ℕ)
    → option_and_then (λ (t : TablesValue). peer_at t place) o ≡ None
    → ((p : ℕ) → p < place → option_and_then (λ (t : TablesValue). peer_at t p) o ≡ Some w → ⊥)
    ↔ (is_some (option_and_then (λ (t : TablesValue). peer_of t w) o) ≡ false)
all_named None w place none = (λ never. refl, λ e p less there. cc)
all_named (Some t) w place none = in_tables t w place none

named_text : (text w : List ℕ) (place : ℕ) → peer_word text place ≡ None
    → ((p : ℕ) → p < place → peer_word text p ≡ Some w → ⊥) ↔ (names_peer text w ≡ false)
unfolding names_peer peer_word
named_text text w place none = all_named (tables_value text) w place none

pub named_all : (text : List ℕ) (words : List (List ℕ)) (place : ℕ) → IsNamedUpTo text words place
    → peer_word text place ≡ None → IsNamedBy text words
named_all text words place named none w = (
  λ gone. (named_text text w place none).0 ((named w).0 gone),
  λ isnt. (named w).1 ((named_text text w place none).1 isnt),
)

named_in : (o : Option TablesValue) (w : List ℕ) (p : ℕ)
    → option_and_then (λ (t : TablesValue). peer_at t p) o ≡ Some w
    → is_some (option_and_then (λ (t : TablesValue). peer_of t w) o) ≡ false → ⊥
named_in None w p there isnt = cc
named_in (Some t) w p there isnt = by_place (peer_of t w) refl isnt
  where
    by_place : (o : Option ℕ) → peer_of t w ≡ o → is_some o ≡ false → ⊥
    by_place None e isnt = absent t.peers w p e there
    by_place (Some i) e isnt = cc

-- the word of a peer of the tables is named by them
pub named_at : (text w : List ℕ) (p : ℕ) → peer_word text p ≡ Some w → names_peer text w ≡ false → ⊥
unfolding names_peer peer_word
named_at text w p there isnt = named_in (tables_value text) w p there isnt

pub ruleset named_laws = (named_none, named_more, named_all)
