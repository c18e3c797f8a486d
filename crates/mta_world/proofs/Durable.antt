-- What holds of the two durable halves.
use Rattle.std.proofs.Common.{◌≡◌, ◌⊎◌, ◌<◌, ◌≤◌, ℕ, suc, ◌+◌, ◌*◌, length, ◌==◌, ◌&&◌, Bool, true, false, nat_lt}
use Rattle.std.proofs.Common.{nat_le, if◌then◌else◌, List, [], ◌∷◌, ◌++◌, take, refl, sym, ◌∙◌, ap, subst, arith, inl}
use Rattle.std.proofs.Common.{inr}
use Rattle.std.proofs.lemmas.Bool.{eqb-true, eqb-false, eq-eqb, ltb-true, leb-true, and_parts}
use Rattle.mta_lane_send.specs.declared.state.SendState.{SendState}
use Rattle.mta_lane_send.specs.declared.state.SendState.TheVariants as state
use Rattle.mta_lane_send.specs.Half.{last_of, is_idle, is_ending}
use Rattle.mta_lane_recv.specs.declared.state.Last.{Last}
use Rattle.mta_lane_recv.specs.declared.state.Last.TheVariants as last
use Rattle.mta_lane_recv.specs.Half.{is_done, takes_piece}
use Rattle.mta_transfer_rules.specs.Pieces.{is_last}
use Rattle.mta_transfer_rules.specs.Sending.{is_dropping}
use Rattle.mta_world.specs.World.{Message, Outcome, Unsettled, Was_sent, Was_denied, set_at}
use Rattle.mta_world.specs.Agrees.{IsAmong}
use Rattle.mta_world.proofs.Octets.{firsts, firsts-none, take-firsts}

abbrev pub EachOf : (Message → Type 0) → List Message → Type 0
EachOf P [] = Unit {0}
EachOf P (m ∷ ms) = P m × EachOf P ms

pub each_of-map : (P Q : Message → Type 0) (ms : List Message) → ((m : Message) → P m → Q m) → EachOf P ms → EachOf Q ms
each_of-map P Q [] f g = tt
each_of-map P Q (m ∷ ms) f g = (f m g.0, each_of-map P Q ms f g.1)

pub each_of-snoc : (P : Message → Type 0) (ms : List Message) (m : Message) → EachOf P ms → P m
    → EachOf P (ms ++ m ∷ [])
each_of-snoc P [] m g p = (p, tt)
each_of-snoc P (x ∷ ms) m g p = (g.0, each_of-snoc P ms m g.1 p)

-- of a message among them
pub among-each : (P : Message → Type 0) (Q : ℕ → Type 0) (k : ℕ) (ms : List Message)
    → ((m : Message) → P m → Q m.activity) → EachOf P ms → IsAmong k ms → Q k
among-each P Q k [] f g a = absurd a
among-each P Q k (m ∷ ms) f g a = elim a [ inl e ↦ subst Q e (f m g.0) | inr b ↦ among-each P Q k ms f g.1 b ]

pub among-snoc : (k : ℕ) (ms : List Message) (m : Message) → IsAmong k (ms ++ m ∷ []) → IsAmong k ms ⊎ (m.activity ≡ k)
among-snoc k [] m a = elim a [ inl e ↦ inr e | inr b ↦ absurd b ]
among-snoc k (x ∷ ms) m a = elim a [
  | inl e ↦ inl (inl e)
  | inr b ↦ elim (among-snoc k ms m b) [ inl c ↦ inl (inr c) | inr e ↦ inr e ]
]

pub among-last : (k : ℕ) (ms : List Message) (m : Message) → m.activity ≡ k → IsAmong k (ms ++ m ∷ [])
among-last k [] m e = inl e
among-last k (x ∷ ms) m e = inr (among-last k ms m e)

pub among-more : (k : ℕ) (ms : List Message) (m : Message) → IsAmong k ms → IsAmong k (ms ++ m ∷ [])
among-more k [] m a = absurd a
among-more k (x ∷ ms) m a = elim a [ inl e ↦ inl e | inr b ↦ inr (among-more k ms m b) ]

pub set-same : {A : Type 0} (f : ℕ → A) (i : ℕ) (v : A) (P : A → Type 0) → P v → P (set_at f i v i)
set-same f i v P p = rw (eq-eqb i i refl) p

pub set-other : {A : Type 0} (f : ℕ → A) (i : ℕ) (v : A) (j : ℕ) (P : A → Type 0) → (j ≡ i → ⊥) → P (f j)
    → P (set_at f i v j)
set-other {A} f i v j P ne p = by_number (j == i) refl
  where
    by_number : (b : Bool) → (j == i) ≡ b → P (if b then v else f j)
    by_number true e = absurd (ne (eqb-true j i e))
    by_number false e = p

pub set-case : {A : Type 0} (f : ℕ → A) (i : ℕ) (v : A) (j : ℕ) (P : A → Type 0) → (j ≡ i → P v)
    → ((j ≡ i → ⊥) → P (f j)) → P (set_at f i v j)
set-case {A} f i v j P at_i beside = by_number (j == i) refl
  where
    by_number : (b : Bool) → (j == i) ≡ b → P (if b then v else f j)
    by_number true e = at_i (eqb-true j i e)
    by_number false e = beside (eqb-false j i e)

-- the activities below this one are settled
abbrev pub bound : SendState → ℕ
bound (state.Idle l) = l + 1
bound (state.Sending k c) = k
bound (state.Ending k c) = k
bound (state.Dropping k) = k

pub bound-live : (st : SendState) → is_idle st ≡ false → bound st ≡ last_of st
bound-live (state.Idle l) e = absurd cc
bound-live any0 e = refl

pub bound-idle : (st : SendState) → is_idle st ≡ true → bound st ≡ last_of st + 1
bound-idle (state.Idle l) e = refl
bound-idle any0 e = absurd cc

-- What became of the activities ------------------------------------------------------------------------------

pub record Outcomes (spells : List ℕ → Bool) (octets : ℕ → List ℕ) (st : SendState) (outcome : ℕ → Outcome)
    (abandoned : ℕ → Bool) (sent : List Message) : Type 0 where
  pub later : (k : ℕ) → last_of st < k → (outcome k ≡ Unsettled) × (abandoned k ≡ false)
  pub live : is_idle st ≡ false → (outcome (last_of st) ≡ Unsettled) × (abandoned (last_of st) ≡ is_dropping st)
  pub sent_ones : EachOf (λ m. (m.activity < bound st) × (outcome m.activity ≡ Was_sent)
      × (abandoned m.activity ≡ false)) sent
  pub denied : (k : ℕ) → outcome k ≡ Was_denied → spells (octets k) ≡ false

-- What was completed, against what was sent ------------------------------------------------------------------

abbrev pub IsAhead : (ℕ → List ℕ) → SendState → Last → (sent completed : List Message) → Type 0
IsAhead octets st l sent completed =
    (is_ending st (last_of st) ≡ true)
    × (completed ≡ sent ++ record { activity = last_of st; octets = octets (last_of st) } ∷ [])
    × (is_done l (last_of st) ≡ true)

abbrev pub InStep : (ℕ → List ℕ) → SendState → Last → (sent completed : List Message) → Type 0
InStep octets st l sent completed = (completed ≡ sent) ⊎ IsAhead octets st l sent completed

-- The receiving half -------------------------------------------------------------------------------------------

abbrev pub Held : (size : ℕ) → (ℕ → List ℕ) → (high : ℕ) → Last → (pieces : List (List ℕ)) → (completed : List Message)
    → Type 0
Held size octets high last.None pieces completed = Unit {0}
Held size octets high (last.Partial k n) pieces completed =
    (k ≡ high) × (1 ≤ n) × (is_last size (octets k) n ≡ false) × (pieces ≡ firsts size (octets k) n)
    × (IsAmong k completed → ⊥)
Held size octets high (last.Done k) pieces completed = (k ≡ high) × IsAmong k completed

pub record Receives (spells : List ℕ → Bool) (size : ℕ) (octets : ℕ → List ℕ) (top high : ℕ) (l : Last)
    (pieces : List (List ℕ)) (completed : List Message) : Type 0 where
  pub high_below : high ≤ top
  pub held : Held size octets high l pieces completed
  pub done_ones : EachOf (λ m. (spells (octets m.activity) ≡ true) × (m.activity ≤ high)) completed

-- Facts of it ----------------------------------------------------------------------------------------------------

pub done-among : (size : ℕ) (octets : ℕ → List ℕ) (high : ℕ) (l : Last) (pieces : List (List ℕ))
    (completed : List Message) (k : ℕ)
    → Held size octets high l pieces completed → is_done l k ≡ true → IsAmong k completed
done-among size octets high (last.Done j) pieces completed k h e =
    subst (λ (z : ℕ). IsAmong z completed) (sym (eqb-true k j e)) h.1
done-among size octets high any3 pieces completed k h e = absurd cc

module _ (spells : List ℕ → Bool) (size : ℕ) (octets : ℕ → List ℕ) (top high : ℕ) (l : Last) (pieces : List (List ℕ))
    (completed : List Message) (o : Receives spells size octets top high l pieces completed) where
  pub done-good : (k : ℕ) → IsAmong k completed → spells (octets k) ≡ true
  done-good k a = among-each (λ m. (spells (octets m.activity) ≡ true) × (m.activity ≤ high))
      (λ j. spells (octets j) ≡ true) k completed (λ m g. g.0) o.done_ones a

  pub done-below : (k : ℕ) → IsAmong k completed → k ≤ high
  done-below k a = among-each (λ m. (spells (octets m.activity) ≡ true) × (m.activity ≤ high))
      (λ j. j ≤ high) k completed (λ m g. g.1) o.done_ones a

-- what a piece that is taken goes on from
pub record GoesOn (size : ℕ) (octets : ℕ → List ℕ) (high : ℕ) (l : Last) (pieces : List (List ℕ))
    (completed : List Message) (k m : ℕ) : Type 0 where
  pub front_part : take m pieces ≡ firsts size (octets k) m
  pub one_piece : (size == 0) ≡ true → m ≡ 0
  pub above : high ≤ k
  pub not_done : ((j : ℕ) → IsAmong j completed → j ≤ high) → IsAmong k completed → ⊥
  pub not_ahead : (j : ℕ) → is_done l j ≡ true → k ≤ j → ⊥

no-pieces : (size : ℕ) (o : List ℕ) (pieces : List (List ℕ)) → take 0 pieces ≡ firsts size o 0
no-pieces size o pieces = sym (firsts-none size o)

size-pieces : (size : ℕ) (o : List ℕ) (n : ℕ) → is_last size o n ≡ false → (size == 0) ≡ true → ⊥
size-pieces size o n e z =
    let c : (if true then true else nat_le (length o) (size * n)) ≡ false =
    subst (λ (b : Bool). (if b then true else nat_le (length o) (size * n)) ≡ false) z e in
    let d : true ≡ false = c in cc

pub piece-goes_on : (size : ℕ) (octets : ℕ → List ℕ) (high : ℕ) (l : Last) (pieces : List (List ℕ))
    (completed : List Message) (k m : ℕ)
    → Held size octets high l pieces completed → takes_piece high l k (suc m) ≡ true
    → GoesOn size octets high l pieces completed k m
piece-goes_on size octets high last.None pieces completed k m h t =
    let parts : (nat_lt high k ≡ true) × ((suc m == 1) ≡ true) = and_parts (nat_lt high k) (suc m == 1) t in
    let lt : high < k = ltb-true high k parts.0 in
    let z : m ≡ 0 = omega (arith, eqb-true (suc m) 1 parts.1) in
    record {
      front_part = subst (λ (i : ℕ). take i pieces ≡ firsts size (octets k) i) (sym z)
          (no-pieces size (octets k) pieces);
      one_piece = λ e. z;
      above = omega (arith, lt);
      not_done = λ f a. omega (arith, lt, f k a);
      not_ahead = λ j d le. absurd cc;
    }
piece-goes_on size octets high (last.Done i) pieces completed k m h t =
    let parts : (nat_lt high k ≡ true) × ((suc m == 1) ≡ true) = and_parts (nat_lt high k) (suc m == 1) t in
    let lt : high < k = ltb-true high k parts.0 in
    let z : m ≡ 0 = omega (arith, eqb-true (suc m) 1 parts.1) in
    let at : i ≡ high = h.0 in
    record {
      front_part = subst (λ (n : ℕ). take n pieces ≡ firsts size (octets k) n) (sym z)
          (no-pieces size (octets k) pieces);
      one_piece = λ e. z;
      above = omega (arith, lt);
      not_done = λ f a. omega (arith, lt, f k a);
      not_ahead = λ j d le. omega (arith, lt, le, at, eqb-true j i d);
    }
piece-goes_on size octets high (last.Partial i q) pieces completed k m h t =
    let parts : (((k == i) && nat_le 1 (suc m)) ≡ true) × (nat_le (suc m) (q + 1) ≡ true) =
    and_parts ((k == i) && nat_le 1 (suc m)) (nat_le (suc m) (q + 1)) t in
    let same : k ≡ i = eqb-true k i (and_parts (k == i) (nat_le 1 (suc m)) parts.0).0 in
    let le : suc m ≤ q + 1 = leb-true (suc m) (q + 1) parts.1 in
    let at : i ≡ high = h.0 in
    record {
      front_part =
          subst (λ (z : ℕ). take m pieces ≡ firsts size (octets z) m) (sym same)
          (ap (take m) h.3 ∙ take-firsts size (octets i) m q (omega (arith, le)));
      one_piece = λ e. absurd (size-pieces size (octets i) q h.2 e);
      above = omega (arith, same, at);
      not_done = λ f a. h.4 (subst (λ (z : ℕ). IsAmong z completed) same a);
      not_ahead = λ j d lj. absurd cc;
    }

takes-some : (high : ℕ) (l : Last) (k n : ℕ) → takes_piece high l k n ≡ true → 1 ≤ n
takes-some high (last.Partial j q) k n t =
    leb-true 1 n (and_parts (k == j) (nat_le 1 n) (and_parts ((k == j) && nat_le 1 n) (nat_le n (q + 1)) t).0).1
takes-some high any1 k n t = omega (arith, eqb-true n 1 (and_parts (nat_lt high k) (n == 1) t).1)

pub not-zero : (high : ℕ) (l : Last) (k : ℕ) → takes_piece high l k 0 ≡ true → ⊥
not-zero high l k t = let le : 1 ≤ 0 = takes-some high l k 0 t in omega (arith, le)
