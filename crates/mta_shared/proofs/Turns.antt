-- From a ticket to a turn.
use Rattle.std.proofs.Common.{◌≡◌, ℕ, ◌+◌, ◌%◌, ◌^◌, ◌<◌, List, [], ◌∷◌, Bool, true, Option, Some, None, IsSome, refl}
use Rattle.std.proofs.Common.{sym, ap, ◌∙◌, subst, arith}
use Rattle.std.specs.Prelude.{slice_index}
use mathlib.Core.List.{IsPrefix}
use Rattle.atomic_table.specs.Table.{Me, Allows, rest}
use Rattle.mta_shared.specs.declared.history.Base.{Base}
use Rattle.mta_shared.specs.declared.history.View.{View}
use Rattle.mta_shared.specs.Rule.{IsFree, IsSound, Kept, Took, with_ticket, with_turn, looked, served, compared, both}
use Rattle.mta_shared.specs.Rule.{Grows}
use Rattle.mta_shared.specs.Passes.{InTurn}
use Rattle.mta_shared.specs.Held.{Held}
use Rattle.atomic_table.specs.Seated.{TableId}
use Rattle.mta_shared.proofs.Sound.{sound_turn}
use Rattle.mta_shared.proofs.Steps.{looks, serves, compares, no_step}

-- what the slot that was taken last has
abbrev held_of : {V : Type 0} → List (ℕ × Option V) → Option V
held_of [] = None
held_of (x ∷ xs) = x.1

pub held_is : {E : Type 0} {z z' : TableId} {b b' : Bool} {xs xs' : List E} {own own' : List ℕ} {n n' m m' : ℕ}
    {k k' : Base}
    → z ≡ z' → b ≡ b' → xs ≡ xs' → own ≡ own' → n ≡ n' → m ≡ m' → k ≡ k'
    → ◌≡◌ {A = Held E} (record { lock = z; rests = b; seen = xs; own = own; parts = n; from = m; base = k })
    (record { lock = z'; rests = b'; seen = xs'; own = own'; parts = n'; from = m'; base = k' })
held_is p q r s t u v = λ i. record {
  lock = p i;
  rests = q i;
  seen = r i;
  own = s i;
  parts = t i;
  from = u i;
  base =
      v i;
}

module _ {E V : Type 0} (first : V → ℕ) (entries : V → List E) (meets : V → Base → Type 0) where
  -- what a pass with the view v knows in its turn, where it found `got` in the slot
  pub record Taken (v : View E) (got : Option V) (m : Me (Option V) (View E)) : Type 0 where
    pub value : V
    pub got_is : got ≡ Some value
    pub in_turn : InTurn m
    pub history : m.0.seen ≡ entries value
    pub seen : IsPrefix v.seen (entries value)
    pub own : m.0.own ≡ v.own
    pub parts : m.0.parts ≡ v.parts
    pub base : m.0.base ≡ v.base
    pub from : m.0.from ≡ v.from
    pub number : first value ≡ v.from
    pub fact : meets value v.base

  pub looks_as : (slots id : ℕ) (m : Me (Option V) (View E)) (v : View E) (t : ℕ) → m ≡ (with_ticket t v, []) → IsFree v
      → Allows (Kept first entries meets) slots id m 0 (λ n. n) (looked first entries meets no_step m)
  looks_as slots id m v t is free =
      subst (λ (x : Me (Option V) (View E)). Allows (Kept first entries meets) slots id x 0 (λ n. n)
      (looked first entries meets no_step x)) (sym is)
      (looks first entries meets slots id (with_ticket t v) t refl free.no_turn free.no_met free.alive)

  pub number_is : (m : Me (Option V) (View E)) (v : View E) (t found ticket : ℕ) → m ≡ (with_ticket t v, [])
      → ticket ≡ t % 2 ^ 64 → found ≡ ticket → found ≡ slice_index m.0.ticket 0 % 2 ^ 64
  number_is m v t found ticket is e e' = e' ∙ e
      ∙ sym (ap (λ (x : Me (Option V) (View E)). slice_index x.0.ticket 0 % 2 ^ 64) is)

  pub holds_slot : (m n : Me (Option V) (View E)) → Took first entries meets m n → (old : Option V)
      × (n.1 ≡ (0, old) ∷ rest n.1)
  holds_slot m n t = (Some t.value, t.held ∙ ap (λ l. (0, Some t.value) ∷ rest l) (sym t.held))

  pub takes_out : (v : View E) (t : ℕ) (m n u : Me (Option V) (View E)) (got : Option V) → IsFree v → IsSound v
      → m ≡ (with_ticket t v, []) → Took first entries meets m n
      → n.1 ≡ (0, got) ∷ rest n.1 → u ≡ (n.0, (0, None) ∷ rest n.1) → Taken v got u
  takes_out v t m n u got free sound is took slot out =
      let same : (0, Some took.value) ∷ [] ≡ (0, got) ∷ rest n.1 = sym took.held ∙ slot in
      let got_is : got ≡ Some took.value = ap held_of (sym same) in
      let view : u.0 ≡ with_turn (entries took.value) (with_ticket t v) = ap (λ x. x.0) out ∙ took.view
      ∙ ap (λ (x : Me (Option V) (View E)). with_turn (entries took.value) x.0) is in
      let slots : u.1 ≡ (0, None) ∷ [] = ap (λ x. x.1) out ∙ ap (λ l. (0, None) ∷ rest l) took.held in
      let was : m.0 ≡ with_ticket t v = ap (λ x. x.0) is in
      let alive : 0 < u.0.parts = subst (λ (w : View E). 0 < w.parts) (sym view) free.alive in
      record {
        value = took.value;
        got_is = got_is;
        in_turn = record {
          sound = subst (λ (w : View E). IsSound w) (sym view)
              (sound_turn (with_ticket t v) (entries took.value)
              (subst (λ (w : View E). IsPrefix w.seen (entries took.value)) was took.seen)
              (record { within = sound.within; once = sound.once }));
          turn = ap (λ w. w.turn) view;
          no_met =
              ap (λ w. w.met) view ∙ free.no_met;
          alive = alive;
          out = slots;
        };
        history = ap (λ w. w.seen) view;
        seen = subst (λ (w : View E). IsPrefix w.seen (entries took.value)) was took.seen;
        own = ap (λ w. w.own) view;
        parts = ap (λ w. w.parts) view;
        base = ap (λ w. w.base) view;
        from = ap (λ w. w.from) view;
        number = took.number ∙ ap (λ w. w.from) was;
        fact = subst (λ (w : View E). meets took.value w.base) was took.fact;
      }

  pub is_some : (v : View E) (got : Option V) (m : Me (Option V) (View E)) → Taken v got m → IsSome got
  is_some v got m t = subst IsSome (sym t.got_is) refl

  pub serves_as : (slots id : ℕ) (m : Me (Option V) (View E)) (v : View E) (x : V) → m ≡ (v, (0, Some x) ∷ [])
      → v.turn ≡ true → v.met ≡ [] → 0 < v.parts → Grows v.seen (entries x) → meets x v.base → first x ≡ v.from
      → Allows (Kept first entries meets) slots id m 0 (λ n. (n + 1) % 2 ^ 64) (served entries no_step m)
  serves_as slots id m v x is on no_met alive grown fact number =
      subst (λ (y : Me (Option V) (View E)). Allows (Kept first entries meets) slots id y 0 (λ n. (n + 1) % 2 ^ 64)
      (served entries no_step y)) (sym is)
      (serves first entries meets slots id v x on no_met alive grown fact number)

  pub compares_as : (slots id : ℕ) (m : Me (Option V) (View E)) (v w : View E) → m.0 ≡ both v w → IsFree v → IsFree w
      → Allows (Kept first entries meets) slots id m 0 (λ n. n) (compared no_step m)
  compares_as slots id m v w is free free' =
      let alive : 0 < m.0.parts = subst (λ (u : View E). 0 < u.parts) (sym is)
      (let a : 0 < v.parts = free.alive in let b : 0 < v.parts + w.parts = omega arith in b) in
      compares first entries meets slots id m.0 m.1 (ap (λ u. u.turn) is ∙ free.no_turn) alive
