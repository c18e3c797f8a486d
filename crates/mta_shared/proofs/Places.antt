-- What a step of one view leaves of the rule's parts.
use Rattle.std.proofs.Common.{◌≡◌, ◌≢◌, ◌⊎◌, ℕ, zero, suc, ◌<◌, List, [], ◌∷◌, ◌++◌, length, set, Bool, true, false}
use Rattle.std.proofs.Common.{true≢false, Option, refl, sym, ap, ◌∙◌, subst, inl, inr, ⊎_elim, arith}
use mathlib.Core.Option.{some, some-injective, some-ne-none}
use lib.ListN.{get_elem?}
use Rattle.atomic_table.specs.Table.{State}
use Rattle.atomic_table.proofs.Lists.{at_set, set_else, at_longer, at_snoc}
use Rattle.mta_shared.specs.declared.history.Base.{Base}
use Rattle.mta_shared.specs.declared.history.View.{View}
use Rattle.mta_shared.specs.Rule.{Home, Away}

pub not_true : (b : Bool) → (b ≡ true → ⊥) → b ≡ false
not_true true h = absurd (h refl)
not_true false h = refl

pub clash : (b : Bool) → b ≡ true → b ≡ false → ⊥
clash b t f = true≢false (sym t ∙ f)

pub below_length : {A : Type 0} (l : List A) (i : ℕ) (a : A) → get_elem? l i ≡ some a → i < length l
below_length [] i a e = absurd (some-ne-none a (sym e))
below_length (x ∷ xs) zero a e = omega arith
below_length (x ∷ xs) (suc i) a e = let h : i < length xs = below_length xs i a e in omega arith

module _ {X : Type 0} (P Q : ℕ → X → Type 0) where
  -- a fact on every member, after one is set
  pub all_set : (xs : List X) (i : ℕ) (y : X) → ((j : ℕ) (x : X) → j ≢ i → get_elem? xs j ≡ some x → Q j x) → Q i y
      → (j : ℕ) (x : X) → get_elem? (set xs i y) j ≡ some x → Q j x
  all_set xs i y others mine j x e =
      ⊎_elim
      (λ (t : (j ≡ i) × (y ≡ x)). subst (λ (z : ℕ × X). Q z.0 z.1) (λ k. (sym t.0 k, t.1 k)) mine)
      (λ (t : (j ≢ i) × (get_elem? xs j ≡ some x)). others j x t.0 t.1)
      (at_set xs i j y x e)

module _ {X : Type 0} (Q : X → Type 0) where
  -- the same after one is added
  pub all_push : (xs : List X) (y : X) → ((j : ℕ) (x : X) → get_elem? xs j ≡ some x → Q x) → Q y → (j : ℕ) (x : X)
      → get_elem? (xs ++ y ∷ []) j ≡ some x → Q x
  all_push xs y others mine j x e =
      ⊎_elim (λ (t : get_elem? xs j ≡ some x). others j x t) (λ (t : y ≡ x). subst Q t mine) (at_snoc xs y x j e)

module _ {E V : Type 0} (first : V → ℕ) (entries : V → List E) (meets : V → Base → Type 0) where
  abbrev Place : ℕ → Base → List E → ℕ → State (Option V) (View E) → Type 0
  Place from base longest served s = Home first entries meets from base longest s
      ⊎ Away {E = E} {V = V} first entries meets longest served s

  abbrev seats : State (Option V) (View E) → List ℕ → List (View E) → State (Option V) (View E)
  seats s ws views = record { words = ws; homes = s.homes; views = views }

  -- one view without the turn becomes another without the turn
  pub place_set : (from : ℕ) (base : Base) (longest : List E) (served : ℕ) (s : State (Option V) (View E)) (ws : List ℕ)
      (id : ℕ) (v w : View E)
      → get_elem? s.views id ≡ some v → v.turn ≡ false → w.turn ≡ false → Place from base longest served s
      → Place from base longest served (seats s ws (set s.views id w))
  place_set from base longest served s ws id v w at off off' place =
      ⊎_elim
      (λ (h : Home first entries meets from base longest s). inl
      (record {
        value = h.value;
        there = h.there;
        history = h.history;
        number = h.number;
        fact = h.fact;
        nobody =
            all_set (λ j u. u.turn ≡ false) (λ j u. u.turn ≡ false) s.views id w (λ j u n e. h.nobody j u e) off';
      }))
      (λ (a : Away first entries meets longest served s).
      let apart : a.by ≢ id = λ e. clash a.view.turn a.turn
      (ap (λ (u : View E). u.turn) (some-injective _ _ (sym a.at ∙ (ap (get_elem? s.views) e ∙ at))) ∙ off) in
      inr (record {
        by = a.by;
        view = a.view;
        at = set_else s.views id a.by w apart ∙ a.at;
        turn = a.turn;
        ticket =
            a.ticket;
        history = a.history;
        away = a.away;
        only =
            all_set (λ j u. u.turn ≡ true → j ≡ a.by) (λ j u. u.turn ≡ true → j ≡ a.by) s.views id w
            (λ j u n e. a.only j u e) (λ t. absurd (clash w.turn t off'));
      }))
      place

  -- a view without the turn is added
  pub place_push : (from : ℕ) (base : Base) (longest : List E) (served : ℕ) (s : State (Option V) (View E))
      (ws : List ℕ) (w : View E)
      → w.turn ≡ false → Place from base longest served s
      → Place from base longest served (seats s ws (s.views ++ w ∷ []))
  place_push from base longest served s ws w off place =
      ⊎_elim
      (λ (h : Home first entries meets from base longest s). inl
      (record {
        value = h.value;
        there = h.there;
        history = h.history;
        number = h.number;
        fact = h.fact;
        nobody =
            all_push (λ u. u.turn ≡ false) s.views w h.nobody off;
      }))
      (λ (a : Away first entries meets longest served s).
      inr (record {
        by = a.by;
        view = a.view;
        at = at_longer s.views (w ∷ []) a.by a.view a.at;
        turn = a.turn;
        ticket =
            a.ticket;
        history = a.history;
        away = a.away;
        only =
            λ j u e t. ⊎_elim (λ (x : get_elem? s.views j ≡ some u). a.only j u x t)
            (λ (x : w ≡ u). absurd (clash w.turn (ap (λ (y : View E). y.turn) x ∙ t) off)) (at_snoc s.views w u j e);
      }))
      place
