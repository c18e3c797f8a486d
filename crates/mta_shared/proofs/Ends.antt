-- The lock when it is made, and when it is closed.
use Rattle.std.proofs.Common.{◌≡◌, ◌≢◌, ℕ, zero, suc, ◌+◌, ◌≤◌, List, [], ◌∷◌, ◌++◌, length, false, Option, Some, refl}
use Rattle.std.proofs.Common.{sym, ap, ◌∙◌, subst, inl, ⊎_elim, arith}
use mathlib.Core.Option.{some, some-injective, some-ne-none}
use mathlib.Core.Logic.{dite}
use native.Mathlib.Decide.{dec_le}
use lib.ListN.{get_elem?}
use Rattle.atomic_table.specs.Table.{State, opening, Final, Seen}
use Rattle.mta_shared.specs.declared.history.Base.{Base}
use Rattle.mta_shared.specs.declared.history.View.{View}
use Rattle.mta_shared.specs.Counts.{total, times, row}
use Rattle.mta_shared.specs.Rule.{all_parts, opened, Fits, IsFree, Home, Away, Kept}
use Rattle.mta_shared.proofs.Sums.{total-one, total-two, times-row-above, times-row-in}
use Rattle.mta_shared.proofs.Fronts.{prefix_self, prefix_whole}
use Rattle.mta_shared.proofs.Places.{clash}

module _ {E V : Type 0} (first : V → ℕ) (entries : V → List E) (meets : V → Base → Type 0) where
  abbrev K : State (Option V) (View E) → Type 0
  K = Kept first entries meets

  only_one : {A : Type 0} (P : A → Type 0) (x : A) → P x → (j : ℕ) (u : A) → get_elem? (x ∷ []) j ≡ some u → P u
  only_one P x p zero u e = subst P (some-injective x u e) p
  only_one P x p (suc j) u e = absurd (some-ne-none u (sym e))

  pub opens : (value : V) (base : Base) → meets value base
      → K (opening (0 ∷ 0 ∷ []) (Some value ∷ []) (opened (first value) base (entries value)))
  opens value base fact =
      let v : View E = opened (first value) base (entries value) in
      record {
        longest = entries value;
        from = first value;
        base = base;
        served = 0;
        words = refl;
        each = only_one (Fits (first value) base (entries value)) v
            (record {
              seen = prefix_self (entries value);
              met = (entries value, refl);
              within = λ p far _. times-row-above p 0 (length (entries value)) (omega arith);
              alike = λ _. (refl, refl);
              unowned = λ h. absurd (omega arith);
              one = (omega arith, omega arith);
            });
        tickets = λ n. refl;
        parts = omega arith;
        owns = λ p. omega arith;
        place = inl (record {
          value = value;
          there = refl;
          history = refl;
          number = refl;
          fact = fact;
          nobody =
              only_one (λ (u : View E). u.turn ≡ false) v refl;
        });
      }

  -- what a pass with every part finds when it closes the lock
  pub record Closes (v : View E) (got : Option V) : Type 0 where
    pub value : V
    pub got_is : got ≡ Some value
    pub history : entries value ≡ v.seen
    pub own : (p : ℕ) → times p v.own ≡ times p (row 0 (length (entries value)))
    pub number : first value ≡ v.from
    pub fact : meets value v.base

  alone : (s : State (Option V) (View E)) (k : K s) (id : ℕ) (v : View E) → get_elem? s.views id ≡ some v
      → v.parts ≡ all_parts → (j : ℕ) (u : View E) → j ≢ id → get_elem? s.views j ≡ some u → u.parts ≡ 0
  alone s k id v at every j u n e = let a : u.parts + v.parts ≤ total (λ w. w.parts) s.views =
      total-two (λ w. w.parts) s.views j id u v n e at in let b = k.parts in omega arith

  pub closes : (id : ℕ) (v : View E) (ws : List ℕ) (xs : List (Option V)) (got : Option V) → IsFree v
      → v.parts ≡ all_parts → Final (Seen K id v) ws xs → get_elem? xs 0 ≡ some got → Closes v got
  closes id v ws xs got free every final there =
      let s : State (Option V) (View E) = final.0 in
      let k : K s = final.1.0 in
      let at : get_elem? s.views id ≡ some v = final.1.1 in
      let mine : Fits k.from k.base k.longest v = k.each id v at in
      let like : (v.from ≡ k.from) × (v.base ≡ k.base) = mine.alike free.alive in
      let home : Home first entries meets k.from k.base k.longest s =
      ⊎_elim (λ (h : Home first entries meets k.from k.base k.longest s). h)
      (λ (a : Away first entries meets k.longest k.served s).
      let apart : a.by ≢ id = λ e. clash a.view.turn a.turn
      (ap (λ (u : View E). u.turn) (some-injective _ _ (sym a.at ∙ (ap (get_elem? s.views) e ∙ at))) ∙ free.no_turn)
      in
      let none : a.view.parts ≡ 0 = alone s k id v at every a.by a.view apart a.at in
      let bound : length a.view.ticket ≤ a.view.parts = (k.each a.by a.view a.at).one.1 in
      let had : length a.view.ticket ≡ 1 = ap length a.ticket in
      absurd (omega arith))
      k.place in
      let is : got ≡ Some home.value =
      some-injective _ _ (sym there ∙ final.4 0 (Some home.value) (ap (λ hs. get_elem? hs 0) home.there)) in
      let owned : (p : ℕ) → times p v.own ≡ times p (row 0 (length k.longest)) = λ p.
      let a : total (λ (u : View E). times p u.own) s.views ≡ times p v.own =
      total-one (λ (u : View E). times p u.own) s.views id v at
      (λ j u n e. ap (times p) ((k.each j u e).unowned (alone s k id v at every j u n e))) in
      let b = k.owns p in omega arith in
      let whole : v.seen ≡ k.longest =
      prefix_whole v.seen k.longest mine.seen
      (reaches v.seen k.longest (λ p far. let a : times p v.own ≡ 0 =
      mine.within p far (let z : length v.met ≡ 0 = ap length free.no_met in omega arith) in let b = owned p in
      omega arith)) in
      record {
        value = home.value;
        got_is = is;
        history = home.history ∙ sym whole;
        own = λ p. owned p ∙ ap (λ (xs : List E). times p (row 0 (length xs))) (sym home.history);
        number = home.number ∙ sym like.0;
        fact = subst (meets home.value) (sym like.1) home.fact;
      }
    where
      -- where no position from the length of xs on is owned, ys is no longer
      reaches : (xs ys : List E) → ((p : ℕ) → length xs ≤ p → times p (row 0 (length ys)) ≡ 0) → length ys ≤ length xs
      reaches xs ys none = dite (dec_le (length ys) (length xs)) (λ le. le)
          (λ more. let a : times (length xs) (row 0 (length ys)) ≡ 0 = none (length xs) (omega arith) in
          let b : times (length xs) (row 0 (length ys)) ≡ 1 =
          times-row-in (length xs) 0 (length ys) (omega arith) (omega arith) in absurd (omega arith))

  pub opens_as : (value known : V) (base : V → Base) (xs ys : List (Option V)) → known ≡ value → xs ≡ [] → ys ≡ xs
      ++ Some value ∷ [] → meets value (base value)
      → K (opening (0 ∷ 0 ∷ []) ys (opened (first known) (base known) (entries known)))
  opens_as value known base xs ys same none items fact =
      let is : ys ≡ Some value ∷ [] = items ∙ ap (λ zs. zs ++ Some value ∷ []) none in
      subst (λ (p : List (Option V) × V). K (opening (0 ∷ 0 ∷ []) p.0 (opened (first p.1) (base p.1) (entries p.1))))
      (λ i. (sym is i, sym same i)) (opens value (base value) fact)
