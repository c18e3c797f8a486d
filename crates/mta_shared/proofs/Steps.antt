-- Each step keeps the rule.
use Rattle.std.proofs.Math.Nat.{mod-add-mod}
use Rattle.std.proofs.lemmas.Bool.Decides.{leb_tells}
use native.Mathlib.Decide.{ℕ_discrete}
use mathlib.Core.Logic.{dite}
use Rattle.std.proofs.Common.{◌≡◌, ◌≢◌, ℕ, suc, ◌+◌, ◌-◌, ◌%◌, ◌^◌, ◌<◌, ◌≤◌, List, [], ◌∷◌, ◌++◌, length, set, true}
use Rattle.std.proofs.Common.{false, cond, leb, Option, Some, None, refl, sym, ap, ◌∙◌, subst, inl, inr, ⊎_elim, arith}
use Rattle.std.specs.Prelude.{slice_index, slice_set}
use mathlib.Core.Option.{some, some-injective, some-ne-none}
use mathlib.Core.Option as maybe
use mathlib.Core.List.{IsPrefix}
use lib.ListN.{get_elem?}
use Rattle.atomic_table.specs.Table.{State, Step, Splits, Joins, Allows, keeps, takes, gives}
use Rattle.atomic_table.proofs.Lists.{one_turn, set_here, set_else, set_again}
use Rattle.mta_shared.specs.declared.history.Base.{Base}
use Rattle.mta_shared.specs.declared.history.View.{View}
use Rattle.mta_shared.specs.Counts.{total, times, row}
use Rattle.mta_shared.specs.Rule.{all_parts, longer, Fits, IsFree, Home, Away, Kept, spent, less_one, one_part}
use Rattle.mta_shared.specs.Rule.{with_ticket, with_turn, after_turn, drawn, looked, served, both, settled, compared}
use Rattle.mta_shared.specs.Rule.{Grows}
use Rattle.mta_shared.proofs.Sums.{total-set, total-push, total-at, total-two, total-le, times-append, row-push}
use Rattle.mta_shared.proofs.Sums.{row-add, times-row-above, times-row-le, row_bounds, times-self}
use Rattle.mta_shared.proofs.Fronts.{prefix_self, prefix_trans, prefix_shorter, prefix_length}
use Rattle.mta_shared.proofs.Places.{all_set, all_push, place_set, place_push, clash, not_true, below_length}

-- the value in a slot
abbrev value_or : {V : Type 0} → V → List (ℕ × Option V) → V
value_or d [] = d
value_or d ((k, None) ∷ xs) = d
value_or d ((k, Some x) ∷ xs) = x

-- no `Play` here reads its step
abbrev pub no_step : {V : Type 0} → Step (Option V)
no_step = record { slots = 0; word = 0; first = 0; second = 0; said = maybe.none }

module _ {E : Type 0} where
  -- a history at the end of a turn
  pub grows_prefix : (xs ys : List E) → Grows xs ys → IsPrefix xs ys
  grows_prefix xs ys g = ⊎_elim (λ (t : ys ≡ xs). subst (IsPrefix xs) (sym t) (prefix_self xs))
      (λ (t : (e : E) × (ys ≡ xs ++ e ∷ [])). (t.0 ∷ [], sym t.1)) g

module _ {E V : Type 0} (first : V → ℕ) (entries : V → List E) (meets : V → Base → Type 0) where
  abbrev K : State (Option V) (View E) → Type 0
  K = Kept first entries meets

  abbrev waits : View E → ℕ
  waits u = length u.ticket

  abbrev tickets_at : ℕ → View E → ℕ
  tickets_at n u = times n u.ticket

  abbrev owned_at : ℕ → View E → ℕ
  owned_at n u = times n u.own

  abbrev parts_of : View E → ℕ
  parts_of u = u.parts

  pub splits : (id : ℕ) (v : View E) → IsFree v → 2 ≤ v.parts → Splits K id v (less_one v) (one_part v)
  splits id v free two s k at =
      let l : View E = less_one v in let r : View E = one_part v in
      let mine : Fits k.from k.base k.longest v = k.each id v at in
      let vs : List (View E) = set s.views id l in
      let sums : (f : View E → ℕ) → total f (vs ++ r ∷ []) + f v ≡ total f s.views + f l + f r =
      λ f. let a : total f (vs ++ r ∷ []) ≡ total f vs + f r = total-push f vs r in
      let b : total f vs + f v ≡ total f s.views + f l = total-set f s.views id v l at in omega arith in
      let none : v.ticket ≡ [] = free.no_ticket in
      let no_wait : length v.ticket ≡ 0 = ap length none in
      let same : total waits (vs ++ r ∷ []) ≡ total waits s.views =
      let a : total waits (vs ++ r ∷ []) + length v.ticket ≡ total waits s.views + length v.ticket + length
      v.ticket = sums waits in omega arith in
      record {
        longest = k.longest;
        from = k.from;
        base = k.base;
        served = k.served;
        words = k.words ∙ ap (λ (n : ℕ). (k.served % 2 ^ 64) ∷ ((k.served + n) % 2 ^ 64) ∷ []) (sym same);
        each = all_push (Fits k.from k.base k.longest) vs r
            (all_set (λ j. Fits k.from k.base k.longest) (λ j. Fits k.from k.base k.longest) s.views id l
            (λ j u n e. k.each j u e)
            (record {
              seen = mine.seen;
              met = mine.met;
              within = mine.within;
              alike = λ h. mine.alike (omega arith);
              unowned = λ h. absurd (omega arith);
              one = (omega arith, omega arith);
            }))
            (record {
              seen = mine.seen;
              met = mine.met;
              within = λ p h h'. refl;
              alike = λ h. mine.alike (omega arith);
              unowned = λ h. refl;
              one = (omega arith, omega arith);
            });
        tickets = λ n. let a : total (tickets_at n) (vs ++ r ∷ []) + times n v.ticket ≡ total
            (tickets_at n) s.views + times n v.ticket + times n v.ticket = sums (tickets_at n) in
            let z : times n v.ticket ≡ 0 = ap (times n) none in
            let b : total (tickets_at n) s.views ≡ times n (row k.served (total waits s.views)) = k.tickets n in
            let c : times n (row k.served (total waits (vs ++ r ∷ []))) ≡ times n (row k.served (total waits s.views)) =
            ap (λ (m : ℕ). times n (row k.served m)) same in
            omega arith;
        parts = let a : total parts_of (vs ++ r ∷ []) + v.parts ≡ total parts_of s.views + (v.parts - 1) + 1 =
            sums parts_of in let b = k.parts in omega arith;
        owns = λ p. let a : total (owned_at p) (vs ++ r ∷ []) + times p v.own ≡ total
            (owned_at p) s.views + times p v.own + 0 = sums (owned_at p) in let b = k.owns p in omega arith;
        place = place_push first entries meets k.from k.base k.longest k.served
            (record { words = s.words; homes = s.homes; views = vs }) s.words r free.no_turn
            (place_set first entries meets k.from k.base k.longest k.served s s.words id v l at free.no_turn
            free.no_turn k.place);
      }

  -- no more tickets are out than there are parts
  few : (s : State (Option V) (View E)) (k : K s) → total waits s.views ≤ all_parts
  few s k = let a : total waits s.views ≤ total parts_of s.views =
      total-le waits parts_of s.views (λ j u e. (k.each j u e).one.1) in let b = k.parts in omega arith

  pub draws : (slots id : ℕ) (v : View E) (c : List (ℕ × Option V)) → IsFree v
      → Allows K slots id (v, c) 1 (λ n. (n + 1) % 2 ^ 64) (drawn no_step (v, c))
  draws slots id v c free s k long at small =
      let m : ℕ = total waits s.views in
      let t : ℕ = k.served + m in
      let w : View E = with_ticket t v in
      let vs : List (View E) = set s.views id w in
      let mine : Fits k.from k.base k.longest v = k.each id v at in
      let none : v.ticket ≡ [] = free.no_ticket in
      let no_wait : length v.ticket ≡ 0 = ap length none in
      let one : total waits vs ≡ suc m = let a : total waits vs + length v.ticket ≡ m + 1 =
      total-set waits s.views id v w at in omega arith in
      let found : slice_index s.words 1 ≡ t % 2 ^ 64 = ap (λ ws. slice_index ws 1) k.words in
      let next : (slice_index s.words 1 + 1) % 2 ^ 64 ≡ (k.served + total waits vs) % 2 ^ 64 =
      ap (λ (n : ℕ). (n + 1) % 2 ^ 64) found ∙ mod-add-mod t (2 ^ 64) 1
      ∙ ap (λ (n : ℕ). n % 2 ^ 64) (let e : t + 1 ≡ k.served + total waits vs = omega arith in e) in (
        w,
        keeps,
        tt,
        record {
          longest = k.longest;
          from = k.from;
          base = k.base;
          served = k.served;
          words = ap (λ ws. slice_set ws 1 ((slice_index s.words 1 + 1) % 2 ^ 64)) k.words
              ∙ ap (λ (n : ℕ). (k.served % 2 ^ 64) ∷ n ∷ []) next;
          each = all_set (λ j. Fits k.from k.base k.longest) (λ j. Fits k.from k.base k.longest) s.views id w
              (λ j u n e. k.each j u e)
              (record {
                seen = mine.seen;
                met = mine.met;
                within = mine.within;
                alike = mine.alike;
                unowned =
                    mine.unowned;
                one = (omega arith, let a = free.alive in omega arith);
              });
          tickets = λ n. let a : total (tickets_at n) vs + times n v.ticket ≡ total (tickets_at n) s.views + times n
              (t ∷ []) = total-set (tickets_at n) s.views id v w at in
              let z : times n v.ticket ≡ 0 = ap (times n) none in
              let b : total (tickets_at n) s.views ≡ times n (row k.served m) = k.tickets n in
              let c : times n (row k.served (total waits vs)) ≡ times n (row k.served m) + times n (t ∷ []) =
              ap (λ (i : ℕ). times n (row k.served i)) one ∙ ap (times n) (row-push k.served m)
              ∙ times-append n (row k.served m) (t ∷ []) in
              omega arith;
          parts = let a : total parts_of vs + v.parts ≡ total parts_of s.views + v.parts =
              total-set parts_of s.views id v w at in let b = k.parts in omega arith;
          owns = λ p. let a : total (owned_at p) vs + times p v.own ≡ total (owned_at p) s.views + times p v.own =
              total-set (owned_at p) s.views id v w at in let b = k.owns p in omega arith;
          place = place_set first entries meets k.from k.base k.longest k.served s
              (slice_set s.words 1 ((slice_index s.words 1 + 1) % 2 ^ 64)) id v w at free.no_turn free.no_turn k.place;
        },
        (t, refl, found),
      )

  -- a ticket that is out is the one served where their remainders are equal
  is_served : (s : State (Option V) (View E)) (k : K s) (id : ℕ) (v : View E) (t : ℕ) → get_elem? s.views id ≡ some v
      → v.ticket ≡ t ∷ [] → k.served % 2 ^ 64 ≡ t % 2 ^ 64 → k.served ≡ t
  is_served s k id v t at out same =
      let m : ℕ = total waits s.views in
      let once : times t v.ticket ≡ 1 = ap (times t) out ∙ times-self t in
      let a : times t v.ticket ≤ total (tickets_at t) s.views = total-at (tickets_at t) s.views id v at in
      let b : total (tickets_at t) s.views ≡ times t (row k.served m) = k.tickets t in
      let within : (k.served ≤ t) × (t < k.served + m) = row_bounds t k.served m (omega arith) in
      let c : m ≤ all_parts = few s k in
      one_turn k.served t (2 ^ 64) within.0 (omega arith) same

  -- who has the ticket that is served and not the turn finds the value at home
  is_home : (s : State (Option V) (View E)) (k : K s) (id : ℕ) (v : View E) → get_elem? s.views id ≡ some v
      → v.ticket ≡ k.served ∷ [] → v.turn ≡ false → Home first entries meets k.from k.base k.longest s
  is_home s k id v at out off = ⊎_elim (λ (h : Home first entries meets k.from k.base k.longest s). h)
      (λ (a : Away first entries meets k.longest k.served s).
      let apart : id ≢ a.by = λ e. clash a.view.turn a.turn
      (ap (λ (u : View E). u.turn) (some-injective _ _ (sym a.at ∙ (ap (get_elem? s.views) (sym e) ∙ at))) ∙ off) in
      let x : times k.served v.ticket ≡ 1 = ap (times k.served) out ∙ times-self k.served in
      let y : times k.served a.view.ticket ≡ 1 = ap (times k.served) a.ticket ∙ times-self k.served in
      let two : times k.served v.ticket + times k.served a.view.ticket ≤ total (tickets_at k.served) s.views =
      total-two (tickets_at k.served) s.views id a.by v a.view apart at a.at in
      let b : total (tickets_at k.served) s.views ≡ times k.served (row k.served (total waits s.views)) =
      k.tickets k.served in
      let c : times k.served (row k.served (total waits s.views)) ≤ 1 =
      times-row-le k.served k.served (total waits s.views) in
      absurd (omega arith))
      k.place

  pub looks : (slots id : ℕ) (v : View E) (t : ℕ) → v.ticket ≡ t ∷ [] → v.turn ≡ false → v.met ≡ [] → 0 < v.parts
      → Allows K slots id (v, []) 0 (λ n. n) (looked first entries meets no_step (v, []))
  looks slots id v t out off no_met alive s k long at small =
      let mine : Fits k.from k.base k.longest v = k.each id v at in
      let m : ℕ = total waits s.views in
      let found : slice_index s.words 0 ≡ k.served % 2 ^ 64 = ap (λ ws. slice_index ws 0) k.words in
      let number : slice_index v.ticket 0 ≡ t = ap (λ l. slice_index l 0) out in
      let again : slice_set s.words 0 (slice_index s.words 0) ≡ s.words =
      ap (λ (ws : List ℕ). slice_set ws 0 (slice_index ws 0)) k.words ∙ sym k.words in
      dite (ℕ_discrete (slice_index s.words 0) (slice_index v.ticket 0 % 2 ^ 64))
      (λ hit.
      let is : k.served ≡ t = is_served s k id v t at out (sym found ∙ hit ∙ ap (λ (n : ℕ). n % 2 ^ 64) number) in
      let out' : v.ticket ≡ k.served ∷ [] = out ∙ ap (λ (n : ℕ). n ∷ []) (sym is) in
      let h : Home first entries meets k.from k.base k.longest s = is_home s k id v at out' off in
      let w : View E = with_turn (entries h.value) v in
      let vs : List (View E) = set s.views id w in
      let same : total waits vs ≡ total waits s.views =
      let a : total waits vs + length v.ticket ≡ total waits s.views + length v.ticket =
      total-set waits s.views id v w at in omega arith in
      let like : (v.from ≡ k.from) × (v.base ≡ k.base) = mine.alike alive in (
        w,
        takes 0 (Some h.value),
        ap (λ hs. get_elem? hs 0) h.there,
        record {
          longest = k.longest;
          from = k.from;
          base = k.base;
          served = k.served;
          words = again ∙ k.words ∙ ap (λ (n : ℕ). (k.served % 2 ^ 64) ∷ ((k.served + n) % 2 ^ 64) ∷ []) (sym same);
          each = all_set (λ j. Fits k.from k.base k.longest) (λ j. Fits k.from k.base k.longest) s.views id w
              (λ j u n e. k.each j u e)
              (record {
                seen = subst (λ xs. IsPrefix xs k.longest) (sym h.history) (prefix_self k.longest);
                met = mine.met;
                within = λ p far _. let a : times p v.own ≤ total (owned_at p) s.views =
                    total-at (owned_at p) s.views id v at in let b = k.owns p in
                    let len : length (entries h.value) ≡ length k.longest = ap length h.history in
                    let z : times p (row 0 (length k.longest)) ≡ 0 =
                    times-row-above p 0 (length k.longest) (omega arith) in omega arith;
                alike = mine.alike;
                unowned = mine.unowned;
                one = mine.one;
              });
          tickets = λ n. let a : total (tickets_at n) vs + times n v.ticket ≡ total
              (tickets_at n) s.views + times n v.ticket = total-set (tickets_at n) s.views id v w at in
              let b : total (tickets_at n) s.views ≡ times n (row k.served m) = k.tickets n in
              let c : times n (row k.served (total waits vs)) ≡ times n (row k.served m) =
              ap (λ (i : ℕ). times n (row k.served i)) same in
              omega arith;
          parts = let a : total parts_of vs + v.parts ≡ total parts_of s.views + v.parts =
              total-set parts_of s.views id v w at in let b = k.parts in omega arith;
          owns = λ p. let a : total (owned_at p) vs + times p v.own ≡ total (owned_at p) s.views + times p v.own =
              total-set (owned_at p) s.views id v w at in let b = k.owns p in omega arith;
          place = inr (record {
            by = id;
            view = w;
            at = set_here s.views id w (below_length s.views id v at);
            turn = refl;
            ticket = out';
            history = h.history;
            away = ap (λ hs. slice_set hs 0 maybe.none) h.there;
            only = all_set (λ j u. u.turn ≡ true → j ≡ id) (λ j u. u.turn ≡ true → j ≡ id) s.views id w
                (λ j u n e on. absurd (clash u.turn on (h.nobody j u e))) (λ _. refl);
          });
        },
        (
          λ _. record {
            value = h.value;
            held = refl;
            view = refl;
            seen =
                subst (IsPrefix v.seen) (sym h.history) mine.seen;
            number = h.number ∙ sym like.0;
            fact =
                subst (meets h.value) (sym like.1) h.fact;
          },
          λ n. absurd (n hit),
        ),
      ))
      (λ miss. (
        v,
        keeps,
        tt,
        subst (λ (x : List ℕ × List (View E)). K (record { words = x.0; homes = s.homes; views = x.1 }))
            (λ i. (sym again i, sym (set_again s.views id v at) i)) k,
        (λ e. absurd (miss e), λ _. refl),
      ))

  -- who has the turn has the whole history, and the ticket that is served
  is_away : (s : State (Option V) (View E)) (k : K s) (id : ℕ) (v : View E) → get_elem? s.views id ≡ some v
      → v.turn ≡ true → (a : Away first entries meets k.longest k.served s) × (a.by ≡ id) × (a.view ≡ v)
  is_away s k id v at on = ⊎_elim
      (λ (h : Home first entries meets k.from k.base k.longest s). absurd (clash v.turn on (h.nobody id v at)))
      (λ (a : Away first entries meets k.longest k.served s). let e : id ≡ a.by = a.only id v at on in
      (a, sym e, some-injective _ _ (sym a.at ∙ (ap (get_elem? s.views) (sym e) ∙ at))))
      k.place

  pub serves : (slots id : ℕ) (v : View E) (x : V) → v.turn ≡ true → v.met ≡ [] → 0 < v.parts → Grows v.seen (entries x)
      → meets x v.base → first x ≡ v.from
      → Allows K slots id (v, (0, Some x) ∷ []) 0 (λ n. (n + 1) % 2 ^ 64) (served entries no_step (v, (0, Some x) ∷ []))
  serves slots id v x on no_met alive grown fact number s k long at small =
      let away : (a : Away first entries meets k.longest k.served s) × (a.by ≡ id) × (a.view ≡ v) =
      is_away s k id v at on in
      let a : Away first entries meets k.longest k.served s = away.0 in
      let whole : v.seen ≡ k.longest = ap (λ (u : View E). u.seen) (sym away.2) ∙ a.history in
      let ticket : v.ticket ≡ k.served ∷ [] = ap (λ (u : View E). u.ticket) (sym away.2) ∙ a.ticket in
      let mine : Fits k.from k.base k.longest v = k.each id v at in
      let like : (v.from ≡ k.from) × (v.base ≡ k.base) = mine.alike alive in
      let now : List E = entries x in
      let pre : IsPrefix v.seen now = grows_prefix v.seen now grown in
      let pre' : IsPrefix k.longest now = subst (λ (xs : List E). IsPrefix xs now) whole pre in
      let len : length v.seen ≤ length now = prefix_length v.seen now pre in
      let old : length v.seen ≡ length k.longest = ap length whole in
      let w : View E = after_turn now v in
      let vs : List (View E) = set s.views id w in
      let m : ℕ = total waits vs in
      let had : length v.ticket ≡ 1 = ap length ticket in
      let waited : total waits s.views ≡ suc m = let b : m + length v.ticket ≡ total waits s.views + 0 =
      total-set waits s.views id v w at in omega arith in
      let found : slice_index s.words 0 ≡ k.served % 2 ^ 64 = ap (λ ws. slice_index ws 0) k.words in
      let next : (slice_index s.words 0 + 1) % 2 ^ 64 ≡ (k.served + 1) % 2 ^ 64 = ap (λ (n : ℕ). (n + 1) % 2 ^ 64) found
      ∙ mod-add-mod k.served (2 ^ 64) 1 in
      let later : k.served + total waits s.views ≡ k.served + 1 + m = omega arith in (
        w,
        gives,
        tt,
        record {
          longest = now;
          from = k.from;
          base = k.base;
          served = k.served + 1;
          words = ap (λ ws. slice_set ws 0 ((slice_index s.words 0 + 1) % 2 ^ 64)) k.words
              ∙ (λ i. next i ∷ (later i % 2 ^ 64) ∷ []);
          each = all_set (λ j. Fits k.from k.base now) (λ j. Fits k.from k.base now) s.views id w
              (λ j u n e. let f : Fits k.from k.base k.longest u = k.each j u e in
              record {
                seen = prefix_trans u.seen k.longest now f.seen pre';
                met =
                    prefix_trans u.met k.longest now f.met pre';
                within = f.within;
                alike = f.alike;
                unowned = f.unowned;
                one = f.one;
              })
              (record {
                seen = prefix_self now;
                met = subst (λ (xs : List E). IsPrefix xs now) (sym no_met) (now, refl);
                within = λ p far _. let c : times p (v.own ++ row (length v.seen) (length now - length v.seen)) ≡ times
                    p v.own + times p (row (length v.seen) (length now - length v.seen)) =
                    times-append p v.own (row (length v.seen) (length now - length v.seen)) in
                    let d : times p v.own ≡ 0 = mine.within p (omega arith)
                    (let z : length v.met ≡ 0 = ap length no_met in omega arith) in
                    let e : times p (row (length v.seen) (length now - length v.seen)) ≡ 0 =
                    times-row-above p (length v.seen) (length now - length v.seen) (omega arith) in omega arith;
                alike = mine.alike;
                unowned = λ h. absurd (omega arith);
                one = (omega arith, omega arith);
              });
          tickets = λ n. let b : total (tickets_at n) vs + times n v.ticket ≡ total (tickets_at n) s.views + 0 =
              total-set (tickets_at n) s.views id v w at in
              let c : times n v.ticket ≡ times n (k.served ∷ []) = ap (times n) ticket in
              let d : total (tickets_at n) s.views ≡ times n (row k.served (total waits s.views)) = k.tickets n in
              let e : times n (row k.served (total waits s.views)) ≡ times n (k.served ∷ []) + times n
              (row (suc k.served) m) = ap (λ (i : ℕ). times n (row k.served i)) waited
              ∙ times-append n (k.served ∷ []) (row (suc k.served) m) in
              let f : times n (row (k.served + 1) m) ≡ times n (row (suc k.served) m) =
              ap (λ (i : ℕ). times n (row i m)) (let y : k.served + 1 ≡ suc k.served = omega arith in y) in
              omega arith;
          parts = let b : total parts_of vs + v.parts ≡ total parts_of s.views + v.parts =
              total-set parts_of s.views id v w at in let c = k.parts in omega arith;
          owns = λ p. let b : total (owned_at p) vs + times p v.own ≡ total (owned_at p) s.views + times p
              (v.own ++ row (length v.seen) (length now - length v.seen)) = total-set (owned_at p) s.views id v w at in
              let c : times p (v.own ++ row (length v.seen) (length now - length v.seen)) ≡ times p v.own + times p
              (row (length v.seen) (length now - length v.seen)) =
              times-append p v.own (row (length v.seen) (length now - length v.seen)) in
              let d : total (owned_at p) s.views ≡ times p (row 0 (length k.longest)) = k.owns p in
              let e : times p (row 0 (length k.longest)) ≡ times p (row 0 (length v.seen)) =
              ap (λ (i : ℕ). times p (row 0 i)) (sym old) in
              let f : times p (row 0 (length now)) ≡ times p (row 0 (length v.seen)) + times p
              (row (length v.seen) (length now - length v.seen)) =
              ap (λ (i : ℕ). times p (row 0 i)) (let y : length now ≡ length v.seen + (length now - length v.seen) =
              omega arith in y) ∙ (ap (times p) (row-add 0 (length v.seen) (length now - length v.seen))
              ∙ (times-append p (row 0 (length v.seen)) (row (0 + length v.seen) (length now - length v.seen))
              ∙ ap (λ (i : ℕ). times p (row 0 (length v.seen)) + times p (row i (length now - length v.seen)))
              (let y : 0 + length v.seen ≡ length v.seen = omega arith in y))) in
              omega arith;
          place = inl (record {
            value = x;
            there = ap (λ hs. slice_set hs 0 (some (Some x))) a.away;
            history = refl;
            number = number ∙ like.0;
            fact = subst (meets x) like.1 fact;
            nobody = all_set (λ j u. u.turn ≡ false) (λ j u. u.turn ≡ false) s.views id w
                (λ j u n e. not_true u.turn (λ t. n (a.only j u e t ∙ away.1))) refl;
          });
        },
        λ y e. ap (λ z. (after_turn (entries (value_or x z)) v, [])) e,
      )

  -- the other pass is spent, and the first has what both had
  pub joins : (id : ℕ) (v : View E) (other : ℕ) (w : View E) → IsFree v → IsFree w
      → Joins K id v other w (both v w) spent
  joins id v other w free free' s k at apart there =
      let b : View E = both v w in
      let vs : List (View E) = set s.views id b in
      let us : List (View E) = set vs other spent in
      let at' : get_elem? s.views other ≡ some w = sym (set_else s.views id other b apart) ∙ there in
      let mine : Fits k.from k.base k.longest v = k.each id v at in
      let theirs : Fits k.from k.base k.longest w = k.each other w at' in
      let sums : (f : View E → ℕ) → total f us + f w + f v ≡ total f s.views + f b + f spent =
      λ f. let x : total f us + f w ≡ total f vs + f spent = total-set f vs other w spent there in
      let y : total f vs + f v ≡ total f s.views + f b = total-set f s.views id v b at in omega arith in
      let none : length v.ticket ≡ 0 = ap length free.no_ticket in
      let none' : length w.ticket ≡ 0 = ap length free'.no_ticket in
      let same : total waits us ≡ total waits s.views =
      let x : total waits us + length w.ticket + length v.ticket ≡ total waits s.views + length v.ticket + 0 =
      sums waits in omega arith in
      let counts : (p : ℕ) → times p (v.own ++ w.own) ≡ times p v.own + times p w.own =
      λ p. times-append p v.own w.own in
      let alive : 0 < v.parts = free.alive in
      record {
        longest = k.longest;
        from = k.from;
        base = k.base;
        served = k.served;
        words = k.words ∙ ap (λ (n : ℕ). (k.served % 2 ^ 64) ∷ ((k.served + n) % 2 ^ 64) ∷ []) (sym same);
        each = all_set (λ j. Fits k.from k.base k.longest) (λ j. Fits k.from k.base k.longest) vs other spent
            (λ j u _ e. all_set (λ j. Fits k.from k.base k.longest) (λ j. Fits k.from k.base k.longest) s.views id b
            (λ j u _ e. k.each j u e)
            (record {
              seen = mine.seen;
              met = theirs.seen;
              within = λ p far far'. let x : times p v.own ≡ 0 =
                  mine.within p far (let z : length v.met ≡ 0 = ap length free.no_met in omega arith) in
                  let y : times p w.own ≡ 0 = theirs.within p far'
                  (let z : length w.met ≡ 0 = ap length free'.no_met in omega arith) in
                  let z : times p (v.own ++ w.own) ≡ times p v.own + times p w.own = counts p in omega arith;
              alike = λ _. mine.alike alive;
              unowned = λ h. absurd (omega arith);
              one = (omega arith, omega arith);
            }) j u e)
            (record {
              seen = (k.longest, refl);
              met = (k.longest, refl);
              within = λ p _ _. refl;
              alike =
                  λ h. absurd (omega arith);
              unowned = λ _. refl;
              one = (omega arith, omega arith);
            });
        tickets = λ n. let x : total (tickets_at n) us + times n w.ticket + times n v.ticket ≡ total
            (tickets_at n) s.views + times n v.ticket + 0 = sums (tickets_at n) in
            let y : times n w.ticket ≡ 0 = ap (times n) free'.no_ticket in
            let z : total (tickets_at n) s.views ≡ times n (row k.served (total waits s.views)) = k.tickets n in
            let c : times n (row k.served (total waits us)) ≡ times n (row k.served (total waits s.views)) =
            ap (λ (m : ℕ). times n (row k.served m)) same in
            omega arith;
        parts = let x : total parts_of us + w.parts + v.parts ≡ total parts_of s.views + (v.parts + w.parts) + 0 =
            sums parts_of in let y = k.parts in omega arith;
        owns = λ p. let x : total (owned_at p) us + times p w.own + times p v.own ≡ total (owned_at p) s.views + times p
            (v.own ++ w.own) + 0 = sums (owned_at p) in let y = k.owns p in
            let z : times p (v.own ++ w.own) ≡ times p v.own + times p w.own = counts p in omega arith;
        place = place_set first entries meets k.from k.base k.longest k.served
            (record { words = s.words; homes = s.homes; views = vs }) s.words other w spent there free'.no_turn refl
            (place_set first entries meets k.from k.base k.longest k.served s s.words id v b at free.no_turn
            free.no_turn k.place);
      }

  longer_cases : (P : List E → Type 0) (xs ys : List E) → (length xs ≤ length ys → P ys)
      → (length ys ≤ length xs → P xs) → P (longer xs ys)
  longer_cases P xs ys hi lo = ⊎_elim
      (λ (t : (leb (length xs) (length ys) ≡ true) × (length xs ≤ length ys)). subst (λ b. P (cond b ys xs)) (sym t.0)
      (hi t.1))
      (λ (t : (leb (length xs) (length ys) ≡ false) × (length ys < length xs)). subst (λ b. P (cond b ys xs)) (sym t.0)
      (lo (let h : length ys < length xs = t.1 in omega arith)))
      (leb_tells (length xs) (length ys))

  pub compares : (slots id : ℕ) (v : View E) (c : List (ℕ × Option V)) → v.turn ≡ false → 0 < v.parts
      → Allows K slots id (v, c) 0 (λ n. n) (compared no_step (v, c))
  compares slots id v c off alive s k long at small =
      let mine : Fits k.from k.base k.longest v = k.each id v at in
      let w : View E = settled v in
      let vs : List (View E) = set s.views id w in
      let again : slice_set s.words 0 (slice_index s.words 0) ≡ s.words =
      ap (λ (ws : List ℕ). slice_set ws 0 (slice_index ws 0)) k.words ∙ sym k.words in
      let same : total waits vs ≡ total waits s.views =
      let a : total waits vs + length v.ticket ≡ total waits s.views + length v.ticket =
      total-set waits s.views id v w at in omega arith in
      let front : IsPrefix v.seen w.seen =
      longer_cases (IsPrefix v.seen) v.seen v.met
      (λ le. prefix_shorter v.seen v.met k.longest mine.seen mine.met le) (λ _. prefix_self v.seen) in
      let front' : IsPrefix v.met w.seen = longer_cases (IsPrefix v.met) v.seen v.met (λ _. prefix_self v.met)
      (λ le. prefix_shorter v.met v.seen k.longest mine.met mine.seen le) in (
        w,
        keeps,
        tt,
        record {
          longest = k.longest;
          from = k.from;
          base = k.base;
          served = k.served;
          words = again ∙ k.words ∙ ap (λ (n : ℕ). (k.served % 2 ^ 64) ∷ ((k.served + n) % 2 ^ 64) ∷ []) (sym same);
          each = all_set (λ j. Fits k.from k.base k.longest) (λ j. Fits k.from k.base k.longest) s.views id w
              (λ j u n e. k.each j u e)
              (record {
                seen = longer_cases (λ xs. IsPrefix xs k.longest) v.seen v.met (λ _. mine.met) (λ _. mine.seen);
                met = (k.longest, refl);
                within = λ p far _. mine.within p
                    (let h : length v.seen ≤ length w.seen = prefix_length v.seen w.seen front in omega arith)
                    (let h : length v.met ≤ length w.seen = prefix_length v.met w.seen front' in omega arith);
                alike = mine.alike;
                unowned = mine.unowned;
                one = mine.one;
              });
          tickets = λ n. let a : total (tickets_at n) vs + times n v.ticket ≡ total
              (tickets_at n) s.views + times n v.ticket = total-set (tickets_at n) s.views id v w at in
              let b : total (tickets_at n) s.views ≡ times n (row k.served (total waits s.views)) = k.tickets n in
              let c : times n (row k.served (total waits vs)) ≡ times n (row k.served (total waits s.views)) =
              ap (λ (i : ℕ). times n (row k.served i)) same in
              omega arith;
          parts = let a : total parts_of vs + v.parts ≡ total parts_of s.views + v.parts =
              total-set parts_of s.views id v w at in let b = k.parts in omega arith;
          owns = λ p. let a : total (owned_at p) vs + times p v.own ≡ total (owned_at p) s.views + times p v.own =
              total-set (owned_at p) s.views id v w at in let b = k.owns p in omega arith;
          place = place_set first entries meets k.from k.base k.longest k.served s
              (slice_set s.words 0 (slice_index s.words 0)) id v w at off off k.place;
        },
        (
          refl,
          record {
            seen = front;
            met = front';
            once = λ p. let a : times p v.own ≤ total (owned_at p) s.views =
                total-at (owned_at p) s.views id v at in let b = k.owns p in
                let c : times p (row 0 (length k.longest)) ≤ 1 = times-row-le p 0 (length k.longest) in omega arith;
          },
        ),
      )
