-- The own positions of a view stay sound.
use Rattle.std.proofs.Common.{◌≡◌, ℕ, ◌+◌, ◌-◌, ◌≤◌, List, ◌++◌, length, refl, sym, subst, arith}
use mathlib.Core.List.{IsPrefix}
use mathlib.Core.Logic.{dite}
use native.Mathlib.Decide.{dec_le}
use Rattle.mta_shared.specs.declared.history.Base.{Base}
use Rattle.mta_shared.specs.declared.history.View.{View}
use Rattle.mta_shared.specs.Counts.{times, row}
use Rattle.mta_shared.specs.Rule.{IsSound, Agrees, opened, less_one, one_part, with_turn, after_turn, both, settled}
use Rattle.mta_shared.proofs.Sums.{times-append, times-row-above, times-row-below, times-row-le}
use Rattle.mta_shared.proofs.Fronts.{prefix_length}

module _ {E : Type 0} where
  pub sound_opened : (from : ℕ) (base : Base) (xs : List E) → IsSound (opened from base xs)
  sound_opened from base xs = record {
    within = λ p far. times-row-above p 0 (length xs) (omega arith);
    once =
        λ p. times-row-le p 0 (length xs);
  }

  pub sound_less : (v : View E) → IsSound v → IsSound (less_one v)
  sound_less v s = record { within = s.within; once = s.once }

  pub sound_part : (v : View E) → IsSound (one_part v)
  sound_part v = record { within = λ p far. refl; once = λ p. omega arith }

  pub sound_turn : (v : View E) (xs : List E) → IsPrefix v.seen xs → IsSound v → IsSound (with_turn xs v)
  sound_turn v xs pre s = record {
    within =
        λ p far. s.within p (let h : length v.seen ≤ length xs = prefix_length v.seen xs pre in omega arith);
    once =
        s.once;
  }

  pub sound_after : (v : View E) (xs : List E) → IsPrefix v.seen xs → IsSound v → IsSound (after_turn xs v)
  sound_after v xs pre s =
      let n : ℕ = length v.seen in let d : ℕ = length xs - length v.seen in
      let len : length v.seen ≤ length xs = prefix_length v.seen xs pre in
      record {
        within = λ p far. let a : times p (v.own ++ row n d) ≡ times p v.own + times p (row n d) =
            times-append p v.own (row n d) in let b : times p v.own ≡ 0 = s.within p (omega arith) in
            let c : times p (row n d) ≡ 0 = times-row-above p n d (omega arith) in omega arith;
        once = λ p. let a : times p (v.own ++ row n d) ≡ times p v.own + times p (row n d) =
            times-append p v.own (row n d) in
            dite (dec_le n p)
            (λ le. let b : times p v.own ≡ 0 = s.within p le in let c : times p (row n d) ≤ 1 = times-row-le p n d in
            omega arith)
            (λ no. let b : times p v.own ≤ 1 = s.once p in let c : times p (row n d) ≡ 0 =
            times-row-below p n d (omega arith) in omega arith);
      }

  pub sound_both : (v w u : View E) → u ≡ settled (both v w) → Agrees (both v w) → IsSound v → IsSound w → IsSound u
  sound_both v w u is a s t = subst (λ (x : View E). IsSound x) (sym is) (record {
    within = λ p far. let x : times p (v.own ++ w.own) ≡ times p v.own + times p w.own = times-append p v.own w.own in
        let y : times p v.own ≡ 0 = s.within p
        (let h : length v.seen ≤ length (settled (both v w)).seen =
        prefix_length v.seen (settled (both v w)).seen a.seen in omega arith) in
        let z : times p w.own ≡ 0 = t.within p
        (let h : length w.seen ≤ length (settled (both v w)).seen =
        prefix_length w.seen (settled (both v w)).seen a.met in omega arith) in omega arith;
    once = a.once;
  })
