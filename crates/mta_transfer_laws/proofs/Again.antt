-- An EndAck that is put again behind a snapshot.
use Rattle.std.proofs.Common.{◌≡◌, ◌==◌, ℕ, zero, suc, nat_le, cond, Bool, true, false, Some, None, [], ◌∷◌}
use Rattle.std.proofs.Common.{refl, inl, inr, arith}
use Rattle.std.proofs.lemmas.Bool.{eqb-true}
use Rattle.mta_lane_send.specs.declared.state.SendState.TheVariants as state
use Rattle.mta_lane_recv.specs.declared.state.Last.TheVariants as last
use Rattle.mta_rtse.specs.declared.types.Answer.{Answer}
use Rattle.mta_units.specs.declared.unit.OpenUnit.{OpenUnit}
use Rattle.mta_transfer_rules.specs.Units as u
use Rattle.mta_transfer_rules.specs.Sending as s
use Rattle.mta_transfer_rules.specs.Receiving as r
use Rattle.mta_transfer_rules.specs.Lanes.{Unopened, Open, Closed, unopened, closed_before, LanesAllow}
use Rattle.mta_transfer_laws.specs.History.{BeginsNew}
use Rattle.mta_transfer_laws.specs.Acknowledged.{IsCompleteIn}
use Rattle.mta_transfer_laws.specs.Examples.{done_lane, done_before, AnEndAckIsPutAgain}

none : (y : u.LaneUnit) → None ≡ Some y → ⊥
none y e = cc

-- ---- the history

new_by : (a b c : Bool) → (cond a done_lane (cond b (cond c closed_before unopened) unopened)).phase ≡ Unopened
    → cond a done_lane (cond b (cond c closed_before unopened) unopened) ≡ unopened
new_by true b c e = absurd (let opened : Open ≡ Unopened = e in cc)
new_by false true true e = absurd (let closed : Closed ≡ Unopened = e in cc)
new_by false true false e = refl
new_by false false c e = refl

begun : BeginsNew done_before
begun lane e = new_by (1 == lane) (nat_le 1 lane) (nat_le lane 1) e

other-lane : (n : ℕ) (b : Bool) → (1 == suc (suc n)) ≡ b → b ≡ false
other-lane n true e = let c : 1 ≡ suc (suc n) = eqb-true 1 (suc (suc n)) e in absurd (omega (arith, c))
other-lane n false e = refl

allowed : LanesAllow (λ o. true) done_before
allowed zero = tt
allowed (suc zero) = ((refl, refl), tt)
allowed (suc (suc n)) = let e : (1 == suc (suc n)) ≡ false = other-lane n (1 == suc (suc n)) refl in rw e tt

never : IsCompleteIn done_before 1 1 → ⊥
never (zero, g, n, piece, e) = cc
never (suc zero, g, n, piece, e) = cc
never (suc (suc p), g, n, piece, e) = cc

-- ---- the list

module _ (proposal : OpenUnit) (size window : ℕ) (answer : Answer) where
  pub puts_again : (AnEndAckIsPutAgain proposal size window answer)
  puts_again = record {
    possible = record { begun = begun; allowed = allowed };
    good = record {
      begun = omega arith;
      stands = tt;
      never_fall = tt;
      sending = record {
        plain = tt;
        last_end = record {
          state = state.Idle 0;
          octets = [];
          size = 2;
          window = 1;
          accepted = true;
          stage = s.Quiet;
          heard = None;
        };
        allowed = refl;
      };
      receiving = record {
        plain = (tt, (tt, (tt, (tt, (tt, (tt, tt))))));
        last_end = record { high = 1; last = last.Done 1; stage = r.Free; from = 1; acked = 1 };
        allowed = (tt, (refl, ((refl, omega arith, refl), (refl, (refl, ((2, 3 ∷ [], refl, refl), refl))))));
        findings = (tt, (tt, (tt, (tt, (tt, (tt, tt))))));
      };
      turn = (tt, (tt, (tt, (tt, (tt, (tt, tt))))));
      rests = (
        tt,
        (
          ((λ y st e c. none y e), tt),
          (tt, (((λ y st e c. none y e), refl), (((λ y st e c. none y e), refl), (tt, tt)))),
        ),
      );
      refuses = tt;
      placed = (tt, (tt, (tt, (tt, (tt, (tt, tt))))));
    };
    put = inr (inr (inr (inr (inr (inl refl)))));
    none = never;
  }
