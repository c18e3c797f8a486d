-- What the ends do keeps the order of units on a link.
use Rattle.std.proofs.Common.{◌≡◌, ℕ, ◌==◌, true, List, ◌∷◌, refl, sym, ap, subst, inl, inr}
use Rattle.std.proofs.lemmas.Bool.{eq-eqb}
use Rattle.mta_transfer_rules.specs.Units.{LaneUnit, Discard}
use Rattle.mta_transfer_rules.specs.Sending as s
use Rattle.mta_transfer_rules.specs.Sending.{SendStage}
use Rattle.mta_transfer_rules.specs.Receiving as r
use Rattle.mta_transfer_rules.specs.Receiving.{RecvStage}
use Rattle.mta_world.proofs.Units.{Each, UpTo, StageUpTo, NoResumeAck, transfers}
use Rattle.mta_world.proofs.Flow.{Place, Between, Skipping, next, after, place, Flows, Order}
use Rattle.mta_world.proofs.Talk.{Genuine}
use Rattle.mta_world.proofs.Moves.{Moves, starts, starts_behind, holds, holds_next, skips_piece, syncs, skips_sync}
use Rattle.mta_world.proofs.Moves.{ends, skips_end, asks, discards, discards_next, discards_held, discards_synced}
use Rattle.mta_world.proofs.Moves.{skips_discard, discards_behind, passes_accept, passes_other, before_it, behind_it}

same : (n : ℕ) → (n == n) ≡ true
same n = eq-eqb n n refl

module _ (size : ℕ) (octets : ℕ → List ℕ) (bad : ℕ → Type 0) where
  -- the place and what stands behind it, and what the end holds
  pub record Kept (e f : RecvStage) (V W : List LaneUnit) : Type 0 where
    pub flows : Flows size octets (place f) W
    pub ends_there : after (place f) W ≡ after (place e) V
    pub genuine : Genuine size octets bad f

  discard_kept : (e : RecvStage) (k : ℕ) (U : List LaneUnit) → next (place e) (Discard k) ≡ Between
      → Flows size octets (place e) (Discard k ∷ transfers U)
      → Kept e (r.Discards k) (Discard k ∷ transfers U) (Discard k ∷ transfers U)
  discard_kept e k U to g = record {
    flows = (tt, subst (λ (z : Place). Flows size octets z (transfers U)) to g.1);
    ends_there = ap (λ (z : Place). after z (transfers U)) (sym to);
    genuine = tt;
  }

  pub moves-order : (e f : RecvStage) (x : LaneUnit) (U : List LaneUnit) → Moves e x f → Genuine size octets bad e
      → Flows size octets (place e) (before_it e x U) → Kept e f (before_it e x U) (behind_it f U)
  moves-order e f x U starts h g = record { flows = g.1; ends_there = refl; genuine = tt }
  moves-order e f x U starts_behind h g = record { flows = g.1; ends_there = refl; genuine = tt }
  moves-order e f x U holds h g = record { flows = g.1; ends_there = refl; genuine = g.0 }
  moves-order e f x U holds_next h g = record { flows = g.1; ends_there = refl; genuine = g.0 }
  moves-order e f x U skips_piece h g = record { flows = g.1; ends_there = refl; genuine = h }
  moves-order e f x U syncs h g = record { flows = g.1; ends_there = refl; genuine = (h, g.0.1) }
  moves-order e f x U skips_sync h g = record { flows = g.1; ends_there = refl; genuine = h }
  moves-order e f x U ends h g = record { flows = g; ends_there = refl; genuine = h }
  moves-order e f x U skips_end h g = record { flows = g.1; ends_there = refl; genuine = h }
  moves-order e f x U asks h g = record { flows = g; ends_there = refl; genuine = tt }
  moves-order e f x U discards h g = record { flows = g; ends_there = refl; genuine = tt }
  moves-order e f x U (discards_next {k = k} {n = n}) h g = discard_kept (r.Next k n) k U refl g
  moves-order e f x U (discards_held {k = k} {n = n} {o = o}) h g = discard_kept (r.Held k n o) k U refl g
  moves-order e f x U (discards_synced {k = k} {n = n} {o = o}) h g = discard_kept (r.Synced k n o) k U refl g
  moves-order e f x U (skips_discard {k = k}) h g =
      let to : next (Skipping k) (Discard k) ≡ Skipping k = rw (same k) refl in
      record {
        flows = subst (λ (z : Place). Flows size octets z (transfers U)) to g.1;
        ends_there = ap (λ (z : Place). after z (transfers U)) (sym to);
        genuine = h;
      }
  moves-order e f x U (discards_behind {j = j} {k = k} b) h g = discard_kept (r.Skips j) k U (rw b refl) g
  moves-order e f x U passes_accept h g = record { flows = g; ends_there = refl; genuine = h }
  moves-order e f x U passes_other h g = record { flows = g; ends_there = refl; genuine = h }

pub moves-upto : (h : ℕ) (e f : RecvStage) (x : LaneUnit) (U : List LaneUnit) → Moves e x f → StageUpTo h e
    → Each (UpTo h) (before_it e x U) → StageUpTo h f
moves-upto h e f x U starts b g = g.0
moves-upto h e f x U starts_behind b g = g.0
moves-upto h e f x U holds b g = b
moves-upto h e f x U holds_next b g = b
moves-upto h e f x U skips_piece b g = b
moves-upto h e f x U syncs b g = b
moves-upto h e f x U skips_sync b g = b
moves-upto h e f x U ends b g = b
moves-upto h e f x U skips_end b g = b
moves-upto h e f x U asks b g = g.0
moves-upto h e f x U discards b g = g.0
moves-upto h e f x U discards_next b g = b
moves-upto h e f x U discards_held b g = b
moves-upto h e f x U discards_synced b g = b
moves-upto h e f x U skips_discard b g = b
moves-upto h e f x U (discards_behind d) b g = g.0
moves-upto h e f x U passes_accept b g = b
moves-upto h e f x U passes_other b g = b

-- The order where the answers on their way change ---------------------------------------------

pub order-answers : (stage : SendStage) (D E : List LaneUnit) (b : Place) → (Each NoResumeAck D → Each NoResumeAck E)
    → Order stage D b → Order stage E b
order-answers (s.Resume_put k n) D E b g o =
    elim o [ inl p ↦ inl (p.0, g p.1) | inr q ↦ elim q [ inl p ↦ inr (inl (p.0, g p.1)) | inr p ↦ inr (inr p) ] ]
order-answers any0 D E b g o = o

-- the plain form of it where the answers do not count
pub order-plain : (stage : SendStage) (D E : List LaneUnit) (b c : Place) → b ≡ c
    → (Each NoResumeAck D → Each NoResumeAck E) → Order stage D b → Order stage E c
order-plain stage D E b c e g o = subst (λ (z : Place). Order stage E z) e (order-answers stage D E b g o)
