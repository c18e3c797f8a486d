-- A receiving end takes a unit.
use Rattle.std.proofs.Common.{◌≡◌, ℕ, ◌+◌, ◌==◌, ◌&&◌, nat_lt, not, Bool, true, false, if◌then◌else◌, Option, Some}
use Rattle.std.proofs.Common.{None, List, ◌∷◌, ◌++◌, refl, sym, subst, arith, inl, inr}
use Rattle.std.proofs.lemmas.Bool.{eqb-true}
use Rattle.mta_lane_recv.specs.Half.{is_partial}
use Rattle.mta_transfer_rules.specs.Units.{LaneUnit, Start, Piece, Sync, End, Resume, Discard, Accept, Other}
use Rattle.mta_transfer_rules.specs.Receiving as r
use Rattle.mta_transfer_rules.specs.Receiving.{RecvStage, RecvEnd, take, take_start, take_piece, take_sync, take_end}
use Rattle.mta_transfer_rules.specs.Receiving.{take_discard, take_resume, may_resume, when, in_stage}
use Rattle.mta_world.proofs.Units.{Each, Own, Leftover, HasBegin, Opens, LastOnly, transfers, pending}
use Rattle.mta_world.proofs.Talk.{IsWaiting, Busy, Rest, Begun}

pub data Moves : RecvStage → LaneUnit → RecvStage → Type 0 where
  starts : {k : ℕ} → Moves r.Free (Start k) (r.Next k 0)
  starts_behind : {j k : ℕ} → Moves (r.Skips j) (Start k) (r.Next k 0)
  holds : {k n : ℕ} {o : List ℕ} → Moves (r.Next k n) (Piece o) (r.Held k (n + 1) o)
  holds_next : {k n : ℕ} {q o : List ℕ} → Moves (r.Synced k n q) (Piece o) (r.Held k (n + 1) o)
  skips_piece : {k : ℕ} {o : List ℕ} → Moves (r.Skips k) (Piece o) (r.Skips k)
  syncs : {k n : ℕ} {o : List ℕ} → Moves (r.Held k n o) (Sync n) (r.Synced k n o)
  skips_sync : {k m : ℕ} → Moves (r.Skips k) (Sync m) (r.Skips k)
  ends : {k n : ℕ} {o : List ℕ} → Moves (r.Held k n o) (End k) (r.Ended k n o)
  skips_end : {k : ℕ} → Moves (r.Skips k) (End k) (r.Skips k)
  asks : {k n : ℕ} → Moves r.Free (Resume k n) (r.Asked k n)
  discards : {k : ℕ} → Moves r.Free (Discard k) (r.Discards k)
  discards_next : {k n : ℕ} → Moves (r.Next k n) (Discard k) (r.Discards k)
  discards_held : {k n : ℕ} {o : List ℕ} → Moves (r.Held k n o) (Discard k) (r.Discards k)
  discards_synced : {k n : ℕ} {o : List ℕ} → Moves (r.Synced k n o) (Discard k) (r.Discards k)
  skips_discard : {k : ℕ} → Moves (r.Skips k) (Discard k) (r.Skips k)
  discards_behind : {j k : ℕ} → (k == j) ≡ false → Moves (r.Skips j) (Discard k) (r.Discards k)
  passes_accept : {e : RecvStage} → Moves e Accept e
  passes_other : {e : RecvStage} → Moves e Other e

-- What `take` gives is such a move, and the durable half stays ---------------------------------

abbrev pub Moved : RecvEnd → RecvStage → LaneUnit → RecvEnd → Type 0
Moved e stage x f = Moves stage x f.stage × (f.high ≡ e.high) × (f.last ≡ e.last)

moved_to : (e f g : RecvEnd) (stage : RecvStage) (x : LaneUnit) → Some g ≡ Some f → Moved e stage x g
    → Moved e stage x f
moved_to e f g stage x h m = let same : g ≡ f = cc in subst (λ (z : RecvEnd). Moved e stage x z) same m

when_moved : (b : Bool) (e f g : RecvEnd) (stage : RecvStage) (x : LaneUnit) → when b g ≡ Some f
    → (b ≡ true → Moved e stage x g) → Moved e stage x f
when_moved true e f g stage x h m = moved_to e f g stage x h (m refl)
when_moved false e f g stage x h m = absurd cc

not_taken : (e f : RecvEnd) (A : Type 0) → ◌≡◌ {A = Option RecvEnd} None (Some f) → A
not_taken e f A h = absurd cc

start-moves : (stage : RecvStage) (e f : RecvEnd) (k : ℕ) → take_start stage e k ≡ Some f → Moved e stage (Start k) f
start-moves r.Free e f k h = when_moved (nat_lt e.high k && not (is_partial e.last)) e f _ r.Free (Start k) h
    (λ b. (starts, refl, refl))
start-moves (r.Skips j) e f k h = when_moved (nat_lt e.high k && not (is_partial e.last)) e f _ (r.Skips j) (Start k) h
    (λ b. (starts_behind, refl, refl))
start-moves _ e f k h = not_taken e f _ h

piece-moves : (stage : RecvStage) (e f : RecvEnd) (o : List ℕ) → e.stage ≡ stage → take_piece stage e o ≡ Some f
    → Moved e stage (Piece o) f
piece-moves (r.Next k n) e f o at h = moved_to e f _ (r.Next k n) (Piece o) h (holds, refl, refl)
piece-moves (r.Synced k n q) e f o at h = moved_to e f _ (r.Synced k n q) (Piece o) h (holds_next, refl, refl)
piece-moves (r.Skips k) e f o at h =
    moved_to e f e (r.Skips k) (Piece o) h
    (subst (λ (z : RecvStage). Moves (r.Skips k) (Piece o) z) (sym at) skips_piece, refl, refl)
piece-moves _ e f o at h = not_taken e f _ h

sync-moves : (stage : RecvStage) (e f : RecvEnd) (m : ℕ) → e.stage ≡ stage → take_sync stage e m ≡ Some f
    → Moved e stage (Sync m) f
sync-moves (r.Held k n o) e f m at h =
    when_moved (m == n) e f (in_stage e (r.Synced k n o)) (r.Held k n o) (Sync m) h
    (λ b. (subst (λ (z : ℕ). Moves (r.Held k n o) (Sync z) (r.Synced k n o)) (sym (eqb-true m n b)) syncs, refl, refl))
sync-moves (r.Skips k) e f m at h =
    moved_to e f e (r.Skips k) (Sync m) h (
      subst (λ (z : RecvStage). Moves (r.Skips k) (Sync m) z) (sym at) skips_sync,
      refl,
      refl,
    )
sync-moves _ e f m at h = not_taken e f _ h

end-moves : (stage : RecvStage) (e f : RecvEnd) (j : ℕ) → e.stage ≡ stage → take_end stage e j ≡ Some f
    → Moved e stage (End j) f
end-moves (r.Held k n o) e f j at h =
    when_moved (j == k) e f (in_stage e (r.Ended k n o)) (r.Held k n o) (End j) h
    (λ b. (subst (λ (z : ℕ). Moves (r.Held k n o) (End z) (r.Ended k n o)) (sym (eqb-true j k b)) ends, refl, refl))
end-moves (r.Skips k) e f j at h =
    when_moved (j == k) e f e (r.Skips k) (End j) h
    (λ b. (
      subst (λ (z : RecvStage). Moves (r.Skips k) (End j) z) (sym at)
          (subst (λ (z : ℕ). Moves (r.Skips k) (End z) (r.Skips k)) (sym (eqb-true j k b)) skips_end),
      refl,
      refl,
    ))
end-moves _ e f j at h = not_taken e f _ h

resume-moves : (stage : RecvStage) (e f : RecvEnd) (k n : ℕ) → take_resume stage e k n ≡ Some f
    → Moved e stage (Resume k n) f
resume-moves r.Free e f k n h = when_moved (may_resume e.last k n) e f (in_stage e (r.Asked k n)) r.Free (Resume k n) h
    (λ b. (asks, refl, refl))
resume-moves _ e f k n h = not_taken e f _ h

discard-moves : (stage : RecvStage) (e f : RecvEnd) (j : ℕ) → e.stage ≡ stage → take_discard stage e j ≡ Some f
    → Moved e stage (Discard j) f
discard-moves r.Free e f j at h = moved_to e f (in_stage e (r.Discards j)) r.Free (Discard j) h (discards, refl, refl)
discard-moves (r.Next k n) e f j at h =
    when_moved (j == k) e f (in_stage e (r.Discards j)) (r.Next k n) (Discard j) h
    (λ b. (subst (λ (z : ℕ). Moves (r.Next z n) (Discard j) (r.Discards j)) (eqb-true j k b) discards_next, refl, refl))
discard-moves (r.Held k n o) e f j at h =
    when_moved (j == k) e f (in_stage e (r.Discards j)) (r.Held k n o) (Discard j) h
    (λ b. (
      subst (λ (z : ℕ). Moves (r.Held z n o) (Discard j) (r.Discards j)) (eqb-true j k b) discards_held,
      refl,
      refl,
    ))
discard-moves (r.Synced k n o) e f j at h =
    when_moved (j == k) e f (in_stage e (r.Discards j)) (r.Synced k n o) (Discard j) h
    (λ b. (
      subst (λ (z : ℕ). Moves (r.Synced z n o) (Discard j) (r.Discards j)) (eqb-true j k b) discards_synced,
      refl,
      refl,
    ))
discard-moves (r.Skips k) e f j at h = by_number (j == k) refl h
  where
    by_number : (b : Bool) → (j == k) ≡ b → (if b then Some e else Some (in_stage e (r.Discards j))) ≡ Some f
        → Moved e (r.Skips k) (Discard j) f
    by_number true b g =
        moved_to e f e (r.Skips k) (Discard j) g (
          subst (λ (z : RecvStage). Moves (r.Skips k) (Discard j) z) (sym at)
              (subst (λ (z : ℕ). Moves (r.Skips k) (Discard z) (r.Skips k)) (sym (eqb-true j k b)) skips_discard),
          refl,
          refl,
        )
    by_number false b g = moved_to e f (in_stage e (r.Discards j)) (r.Skips k) (Discard j) g
        (discards_behind b, refl, refl)
discard-moves _ e f j at h = not_taken e f _ h

pub take-moves : (e f : RecvEnd) (x : LaneUnit) → take e x ≡ Some f → Moved e e.stage x f
take-moves e f (Start k) h = start-moves e.stage e f k h
take-moves e f (Piece o) h = piece-moves e.stage e f o refl h
take-moves e f (Sync m) h = sync-moves e.stage e f m refl h
take-moves e f (End k) h = end-moves e.stage e f k refl h
take-moves e f (Resume k n) h = resume-moves e.stage e f k n h
take-moves e f (Discard k) h = discard-moves e.stage e f k refl h
take-moves e f Accept h = moved_to e f e e.stage Accept h (passes_accept, refl, refl)
take-moves e f Other h = moved_to e f e e.stage Other h (passes_other, refl, refl)
take-moves e f _ h = not_taken e f _ h

-- What a move keeps -------------------------------------------------------------------------------

-- the units that are not taken or not answered, before and after
abbrev pub before_it : RecvStage → LaneUnit → List LaneUnit → List LaneUnit
before_it e x U = pending e ++ transfers (x ∷ U)

abbrev pub behind_it : RecvStage → List LaneUnit → List LaneUnit
behind_it e U = pending e ++ transfers U

pub moves-each : (P : LaneUnit → Type 0) (e f : RecvStage) (x : LaneUnit) (U : List LaneUnit) → Moves e x f
    → Each P (before_it e x U) → Each P (behind_it f U)
moves-each P e f x U starts g = g.1
moves-each P e f x U starts_behind g = g.1
moves-each P e f x U holds g = g.1
moves-each P e f x U holds_next g = g.1
moves-each P e f x U skips_piece g = g.1
moves-each P e f x U syncs g = g.1
moves-each P e f x U skips_sync g = g.1
moves-each P e f x U ends g = g
moves-each P e f x U skips_end g = g.1
moves-each P e f x U asks g = g
moves-each P e f x U discards g = g
moves-each P e f x U discards_next g = g
moves-each P e f x U discards_held g = g
moves-each P e f x U discards_synced g = g
moves-each P e f x U skips_discard g = g.1
moves-each P e f x U (discards_behind b) g = g
moves-each P e f x U passes_accept g = g
moves-each P e f x U passes_other g = g

pub moves-last : (h : ℕ) (e f : RecvStage) (x : LaneUnit) (U : List LaneUnit) → Moves e x f
    → LastOnly h (before_it e x U) → LastOnly h (behind_it f U)
moves-last h e f x U starts g = g.1
moves-last h e f x U starts_behind g = g.1
moves-last h e f x U holds g = g.1
moves-last h e f x U holds_next g = g.1
moves-last h e f x U skips_piece g = g.1
moves-last h e f x U syncs g = g.1
moves-last h e f x U skips_sync g = g.1
moves-last h e f x U ends g = g
moves-last h e f x U skips_end g = g.1
moves-last h e f x U asks g = g
moves-last h e f x U discards g = g
moves-last h e f x U discards_next g = g
moves-last h e f x U discards_held g = g
moves-last h e f x U discards_synced g = g
moves-last h e f x U skips_discard g = g.1
moves-last h e f x U (discards_behind b) g = g
moves-last h e f x U passes_accept g = g
moves-last h e f x U passes_other g = g

pub moves-rest : (bad : ℕ → Type 0) (h : ℕ) (e f : RecvStage) (x : LaneUnit) (U : List LaneUnit) → Moves e x f
    → Rest bad h e (before_it e x U) → Rest bad h f (behind_it f U)
moves-rest bad h e f x U starts g = absurd g.1.0
moves-rest bad h e f x U starts_behind g = absurd g.1.0
moves-rest bad h e f x U holds g = absurd g.0
moves-rest bad h e f x U holds_next g = absurd g.0
moves-rest bad h e f x U skips_piece g = (g.0, g.1.1)
moves-rest bad h e f x U syncs g = absurd g.0
moves-rest bad h e f x U skips_sync g = (g.0, g.1.1)
moves-rest bad h e f x U ends g = absurd g.0
moves-rest bad h e f x U skips_end g = (g.0, g.1.1)
moves-rest bad h e f x U asks g = absurd g.1.0
moves-rest bad h e f x U discards g = (tt, g.1)
moves-rest bad h e f x U discards_next g = absurd g.0
moves-rest bad h e f x U discards_held g = absurd g.0
moves-rest bad h e f x U discards_synced g = absurd g.0
moves-rest bad h e f x U skips_discard g = (g.0, g.1.1)
moves-rest bad h e f x U (discards_behind b) g = (tt, g.1)
moves-rest bad h e f x U passes_accept g = g
moves-rest bad h e f x U passes_other g = g

-- the front unit, where the transfer of h is still to begin
front : (bad : ℕ → Type 0) (h : ℕ) (x : LaneUnit) (V : List LaneUnit) → HasBegin bad h (x ∷ V) → (Opens h x → ⊥)
    → HasBegin bad h V
front bad h x V b never = elim b [ inl p ↦ absurd (never p.0) | inr p ↦ p.1 ]

module _ (bad : ℕ → Type 0) (h : ℕ) (U : List LaneUnit) where
  begins : (k : ℕ) (x : LaneUnit) → (Leftover bad h x → ⊥) → (Opens h x → k ≡ h) → HasBegin bad h (x ∷ transfers U)
      → (k ≡ h) × Each (Own h) (transfers U)
  begins k x never same b = elim b [ inl p ↦ (same p.0, p.1) | inr p ↦ absurd (never p.0) ]

  started : (k : ℕ) → HasBegin bad h (Start k ∷ transfers U) → Begun bad h (r.Next k 0) (transfers U)
  started k b = inl (begins k (Start k) (λ l. l) (λ o. o) b)

  -- a Discard in a transfer stands where the transfer began
  ended_by : (k : ℕ) (e : RecvStage) → (IsWaiting h e → ⊥) → (Busy h e → k ≡ h)
      → Begun bad h e (Discard k ∷ transfers U) → Begun bad h (r.Discards k) (Discard k ∷ transfers U)
  ended_by k e never same b = elim b [ inl p ↦ inr (tt, inl (same p.0, p.1.1)) | inr p ↦ absurd (never p.0) ]

  -- a unit in a transfer that goes on
  goes_on : (e f : RecvStage) (x : LaneUnit) → (IsWaiting h e → ⊥) → (Busy h e → Busy h f)
      → Begun bad h e (x ∷ transfers U) → Begun bad h f (transfers U)
  goes_on e f x never same b = elim b [ inl p ↦ inl (same p.0, p.1.1) | inr p ↦ absurd (never p.0) ]

  -- a unit that is skipped
  skipped : (k : ℕ) (x : LaneUnit) → (Opens h x → ⊥) → Begun bad h (r.Skips k) (x ∷ transfers U)
      → Begun bad h (r.Skips k) (transfers U)
  skipped k x never b = elim b [ inl p ↦ absurd p.0 | inr p ↦ inr (p.0, front bad h x (transfers U) p.1 never) ]

  waits_on : (e f : RecvStage) (V : List LaneUnit) → (Busy h e → ⊥) → IsWaiting h f → Begun bad h e V → Begun bad h f V
  waits_on e f V never w b = elim b [ inl p ↦ absurd (never p.0) | inr p ↦ inr (w, p.1) ]

  same_begun : (e f : RecvStage) (V : List LaneUnit) → (Busy h e → Busy h f) → (IsWaiting h e → IsWaiting h f)
      → Begun bad h e V → Begun bad h f V
  same_begun e f V g w b = elim b [ inl p ↦ inl (g p.0, p.1) | inr p ↦ inr (w p.0, p.1) ]

  -- a Discard of what is skipped opens nothing: the activity skipped is not h, since h has yet to begin
  pub moves-begun : (e f : RecvStage) (x : LaneUnit) → Moves e x f → Begun bad h e (before_it e x U)
      → Begun bad h f (behind_it f U)
  moves-begun e f x (starts {k = k}) b = elim b [ inl p ↦ absurd p.0 | inr p ↦ started k p.1 ]
  moves-begun e f x (starts_behind {k = k}) b = elim b [ inl p ↦ absurd p.0 | inr p ↦ started k p.1 ]
  moves-begun e f x (holds {k = k} {n = n} {o = o}) b = goes_on (r.Next k n) (r.Held k (n + 1) o) (Piece o) (λ w. w)
      (λ g. g) b
  moves-begun e f x (holds_next {k = k} {n = n} {q = q} {o = o}) b =
      goes_on (r.Synced k n q) (r.Held k (n + 1) o) (Piece o) (λ w. w) (λ g. g) b
  moves-begun e f x (skips_piece {k = k} {o = o}) b = skipped k (Piece o) (λ w. w) b
  moves-begun e f x (syncs {k = k} {n = n} {o = o}) b =
      goes_on (r.Held k n o) (r.Synced k n o) (Sync n) (λ w. w) (λ g. g) b
  moves-begun e f x (skips_sync {k = k} {m = m}) b = skipped k (Sync m) (λ w. w) b
  moves-begun e f x (ends {k = k} {n = n} {o = o}) b = same_begun (r.Held k n o) (r.Ended k n o) (End k ∷ transfers U)
      (λ g. g) (λ w. w) b
  moves-begun e f x (skips_end {k = k}) b = skipped k (End k) (λ w. w) b
  moves-begun e f x (asks {k = k} {n = n}) b = waits_on r.Free (r.Asked k n) (Resume k n ∷ transfers U) (λ w. w) tt b
  moves-begun e f x (discards {k = k}) b = waits_on r.Free (r.Discards k) (Discard k ∷ transfers U) (λ w. w) tt b
  moves-begun e f x (discards_next {k = k} {n = n}) b = ended_by k (r.Next k n) (λ w. w) (λ g. g) b
  moves-begun e f x (discards_held {k = k} {n = n} {o = o}) b = ended_by k (r.Held k n o) (λ w. w) (λ g. g) b
  moves-begun e f x (discards_synced {k = k} {n = n} {o = o}) b = ended_by k (r.Synced k n o) (λ w. w) (λ g. g) b
  moves-begun e f x (skips_discard {k = k}) b =
      elim b [
        | inl p ↦ absurd p.0
        | inr p ↦ inr
            (p.0, front bad h (Discard k) (transfers U) p.1 (λ q. omega (arith, p.0)))
      ]
  moves-begun e f x (discards_behind {j = j} {k = k} same) b =
      waits_on (r.Skips j) (r.Discards k) (Discard k ∷ transfers U) (λ w. w) tt b
  moves-begun e f x passes_accept b = b
  moves-begun e f x passes_other b = b
