-- The order of units on one link, as a place in a transfer that each unit moves.
use Rattle.std.proofs.Common.{◌≡◌, ◌⊎◌, ℕ, ◌+◌, ◌==◌, Bool, true, false, if◌then◌else◌, List, [], ◌∷◌, ◌++◌, refl, sym}
use Rattle.std.proofs.Common.{◌∙◌, subst, inl, inr}
use Rattle.mta_transfer_rules.specs.Units.{LaneUnit, Start, Piece, Sync, End, Resume, Discard}
use Rattle.mta_transfer_rules.specs.Pieces.{piece_of, is_last}
use Rattle.mta_transfer_rules.specs.Sending as s
use Rattle.mta_transfer_rules.specs.Sending.{SendStage}
use Rattle.mta_transfer_rules.specs.Receiving as r
use Rattle.mta_transfer_rules.specs.Receiving.{RecvStage}
use Rattle.mta_world.proofs.Units.{Each, Leftover, NoResumeAck}

pub data Place : Type 0 where
  Between : Place
  Waits : (activity number : ℕ) → Place
  Behind_pieces : (activity number : ℕ) → Place
  Behind_piece : (activity number : ℕ) → Place
  Skipping : (activity : ℕ) → Place

abbrev pub next : Place → LaneUnit → Place
next Between (Start k) = Behind_pieces k 0
next Between (Resume k n) = Waits k n
next Between x = Between
next (Waits k n) (Discard j) = Between
next (Waits k n) x = Waits k n
next (Behind_pieces k n) (Piece o) = Behind_piece k (n + 1)
next (Behind_pieces k n) (Discard j) = Between
next (Behind_pieces k n) x = Behind_pieces k n
next (Behind_piece k n) (Sync m) = Behind_pieces k n
next (Behind_piece k n) (End j) = Between
next (Behind_piece k n) (Discard j) = Between
next (Behind_piece k n) x = Behind_piece k n
next (Skipping k) (Start j) = Behind_pieces j 0
next (Skipping k) (Resume j n) = Waits j n
next (Skipping k) (Discard j) = if j == k then Skipping k else Between
next (Skipping k) x = Skipping k

abbrev pub after : Place → List LaneUnit → Place
after p [] = p
after p (x ∷ xs) = after (next p x) xs

pub after-snoc : (p : Place) (xs : List LaneUnit) (x : LaneUnit) → after p (xs ++ x ∷ []) ≡ next (after p xs) x
after-snoc p [] x = refl
after-snoc p (y ∷ ys) x = after-snoc (next p y) ys x

-- where the ends stand
abbrev pub place : RecvStage → Place
place (r.Next k n) = Behind_pieces k n
place (r.Held k n o) = Behind_piece k n
place (r.Synced k n o) = Behind_pieces k n
place (r.Ended k n o) = Behind_piece k n
place (r.Found k) = Skipping k
place (r.Skips k) = Skipping k
place any0 = Between

abbrev pub send_place : SendStage → Place
send_place (s.Next k n) = Behind_pieces k n
send_place (s.Sync_next k n) = Behind_piece k n
send_place (s.Last_put k n) = Behind_piece k n
send_place (s.Resume_put k n) = Waits k n
send_place any0 = Between

abbrev pub AtOrPast : Place → ℕ → Type 0
AtOrPast Between k = Unit {0}
AtOrPast (Waits j n) k = j ≡ k
AtOrPast (Behind_pieces j n) k = j ≡ k
AtOrPast (Behind_piece j n) k = j ≡ k
AtOrPast (Skipping j) k = ⊥

-- the same place, or one in which the activity is skipped
abbrev pub Under : Place → Place → Type 0
Under a b = (b ≡ a) ⊎ ((k : ℕ) × (b ≡ Skipping k) × AtOrPast a k)

-- Where what is on its way ends is where the sending end stands, but for answers that it did not hear yet.
abbrev pub Order : SendStage → List LaneUnit → Place → Type 0
Order (s.Resume_put k n) D b = ((b ≡ Waits k n) × Each NoResumeAck D)
    ⊎ (((b ≡ Between) × Each NoResumeAck D) ⊎ Under (Behind_pieces k n) b)
Order s.Quiet D b = Under Between b
Order s.Opened D b = Under Between b
Order (s.Started k) D b = Under Between b
Order (s.Next k n) D b = Under (Behind_pieces k n) b
Order (s.Sync_next k n) D b = Under (Behind_piece k n) b
Order (s.Last_put k n) D b = Under (Behind_piece k n) b
Order (s.End_put k n) D b = Under Between b
Order (s.Discard_put k) D b = Under Between b

module _ (size : ℕ) (octets : ℕ → List ℕ) where
  -- a unit that may stand at a place
  abbrev pub Stands : Place → LaneUnit → Type 0
  Stands Between (Start k) = Unit {0}
  Stands Between (Resume k n) = Unit {0}
  Stands Between (Discard k) = Unit {0}
  Stands (Waits k n) (Discard j) = j ≡ k
  Stands (Behind_pieces k n) (Piece o) = o ≡ piece_of size (octets k) (n + 1)
  Stands (Behind_pieces k n) (Discard j) = j ≡ k
  Stands (Behind_piece k n) (Sync m) = (m ≡ n) × (is_last size (octets k) n ≡ false)
  Stands (Behind_piece k n) (End j) = (j ≡ k) × (is_last size (octets k) n ≡ true)
  Stands (Behind_piece k n) (Discard j) = j ≡ k
  Stands (Skipping k) (Start j) = Unit {0}
  Stands (Skipping k) (Piece o) = Unit {0}
  Stands (Skipping k) (Sync m) = Unit {0}
  Stands (Skipping k) (End j) = j ≡ k
  Stands (Skipping k) (Resume j n) = Unit {0}
  Stands (Skipping k) (Discard j) = Unit {0}
  Stands p x = ⊥

  abbrev pub Flows : Place → List LaneUnit → Type 0
  Flows p [] = Unit {0}
  Flows p (x ∷ xs) = Stands p x × Flows (next p x) xs

  pub flows-snoc : (p : Place) (xs : List LaneUnit) (x : LaneUnit) → Flows p xs → Stands (after p xs) x
      → Flows p (xs ++ x ∷ [])
  flows-snoc p [] x f g = (g, tt)
  flows-snoc p (y ∷ ys) x f g = (f.0, flows-snoc (next p y) ys x f.1 g)

  discarded-under : (k j : ℕ) → Under Between (if j == k then Skipping k else Between)
  discarded-under k j = elim (j == k) as (λ (b : Bool). Under Between (if b then Skipping k else Between))
      [ true ↦ inr (k, refl, tt) | false ↦ inl refl ]

  -- where k is skipped, a unit that stands at a place at or past k stands too
  pub skip-step : (k : ℕ) (a : Place) (x : LaneUnit) → AtOrPast a k → Stands a x → Stands (Skipping k) x
      × Under (next a x) (next (Skipping k) x)
  skip-step k Between (Start j) at f = (tt, inl refl)
  skip-step k Between (Resume j n) at f = (tt, inl refl)
  skip-step k Between (Discard j) at f = (tt, discarded-under k j)
  skip-step k Between _ at f = absurd f
  skip-step k (Waits i n) (Discard j) at f = (tt, discarded-under k j)
  skip-step k (Waits i n) _ at f = absurd f
  skip-step k (Behind_pieces i n) (Piece o) at f = (tt, inr (k, refl, at))
  skip-step k (Behind_pieces i n) (Discard j) at f = (tt, discarded-under k j)
  skip-step k (Behind_pieces i n) _ at f = absurd f
  skip-step k (Behind_piece i n) (Sync m) at f = (tt, inr (k, refl, at))
  skip-step k (Behind_piece i n) (End j) at f = (f.0 ∙ at, inr (k, refl, tt))
  skip-step k (Behind_piece i n) (Discard j) at f = (tt, discarded-under k j)
  skip-step k (Behind_piece i n) _ at f = absurd f
  skip-step k (Skipping i) x at f = absurd at

  pub under-step : (a b : Place) (x : LaneUnit) → Under a b → Stands a x → Stands b x × Under (next a x) (next b x)
  under-step a b x un f = elim un [
    | inl e ↦ subst (λ (z : Place). Stands z x × Under (next a x) (next z x)) (sym e) (f, inl refl)
    | inr p ↦ subst (λ (z : Place). Stands z x × Under (next a x) (next z x)) (sym p.1) (skip-step p.0 a x p.2 f)
  ]

  -- a whole queue
  pub under-flows : (a b : Place) (xs : List LaneUnit) → Under a b → Flows a xs → Flows b xs
      × Under (after a xs) (after b xs)
  under-flows a b [] un f = (tt, un)
  under-flows a b (x ∷ xs) un f =
      let one : Stands b x × Under (next a x) (next b x) = under-step a b x un f.0 in
      let more : Flows (next b x) xs × Under (after (next a x) xs) (after (next b x) xs) =
      under-flows (next a x) (next b x) xs one.1 f.1 in
      ((one.0, more.0), more.1)

-- What is left of others leads to no transfer.
abbrev pub IsRest : Place → Type 0
IsRest Between = Unit {0}
IsRest (Skipping k) = Unit {0}
IsRest _ = ⊥

rest-step : (bad : ℕ → Type 0) (h : ℕ) (p : Place) (x : LaneUnit) → IsRest p → Leftover bad h x → IsRest (next p x)
rest-step bad h Between (Start k) i l = absurd l
rest-step bad h Between (Resume k n) i l = absurd l
rest-step bad h Between _ i l = tt
rest-step bad h (Skipping k) (Start j) i l = absurd l
rest-step bad h (Skipping k) (Resume j n) i l = absurd l
rest-step bad h (Skipping k) (Discard j) i l =
    elim (j == k) as (λ (b : Bool). IsRest (if b then Skipping k else Between)) [ true ↦ tt | false ↦ tt ]
rest-step bad h (Skipping k) _ i l = tt
rest-step bad h (Waits k n) x i l = absurd i
rest-step bad h (Behind_pieces k n) x i l = absurd i
rest-step bad h (Behind_piece k n) x i l = absurd i

pub rest-after : (bad : ℕ → Type 0) (h : ℕ) (p : Place) (xs : List LaneUnit) → IsRest p → Each (Leftover bad h) xs
    → IsRest (after p xs)
rest-after bad h p [] i e = i
rest-after bad h p (x ∷ xs) i e = rest-after bad h (next p x) xs (rest-step bad h p x i e.0) e.1

pub rest-under : (b : Place) → IsRest b → Under Between b
rest-under Between i = inl refl
rest-under (Skipping k) i = inr (k, refl, tt)
rest-under any0 i = absurd i
