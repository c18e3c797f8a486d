-- The pieces of an activity are admitted.
use Rattle.std.proofs.Common.{◌≡◌, ◌<◌, ◌≤◌, ℕ, ◌+◌, ◌-◌, ◌*◌, ◌^◌, ◌==◌, ◌&&◌, nat_lt, nat_le, Bool, true, false, List}
use Rattle.std.proofs.Common.{length, take, drop, if◌then◌else◌, refl, ap, ◌∙◌, arith}
use Rattle.std.proofs.Math.ListN.{length-take, length-drop}
use Rattle.std.proofs.lemmas.Bool.{and_from, le-leb, lt-ltb, ne_eqb}
use Rattle.mta_transfer_rules.specs.Pieces.{piece_of}
use Rattle.mta_session.specs.Receiving.{is_piece_of, piece_limit}
use Rattle.mta_session_next_laws.specs.Next.{PiecesAreAdmitted}

limit_is : (checkpoint : ℕ) → 1 ≤ checkpoint → piece_limit checkpoint ≡ 1024 * checkpoint
limit_is checkpoint some = by (checkpoint == 0) (ne_eqb checkpoint 0 (λ e. omega (arith, some, e)))
  where
    by : (b : Bool) → b ≡ false → (if b then 2097152 else 1024 * checkpoint) ≡ 1024 * checkpoint
    by b e = rw e refl

piece_is : (size n : ℕ) (octets : List ℕ) → 1 ≤ size
    → piece_of size octets (n + 1) ≡ take size (drop (size * n) octets)
piece_is size n octets some = by (size == 0) (ne_eqb size 0 (λ e. omega (arith, some, e)))
    ∙ ap (λ m. take size (drop (size * m) octets)) (let e : n + 1 - 1 ≡ n = omega arith in e)
  where
    by : (b : Bool) → b ≡ false
        → (if b then octets else take size (drop (size * (n + 1 - 1)) octets))
        ≡ take size (drop (size * (n + 1 - 1)) octets)
    by b e = rw e refl

admitted : (checkpoint n size : ℕ) (piece : List ℕ) → piece_limit checkpoint ≡ size → 1 ≤ length piece
    → length piece ≤ size → n + 1 < 2 ^ 32 → is_piece_of checkpoint n (length piece) ≡ true
admitted checkpoint n size piece limit some few small =
    and_from (nat_le 1 (length piece) && nat_le (length piece) (piece_limit checkpoint)) (nat_lt (n + 1) (2 ^ 32))
    (and_from (nat_le 1 (length piece)) (nat_le (length piece) (piece_limit checkpoint))
    (le-leb 1 (length piece) some) (le-leb (length piece) (piece_limit checkpoint) (omega (arith, limit, few))))
    (lt-ltb (n + 1) (2 ^ 32) small)

pub pieces_are_admitted : PiecesAreAdmitted
pieces_are_admitted checkpoint k n octets held some more small =
    let is = ap length (piece_is (1024 * checkpoint) n octets (omega (arith, some))) in
    let cut = length-take (1024 * checkpoint) (drop (1024 * checkpoint * n) octets) in
    let left = length-drop (1024 * checkpoint * n) octets in
    let one : 1 ≤ length (piece_of (1024 * checkpoint) octets (n + 1)) = omega (arith, is, cut, left, some, more) in
    let most : length (piece_of (1024 * checkpoint) octets (n + 1)) ≤ 1024 * checkpoint =
    omega (arith, is, cut, left) in
    let so = admitted checkpoint n (1024 * checkpoint) (piece_of (1024 * checkpoint) octets (n + 1))
    (limit_is checkpoint some) one most small in
    (so, so)
