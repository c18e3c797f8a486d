-- What a session keeps of the other end's transfer.
use Rattle.std.specs.Prelude.{◌≡◌, ◌<◌, ◌≤◌, ℕ, ◌+◌, ◌||◌, Bool, true, false, List, length}
use Rattle.mta_lane_recv.specs.Half.{is_done, stands, takes_piece}
use Rattle.mta_transfer_rules.specs.Receiving as r
use Rattle.mta_session.specs.Receiving.{piece_limit}
use Rattle.mta_transfer_rules.specs.Receiving.{RecvEnd, RecvStage, may_resume}

-- piece n of k may be made durable, or k is done
abbrev pub goes : RecvEnd → ℕ → ℕ → Bool
goes e k n = is_done e.last k || takes_piece e.high e.last k n

-- the piece that is held is no longer than agreed
abbrev pub HoldsPiece : (checkpoint : ℕ) → List ℕ → Type 0
HoldsPiece checkpoint piece = length piece ≤ piece_limit checkpoint

abbrev pub RecvFitsAt : (checkpoint : ℕ) → RecvStage → RecvEnd → Type 0
RecvFitsAt checkpoint (r.Next k n) e =
    (goes e k (n + 1) ≡ true) × (e.from ≤ n) × (e.acked ≤ n) × (n ≤ e.acked + 1)
    × (e.acked < n → (e.from < n) × (stands e.last k n ≡ true))
RecvFitsAt checkpoint (r.Held k n piece) e =
    HoldsPiece checkpoint piece × (goes e k n ≡ true) × (e.from < n) × (e.acked + 1 ≡ n) × (1 ≤ length piece)
RecvFitsAt checkpoint (r.Synced k n piece) e =
    HoldsPiece checkpoint piece × (goes e k n ≡ true) × (e.from < n) × (e.acked ≤ n) × (n ≤ e.acked + 1)
    × (n ≤ e.acked → is_done e.last k ≡ true)
    × (is_done e.last k ≡ false → 1 ≤ length piece)
RecvFitsAt checkpoint (r.Ended k n piece) e =
    HoldsPiece checkpoint piece × (goes e k n ≡ true) × (is_done e.last k ≡ false → 1 ≤ length piece)
RecvFitsAt checkpoint (r.Asked k n) e = may_resume e.last k n ≡ true
RecvFitsAt checkpoint (r.Found k) e = ⊥
RecvFitsAt checkpoint _ e = Unit {0}

abbrev pub RecvFits : (checkpoint : ℕ) → RecvEnd → Type 0
RecvFits checkpoint e = RecvFitsAt checkpoint e.stage e

-- a unit that was taken where nothing was owed leaves what can be answered
abbrev pub StaysFit : (checkpoint : ℕ) → RecvEnd → RecvEnd → Type 0
StaysFit checkpoint old new = RecvFits checkpoint old → r.OwesNothing old → RecvFits checkpoint new
