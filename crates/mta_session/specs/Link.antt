-- What the sending end of a session's lane holds: its half, what goes over the link of it, and the octets.
use Rattle.std.specs.Prelude.{◌≡◌, ◌<◌, ◌≤◌, ℕ, ◌+◌, ◌*◌, Bool, true, false, List, [], length, Option, Some, None}
use Rattle.mta_lane_send.specs.declared.state.SendState.{SendState}
use Rattle.mta_lane_send.specs.declared.state.OnLink.{OnLink}
use Rattle.mta_lane_send.specs.declared.state.OnLink.TheVariants as link
use Rattle.mta_lane_send.specs.Half.{Sender, confirmed_of, last_of}
use Rattle.mta_transfer_rules.specs.Pieces.{piece_of}
use Rattle.mta_transfer_rules.specs.Units as u
use Rattle.mta_transfer_rules.specs.Sending as s
use Rattle.mta_transfer_rules.specs.Sending.{SendEnd, SendStage, stage_on_link}
use Rattle.mta_records.specs.Outgoing.{Carried}

-- a half, whether Accept came on the link or was put, and the octets of the activity under way
pub record Link : Type 0 where
  pub half : Sender
  pub accepted : Bool
  pub octets : List ℕ

abbrev pub octets_of : Option Carried → List ℕ
octets_of None = []
octets_of (Some o) = o.octets

-- the half's octet count is that of the activity, while its octets are held
abbrev pub HasTotal : (total : ℕ) → Option Carried → Type 0
HasTotal total None = Unit {0}
HasTotal total (Some o) = total ≡ length o.octets

-- what was put of the activity `k`, `before` where that is nothing
abbrev pub stage_at : (k : ℕ) → (before : SendStage) → OnLink → SendStage
stage_at k before link.Nothing = before
stage_at k before (link.Pieces n) = s.Next k n
stage_at k before (link.SyncDue n) = s.Sync_next k n
stage_at k before (link.LastPiece n) = s.Last_put k n
stage_at k before (link.End n) = s.End_put k n
stage_at k before (link.Resume n) = s.Resume_put k n
stage_at k before link.Discard = s.Discard_put k

abbrev pub stage_of : SendState → OnLink → SendStage
stage_of state l = stage_at (last_of state) (stage_on_link state) l

-- The end as the rules see it. What a unit got calls for is asked for at once, so nothing heard is kept.
abbrev pub send_end : Link → SendEnd
send_end l =
    record {
      state = l.half.state;
      octets = l.octets;
      size = 1024 * l.half.checkpoint;
      window = l.half.window;
      accepted = l.accepted;
      stage = stage_of l.half.state l.half.on_link;
      heard = None;
    }

-- Discard of an activity may be put behind what is put
abbrev pub lets_go : OnLink → Bool
lets_go (link.End n) = false
lets_go link.Discard = false
lets_go _ = true

-- the values that both ends hold to are the same
pub record SameValues (old new : Link) : Type 0 where
  pub checkpoint : new.half.checkpoint ≡ old.half.checkpoint
  pub window : new.half.window ≡ old.half.window

-- the next piece behind the first n, or none while the window is used up
abbrev pub PutsPiece : (n : ℕ) → SendEnd → Option (List ℕ) → SendEnd → Type 0
PutsPiece n e None new = (confirmed_of e.state + e.window ≤ n) × (new ≡ e)
PutsPiece n e (Some piece) new =
    (n < confirmed_of e.state + e.window) × (piece ≡ piece_of e.size e.octets (n + 1))
    × (new ≡ s.put e (u.Piece piece))
