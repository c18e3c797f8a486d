-- What a sending half puts on a link (X.228 clause 7), and the half after it.
use Rattle.std.specs.Prelude.{◌≡◌, ◌<◌, ◌≤◌, ℕ, ◌+◌, ◌==◌, not, if◌then◌else◌, Bool, true, false}
use Rattle.mta_lane_send.specs.declared.state.SendState.{SendState}
use Rattle.mta_lane_send.specs.declared.state.SendState.TheVariants.{Idle, Sending, Ending, Dropping}
use Rattle.mta_lane_send.specs.declared.state.OnLink.{OnLink}
use Rattle.mta_lane_send.specs.declared.state.OnLink.TheVariants as link
use Rattle.mta_lane_send.specs.declared.state.NextData.{NextData}
use Rattle.mta_lane_send.specs.declared.state.NextData.TheVariants.{Piece, Wait}
use Rattle.mta_lane_send.specs.declared.state.Recovery.{Recovery}
use Rattle.mta_lane_send.specs.declared.state.Recovery.TheVariants as recovery
use Rattle.mta_lane_send.specs.Pieces.{has_piece_after, piece_from, piece_to}
use Rattle.mta_lane_send.specs.Half.{Sender, confirmed_of}

-- the link once this piece is put
abbrev pub piece_put : (last : Bool) → (number : ℕ) → OnLink
piece_put true n = link.LastPiece n
piece_put false n = link.SyncDue n

-- What is put next where so many pieces are put: the next one, while fewer Syncs than the window are not confirmed.
abbrev pub PutsNextBehind : (put : ℕ) → Sender → NextData → Sender → Type 0
PutsNextBehind put h Wait new = (confirmed_of h.state + h.window ≤ put) × (new ≡ h)
PutsNextBehind put h (Piece number from to last) new =
    (put < confirmed_of h.state + h.window) × (number ≡ put + 1) × (from ≡ piece_from h.checkpoint put)
    × (to ≡ piece_to h.checkpoint h.total put) × (last ≡ not (has_piece_after h.checkpoint h.total number))
    × (new ≡ record h { on_link = piece_put last number })

-- how many pieces are put, where a piece is next
abbrev pub put_of : OnLink → ℕ
put_of (link.Pieces n) = n
put_of _ = 0

abbrev pub PutsNext : Sender → NextData → Sender → Type 0
PutsNext h next new = PutsNextBehind (put_of h.on_link) h next new

abbrev pub sync_put : OnLink → OnLink
sync_put (link.SyncDue n) = link.Pieces n
sync_put l = l

abbrev pub end_put : OnLink → OnLink
end_put (link.LastPiece n) = link.End n
end_put l = l

abbrev pub resume_answered : OnLink → OnLink
resume_answered (link.Resume n) = link.Pieces n
resume_answered l = l

-- What a half puts first on a link after a break
abbrev pub recovery_of : SendState → Recovery
recovery_of (Idle last) = recovery.Nothing
recovery_of (Sending k c) = if c == 0 then recovery.DiscardIt k else recovery.ResumeAt k c
recovery_of (Ending k c) = if c == 0 then recovery.DiscardIt k else recovery.ResumeAt k c
recovery_of (Dropping k) = recovery.DiscardIt k

abbrev pub recovered : Sender → Recovery → Sender
recovered h recovery.Nothing = record h { on_link = link.Nothing }
recovered h (recovery.ResumeAt k n) = record h { on_link = link.Resume n }
recovered h (recovery.DiscardIt k) = record h { on_link = link.Discard }
