-- What was put on a link, as a half has it and as the rules of the ends have it.
use Rattle.std.proofs.Common.{◌≡◌, ℕ, Bool, true, false, refl}
use Rattle.std.specs.Prelude.{◌&&◌, ◌==◌}
use Rattle.mta_lane_send.specs.declared.state.SendState.{SendState}
use Rattle.mta_lane_send.specs.declared.state.SendState.TheVariants.{Idle, Sending, Ending, Dropping}
use Rattle.mta_lane_send.specs.declared.state.OnLink.{OnLink}
use Rattle.mta_lane_send.specs.declared.state.OnLink.TheVariants as link
use Rattle.mta_lane_send.specs.Half.{is_sending, synced_of}
use Rattle.mta_transfer_rules.specs.Sending.{synced}
use Rattle.mta_session.specs.Link.{stage_of, lets_go}
use Rattle.mta_session.specs.Wanted.{is_cut}

nothing_synced : (state : SendState) → synced (stage_of state link.Nothing) ≡ 0
nothing_synced (Idle last) = refl
nothing_synced (Sending k c) = refl
nothing_synced (Ending k c) = refl
nothing_synced (Dropping k) = refl

pub synced_is : (state : SendState) (l : OnLink) → synced (stage_of state l) ≡ synced_of l
synced_is state link.Nothing = nothing_synced state
synced_is state (link.Pieces n) = refl
synced_is state (link.SyncDue n) = refl
synced_is state (link.LastPiece n) = refl
synced_is state (link.End n) = refl
synced_is state (link.Resume n) = refl
synced_is state link.Discard = refl

all_cut : (b : Bool) → (b && true) ≡ (b && b)
all_cut true = refl
all_cut false = refl

cut_sending : (k c a : ℕ) (l : OnLink)
    → (is_sending (Sending k c) a && lets_go l) ≡ (is_sending (Sending k c) a && is_cut (stage_of (Sending k c) l) a)
cut_sending k c a link.Nothing = refl
cut_sending k c a (link.Pieces n) = all_cut (a == k)
cut_sending k c a (link.SyncDue n) = all_cut (a == k)
cut_sending k c a (link.LastPiece n) = all_cut (a == k)
cut_sending k c a (link.End n) = refl
cut_sending k c a (link.Resume n) = all_cut (a == k)
cut_sending k c a link.Discard = refl

pub cut_is : (state : SendState) (a : ℕ) (l : OnLink)
    → (is_sending state a && lets_go l) ≡ (is_sending state a && is_cut (stage_of state l) a)
cut_is (Idle last) a l = refl
cut_is (Sending k c) a l = cut_sending k c a l
cut_is (Ending k c) a l = refl
cut_is (Dropping k) a l = refl
