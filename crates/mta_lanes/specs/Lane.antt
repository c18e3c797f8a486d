-- What a lane answers.
use Rattle.std.specs.Prelude.{◌≡◌, ◌≤◌, ◌<◌, ◌+◌, ◌^◌, ◌&&◌, nat_le, ℕ, Bool, true, List, length}
use Rattle.std.specs.List.{concat}
use Rattle.mta_lane_send.specs.Half.{is_idle, last_of}
use Rattle.mta_lane_recv.specs.Half.{takes_piece}
use Rattle.mta_histories.specs.Lanes.{Lane, Transfer, empty}
use Rattle.mta_histories.specs.Classes.{LaneStep}
use Rattle.mta_histories.specs.History.{LaneNeeds, longest_activity, longest_piece, with_piece}

-- what a step needs that looks at the lane alone
abbrev pub OfLane : Lane → LaneStep → Type 0
OfLane lane step = LaneNeeds empty lane step 0

-- a piece is one octet at least, and no longer than the lane's pieces may be
abbrev pub has_size : Lane → ℕ → Bool
has_size lane octets = nat_le 1 octets && nat_le octets (longest_piece lane.checkpoint)

-- with the piece the pieces are not too many octets
abbrev pub has_room : Lane → ℕ → List ℕ → Bool
has_room lane n piece = nat_le (length (concat (with_piece lane.pieces n piece))) longest_activity

-- the receiving half takes the piece; the record of it is `TakesPiece`
abbrev pub takes : Lane → (activity number : ℕ) → List ℕ → Bool
takes lane k n piece =
    lane.agreed && takes_piece lane.high lane.last k n && has_size lane (length piece) && has_room lane n piece

-- an activity with this transfer may be started: the lane is agreed and transfers nothing, and there are octets
abbrev pub MayStart : Lane → Transfer → Type 0
MayStart lane transfer =
    (lane.agreed ≡ true) × (is_idle lane.sending ≡ true) × (1 ≤ length transfer.octets)
    × (last_of lane.sending + 1 < 2 ^ 32)
