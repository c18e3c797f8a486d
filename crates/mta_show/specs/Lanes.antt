-- The lines of the lanes that are open (X.228).
use Rattle.std.specs.Prelude.{ℕ, List, [], ◌∷◌, ◌++◌, codes, decimal}
use Rattle.std.specs.List.{flat_map}
use Rattle.mta_lane_send.specs.declared.state.SendState.{SendState}
use Rattle.mta_lane_send.specs.declared.state.SendState.TheVariants.{Idle, Sending, Ending, Dropping}
use Rattle.mta_lane_recv.specs.declared.state.Last.{Last}
use Rattle.mta_lane_recv.specs.declared.state.Last.TheVariants as last
use Rattle.mta_records.specs.declared.lane.LaneRole.{LaneRole}
use Rattle.mta_records.specs.declared.lane.LaneRole.TheVariants.{Initiator, Responder}
use Rattle.mta_histories.specs.Lanes.{Lane}

-- out where this agent initiates the lane's associations, in where it responds
abbrev pub way_text : LaneRole → List ℕ
way_text Initiator = codes " out "
way_text Responder = codes " in "

-- a word, with the space behind it, an activity and how many pieces of it
unfoldable pub pair_text : List ℕ → ℕ → ℕ → List ℕ
pair_text word activity pieces = word ++ (decimal activity ++ 32 ∷ decimal pieces)

-- the last activity, or the one under way; and how many of its pieces the peer has confirmed
abbrev pub sending_text : SendState → List ℕ
sending_text (Idle activity) = codes "idle " ++ decimal activity
sending_text (Sending activity confirmed) = pair_text (codes "sending ") activity confirmed
sending_text (Ending activity confirmed) = pair_text (codes "ending ") activity confirmed
sending_text (Dropping activity) = codes "dropping " ++ decimal activity

-- the activity that stands in part, with how many pieces of it came, or whole
abbrev pub receiving_text : Last → List ℕ
receiving_text last.None = codes "none"
receiving_text (last.Partial activity pieces) = pair_text (codes "partial ") activity pieces
receiving_text (last.Done activity) = codes "done " ++ decimal activity

-- which way it goes, and with whom
unfoldable pub partner_text : Lane → List ℕ
partner_text lane = way_text lane.role ++ lane.peer

-- its number, the other end, and its generation
unfoldable pub association_text : Lane → List ℕ
association_text lane =
    codes "lane "
    ++ (decimal lane.number ++ (partner_text lane ++ (codes " generation " ++ decimal lane.generation)))

-- the checkpoint size in units of 1,024 octets, and the window in pieces
unfoldable pub values_text : Lane → List ℕ
values_text lane = codes " size " ++ (decimal lane.checkpoint ++ (codes " window " ++ decimal lane.window))

-- the states of its two halves
unfoldable pub halves_text : Lane → List ℕ
halves_text lane =
    codes " send " ++ (sending_text lane.sending ++ (codes " receive " ++ (receiving_text lane.last ++ 10 ∷ [])))

unfoldable pub lane_line : Lane → List ℕ
lane_line lane = association_text lane ++ (values_text lane ++ halves_text lane)

abbrev pub lane_lines : List Lane → List ℕ
lane_lines lanes = flat_map lane_line lanes
