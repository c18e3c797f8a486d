-- Worked histories: texts of tables, messages, and what becomes of them.
use Rattle.std.specs.Prelude.{◌≡◌, ℕ, false, List, [], ◌∷◌, ◌++◌, length, Option, Some, None, codes}
use Rattle.mta_records.specs.Reference.{Identifier, identifier}
use Rattle.mta_records.specs.declared.lane.LaneRole.TheVariants.{Initiator}
use Rattle.mta_records.specs.declared.step.Step.{Step}
use Rattle.mta_records.specs.declared.step.Step.TheVariants as step
use Rattle.mta_lane_send.specs.declared.state.SendState.{SendState}
use Rattle.mta_lane_send.specs.declared.state.SendState.TheVariants.{Idle, Sending}
use Rattle.mta_apdu.specs.Apdus.{message, canonical_apdu}
use Rattle.mta_procedures.specs.Rows.{sample, posted}
use Rattle.mta_records.specs.declared.state.Status.TheVariants.{Pending, Expanded, Sent, Reported, Discarded}
use Rattle.mta_machine.specs.Items.{status_at}
use Rattle.mta_histories.specs.Lanes.{Lane, lane_at, total_of}
use Rattle.mta_histories.specs.History.{IsHistory, IsPossible, after}

-- ---- texts of tables and octets of messages

-- a domain that knows nobody
unfoldable pub plain_text : List ℕ
plain_text = codes "domain C=GB;A=GOLD" ++ 10 ∷ codes "name GOLD-1" ++ 10 ∷ []

-- two lists, each the other's only member
unfoldable pub lists_text : List ℕ
lists_text =
    plain_text
    ++ codes "list a back C=GB;A=GOLD;CN=A" ++ 10 ∷ codes "list b back C=GB;A=GOLD;CN=B"
    ++ 10 ∷ codes "member a C=GB;A=GOLD;CN=B" ++ 10 ∷ codes "member b C=GB;A=GOLD;CN=A" ++ 10 ∷ []

-- a peer to which all of a country is routed
unfoldable pub peer_text : List ℕ
peer_text =
    plain_text ++ codes "peer EAST pw pq monologue 4 3" ++ 10 ∷ codes "route C=GB peer EAST" ++ 10 ∷ []

-- a message from Bell to Watt, of 101 octets
unfoldable pub to_watt : List ℕ
to_watt = canonical_apdu (message sample)

-- a message from Bell to the first list
unfoldable pub to_list : List ℕ
to_list = canonical_apdu (message posted)

-- ---- a name that nobody has

-- the message is accepted and reported, and the report is accepted and discarded
abbrev pub unknown_name : List Step
unknown_name =
    step.Tables plain_text ∷ step.Accept 0 to_watt ∷ step.Report 1 1 0 ∷ step.Discard 2 1 0 ∷ []

-- unable to transfer, since the name is not recognized; of the report nothing more is made
pub record UnknownNameIsReported : Type 0 where
  pub history : IsHistory unknown_name
  pub first : status_at (after unknown_name).machine 1 1 ≡ Some (Some (Reported 0 1 (Some 0)))
  pub second : status_at (after unknown_name).machine 2 1 ≡ Some (Some (Discarded 0))
  pub no_third : length (after unknown_name).machine.items ≡ 2
  pub no_delivery : (after unknown_name).machine.mailboxes ≡ []

-- ---- lists of each other

abbrev pub lists_of_each_other : List Step
lists_of_each_other =
    step.Tables lists_text ∷ step.Accept 0 to_list ∷ step.Expand 1 1 0 ∷ step.Expand 2 1 0 ∷ step.Expand 3 1 0
    ∷ []

-- the copy that comes back to the first list has no members any more
pub record ListsOfEachOtherEnd : Type 0 where
  pub history : IsHistory lists_of_each_other
  pub first : status_at (after lists_of_each_other).machine 1 1 ≡ Some (Some (Expanded 0))
  pub second : status_at (after lists_of_each_other).machine 2 1 ≡ Some (Some (Expanded 0))
  pub third : status_at (after lists_of_each_other).machine 3 1 ≡ Some (Some (Expanded 0))
  pub no_fourth : length (after lists_of_each_other).machine.items ≡ 3

-- ---- a message that is sent over a lane

abbrev pub east : List ℕ
east = codes "EAST"

abbrev pub first_lane : Identifier
first_lane = identifier (codes "GOLD-1") 0 None

-- a lane is opened and agreed, and an activity is started on it
abbrev pub started : List Step
started =
    step.Tables peer_text ∷ step.Accept 0 to_watt ∷ step.LaneOpen Initiator east first_lane false 4 3 0
    ∷ step.LaneAgree 1 1 4 3 ∷ step.Start 1 1 1 1 (1 ∷ []) 0 ∷ []

-- and it is completed
abbrev pub sent_over : List Step
sent_over = started ++ step.Ending 1 1 1 ∷ step.Sent 1 1 1 5 ∷ []

abbrev pub sending_in : Option Lane → Option SendState
sending_in None = None
sending_in (Some lane) = Some lane.sending

-- how many octets its activity transfers
abbrev pub octets_in : Option Lane → Option ℕ
octets_in None = None
octets_in (Some lane) = Some (total_of lane.transfer)

-- While the activity goes on its recipient is pending, in no other activity, and settled by no other step, and nothing
-- is sent before its end is made durable. Then it was sent once.
pub record StartedIsSent : Type 0 where
  pub history : IsHistory sent_over
  pub meanwhile : status_at (after started).machine 1 1 ≡ Some (Some Pending)
  pub sending : sending_in (lane_at 1 (after started).lanes.open_lanes) ≡ Some (Sending 1 0)
  pub copied : octets_in (lane_at 1 (after started).lanes.open_lanes) ≡ Some 141
  pub not_again : (lane g k moment : ℕ) → IsPossible (after started) (step.Start lane g k 1 (1 ∷ []) moment)
      → ⊥
  pub no_report : (moment : ℕ) → IsPossible (after started) (step.Report 1 1 moment) → ⊥
  pub not_yet : (g moment : ℕ) → IsPossible (after started) (step.Sent 1 g 1 moment) → ⊥
  pub sent : status_at (after sent_over).machine 1 1 ≡ Some (Some (Sent 5 east))
  pub idle : sending_in (lane_at 1 (after sent_over).lanes.open_lanes) ≡ Some (Idle 1)
  pub no_more : length (after sent_over).machine.items ≡ 1
