-- What a run of the agent says of one lane that one station had.
use Rattle.std.specs.Prelude.{Bool, ℕ, List, ◌++◌, map, length}
use Rattle.mta_transfer_rules.specs.Lanes.{Seen, LanesAllow}
use Rattle.mta_transfer_laws.specs.History.{half_steps}
use Rattle.mta_transfer_laws.specs.Sessions.{SessionList, sending_list, receiving_list}
use Rattle.mta_transfer_laws.specs.Sendings as sending
use Rattle.mta_transfer_laws.specs.Receivings as receiving
use Rattle.mta_transfer_laws.specs.Run.{EachGood, EndsAgreeOnRun}
use Rattle.mta_transfer_laws.specs.Covering as sent
use Rattle.mta_transfer_laws.specs.ReceivingOrder as received

-- The two ends agree, whatever the other end and the links did; and this is said of the steps that were added: they are
-- those of the session lists, one after another, with an Abandon at most between them.
pub record LaneAgrees (spells : List ℕ → Bool) (before added : List Seen) (lane size window : ℕ)
    (initiator : Bool) (sessions : List SessionList) : Type 0 where
  pub ends_agree : EndsAgreeOnRun spells before added lane size window initiator sessions
  pub sending_order : sending.StepsInOrder (map (sending_list lane) sessions)
      (half_steps sending.sending_step lane (length before) added)
  pub receiving_order : receiving.StepsInOrder (map (receiving_list lane) sessions)
      (half_steps receiving.receiving_step lane (length before) added)

abbrev pub OneStationAgrees : Type 0
OneStationAgrees =
    (spells : List ℕ → Bool) (before added : List Seen) (lane size window : ℕ) (initiator : Bool)
    (sessions : List SessionList)
    → LanesAllow spells (before ++ added) → EachGood spells (before ++ added) lane size window initiator sessions
    → sent.Owns (before ++ added) (length before) lane sessions
    → received.Owns (before ++ added) (length before) lane sessions
    → LaneAgrees spells before added lane size window initiator sessions
