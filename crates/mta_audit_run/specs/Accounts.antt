-- What a history tells of its lanes: by what name each was opened, and the octets of the activities that were sent on
-- it, of those that were completed on it, and of the one that is in Ending (X.228 clause 7). Of a lane that stands in a
-- snapshot it tells what came behind that.
use Rattle.std.specs.Prelude.{ℕ, ◌+◌, Bool, true, false, List, [], ◌∷◌, ◌++◌, Option, Some, None}
use Rattle.std.specs.List.{concat}
use Rattle.mta_lane_send.specs.declared.state.SendState.{SendState}
use Rattle.mta_lane_send.specs.declared.state.SendState.TheVariants.{Idle, Sending, Ending, Dropping}
use Rattle.mta_records.specs.declared.step.Step.{Step}
use Rattle.mta_histories.specs.Classes.{Outcome, was_sent, was_refused, was_denied, was_dropped, LaneStep, agree, bind}
use Rattle.mta_histories.specs.Classes.{start, confirm, to_end, settle, abandon, secure, complete, drop_pieces, close}
use Rattle.mta_histories.specs.Classes.{Class, begins, sets_format, records, accepts, settles, opens, on_lane}
use Rattle.mta_histories.specs.Classes.{class_of}
use Rattle.mta_histories.specs.Lanes.{Transfer, Lane, Lanes, State, empty, lane_at}
use Rattle.mta_histories.specs.History.{after_step, after, with_piece}
use Rattle.mta_audit_run.specs.declared.account.Account.{Account}
use Rattle.mta_audit_run.specs.declared.told.Told.{Told}
use Rattle.mta_audit_run.specs.declared.told.Told.TheVariants as Tolds
use Rattle.mta_audit_run.specs.Account.{new_account, accounts_begun, with_sent, with_completed, with_ending, changed}

-- ---- what a step tells, in the state before it

abbrev pub octets_in : Option Transfer → List ℕ
octets_in None = []
octets_in (Some t) = t.octets

-- the octets that a lane transfers
abbrev pub transferred_on : Option Lane → List ℕ
transferred_on None = []
transferred_on (Some lane) = octets_in lane.transfer

-- the octets that the last piece completes: those of the pieces before it, and of this one
abbrev pub completed_on : Option Lane → ℕ → List ℕ → List ℕ
completed_on None n piece = []
completed_on (Some lane) n piece = concat (with_piece lane.pieces n piece)

-- an activity that is settled known sent, or completed, is one more on its lane
abbrev pub settled_on : Option Lane → ℕ → Outcome → List Account → List Account
settled_on lane n was_sent known = changed (with_sent (transferred_on lane)) n known
settled_on lane n (was_refused kind) known = known
settled_on lane n was_denied known = known
settled_on lane n was_dropped known = known

abbrev pub accounts_on : Option Lane → ℕ → LaneStep → List Account → List Account
accounts_on lane n (agree checkpoint window) known = known
accounts_on lane n bind known = known
accounts_on lane n (start k i rs) known = known
accounts_on lane n (confirm k c) known = known
accounts_on lane n (to_end k) known = known
accounts_on lane n (settle outcome k) known = settled_on lane n outcome known
accounts_on lane n (abandon k) known = known
accounts_on lane n (secure k p piece) known = known
accounts_on lane n (complete k p piece) known = changed (with_completed (completed_on lane p piece)) n known
accounts_on lane n (drop_pieces k) known = known
accounts_on lane n close known = known

-- the lanes that are known after a step, where these are the lanes before it
abbrev pub accounts_after : Lanes → Class → List Account → List Account
accounts_after lanes (begins t) known = accounts_begun t.lanes
accounts_after lanes sets_format known = known
accounts_after lanes (records text) known = known
accounts_after lanes (accepts octets) known = known
accounts_after lanes (settles how i r) known = known
accounts_after lanes (opens role peer reference twa checkpoint window) known =
    known ++ new_account false (lanes.count + 1) role peer reference ∷ []
accounts_after lanes (on_lane n generation step) known = accounts_on (lane_at n lanes.open_lanes) n step known

abbrev pub accounts_from : State → List Account → List Step → List Account
accounts_from s known [] = known
accounts_from s known (step ∷ steps) =
    accounts_from (after_step s step) (accounts_after s.lanes (class_of step) known) steps

-- ---- the activities in Ending

abbrev pub ending_in : Lane → SendState → List Account → List Account
ending_in lane (Idle last) known = known
ending_in lane (Sending k c) known = known
ending_in lane (Ending k c) known = changed (with_ending (octets_in lane.transfer)) lane.number known
ending_in lane (Dropping k) known = known

abbrev pub with_endings : List Lane → List Account → List Account
with_endings [] known = known
with_endings (lane ∷ lanes) known = with_endings lanes (ending_in lane lane.sending known)

-- ---- a history

-- a step is a snapshot
abbrev pub is_snapshot : Class → Bool
is_snapshot (begins t) = true
is_snapshot sets_format = false
is_snapshot (records text) = false
is_snapshot (accepts octets) = false
is_snapshot (settles how i r) = false
is_snapshot (opens role peer reference twa checkpoint window) = false
is_snapshot (on_lane n generation step) = false

-- a history begins with a snapshot, which has the lanes that are open then, and no closed one
abbrev pub begins_with_snapshot : List Step → Bool
begins_with_snapshot [] = false
begins_with_snapshot (step ∷ steps) = is_snapshot (class_of step)

-- what a history tells of its lanes
abbrev pub accounts : List Step → List Account
accounts steps = with_endings (after steps).lanes.open_lanes (accounts_from empty [] steps)

-- ---- what a step tells, known it is kept

abbrev pub told_settled : Option Lane → ℕ → Outcome → Told
told_settled lane n was_sent = Tolds.Sent n (transferred_on lane)
told_settled lane n (was_refused kind) = Tolds.Nothing
told_settled lane n was_denied = Tolds.Nothing
told_settled lane n was_dropped = Tolds.Nothing

abbrev pub told_on : Option Lane → ℕ → LaneStep → Told
told_on lane n (agree checkpoint window) = Tolds.Nothing
told_on lane n bind = Tolds.Nothing
told_on lane n (start k i rs) = Tolds.Nothing
told_on lane n (confirm k c) = Tolds.Nothing
told_on lane n (to_end k) = Tolds.Nothing
told_on lane n (settle outcome k) = told_settled lane n outcome
told_on lane n (abandon k) = Tolds.Nothing
told_on lane n (secure k p piece) = Tolds.Nothing
told_on lane n (complete k p piece) = Tolds.Completed n
told_on lane n (drop_pieces k) = Tolds.Nothing
told_on lane n close = Tolds.Nothing

abbrev pub told_by : List Lane → Class → Told
told_by lanes (begins t) = Tolds.Begun
told_by lanes sets_format = Tolds.Nothing
told_by lanes (records text) = Tolds.Nothing
told_by lanes (accepts octets) = Tolds.Nothing
told_by lanes (settles how i r) = Tolds.Nothing
told_by lanes (opens role peer reference twa checkpoint window) = Tolds.Opened role peer reference
told_by lanes (on_lane n generation step) = told_on (lane_at n lanes) n step

-- it tells of a snapshot
abbrev pub is_begun : Told → Bool
is_begun Tolds.Nothing = false
is_begun Tolds.Begun = true
is_begun (Tolds.Opened role peer reference) = false
is_begun (Tolds.Sent n activity) = false
is_begun (Tolds.Completed n) = false

-- with what a step tells, where the last item has these octets then, and these are the lanes
abbrev pub noted : Told → List ℕ → Lanes → List Account → List Account
noted Tolds.Nothing octets lanes known = known
noted Tolds.Begun octets lanes known = accounts_begun lanes.open_lanes
noted (Tolds.Opened role peer reference) octets lanes known =
    known ++ new_account false lanes.count role peer reference ∷ []
noted (Tolds.Sent n activity) octets lanes known = changed (with_sent activity) n known
noted (Tolds.Completed n) octets lanes known = changed (with_completed octets) n known
