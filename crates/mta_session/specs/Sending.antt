-- The sending end of a session's lane, as the rules of sending ends see it, and what the units that it gets call for.
use Rattle.std.specs.Prelude.{ℕ, ◌&&◌, ◌==◌, nat_lt, nat_le, not, if◌then◌else◌, Bool, true}
use Rattle.std.specs.Prelude.{false, Option, Some, None}
use Rattle.mta_units.specs.declared.unit.Unit.{Unit as AnyUnit}
use Rattle.mta_units.specs.declared.unit.Unit.TheVariants as unit
use Rattle.mta_lane_send.specs.Half.{goes_on, is_ending, is_live, is_idle, last_of, confirmed_of}
use Rattle.mta_transfer_rules.specs.Units as u
use Rattle.mta_transfer_rules.specs.Sending as s
use Rattle.mta_transfer_rules.specs.Sending.{SendEnd, SendStage, is_dropping, synced, is_discarded, stage_got}
use Rattle.mta_session.specs.declared.phase.OwnStep.{OwnStep}
use Rattle.mta_session.specs.declared.phase.OwnStep.TheVariants as own

-- What a holder of the turn makes of a unit -------------------------------------------------

abbrev pub when : Bool → OwnStep → Option OwnStep
when true step = Some step
when false step = None

abbrev pub is_end_put : SendStage → ℕ → Bool
is_end_put (s.End_put j n) k = k == j
is_end_put _ k = false

abbrev pub is_discard_put : SendStage → ℕ → Bool
is_discard_put (s.Discard_put j) k = k == j
is_discard_put _ k = false

abbrev pub is_resume_put : SendStage → (activity number : ℕ) → Bool
is_resume_put (s.Resume_put j m) k n = (k == j) && (n == m)
is_resume_put _ k n = false

-- something of the activity is put on this link
abbrev pub is_under_way : SendStage → Bool
is_under_way s.Quiet = false
is_under_way s.Opened = false
is_under_way (s.Started k) = false
is_under_way _ = true

-- the unit settles a part of the activity or all of it
abbrev pub called : SendEnd → AnyUnit → Option OwnStep
called e (unit.SyncAck n) =
    when (goes_on e.state (last_of e.state) && nat_lt (confirmed_of e.state) n && nat_le n (synced e.stage))
    (own.Confirm n)
called e (unit.EndAck k) = when (is_ending e.state k && is_end_put e.stage k) own.Sent
called e (unit.DiscardAck k) = when (is_live e.state k && is_discard_put e.stage k) own.Dropped
called e (unit.Exception kind at) = when (not (is_idle e.state) && is_under_way e.stage) (own.Refused kind)
called e _ = None

-- or lets it go on, or passes: a SyncAck behind the Discard of an activity that was given up
abbrev pub heard : SendEnd → AnyUnit → Option SendEnd
heard e (unit.ResumeAck k n) =
    if is_resume_put e.stage k n then Some (record e { stage = stage_got e.stage (u.ResumeAck k n) }) else None
heard e (unit.SyncAck n) = if is_dropping e.state && is_discarded e.stage then Some e else None
heard e _ = None

-- the step in the words of the ends
abbrev pub step_of : OwnStep → s.SendStep
step_of (own.Confirm n) = s.Confirm n
step_of own.Ending = s.To_end
step_of own.Sent = s.Sent
step_of own.Dropped = s.Dropped
step_of (own.Refused kind) = s.Refused
