-- What a session makes of units is what the rules of a sending end call for.
use Rattle.std.specs.Prelude.{◌≡◌, ℕ, ◌==◌, if◌then◌else◌, true, false, Some, None, List, length}
use Rattle.std.specs.Prelude.{◌≤◌}
use Rattle.mta_units.specs.declared.unit.Unit.{Unit as AnyUnit}
use Rattle.mta_units.specs.declared.unit.Unit.TheVariants as unit
use Rattle.mta_lane_send.specs.Half.{is_idle}
use Rattle.mta_transfer_rules.specs.Units.{LaneUnit}
use Rattle.mta_transfer_rules.specs.Units as u
use Rattle.mta_transfer_rules.specs.Sending as s
use Rattle.mta_transfer_rules.specs.Sending.{SendEnd}
use Rattle.mta_session.specs.declared.phase.OwnStep.{OwnStep}
use Rattle.mta_session.specs.Sending.{called, heard, step_of}

abbrev pub abort_unit : ℕ → LaneUnit
abort_unit reason = if reason == 7 then u.Completed else (if reason == 2 then u.Unrecognized else u.Other)

abbrev pub reject_unit : ℕ → LaneUnit
reject_unit reason = if reason == 1 then u.CannotRecover else u.Other

-- what a unit says to the sending end that gets it
abbrev pub heard_as : AnyUnit → LaneUnit
heard_as (unit.SyncAck n) = u.SyncAck n
heard_as (unit.EndAck k) = u.EndAck k
heard_as (unit.ResumeAck k n) = u.ResumeAck k n
heard_as (unit.DiscardAck k) = u.DiscardAck k
heard_as (unit.Exception kind at) = u.Exception
heard_as (unit.Accept c w a) = u.Accept
heard_as (unit.Abort reason) = abort_unit reason
heard_as (unit.Reject reason) = reject_unit reason
heard_as _ = u.Other

abbrev pub forget : SendEnd → SendEnd
forget e = record e { heard = None }

-- The step that is asked for is one that the rules allow once the unit is got, which changes nothing else.
abbrev pub StepsAreCalled : Type 0
StepsAreCalled =
    (e : SendEnd) (x : AnyUnit) (step : OwnStep) → e.heard ≡ None → called e x ≡ Some step →
    s.MayMake (s.got e (heard_as x)) (step_of step) × (forget (s.got e (heard_as x)) ≡ e)

-- A unit that passes calls for no step, and the end is the one that has got it.
abbrev pub PassingIsGot : Type 0
PassingIsGot =
    (e f : SendEnd) (x : AnyUnit) → e.heard ≡ None → called e x ≡ None → heard e x ≡ Some f →
    (forget (s.got e (heard_as x)) ≡ f)
    × ((step : s.SendStep) → s.IsCalledBy (s.got e (heard_as x)) step (heard_as x) → ⊥)

-- The octets of a batch may be started where nothing is under way.
abbrev pub StartsMayBeMade : Type 0
StartsMayBeMade =
    (e : SendEnd) (octets : List ℕ) → is_idle e.state ≡ true → e.stage ≡ s.Quiet → 1 ≤ length octets →
    s.MayMake e (s.Start octets)

-- No step is called for where no activity is under way.
abbrev pub StepsNeedActivity : Type 0
StepsNeedActivity = (e : SendEnd) (x : AnyUnit) (step : OwnStep) → called e x ≡ Some step
    → is_idle e.state ≡ false
