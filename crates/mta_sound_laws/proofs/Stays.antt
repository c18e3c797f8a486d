-- Every possible step that has a record keeps soundness.
use Rattle.std.proofs.Common.{ℕ, ◌<◌, ◌≤◌, ◌^◌, List, [], ◌∷◌, length, Option, Some, None, arith, inl, refl}
use Rattle.std.specs.List.{AllByRecursion}
use Rattle.mta_ber.specs.Times.{last_moment}
use Rattle.mta_records.specs.Body.{HasFields}
use Rattle.mta_records.specs.declared.step.Step.{Step}
use Rattle.mta_records.specs.declared.step.Step.TheVariants.{Tables, Accept, Deliver, Expand, Report, Affirm, Discard}
use Rattle.mta_records.specs.declared.step.Step.TheVariants.{Back, LaneOpen, LaneAgree, Bind, Start, Confirm, Ending}
use Rattle.mta_records.specs.declared.step.Step.TheVariants.{Sent, Refused, Denied, Dropped, Abandon, Secure, Complete}
use Rattle.mta_records.specs.declared.step.Step.TheVariants.{Drop, CloseLane, Snapshot, Format}
use Rattle.mta_machine.specs.Items.{Machine}
use Rattle.mta_machine.specs.Machine.{machine_run}
use Rattle.mta_histories.specs.Classes.{was_dropped, LaneStep, agree, bind, confirm, to_end, settle}
use Rattle.mta_histories.specs.Classes.{secure, drop_pieces, close, class_of}
use Rattle.mta_histories.specs.History.{ArePossible, IsPossible, after_from, after_step, machine_steps}
use Rattle.mta_histories.specs.History.{on_lane_steps, when}
use Rattle.mta_histories.specs.Items.{MakeWritten}
use Rattle.mta_histories.specs.Kept.{IsKept}
use Rattle.mta_histories.specs.Lanes.{Lane, State, empty, lane_at}
use Rattle.mta_histories.specs.Sound.{IsSound}
use Rattle.mta_histories.proofs.Keeps.{empty_kept, steps_keep}
use Rattle.mta_histories.proofs.Rows.{step_run}
use Rattle.mta_histories.proofs.SoundItems.{items_stay_sound}
use Rattle.mta_histories.proofs.SoundMachine.{class-now}
use Rattle.mta_histories.proofs.SoundStays.{sound_stays}
use Rattle.mta_sound_laws.specs.Laws.{HistoriesAreSound, RecordedStepsStaySound, StepsMakeWritten}
use Rattle.mta_sound_laws.proofs.Made.{run-written}

-- ---- steps that carry a moment

-- what a step makes at a moment that may be written
made-at : (s : State) (step : Step) → when s step ≤ last_moment → IsKept s → IsSound s → IsPossible s step
    → length (machine_run s.machine (machine_steps s step)).items < 2 ^ 32
    → MakeWritten s.machine (machine_steps s step)
made-at s step timely kept sound possible few =
    run-written s.machine (machine_steps s step) (when s step) timely (step_run s step kept possible)
    (class-now s (class_of step) (when s step))
    (items_stay_sound s.machine [] s.moment (when s step) possible.timely tt tt tt sound.items) few

-- ---- steps that carry none

-- the steps on a lane of which none is for the machine
abbrev MakesNothing : LaneStep → Type 0
MakesNothing (agree checkpoint window) = Unit {0}
MakesNothing bind = Unit {0}
MakesNothing (confirm k n) = Unit {0}
MakesNothing (to_end k) = Unit {0}
MakesNothing (settle was_dropped k) = Unit {0}
MakesNothing (secure k n piece) = Unit {0}
MakesNothing (drop_pieces k) = Unit {0}
MakesNothing close = Unit {0}
MakesNothing step = ⊥

quiet-lane : (m : Machine) (lane : Lane) (step : LaneStep) (moment : ℕ) → MakesNothing step
    → MakeWritten m (on_lane_steps (Some lane) step moment)
quiet-lane m lane (agree checkpoint window) moment q = tt
quiet-lane m lane bind moment q = tt
quiet-lane m lane (confirm k n) moment q = tt
quiet-lane m lane (to_end k) moment q = tt
quiet-lane m lane (settle was_dropped k) moment q = tt
quiet-lane m lane (secure k n piece) moment q = tt
quiet-lane m lane (drop_pieces k) moment q = tt
quiet-lane m lane close moment q = tt
quiet-lane m lane any1 moment q = absurd q

quiet : (m : Machine) (o : Option Lane) (step : LaneStep) (moment : ℕ) → MakesNothing step
    → MakeWritten m (on_lane_steps o step moment)
quiet m None step moment q = tt
quiet m (Some lane) step moment q = quiet-lane m lane step moment q

-- ---- every step

pub steps_make_written : StepsMakeWritten
steps_make_written s (Tables text) f kept sound possible = (tt, tt)
steps_make_written s (Accept moment apdu) f kept sound possible =
    made-at s (Accept moment apdu) f.0 kept sound possible possible.numbers
steps_make_written s (Deliver item recipient moment) f kept sound possible =
    made-at s (Deliver item recipient moment) f.1.1 kept sound possible possible.numbers
steps_make_written s (Expand item recipient moment) f kept sound possible =
    made-at s (Expand item recipient moment) f.1.1 kept sound possible possible.numbers
steps_make_written s (Report item recipient moment) f kept sound possible =
    made-at s (Report item recipient moment) f.1.1 kept sound possible possible.numbers
steps_make_written s (Affirm item recipient moment) f kept sound possible =
    made-at s (Affirm item recipient moment) f.1.1 kept sound possible possible.numbers
steps_make_written s (Discard item recipient moment) f kept sound possible =
    made-at s (Discard item recipient moment) f.1.1 kept sound possible possible.numbers
steps_make_written s (Back item recipient moment) f kept sound possible =
    made-at s (Back item recipient moment) f.1.1 kept sound possible possible.numbers
steps_make_written s (LaneOpen role peer reference twa checkpoint window moment) f kept sound possible = tt
steps_make_written s (LaneAgree lane generation checkpoint window) f kept sound possible =
    quiet s.machine (lane_at lane s.lanes.open_lanes) (agree checkpoint window) s.moment tt
steps_make_written s (Bind lane generation) f kept sound possible =
    quiet s.machine (lane_at lane s.lanes.open_lanes) bind s.moment tt
steps_make_written s (Start lane generation activity item recipients moment) f kept sound possible =
    made-at s (Start lane generation activity item recipients moment) f.1.1 kept sound possible possible.numbers
steps_make_written s (Confirm lane generation activity checkpoint) f kept sound possible =
    quiet s.machine (lane_at lane s.lanes.open_lanes) (confirm activity checkpoint) s.moment tt
steps_make_written s (Ending lane generation activity) f kept sound possible =
    quiet s.machine (lane_at lane s.lanes.open_lanes) (to_end activity) s.moment tt
steps_make_written s (Sent lane generation activity moment) f kept sound possible =
    made-at s (Sent lane generation activity moment) f.1 kept sound possible possible.numbers
steps_make_written s (Refused lane generation activity kind moment) f kept sound possible =
    made-at s (Refused lane generation activity kind moment) f.1.1 kept sound possible possible.numbers
steps_make_written s (Denied lane generation activity moment) f kept sound possible =
    made-at s (Denied lane generation activity moment) f.1 kept sound possible possible.numbers
steps_make_written s (Dropped lane generation activity) f kept sound possible =
    quiet s.machine (lane_at lane s.lanes.open_lanes) (settle was_dropped activity) s.moment tt
steps_make_written s (Abandon lane activity moment) f kept sound possible =
    made-at s (Abandon lane activity moment) f.1.1 kept sound possible possible.numbers
steps_make_written s (Secure lane generation activity number piece) f kept sound possible =
    quiet s.machine (lane_at lane s.lanes.open_lanes) (secure activity number piece) s.moment tt
steps_make_written s (Complete lane generation activity number piece moment) f kept sound possible =
    made-at s (Complete lane generation activity number piece moment) f.1.1 kept sound possible possible.numbers
steps_make_written s (Drop lane generation activity) f kept sound possible =
    quiet s.machine (lane_at lane s.lanes.open_lanes) (drop_pieces activity) s.moment tt
steps_make_written s (CloseLane lane generation) f kept sound possible =
    quiet s.machine (lane_at lane s.lanes.open_lanes) close s.moment tt
steps_make_written s (Snapshot state) f kept sound possible = tt
steps_make_written s (Format version) f kept sound possible = (tt, tt)

pub steps_stay_sound : RecordedStepsStaySound
steps_stay_sound s step f kept sound possible =
    sound_stays s step kept sound possible (steps_make_written s step f kept sound possible)

-- ---- histories

empty-sound : IsSound empty
empty-sound = record {
  format = inl refl;
  texts = tt;
  recorded = λ some. absurd (some refl);
  items = tt;
  lines = tt;
  lanes = tt;
  few = λ role peer. omega arith;
  apart = tt;
}

sound-along : (s : State) (steps : List Step) → AllByRecursion HasFields steps → IsKept s → IsSound s
    → ArePossible s steps → IsSound (after_from s steps)
sound-along s [] f kept sound possible = sound
sound-along s (step ∷ steps) f kept sound possible =
    sound-along (after_step s step) steps f.1 (steps_keep s step kept possible.0)
    (steps_stay_sound s step f.0 kept sound possible.0) possible.1

pub histories_are_sound : HistoriesAreSound
histories_are_sound steps f history = sound-along empty steps f empty_kept empty-sound history
