-- What `drill` leaves.
use Rattle.std.proofs.Common.{◌≡◌, ◌≤◌, ℕ, List, [], Some, Result, Ok, Err, refl, sym, subst, ◌∙◌}
use Rattle.mta_edge.specs.Views.{ClockView, DiskLaws, DiskView, SourceView}
use Rattle.mta_apdu.specs.Apdus.{longest_apdu}
use Rattle.mta_drill_text.specs.Text.{drill_text}
use Rattle.mta_words.specs.declared.words.Words.{Words}
use Rattle.mta_words.specs.declared.words.Words.TheVariants as Say
use Rattle.mta_words.specs.Words.{Says}
use Rattle.mta_commands.specs.declared.stop.Stop.{Stop}
use Rattle.mta_commands.specs.Causes.{of_drill, Cause, memory}
use Rattle.mta_commands.specs.Command.{HasEnded, NoneWorked}
use Rattle.mta_commands.specs.DiskLeft.{uncalled}
use Rattle.mta_commands.specs.Handed.{handed}
use Rattle.mta_commands.specs.Inputs.{longest_tables}
use Rattle.mta_output.specs.Output.{Output}
use Rattle.mta_commands.specs.Output.{HasShown}
use Rattle.mta_commands.specs.Words.{IsSaid}
use Rattle.mta_run.specs.Drilling.{HasPrintedDrill, IsDrilledAs, IsDrillStop}
use Rattle.mta_commands.proofs.DiskStands.{before_alone, left_alone}
use Rattle.mta_commands.proofs.HandedOn.{ended_alike, printed_map, shown_printed, undrawn}

-- ---- what was printed

drilled_text : (messages : ℕ) (text : Result (List ℕ) Stop) → IsDrilledAs messages text → (t : List ℕ)
    → text ≡ Ok t → t ≡ drill_text messages
drilled_text messages (Ok s) is t e = sym s_is ∙ is where
  s_is : s ≡ t
  s_is = cc
drilled_text messages (Err s) is t e = absurd cc

drilled_stop : (messages : ℕ) (text : Result (List ℕ) Stop) → IsDrilledAs messages text → (stop : Stop)
    → text ≡ Err stop → IsDrillStop stop
drilled_stop messages (Ok s) is stop e = absurd cc
drilled_stop messages (Err s) is stop e = subst IsDrillStop s_is is where
  s_is : s ≡ stop
  s_is = cc

-- the text of a drill was shown, or why there is none
pub drill_printed : (messages : ℕ) (out : Output) (text : Result (List ℕ) Stop) (result : Result (Unit {0}) Stop)
    → IsDrilledAs messages text → HasShown text out result → HasPrintedDrill messages out result
drill_printed messages out text result is shown =
    shown_printed IsDrillStop (λ (t : List ℕ). t ≡ drill_text messages) out text result
    (drilled_text messages text is) (drilled_stop messages text is) shown

-- ---- as what a command leaves

-- the words ask for one message at least
pub some_messages : (words : Words) (messages : ℕ) → words ≡ Say.Drill messages → IsSaid words → 1 ≤ messages
some_messages words messages is said =
    let drills : Says said.texts (Say.Drill messages) =
    subst (λ (w : Words). Says said.texts w) is said.says in
    drills.spelled.number.least

drill_cause : {D C I : Type 0} (disks : DiskView D) (clocks : ClockView C) (sources : SourceView I) (messages : ℕ)
    (conf input : I) (disk : D) (clock : C) (stop : Stop) → IsDrillStop stop
    → Cause (handed disks clocks sources (Some (Say.Drill messages)) conf conf input input disk disk clock) [] []
    uncalled stop
drill_cause disks clocks sources messages conf input disk clock stop why =
    subst (λ (s : Stop). Cause
    (handed disks clocks sources (Some (Say.Drill messages)) conf conf input input disk disk clock) [] [] uncalled s)
    (sym why) (memory uncalled)

pub drill_ended : {D C I : Type 0} (disks : DiskView D) (laws : DiskLaws disks) (clocks : ClockView C)
    (sources : SourceView I) (messages : ℕ) (conf input : I) (disk : D) (clock : C) (out : Output)
    (result : Result (Unit {0}) Stop) → HasPrintedDrill messages out result
    → HasEnded (handed disks clocks sources (Some (Say.Drill messages)) conf conf input input disk disk clock)
    NoneWorked
    out result
drill_ended disks laws clocks sources messages conf input disk clock out result has =
    ended_alike (handed disks clocks sources (Some (Say.Drill messages)) conf conf input input disk disk clock)
    NoneWorked out result uncalled
    (record {
      conf_untouched = λ none. refl;
      input_untouched = λ none. refl;
      conf = undrawn sources longest_tables conf;
      input = undrawn sources longest_apdu input;
    })
    (left_alone disks laws disk) (λ f found steps was s. before_alone disks laws disk f steps) (λ e ok. e)
    (λ none. refl)
    (printed_map out result
    (λ stop e why. drill_cause disks clocks sources messages conf input disk clock stop why)
    (λ t x. of_drill messages t refl x) has) refl
