-- What `decode` leaves.
use Rattle.std.proofs.Common.{◌≡◌, ℕ, List, [], Option, Some, Result, Ok, Err, refl, ap, subst, inl}
use Rattle.std.proofs.Common.{inr}
use Rattle.mta_edge.specs.Views.{DiskView, DiskLaws, ClockView, SourceView}
use Rattle.mta_edge.specs.Causes.{Rose}
use Rattle.mta_apdu.specs.Apdus.{ApduValue, SpellsApdu}
use Rattle.mta_apdu_text.specs.Apdus.{apdu_text}
use Rattle.mta_commands.specs.declared.stop.Stop.{Stop}
use Rattle.mta_commands.specs.declared.stop.Stop.TheVariants as Stops
use Rattle.mta_words.specs.declared.words.Words.TheVariants as Say
use Rattle.mta_commands.specs.Handed.{handed}
use Rattle.mta_commands.specs.Inputs.{longest_tables, IsTold, IsInputStop, HasOctets}
use Rattle.mta_output.specs.Output.{Output}
use Rattle.mta_commands.specs.Output.{stopped, HasShown}
use Rattle.mta_commands.specs.DiskLeft.{uncalled}
use Rattle.mta_commands.specs.Causes.{of_decode, Cause, memory, source, apdu}
use Rattle.mta_commands.specs.Command.{HasEnded, NoneWorked}
use Rattle.mta_commands.specs.Decode.{IsDecodedAs, IsApduText, HasDecoded}
use Rattle.mta_commands.proofs.DiskStands.{before_alone, left_alone}
use Rattle.mta_commands.proofs.Worked.{prints_nothing}
use Rattle.mta_commands.proofs.HandedOn.{printed_map, shown_printed, undrawn, ended_alike}

-- ---- from the octets to the input

decoded_text : (input : Option (List ℕ)) (octets : List ℕ) (text : Result (List ℕ) Stop) → IsTold input octets
    → IsDecodedAs octets text → (t : List ℕ) → text ≡ Ok t → IsApduText input t
decoded_text input octets (Ok s) told is t e i w = subst
    (λ (y : List ℕ). (v : ApduValue) × SpellsApdu i v × (y ≡ apdu_text v)) s_is
    (subst (λ (x : List ℕ). (v : ApduValue) × SpellsApdu x v × (s ≡ apdu_text v)) (told i w) is) where
      s_is : s ≡ t
      s_is = cc
decoded_text input octets (Err s) told is t e i w = absurd cc

told_stop : (input : Option (List ℕ)) (octets : List ℕ) (failed : Type 0) (stop : Stop) → IsTold input octets
    → IsInputStop (Some octets) ⊥ stop → IsInputStop input failed stop
told_stop input octets failed (Stops.BadApdu at kind) told is = λ i e. is i (ap (λ (x : List ℕ). Some x) (told i e))
told_stop input octets failed Stops.Memory told is = tt
told_stop input octets failed any3 told is = absurd is

decoded_stop : (input : Option (List ℕ)) (octets : List ℕ) (failed : Type 0) (text : Result (List ℕ) Stop)
    → IsTold input octets → IsDecodedAs octets text → (stop : Stop) → text ≡ Err stop
    → IsInputStop input failed stop
decoded_stop input octets failed (Ok s) told is stop e = absurd cc
decoded_stop input octets failed (Err s) told is stop e = subst (IsInputStop input failed) s_is
    (told_stop input octets failed s told is) where
      s_is : s ≡ stop
      s_is = cc

-- what was read was shown
pub decoded : {I : Type 0} (sources : SourceView I) (old new : I) (octets : List ℕ) (out : Output)
    (text : Result (List ℕ) Stop) (result : Result (Unit {0}) Stop) → HasOctets sources old new (Ok octets)
    → IsDecodedAs octets text → HasShown text out result
    → HasDecoded sources old new out result
decoded sources old new octets out text result read is shown = record {
  drawn = read.drawn;
  printed = shown_printed (IsInputStop (sources.left old) (Rose (sources.faults old) (sources.faults new)))
      (IsApduText (sources.left old)) out text result
      (decoded_text (sources.left old) octets text read.read is)
      (decoded_stop (sources.left old) octets (Rose (sources.faults old) (sources.faults new)) text read.read is)
      shown;
}

-- an input that was not read
pub not_decoded : {I : Type 0} (sources : SourceView I) (old new : I) (out : Output) (stop : Stop) → out.after
    ≡ out.before → HasOctets sources old new (Err stop) → HasDecoded sources old new out (Err stop)
not_decoded sources old new out stop same read = record
    { drawn = read.drawn; printed = stopped stop read.read [] (inl refl) (prints_nothing out same) }

-- ---- as what a command leaves

-- a stop of the input, of a command that reads it and no tables
decode_cause : {D C I : Type 0} (disks : DiskView D) (clocks : ClockView C) (sources : SourceView I)
    (conf input input_after : I) (disk : D) (clock : C) (stop : Stop) → IsInputStop (sources.left input)
    (Rose (sources.faults input) (sources.faults input_after)) stop
    → Cause (handed disks clocks sources (Some Say.Decode) conf conf input input_after disk disk clock) [] [] uncalled
    stop
decode_cause disks clocks sources conf input input_after disk clock (Stops.BadApdu at kind) is = apdu at kind tt
    (λ r. absurd r) is
decode_cause disks clocks sources conf input input_after disk clock Stops.Source is = source (inr (tt, is))
decode_cause disks clocks sources conf input input_after disk clock Stops.Memory is = memory uncalled
decode_cause disks clocks sources conf input input_after disk clock any8 is = absurd is

pub decode_ended : {D C I : Type 0} (disks : DiskView D) (laws : DiskLaws disks) (clocks : ClockView C)
    (sources : SourceView I) (conf input input_after : I) (disk : D) (clock : C) (out : Output)
    (result : Result (Unit {0}) Stop) → HasDecoded sources input input_after out result
    → HasEnded (handed disks clocks sources (Some Say.Decode) conf conf input input_after disk disk clock) NoneWorked
    out result
decode_ended disks laws clocks sources conf input input_after disk clock out result has =
    ended_alike (handed disks clocks sources (Some Say.Decode) conf conf input input_after disk disk clock) NoneWorked
    out result uncalled
    (record {
      conf_untouched = λ none. refl;
      input_untouched = λ none. absurd (none tt);
      conf = undrawn sources
          longest_tables conf;
      input = has.drawn;
    })
    (left_alone disks laws disk) (λ f found steps was s. before_alone disks laws disk f steps) (λ e ok. e)
    (λ none. refl)
    (printed_map out result
    (λ stop e why. decode_cause disks clocks sources conf input input_after disk clock stop why)
    (λ t x. of_decode t refl x) has.printed) refl
