-- What a command leaves, from what its parts leave.
use Rattle.std.proofs.Common.{◌≡◌, ℕ, List, [], ◌++◌, Option, Result, Ok, Err, refl, sym}
use Rattle.std.proofs.Common.{subst, ◌∙◌, arith, inl, inr}
use Rattle.std.proofs.lemmas.List.{append-nil}
use Rattle.mta_edge.specs.Views.{DiskView, DiskLaws, ClockView, SourceView}
use Rattle.mta_records.specs.declared.step.Step.{Step}
use Rattle.mta_histories.specs.History.{IsHistory}
use Rattle.mta_images.specs.Opened.{Opens}
use Rattle.mta_spool.proofs.Compacted.{goes_on_history}
use Rattle.mta_commands.specs.declared.stop.Stop.{Stop}
use Rattle.mta_words.specs.declared.words.Words.{Words}
use Rattle.mta_stations.specs.Deciding.{halts_of, IsUndecided}
use Rattle.mta_commands.specs.Words.{AddsSteps, OpensDisk}
use Rattle.mta_commands.specs.Handed.{ForOpenedDisk, Handed, handed}
use Rattle.mta_commands.specs.Inputs.{IsDrawn}
use Rattle.mta_output.specs.Output.{Output}
use Rattle.mta_commands.specs.Output.{IsFront, PrintsOrFails, whole, stopped, cut, HasShown}
use Rattle.mta_commands.specs.DiskLeft.{Opening, uncalled, DiskLeft}
use Rattle.mta_commands.specs.Causes.{Cause, IsText}
use Rattle.mta_commands.specs.Command.{SourcesLeft, HasEnded, OnStations}
use Rattle.mta_commands.specs.Images.{IsSafeBefore}
use Rattle.mta_commands.proofs.DiskStands.{before_alone, left_alone}
use Rattle.mta_commands.proofs.Provenance.{none_of_call}
use Rattle.mta_commands.proofs.Worked.{prints_nothing}

-- ---- what was printed

front_map : {IsText Other : List ℕ → Type 0} (text : List ℕ) → ((t : List ℕ) → IsText t → Other t)
    → IsFront IsText text → IsFront Other text
front_map text more (inl e) = inl e
front_map text more (inr x) = inr (more text x)

-- the same under other names
pub printed_map : {Why Other : Stop → Type 0} {IsText OtherText : List ℕ → Type 0} (out : Output)
    (result : Result (Unit {0}) Stop) → ((stop : Stop) → result ≡ Err stop → Why stop → Other stop)
    → ((t : List ℕ) → IsText t → OtherText t)
    → PrintsOrFails Why IsText out result → PrintsOrFails Other OtherText out result
printed_map out _ causes texts (whole d text x p) = whole d text (texts text x) p
printed_map out _ causes texts (stopped stop c text f p) = stopped stop (causes stop refl c) text
    (front_map text texts f) p
printed_map out _ causes texts (cut text x p) = cut text (texts text x) p

-- a text was printed, or there was none
pub shown_printed : (Why : Stop → Type 0) (IsText : List ℕ → Type 0) (out : Output)
    (text : Result (List ℕ) Stop) (result : Result (Unit {0}) Stop)
    → ((t : List ℕ) → text ≡ Ok t → IsText t) → ((stop : Stop) → text ≡ Err stop → Why stop)
    → HasShown text out result → PrintsOrFails Why IsText out result
shown_printed Why IsText out (Ok text) (Ok done) texts stops shown = whole done text (texts text refl) shown
shown_printed Why IsText out (Ok text) (Err stop) texts stops shown = subst
    (λ (s : Stop). PrintsOrFails Why IsText out (Err s)) (sym shown.0) (cut text (texts text refl) shown.1)
shown_printed Why IsText out (Err why) (Ok done) texts stops shown = absurd shown
shown_printed Why IsText out (Err why) (Err stop) texts stops shown =
    subst (λ (s : Stop). PrintsOrFails Why IsText out (Err s)) (sym shown.0)
    (stopped why (stops why refl) [] (inl refl) (prints_nothing out shown.1))

-- ---- what was read

-- a source that was not called
pub undrawn : {I : Type 0} (sources : SourceView I) (longest : ℕ) (old : I) → IsDrawn sources longest old old
undrawn sources longest old = record {
  later = omega arith;
  most = record {
    each = λ f was. (f, was, (0, omega arith, refl));
    back = λ g now. (g, now, (0, omega arith, refl));
  };
}

pub undrawn_along : {I : Type 0} (sources : SourceView I) (longest : ℕ) (old new : I) → new ≡ old
    → IsDrawn sources longest old new
undrawn_along sources longest old new same = subst (λ (x : _). IsDrawn sources longest old x) (sym same)
    (undrawn sources longest old)

-- ---- what is left

pub none_undecided : IsUndecided (halts_of [])
none_undecided = λ i d l. absurd (omega (arith, l))

-- what opening goes on with is a history
pub stands_history : (f : List ℕ) (found steps : List Step) → Opens f found steps → IsHistory (steps ++ [])
stands_history f found steps o =
    subst IsHistory (sym (append-nil steps ∙ o.goes_on_is))
    (goes_on_history o.is.first_of_two o.is.size found o.is.stands.each o.is.stands.history)

-- a command that added nothing
pub ended_alike : {D C I : Type 0} (h : Handed D C I) (stations : OnStations) (out : Output)
    (result : Result (Unit {0}) Stop)
    (opening : Opening) → SourcesLeft h → DiskLeft h.disks h.disk.before h.disk.after opening [] []
    → ForOpenedDisk h (λ f steps. IsSafeBefore h.disks f steps [] h.disk.before h.disk.after)
    → (AddsSteps h.words → result ≡ Ok tt → ⊥) → ((OpensDisk h.words → ⊥) → opening ≡ uncalled)
    → PrintsOrFails (Cause h [] [] opening) (IsText h [] [] opening) out result → stations opening [] [] []
    → HasEnded h stations out result
ended_alike h stations out result opening sources disk before other unless printed left = record {
  opening = opening;
  ends = [];
  added = [];
  torn_step = [];
  sources = sources;
  disk = disk;
  uncalled_unless = unless;
  safe_before = λ none. before;
  printed = printed;
  history = λ f found steps was s. stands_history f found steps s;
  own = λ none c e i w f found steps was s. tt;
  in_turn = λ none. tt;
  of_call = none_of_call h;
  only_adding = λ e. refl;
  calm = λ e. refl;
  settled = λ e ok. absurd (other e ok);
  recorded = λ e ok. absurd (other e ok);
  undecided = λ e. none_undecided;
  stations_are = left;
}

-- a command that stopped before it opened the disk
pub ended_early : {D C I : Type 0} (disks : DiskView D) (laws : DiskLaws disks) (clocks : ClockView C)
    (sources : SourceView I) (words : Option Words) (conf conf_after input input_after : I) (disk : D) (clock : C)
    (stations : OnStations) (out : Output) (stop : Stop) → SourcesLeft
    (handed disks clocks sources words conf conf_after input input_after disk disk clock)
    → out.after ≡ out.before
    → Cause (handed disks clocks sources words conf conf_after input input_after disk disk clock) [] [] uncalled stop
    → stations uncalled [] [] []
    → HasEnded (handed disks clocks sources words conf conf_after input input_after disk disk clock) stations out
    (Err stop)
ended_early disks laws clocks sources words conf conf_after input input_after disk clock stations out stop left same
    cause on =
    ended_alike (handed disks clocks sources words conf conf_after input input_after disk disk clock) stations out
    (Err stop) uncalled left (left_alone disks laws disk) (λ f found steps was s. before_alone disks laws disk f steps)
    (λ e ok. absurd cc) (λ none. refl) (stopped stop cause [] (inl refl) (prints_nothing out same)) on
