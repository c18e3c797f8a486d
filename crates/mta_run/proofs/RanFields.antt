-- What a run leaves, from what its command leaves and how its stop was told.
use Rattle.std.proofs.Common.{◌≡◌, ◌≢◌, ℕ, ◌≤◌, List, Option, ◌++◌, take, drop, None, Some}
use Rattle.std.proofs.Common.{Result, Ok, refl}
use Rattle.std.proofs.Common.{sym, ap, subst, ◌∙◌, append_assoc}
use Rattle.std.proofs.lemmas.List.{take-append-drop}
use Rattle.mta_edge.specs.Views.{SinkView}
use Rattle.mta_records.specs.declared.step.Step.{Step}
use Rattle.mta_histories.specs.Lanes.{empty}
use Rattle.mta_histories.specs.History.{IsHistory, after}
use Rattle.mta_histories.proofs.Runs.{histories_are_runs, each_recipient_once}
use Rattle.mta_stations.specs.declared.end.Halt.{Halt}
use Rattle.mta_stations.specs.declared.end.Halt.TheVariants as Halts
use Rattle.mta_stations.specs.declared.end.WorkerEnd.{WorkerEnd}
use Rattle.mta_commands.specs.declared.stop.Stop.{Stop}
use Rattle.mta_commands.specs.declared.stop.Stop.TheVariants as Stops
use Rattle.mta_words.specs.declared.words.Words.{Words}
use Rattle.mta_words.specs.declared.words.Words.TheVariants as Say
use Rattle.mta_commands.specs.Words.{ReadsTables, ReadsApdu, OpensDisk, Serves}
use Rattle.mta_commands.specs.Handed.{Handed, ForFound, InputsRead}
use Rattle.mta_output.specs.Output.{Output, output}
use Rattle.mta_commands.specs.Output.{PrintsOrFails, whole, HasClosed, IsEnded}
use Rattle.mta_commands.specs.DiskLeft.{Opening, opened}
use Rattle.mta_commands.specs.Causes.{mailbox_named, IsText, of_submit, of_queue, of_serve, of_mailbox, of_decode}
use Rattle.mta_commands.specs.Causes.{of_drill, Cause, memory}
use Rattle.mta_commands.specs.Causes.{of_worker}
use Rattle.mta_commands.specs.Command.{HasEnded, OnStations}
use Rattle.mta_commands.specs.Serving.{stop_of_halt}
use Rattle.mta_commands.specs.Submit.{IsAccepted}
use Rattle.mta_run.specs.Ran.{RecipientsOnce, IsKept, Ran}
use Rattle.mta_commands.proofs.Same.{some_same}
use Rattle.mta_commands.proofs.Added.{possible_front, one_accept}
use Rattle.mta_commands.proofs.Printed.{ended, closed_well}
use Rattle.mta_commands.proofs.AcknowledgedKept.{ended_accepted, accepted_kept}
use Rattle.mta_commands.proofs.Worked.{accepted_more}

-- a beginning of a history is one
history_front : (steps tried : List Step) (n : ℕ) → IsHistory (steps ++ tried) → IsHistory (steps ++ take n tried)
history_front steps tried n history =
    possible_front empty (steps ++ take n tried) (drop n tried)
    (subst IsHistory (ap (λ (x : List Step). steps ++ x) (sym (take-append-drop n tried)) ∙ sym
    (append_assoc steps (take n tried) (drop n tried))) history)

-- in a history each recipient is discharged once at most
once_in : (steps : List Step) → IsHistory steps → RecipientsOnce steps
once_in steps history = record { run = histories_are_runs steps history; once = each_recipient_once steps history }

halt_not_sink : (halt : Halt) → stop_of_halt halt ≡ Stops.Sink → ⊥
halt_not_sink Halts.Disk e = cc
halt_not_sink any0 e = cc

-- no cause is a fault of the output
no_sink_of : {D C I : Type 0} (h : Handed D C I) (ends : List WorkerEnd) (added : List Step) (opening : Opening)
    (stop : Stop) → Cause h ends added opening stop → stop ≡ Stops.Sink → ⊥
no_sink_of h ends added _ _ (of_worker halt serves inputs decides) e = halt_not_sink halt e
no_sink_of h ends added _ _ any5 e = cc

no_sink : {D C I : Type 0} (h : Handed D C I) (ends : List WorkerEnd) (added : List Step) (opening : Opening)
    → Cause h ends added opening Stops.Sink → ⊥
no_sink h ends added opening why = no_sink_of h ends added opening Stops.Sink why refl

-- ---- what a text tells

-- what was read, opened and named where a command printed its text
record TextTells {D C I : Type 0} (h : Handed D C I) (opening : Opening) : Type 0 where
  known : h.words ≢ None
  read : InputsRead h
  opened_it : OpensDisk h.words → opening ≡ opened
  named : (name : List ℕ) → h.words ≡ Some (Say.Mailbox name) → ForFound h
      (λ found. mailbox_named (after found) name ≢ None)

serve_known : (words : Option Words) → Serves words → words ≢ None
serve_known words serves none = subst Serves none serves

some_known : {D C I : Type 0} (h : Handed D C I) (words : Words) → h.words ≡ Some words → h.words ≢ None
some_known h words some none = cc

mailbox_apart : {D C I : Type 0} (h : Handed D C I) (words : Words) (name : List ℕ) → h.words ≡ Some words
    → (words ≡ Say.Mailbox name → ⊥) → h.words ≡ Some (Say.Mailbox name) → ⊥
mailbox_apart h words name some other e = other (some_same words (Say.Mailbox name) (sym some ∙ e))

same_name : (a b : List ℕ) → Say.Mailbox a ≡ Say.Mailbox b → a ≡ b
same_name a b e = cc

reads_nothing : {D C I : Type 0} (h : Handed D C I) (words : Words) → h.words ≡ Some words
    → (ReadsTables (Some words) → ⊥) → (ReadsApdu (Some words) → ⊥) → InputsRead h
reads_nothing h words is no_tables no_apdu = record
    { tables = λ r. absurd (no_tables (subst ReadsTables is r)); apdu = λ r. absurd (no_apdu (subst ReadsApdu is r)) }

text_tells : {D C I : Type 0} (h : Handed D C I) (ends : List WorkerEnd) (added : List Step) (opening : Opening)
    (text : List ℕ) → IsText h ends added opening text → TextTells h opening
text_tells h ends added _ _ (of_submit n text word inputs small is acc) = record {
  known = some_known h Say.Submit word;
  read = inputs;
  opened_it = λ o. refl;
  named = λ name e. absurd (mailbox_apart h Say.Submit name word (λ w. absurd cc) e);
}
text_tells h ends added _ _ (of_queue text word is) = record {
  known = some_known h Say.Queue word;
  read = reads_nothing h Say.Queue word (λ r. r) (λ r. r);
  opened_it = λ o. refl;
  named = λ name e. absurd (mailbox_apart h Say.Queue name word (λ w. absurd cc) e);
}
text_tells h ends added _ _ (of_mailbox name text word named is) = record {
  known = some_known h (Say.Mailbox name) word;
  read = reads_nothing h (Say.Mailbox name) word (λ r. r) (λ r. r);
  opened_it = λ o. refl;
  named = λ other e. subst (λ (x : List ℕ). ForFound h (λ found. mailbox_named (after found) x ≢ None))
      (same_name name other (some_same (Say.Mailbox name) (Say.Mailbox other) (sym word ∙ e))) named;
}
text_tells h ends added _ _ (of_serve text serves inputs named each is) = record {
  known = serve_known h.words serves;
  read = inputs;
  opened_it = λ o. refl;
  named = λ name e. absurd (subst Serves e serves);
}
text_tells h ends added _ _ (of_decode text word is) = record {
  known = some_known h Say.Decode word;
  read = record { tables = λ r. absurd (subst ReadsTables word r); apdu = λ r i e. let x = is i e in (x.0, x.1) };
  opened_it = λ o. absurd (subst OpensDisk word o);
  named = λ name e. absurd (mailbox_apart h Say.Decode name word (λ w. absurd cc) e);
}
text_tells h ends added _ _ (of_drill messages text word is) = record {
  known = some_known h (Say.Drill messages) word;
  read = reads_nothing h (Say.Drill messages) word (λ r. r) (λ r. r);
  opened_it = λ o. absurd (subst OpensDisk word o);
  named = λ name e. absurd (mailbox_apart h (Say.Drill messages) name word (λ w. absurd cc) e);
}

-- the text of a command that did what it does
printed_tells : {D C I : Type 0} (h : Handed D C I) (ends : List WorkerEnd) (added : List Step) (opening : Opening)
    (out : Output) (result : Result (Unit {0}) Stop) → PrintsOrFails (Cause h ends added opening)
    (IsText h ends added opening) out result → result ≡ Ok tt → TextTells h opening
printed_tells h ends added opening out _ (whole d text x p) e = text_tells h ends added opening text x
printed_tells h ends added opening out _ any6 e = absurd cc

-- ---- a run

-- an Accept behind which steps are added, and its item
kept : (steps added : List Step) (octets : List ℕ) (n : ℕ) → IsHistory (steps ++ added)
    → IsAccepted steps added octets n → IsKept steps added octets n
kept steps added octets n history a =
    let item = accepted_kept steps added octets n history a in
    record { accepted = a; item = item.0; item_is = item.1; octets_are = item.2 }

pub ran : {D C I O : Type 0} (h : Handed D C I) (sinks : SinkView O) (a b c : O) (result : Result (Unit {0}) Stop)
    (status : ℕ) (stations : OnStations) → HasEnded h stations (output sinks a b) result
    → HasClosed result (output sinks b c) status → sinks.faults a ≤ sinks.faults b
    → sinks.faults b ≤ sinks.faults c → Ran h stations (output sinks a c) status
ran h sinks a b c result status stations has closed first then = record {
  opening = has.opening;
  ends = has.ends;
  added = has.added;
  torn_step = has.torn_step;
  sources = has.sources;
  uncalled_unless = has.uncalled_unless;
  disk_stands = has.disk;
  safe_before = has.safe_before;
  recipients_once = λ f found steps was s n. once_in (steps ++ take n (has.added ++ has.torn_step))
      (history_front steps (has.added ++ has.torn_step) n (has.history f found steps was s));
  acknowledged_kept = λ submit x y was is n rest small begun i w f found steps there s.
      let acc = ended_accepted h has.ends has.added submit n small has.opening (output sinks a c) status x y rest
      printed was is begun i w f found steps there s in
      let all = has.history f found steps there s in
      let front = possible_front empty (steps ++ has.added) has.torn_step (subst IsHistory (sym
      (append_assoc steps has.added has.torn_step)) all) in (
        kept steps has.added i n front acc,
        kept steps (has.added ++ has.torn_step) i n all (accepted_more steps has.added has.torn_step i n acc),
      );
  printed = printed;
  provenance = has.own;
  in_turn = has.in_turn;
  of_call = has.of_call;
  at_most_one = λ none. one_accept 0 (has.added ++ has.torn_step) (has.in_turn none);
  only_adding = has.only_adding;
  stations_are = has.stations_are;
  ended_well = λ z.
      let ok = closed_well result (output sinks b c) status closed z in
      let tells = printed_tells h has.ends has.added has.opening (output sinks a b) result has.printed ok in
      record {
        known = tells.known;
        read = tells.read;
        opened_it = tells.opened_it;
        calm = has.calm ok;
        named = tells.named;
        settled = λ e. has.settled e ok;
        undecided = has.undecided ok;
        recorded = λ e. has.recorded e ok;
      };
} where
  printed : IsEnded (Cause h has.ends has.added has.opening) (IsText h has.ends has.added has.opening)
      (output sinks a c) status
  printed = ended sinks a b c (Cause h has.ends has.added has.opening) (IsText h has.ends has.added has.opening) first
      then (memory has.opening) (no_sink h has.ends has.added has.opening) result status has.printed closed
