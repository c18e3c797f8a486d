-- What a run leaves of everything that was handed in.
use Rattle.std.specs.Prelude.{◌≡◌, ◌≢◌, ◌⊎◌, ◌<◌, ◌≤◌, ◌^◌, ℕ, List, [], ◌++◌}
use Rattle.std.specs.Prelude.{take, None, Some}
use Rattle.mta_records.specs.declared.step.Step.{Step}
use Rattle.mta_machine.specs.Apdu.{IsApdu}
use Rattle.mta_records.specs.declared.state.Status.{Status}
use Rattle.mta_machine.specs.Items.{ItemValue, numbered, status_at}
use Rattle.mta_machine.specs.Machine.{IsRun, discharges_in}
use Rattle.mta_machine.specs.Laws.{IsPendingOrDischarged}
use Rattle.mta_histories.specs.History.{after, project}
use Rattle.mta_images.specs.Image.{StandsFor}
use Rattle.mta_images.specs.Opened.{IsFullForFormat}
use Rattle.mta_spool.specs.Turning.{IsRecorded}
use Rattle.mta_stations.specs.declared.end.WorkerEnd.{WorkerEnd}
use Rattle.mta_stations.specs.Deciding.{halts_of, IsUndecided}
use Rattle.mta_words.specs.declared.words.Words.TheVariants as Say
use Rattle.mta_commands.specs.Words.{AddsSteps, Drills, ReadsTables, ReadsApdu, OpensDisk, Serves}
use Rattle.mta_commands.specs.Handed.{Handed, ForTables, ForInput, ForDisk, ForFound, ForOpened, ForOpenedDisk}
use Rattle.mta_commands.specs.Handed.{SourceFailed, DiskFailed, InputsRead}
use Rattle.mta_commands.specs.Inputs.{IsReadAsTables}
use Rattle.mta_commands.specs.Lines.{accepted_line}
use Rattle.mta_output.specs.Output.{Output, OutputFailed}
use Rattle.mta_commands.specs.Output.{IsEnded}
use Rattle.mta_commands.specs.DiskLeft.{Opening, uncalled, opened, DiskLeft}
use Rattle.mta_commands.specs.Submit.{AreOwn, AreInTurn, accepts, IsAccepted}
use Rattle.mta_commands.specs.Causes.{Cause, IsText, mailbox_named, PeersNamed}
use Rattle.mta_commands.specs.Command.{NothingIsDue, OnStations, SourcesLeft}
use Rattle.mta_commands.specs.Images.{IsSafeBefore}
use Rattle.mta_commands.specs.Provenance.{AreOfCall}

-- What the steps are for the machine of recipients is a run of it, from the state of the snapshot with which they begin
-- or from nothing. Each recipient for whom this agent is responsible is pending with no discharge, or is not pending
-- and has one; what the snapshot has discharged counts as one.
pub record RecipientsOnce (steps : List Step) : Type 0 where
  pub run : IsRun (project steps).start (project steps).steps
  pub once : (i r : ℕ) (s : Status) → status_at (after steps).machine i r ≡ Some (Some s)
      → IsPendingOrDischarged s (discharges_in (project steps) i r)

-- An added Accept of these octets makes the item of this number, which is the next one behind the history, and the
-- item has these octets.
pub record IsKept (steps added : List Step) (octets : List ℕ) (n : ℕ) : Type 0 where
  pub accepted : IsAccepted steps added octets n
  pub item : ItemValue
  pub item_is : numbered (after (steps ++ added)).machine.items n ≡ Some item
  pub octets_are : item.octets ≡ octets

-- What status 0 means beside the text.
pub record EndedWell {D C I : Type 0} (h : Handed D C I) (opening : Opening) (ends : List WorkerEnd)
    (added torn_step : List Step) : Type 0 where
  -- the words are in the grammar, and what the command reads is in order
  pub known : h.words ≢ None
  pub read : InputsRead h
  -- the disk was opened, unless the command opens none, and no step failed on it
  pub opened_it : OpensDisk h.words → opening ≡ opened
  pub calm : torn_step ≡ []
  -- the mailbox is named
  pub named : (name : List ℕ) → h.words ≡ Some (Say.Mailbox name)
      → ForFound h (λ found. mailbox_named (after found) name ≢ None)
  -- with `submit` and `serve` nothing is due
  pub settled : AddsSteps h.words → ForOpened h (λ steps. NothingIsDue (h.clocks.tells h.clock) (steps ++ added))
  -- with `serve` each worker gave its links back, or its station ended or failed
  pub undecided : IsUndecided (halts_of ends)
  -- with `submit` and `serve` the tables recorded last are those that were read
  pub recorded : AddsSteps h.words
      → ForTables h (λ c. ForOpened h (λ steps. IsRecorded (after (steps ++ added)) c))

-- What a run leaves, each part where the objects that it speaks of tell what they hold. `opening` says how far it
-- came with the disk, `added` are the steps that it added to the history with which opening goes on, and `torn_step`
-- is the step in which the disk failed, if it did. `ends` are those of the workers of `serve`.
pub record Ran {D C I : Type 0} (h : Handed D C I) (stations : OnStations) (out : Output) (status : ℕ) : Type 0 where
  pub opening : Opening
  pub ends : List WorkerEnd
  pub added : List Step
  pub torn_step : List Step
  -- a source that the command does not read is the same, and of one that it reads it takes an octet more than the
  -- most at most
  pub sources : SourcesLeft h
  -- the disk is called only by a command that opens it
  pub uncalled_unless : (OpensDisk h.words → ⊥) → opening ≡ uncalled
  -- the disk stands for the history with which opening goes on and the added steps, as it reads and after a crash, or
  -- with those and the one in which it failed; since opening was over a crash left that history with a beginning of
  -- these, and from its first sync to then a history that opening may leave; one that was not opened stands for such a
  -- history; one that was not called is the same, and one that is no spool is as it was
  pub disk_stands : DiskLeft h.disks h.disk.before h.disk.after opening added torn_step
  -- and before that sync what one before the call might have left, but that this is not told of `serve`
  pub safe_before : (Serves h.words → ⊥)
      → ForOpenedDisk h (λ f steps. IsSafeBefore h.disks f steps (added ++ torn_step) h.disk.before h.disk.after)
  -- each recipient is pending with no discharge, or is not pending and has one
  pub recipients_once : ForOpened h (λ steps. (n : ℕ) → RecipientsOnce (steps ++ take n (added ++ torn_step)))
  -- where `submit` printed the line `accepted N`, an added Accept of the input makes item N
  pub acknowledged_kept : h.words ≡ Some Say.Submit → (a b : List ℕ) → out.before ≡ Some a
      → out.after ≡ Some b → (n : ℕ) (rest : List ℕ) → n < 2 ^ 32 → b ≡ a ++ accepted_line n ++ rest
      → ForInput h (λ i. ForOpened h (λ steps. IsKept steps added i n × IsKept steps (added ++ torn_step) i n))
  -- what was printed, the status, and why
  pub printed : IsEnded (Cause h ends added opening) (IsText h ends added opening) out status
  -- added tables are those of this call, an APDU is accepted by `submit` alone, and each moment is one of the clock's
  pub of_call : AreOfCall h added
  -- the steps of `submit` are of the tables and the input of this call, and their moments are those of the clock
  pub provenance : (Serves h.words → ⊥) → ForTables h (λ c. ForInput h (λ i. ForOpened h (λ steps.
      AreOwn (h.clocks.tells h.clock) c i (after steps) (added ++ torn_step))))
  -- the tables come first, where they changed, then one Accept, then what is due
  pub in_turn : (Serves h.words → ⊥) → AreInTurn 0 (added ++ torn_step)
  pub at_most_one : (Serves h.words → ⊥) → accepts (added ++ torn_step) ≤ 1
  -- only `submit` and `serve` add any
  pub only_adding : (AddsSteps h.words → ⊥) → added ++ torn_step ≡ []
  -- what the workers did at the stations, and what became of these
  pub stations_are : stations opening ends added torn_step
  -- and with status 0 all is well
  pub ended_well : status ≡ 0 → EndedWell h opening ends added torn_step

-- the run ends before it opens the disk: the command opens none, or the words, the tables, the input or a source
-- had a fault
abbrev pub EndsBeforeOpening : {D C I : Type 0} → Handed D C I → ℕ → Type 0
EndsBeforeOpening h status =
    (OpensDisk h.words → ⊥) ⊎ (status ≡ 1) ⊎ (status ≡ 2) ⊎ (status ≡ 6) ⊎ (status ≡ 8)

-- What a status tells by itself. Want of memory, 7, is free.
pub record Tells {D C I : Type 0} (h : Handed D C I) (out : Output) (status : ℕ) : Type 0 where
  -- 1 comes exactly where the words are outside the grammar, but for want of memory and a fault of the output
  pub usage : status ≡ 1 → h.words ≡ None
  pub usage_where : h.words ≡ None → (status ≡ 1) ⊎ (status ≡ 7) ⊎ ((status ≡ 9) × OutputFailed out)
  -- a drill ends with 0, but for the same
  pub drills : Drills h.words → (status ≡ 0) ⊎ (status ≡ 7) ⊎ ((status ≡ 9) × OutputFailed out)
  pub disk : status ≡ 4 → OpensDisk h.words × DiskFailed h
  pub source : status ≡ 8 → SourceFailed h
  pub sink : status ≡ 9 → OutputFailed out
  pub untouched : EndsBeforeOpening h status → h.disk.after ≡ h.disk.before

-- the format does not fit behind the history for which the disk stood, which has an older one
abbrev pub IsOlderAndFull : {D C I : Type 0} → Handed D C I → Type 0
IsOlderAndFull h = (size need : ℕ) × ForDisk h (λ f. IsFullForFormat f size need)

-- All is in order that the command reads, and nothing fails.
pub record AllInOrder {D C I : Type 0} (h : Handed D C I) (out : Output) : Type 0 where
  pub known : h.words ≢ None
  pub tables : ReadsTables h.words → (c : List ℕ) × (h.sources.left h.conf.before ≡ Some c) × IsReadAsTables c
  pub apdu : ReadsApdu h.words → (i : List ℕ) × (h.sources.left h.input.before ≡ Some i) × IsApdu i
  pub spool : OpensDisk h.words → (f : List ℕ) × (steps : List Step) × (h.disks.content h.disk.before ≡ Some f)
      × StandsFor f steps
  pub named : (name : List ℕ) → h.words ≡ Some (Say.Mailbox name)
      → ForFound h (λ found. mailbox_named (after found) name ≢ None)
  pub peers : Serves h.words → PeersNamed h
  pub calm_sources : SourceFailed h → ⊥
  pub calm_disk : DiskFailed h → ⊥
  pub calm_output : OutputFailed out → ⊥

-- Then the status is 0, or 7, or 5 where a step was refused for its numbers or its record did not fit, or the
-- format did not fit.
abbrev pub IsComplete : {D C I : Type 0} → Handed D C I → Output → ℕ → Type 0
IsComplete h out status =
    AllInOrder h out → (status ≡ 0) ⊎ (status ≡ 7)
    ⊎ ((status ≡ 5) × (AddsSteps h.words ⊎ (OpensDisk h.words × IsOlderAndFull h)))
