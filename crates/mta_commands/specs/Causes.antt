-- What a command prints, and why a run stops without it.
use Rattle.std.specs.Prelude.{◌≡◌, ◌≢◌, ◌^◌, ℕ, ◌<◌, List, ◌++◌, All, Option, None, Some, Ok}
use Rattle.std.specs.Prelude.{length, option_and_then}
use Rattle.mta_ber.specs.declared.fault.Kind.{Kind}
use Rattle.mta_records.specs.declared.step.Step.{Step}
use Rattle.mta_tables.specs.declared.fault.LineKind.{LineKind}
use Rattle.mta_tables.specs.Tables.{TablesValue, tables_of, mailbox_of as place_of_mailbox}
use Rattle.mta_tables.specs.Grammar.{IsFirstBadLine}
use Rattle.mta_apdu.specs.Apdus.{ApduValue, SpellsApdu}
use Rattle.mta_apdu_text.specs.Apdus.{apdu_text}
use Rattle.mta_drill_text.specs.Text.{drill_text}
use Rattle.mta_machine.specs.Items.{numbered}
use Rattle.mta_machine.specs.Rules.{tables_value}
use Rattle.mta_machine.specs.Machine.{last_tables}
use Rattle.mta_histories.specs.Lanes.{State}
use Rattle.mta_histories.specs.History.{after}
use Rattle.mta_images.specs.Image.{HasSize, NoSpoolAt}
use Rattle.mta_images.specs.Opened.{IsFullForFormat}
pub use Rattle.mta_show.specs.Compacted.{queue_of, mailbox_of}
use Rattle.mta_stations.specs.declared.end.Halt.{Halt}
use Rattle.mta_stations.specs.declared.end.WorkerEnd.{WorkerEnd}
use Rattle.mta_stations.specs.Deciding.{Decides, halts_of}
use Rattle.mta_stations.specs.Lines.{station_lines}
use Rattle.mta_stations.specs.Peers.{IsNamed, IsUnnamed}
use Rattle.mta_commands.specs.declared.stop.Stop.{Stop}
use Rattle.mta_commands.specs.declared.stop.Stop.TheVariants as Stops
use Rattle.mta_words.specs.declared.words.Words.TheVariants as Say
use Rattle.mta_commands.specs.Words.{AddsSteps, ReadsTables, ReadsApdu, OpensDisk, roles_named, Serves}
use Rattle.mta_commands.specs.Handed.{Handed, ForTables, ForInput, ForDisk, ForFound, ForOpened, SourceFailed}
use Rattle.mta_commands.specs.Handed.{DiskFailed}
use Rattle.mta_commands.specs.Handed.{ForOpenedDisk, InputsRead}
use Rattle.mta_commands.specs.Inputs.{IsReadAsTables, HasFault}
use Rattle.mta_commands.specs.Lines.{accepted_line}
use Rattle.mta_commands.specs.DiskLeft.{Opening, uncalled, refused, opened}
use Rattle.mta_commands.specs.Serving.{IsOwnFull, IsOwnSpent, stop_of_halt}
use Rattle.mta_commands.specs.Submit.{IsAccepted, IsFullFor, IsSpentFor}

-- the mailbox of this name in the tables of a text
abbrev pub mailbox_in : (name text : List ℕ) → Option ℕ
mailbox_in name text = option_and_then (λ (t : TablesValue). place_of_mailbox t name) (tables_value text)

-- the mailbox of this name in the tables recorded last
abbrev pub mailbox_named : State → List ℕ → Option ℕ
mailbox_named s name = option_and_then (mailbox_in name) (numbered s.machine.tables (last_tables s.machine))

-- the tables name each peer whom a station calls
abbrev pub PeersNamed : {D C I : Type 0} → Handed D C I → Type 0
PeersNamed h = ForTables h (λ c. (t : TablesValue) × (tables_of c ≡ Ok t) × All (IsNamed t) (roles_named h.words))

-- What a command prints where it does not stop: `submit` the number of the item, `serve` a line for the end of each
-- worker, of whom there is one a station, `spool` the queue, `read` the mailbox, `decode` the APDU, and `drill` what a
-- drill of so many messages counts where each is sent and delivered once. All but `decode` and `drill` have opened the
-- disk then. The queue and the mailbox are those of the history for which the disk stood.
pub data IsText {D C I : Type 0} (h : Handed D C I) (ends : List WorkerEnd) (added : List Step) : Opening → List ℕ
    → Type 0 where
  of_submit : (number : ℕ) (text : List ℕ) → h.words ≡ Some Say.Submit → InputsRead h → number < 2 ^ 32
      → text ≡ accepted_line number
      → ForInput h (λ i. ForOpened h (λ steps. IsAccepted steps added i number)) → IsText h ends added opened text
  of_queue : (text : List ℕ) → h.words ≡ Some Say.Queue
      → ForFound h (λ found. text ≡ queue_of (after found))
      → IsText h ends added opened text
  of_serve : (text : List ℕ) → Serves h.words → InputsRead h → PeersNamed h
      → length ends ≡ length (roles_named h.words) → text ≡ station_lines ends
      → IsText h ends added opened text
  of_mailbox : (name text : List ℕ) → h.words ≡ Some (Say.Mailbox name)
      → ForFound h (λ found. mailbox_named (after found) name ≢ None)
      → ForFound h (λ found. text ≡ mailbox_of name (after found))
      → IsText h ends added opened text
  of_decode : (text : List ℕ) → h.words ≡ Some Say.Decode
      → ForInput h (λ i. (v : ApduValue) × SpellsApdu i v × (text ≡ apdu_text v))
      → IsText h ends added uncalled text
  of_drill : (messages : ℕ) (text : List ℕ) → h.words ≡ Some (Say.Drill messages)
      → text ≡ drill_text messages
      → IsText h ends added uncalled text

-- Why a run stopped so, behind these added steps, and how far it had come with the disk. Each cause is met in its
-- place: the words, the tables, the input, opening, the steps. Want of memory alone needs no cause. A fault of the
-- output has no line, so it is none of these.
pub data Cause {D C I : Type 0} (h : Handed D C I) (ends : List WorkerEnd) (added : List Step) : Opening → Stop
    → Type 0 where
  usage : h.words ≡ None → Cause h ends added uncalled Stops.Usage
  memory : (opening : Opening) → Cause h ends added opening Stops.Memory
  source : SourceFailed h → Cause h ends added uncalled Stops.Source
  tables : (line : ℕ) (kind : LineKind) → ReadsTables h.words → ForTables h (λ c. IsFirstBadLine c line kind)
      → h.input.after ≡ h.input.before → Cause h ends added uncalled (Stops.Tables line kind)
  apdu : (at : ℕ) (kind : Kind) → ReadsApdu h.words → (ReadsTables h.words → ForTables h IsReadAsTables)
      → ForInput h (λ i. HasFault i (record { at = at; kind = kind })) → Cause h ends added uncalled
      (Stops.BadApdu at kind)
  not_spool : (at : ℕ) → OpensDisk h.words → InputsRead h → ForDisk h (λ f. NoSpoolAt f at)
      → Cause h ends added refused (Stops.NotSpool at)
  full_opening : (size need : ℕ) → OpensDisk h.words → InputsRead h
      → ForDisk h (λ f. IsFullForFormat f size need)
      → Cause h ends added refused (Stops.Full size need)
  not_opened : OpensDisk h.words → InputsRead h → DiskFailed h → Cause h ends added refused Stops.Disk
  disk : AddsSteps h.words → InputsRead h → DiskFailed h → Cause h ends added opened Stops.Disk
  full : (size need : ℕ) → h.words ≡ Some Say.Submit → InputsRead h
      → ForTables h (λ c. ForInput h (λ i. ForOpenedDisk h (λ f steps. HasSize f (steps ++ added) (λ used.
      IsFullFor (h.clocks.tells h.clock) c i added (after (steps ++ added)) used size need))))
      → Cause h ends added opened (Stops.Full size need)
  spent : (last : ℕ) → h.words ≡ Some Say.Submit → InputsRead h
      → ForTables h (λ c. ForInput h (λ i. ForOpened h (λ steps.
      IsSpentFor (h.clocks.tells h.clock) c i added (after (steps ++ added)) last)))
      → Cause h ends added opened (Stops.Spent last)
  no_mailbox : (name : List ℕ) → h.words ≡ Some (Say.Mailbox name)
      → ForFound h (λ found. mailbox_named (after found) name ≡ None)
      → Cause h ends added opened (Stops.NoMailbox name)
  no_peer : (name : List ℕ) → Serves h.words → ForTables h (λ c. (t : TablesValue) × (tables_of c ≡ Ok t)
      × IsUnnamed t (roles_named h.words) name) → Cause h ends added uncalled (Stops.NoPeer name)
  full_serving : (size need : ℕ) → Serves h.words → InputsRead h
      → ForTables h (λ c. ForOpenedDisk h (λ f steps. HasSize f (steps ++ added) (λ used.
      IsOwnFull (h.clocks.tells h.clock) c (after (steps ++ added)) used size need)))
      → Cause h ends added opened (Stops.Full size need)
  spent_serving : (last : ℕ) → Serves h.words → InputsRead h
      → ForTables h
      (λ c. ForOpened h (λ steps. IsOwnSpent (h.clocks.tells h.clock) c (after (steps ++ added)) last))
      → Cause h ends added opened (Stops.Spent last)
  of_worker : (halt : Halt) → Serves h.words → InputsRead h → Decides (halts_of ends) halt
      → Cause h ends added opened (stop_of_halt halt)
