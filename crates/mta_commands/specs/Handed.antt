-- What a run is handed but for its output, and what becomes of it.
use Rattle.std.specs.Prelude.{◌≡◌, ◌⊎◌, ℕ, List, Option, Some}
use Rattle.mta_edge.specs.Views.{DiskView, ClockView, SourceView}
use Rattle.mta_edge.specs.Causes.{Rose}
use Rattle.mta_records.specs.declared.step.Step.{Step}
use Rattle.mta_machine.specs.Apdu.{IsApdu}
use Rattle.mta_images.specs.Image.{StandsFor}
use Rattle.mta_images.specs.Opened.{Opens}
use Rattle.mta_words.specs.declared.words.Words.{Words}
use Rattle.mta_commands.specs.Words.{ReadsTables, ReadsApdu}
use Rattle.mta_commands.specs.Inputs.{IsReadAsTables}

-- an object before a run and behind it
pub record Used (A : Type 0) : Type 0 where
  pub before : A
  pub after : A

-- The words, where they are in the grammar; the source of the tables; the input; the disk; and the clock. The
-- models say what these tell of themselves.
pub record Handed (D C I : Type 0) : Type 1 where
  pub disks : DiskView D
  pub clocks : ClockView C
  pub sources : SourceView I
  pub words : Option Words
  pub conf : Used I
  pub input : Used I
  pub disk : Used D
  pub clock : C

abbrev pub handed : {D C I : Type 0} → DiskView D → ClockView C → SourceView I → Option Words → I → I → I
    → I → D → D → C → Handed D C I
handed disks clocks sources words conf conf_after input input_after disk disk_after clock = record {
  disks = disks;
  clocks = clocks;
  sources = sources;
  words = words;
  conf = record { before = conf; after = conf_after };
  input = record { before = input; after = input_after };
  disk = record { before = disk; after = disk_after };
  clock = clock;
}

-- ---- what is told

module _ {D C I : Type 0} (h : Handed D C I) where
  -- what holds of the octets of the tables, where their source tells them
  abbrev pub ForTables : (List ℕ → Type 0) → Type 0
  ForTables P = (c : List ℕ) → h.sources.left h.conf.before ≡ Some c → P c

  -- what holds of the octets of the input, where it tells them
  abbrev pub ForInput : (List ℕ → Type 0) → Type 0
  ForInput P = (i : List ℕ) → h.sources.left h.input.before ≡ Some i → P i

  -- what holds of the octets that the disk was handed in with, where it tells them
  abbrev pub ForDisk : (List ℕ → Type 0) → Type 0
  ForDisk P = (f : List ℕ) → h.disks.content h.disk.before ≡ Some f → P f

  -- what holds of the history for which the disk stood, where it tells its octets and they stand for one
  abbrev pub ForFound : (List Step → Type 0) → Type 0
  ForFound P =
      (f : List ℕ) (found : List Step) → h.disks.content h.disk.before ≡ Some f → StandsFor f found → P found

  -- what holds of those octets and of the history with which opening them goes on
  abbrev pub ForOpenedDisk : (List ℕ → List Step → Type 0) → Type 0
  ForOpenedDisk P =
      (f : List ℕ) (found steps : List Step) → h.disks.content h.disk.before ≡ Some f → Opens f found steps
      → P f steps

  -- what holds of that history
  abbrev pub ForOpened : (List Step → Type 0) → Type 0
  ForOpened P = ForOpenedDisk (λ f steps. P steps)

  -- ---- faults

  -- a source that the command reads failed
  abbrev pub SourceFailed : Type 0
  SourceFailed =
      (ReadsTables h.words × Rose (h.sources.faults h.conf.before) (h.sources.faults h.conf.after))
      ⊎ (ReadsApdu h.words × Rose (h.sources.faults h.input.before) (h.sources.faults h.input.after))

  abbrev pub DiskFailed : Type 0
  DiskFailed = Rose (h.disks.faults h.disk.before) (h.disks.faults h.disk.after)

-- what the command reads before it opens the disk is in order
pub record InputsRead {D C I : Type 0} (h : Handed D C I) : Type 0 where
  pub tables : ReadsTables h.words → ForTables h IsReadAsTables
  pub apdu : ReadsApdu h.words → ForInput h IsApdu
