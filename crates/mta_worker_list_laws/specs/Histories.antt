-- The history that workers share, and how much of it a pass has seen.
use Rattle.std.specs.Prelude.{◌≡◌, ℕ, ◌+◌, Bool, true, false, List, ◌++◌, length, map, Err, is_ok}
use Rattle.mta_ber.specs.declared.fault.Fault.{Fault}
use Rattle.mta_apdu.specs.Apdus.{apdu_of}
use Rattle.mta_transfer_rules.specs.Lanes.{Seen}
use Rattle.mta_records.specs.declared.step.Step.{Step}
use Rattle.mta_records.specs.Body.{body_of}
use Rattle.mta_machine.specs.Apdu.{IsApdu}
use Rattle.mta_histories.specs.History.{IsHistory}
use Rattle.mta_histories.specs.Seen.{annotated}
use Rattle.mta_images.specs.Image.{AreRecords}
use Rattle.mta_shared.specs.declared.history.Base.{Base}
use Rattle.mta_shared.specs.Held.{Held}
use Rattle.mta_spool.specs.Bases.{found_of}

-- The entries of a lock stand behind the history that opening gave, and with it they are a possible one.
pub record AreEntries (base : Base) (first entries : List Step) : Type 0 where
  pub found : map body_of first ≡ found_of base
  pub each : AreRecords (first ++ entries)
  pub possible : IsHistory (first ++ entries)

-- the whole history, each step as its lane sees it
abbrev pub whole : (first entries : List Step) → List Seen
whole first entries = annotated (first ++ entries)

-- how long the history is that a pass has seen
abbrev pub place : (first : List Step) → Held Step → ℕ
place first p = length first + length p.seen

-- the test is true of octets that spell an APDU which may be received, and of none in which reading finds a fault
pub record TellsApdus (spells : List ℕ → Bool) : Type 0 where
  pub of_apdus : (octets : List ℕ) → IsApdu octets → spells octets ≡ true
  pub of_others : (octets : List ℕ) (f : Fault) → apdu_of octets ≡ Err f → spells octets ≡ false

-- such a test: the octets are read
abbrev pub is_apdu : List ℕ → Bool
is_apdu octets = is_ok (apdu_of octets)
