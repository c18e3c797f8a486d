-- What the sessions of a round leave, and what the spools show that are opened again on its disks.
use Rattle.std.specs.Prelude.{◌≡◌, ℕ, ◌+◌, List}
use Rattle.mta_edge.specs.Held.{HeldDisk}
use Rattle.mta_records.specs.declared.step.Step.{Step}
use Rattle.mta_histories.specs.Compact.{snapshot_of}
use Rattle.mta_histories.specs.Compaction.{HasShortItems}
use Rattle.mta_histories.specs.History.{after}
use Rattle.mta_histories.specs.Lanes.{State as SpoolState}
use Rattle.mta_histories.specs.Sound.{IsSound, state_begun}
use Rattle.mta_images.specs.Image.{StandsFor}
use Rattle.mta_spool.specs.Shown.{Shown}
use Rattle.mta_drill_text.specs.Breaks.{breaks_up_to}
use Rattle.mta_drill_answer_laws.specs.Answers.{Works}
use Rattle.mta_drill_step_laws.specs.First.{HasAccepted}
use Rattle.mta_drill_step_laws.specs.Second.{HasGot}

-- the link was broken so often, as it was to be in the messages behind this one
abbrev pub AreBreaksOf : (before count broken : ℕ) → Type 0
AreBreaksOf before count broken = broken + breaks_up_to before ≡ breaks_up_to (before + count)

-- Both spools work on. The first agent has sent so many messages behind this one, the second has each delivered, and
-- the link was broken so often.
pub record HasWorked (before count broken : ℕ) (first second : Shown HeldDisk (List ℕ)) : Type 0 where
  pub first_works : Works first
  pub second_works : Works second
  pub accepted : HasAccepted before count count first.current.machine
  pub got : HasGot before count count second.current.machine
  pub breaks : AreBreaksOf before count broken

-- the disk stands for a history behind which the first agent has sent the messages
pub record WasSent (octets : List ℕ) (before count : ℕ) : Type 0 where
  pub steps : List Step
  pub stands : StandsFor octets steps
  pub accepted : HasAccepted before count count (after steps).machine

-- the disk stands for a history behind which the second agent has each delivered
pub record WasGot (octets : List ℕ) (before count : ℕ) : Type 0 where
  pub steps : List Step
  pub stands : StandsFor octets steps
  pub got : HasGot before count count (after steps).machine

-- A spool that is opened again shows the state behind the history in its format, or the one of its snapshot.
pub data IsAgain (steps : List Step) (s : SpoolState) : Type 0 where
  As_it_was : s ≡ after steps → IsAgain steps s
  In_snapshot : IsSound (after steps) → HasShortItems (after steps) → s ≡ state_begun (snapshot_of (after steps))
      → IsAgain steps s
