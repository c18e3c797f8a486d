-- The laws of sessions of a drill.
use Rattle.mta_drill_stage_laws.specs.Settings.{IsSized, Setting}
use Rattle.mta_drill_stage_laws.specs.Stages.{HasEnded, Stage}
use Rattle.mta_drill_stage_laws.specs.World.{CallerRests, ListenerRests, World}
use Rattle.mta_drill.specs.Runs.{GaveUp, RanTo}

-- none is given up that begins in a stage
abbrev pub NoneIsGivenUp : Type 0
NoneIsGivenUp = (x : Setting) (w : World) → IsSized x → Stage x w → GaveUp w → ⊥

-- and where both sides rest it has ended
abbrev pub RestsAreEnds : Type 0
RestsAreEnds =
    (x : Setting) (w now : World) → IsSized x → Stage x w → RanTo w now → CallerRests now → ListenerRests now
    → HasEnded x now
