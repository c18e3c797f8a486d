use Rattle.mta_histories.proofs.CompactionKept.{compaction_keeps}
use Rattle.mta_histories.proofs.CompactionPossible.{compaction_is_sound}
use Rattle.mta_histories.proofs.law.compaction_keeps.Goals as goal

pub returns : goal.returns
returns c = record { kept = compaction_keeps; sound = compaction_is_sound }
