use Rattle.mta_store_run.proofs.Kept.{opening_answers_the_same, snapshots_answer_the_same}
use Rattle.mta_store_run.proofs.Later.{steps_keep_entries}
use Rattle.mta_store_run.proofs.law.entries_stay.Goals as goal

pub returns : goal.returns
returns c = record {
  snapshots = snapshots_answer_the_same;
  opening = opening_answers_the_same;
  steps = steps_keep_entries;
}
