use Rattle.mta_store_run.proofs.run.mark_with.Goals as goal

pub returns : goal.returns
returns g c = record {
  appended = c.add-disk.result.outcome;
  adds = c.add-disk.ensures;
  result_is = c.text_with.ensures;
}
