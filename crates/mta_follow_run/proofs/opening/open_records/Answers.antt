use Rattle.mta_follow_run.proofs.StandbyOpening.{refused_from}
use Rattle.mta_follow_run.proofs.opening.open_records.Goals as goal

pub returns-in-Err-clause-refused : goal.returns-in-Err-clause-refused
returns-in-Err-clause-refused g c =
    rw c.stop_of_journal.ensures
    (refused_from g.D.Disk.model c.args.disk c.in-Err.field-0.disk c.in-Err.field-0.why c.in-Err.ensures.refused
    c.in-Err.ensures.refused_told c.in-Err.ensures.refused_kept c.in-Err.ensures.refused_left
    c.in-Err.ensures.refused_images)

pub returns-clause-opened : goal.returns-clause-opened
returns-clause-opened g c = record {
  stands = c.in-Ok.ensures.stands;
  holds = c.in-Ok.ensures.holds;
  each = c.in-Ok.ensures.short;
  later = c.in-Ok.ensures.later;
  told = c.in-Ok.ensures.told;
  filled = c.in-Ok.ensures.kept;
  images = c.in-Ok.ensures.images;
  first = c.in-Ok.opened.synced.value;
  sync = c.in-Ok.ensures.sync;
  since = c.in-Ok.ensures.since;
}
