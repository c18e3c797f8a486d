use Rattle.std.proofs.Common.{subst, sym}
use Rattle.mta_follow_run.specs.Taking.{Judges, judged, judged_none, judged_short}
use Rattle.mta_follow_run.proofs.Taking.{no_record}
use Rattle.mta_follow_run.proofs.take.judge.Goals.{in-Err-BadRecord, in-Err-Memory, in-Ok}
use Rattle.mta_follow_run.proofs.take.judge.Goals as goal

pub returns : goal.returns
returns c =
    elim c.match-read_record.branch [
      | in-Ok w ↦
          subst (Judges c.args.at c.args.body.now) (sym w.result-is)
          (judged (record {
            step = w.in-Ok.field-0;
            fields = w.in-Ok.ensures.found.0;
            body_is = w.in-Ok.ensures.found.1;
          }))
      | in-Err-BadRecord w ↦
          subst (Judges c.args.at c.args.body.now) (sym w.result-is)
          (judged_none (no_record w.in-Err-BadRecord.field-0 w.in-Err-BadRecord.field-0-0 c.args.body.now
          w.in-Err-BadRecord.field-0-is w.in-Err-BadRecord.ensures.only))
      | in-Err-Memory w ↦ subst (Judges c.args.at c.args.body.now) (sym w.result-is) judged_short
    ]
