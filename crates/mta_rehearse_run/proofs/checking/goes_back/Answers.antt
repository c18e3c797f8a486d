use Rattle.mta_rehearse_run.proofs.Checked.{back_named, back_other}
use Rattle.mta_rehearse_run.proofs.checking.goes_back.Goals as goal

pub returns-then-has_name_at : goal.returns-then-has_name_at
returns-then-has_name_at c =
    back_named c.args.agents.now c.args.word.now c.args.walked.now c.args.place c.has_name_at.result
    c.is_walked.result c.requires c.has_name_at.ensures c.if-has_name_at.true c.is_walked.ensures

pub returns-else-has_name_at : goal.returns-else-has_name_at
returns-else-has_name_at c =
    back_other c.args.agents.now c.args.word.now c.args.walked.now c.args.place c.has_name_at.result c.requires
    c.has_name_at.ensures c.if-has_name_at.false
