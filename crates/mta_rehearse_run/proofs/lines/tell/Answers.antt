use Rattle.std.proofs.Common.{refl}
use Rattle.mta_rehearse_run.specs.Stops.{line_of}
use Rattle.mta_output.specs.Output.{short, short_failed}
use Rattle.mta_rehearse_run.proofs.lines.tell.Goals as goal

pub returns-in-Ok-put_all-2-clause-told : goal.returns-in-Ok-put_all-2-clause-told
unfolding line_of
returns-in-Ok-put_all-2-clause-told g c = short refl c.in-Ok-put_all-2.ensures.whole

pub returns-clause-told : goal.returns-clause-told
unfolding line_of
returns-clause-told g c = short_failed refl (c.in-Err-put_all-2.ensures.cause.failed, c.in-Err-put_all-2.ensures.front)
