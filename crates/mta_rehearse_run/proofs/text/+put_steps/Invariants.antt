use Rattle.std.proofs.Common.{length}
use Rattle.mta_rehearse_run.proofs.text.+put_steps.Given as goal

abbrev pub decreases-put_steps : goal.decreases-put_steps
decreases-put_steps l = length l.walked.now
