use Rattle.mta_rehearse_run.proofs.network.+read_from.Given as goal

abbrev pub decreases-read_from : goal.decreases-read_from
decreases-read_from l = l.room
