use Rattle.mta_drill.proofs.Again.{shows_again}
use Rattle.mta_drill.proofs.Opening.{begun_so, only_want}
use Rattle.mta_drill.proofs.round.opened.Goals as goal

pub returns-in-Ok-clause-begun : goal.returns-in-Ok-clause-begun
returns-in-Ok-clause-begun c = λ e. begun_so c.args.disk c.in-Ok.spool c.in-Ok.ensures.opened e

pub returns-in-Ok-clause-again : goal.returns-in-Ok-clause-again
returns-in-Ok-clause-again c = λ found stands format.
    shows_again c.args.disk c.in-Ok.spool c.in-Ok.ensures.opened found stands format

pub want_of-requires : goal.want_of-requires
want_of-requires c =
    only_want c.args.disk c.in-Err.field-0.disk c.in-Err.field-0.why c.requires.openable c.in-Err.ensures.refused
