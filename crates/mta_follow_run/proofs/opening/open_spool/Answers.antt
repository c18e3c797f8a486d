use Rattle.std.proofs.Common.{subst}
use Rattle.std.proofs.lemmas.Result.{IfOk-weaker}
use Rattle.mta_follow_run.specs.Opened.{IsOpenedFrom, IsRefusedFrom}
use Rattle.mta_follow_run.proofs.Serving.{err_weaker}
use Rattle.mta_follow_run.proofs.SpoolOpening.{is_spool, no_spool, not_read}
use Rattle.mta_follow_run.proofs.opening.open_spool.Goals as goal

pub returns-in-Ok-clause-spool : goal.returns-in-Ok-clause-spool
returns-in-Ok-clause-spool g c =
    IfOk-weaker c.open_records.result _ _
    (λ r h. is_spool g.D.Disk.model c.args.disk c.in-Ok.spool c.in-Ok.ensures.opened r.journal r.bodies.items
    (subst (λ d. IsOpenedFrom g.D.Disk.model d r.journal r.bodies.items) c.end.ensures h))
    c.open_records.ensures.opened

pub returns-in-Ok-clause-none : goal.returns-in-Ok-clause-none
returns-in-Ok-clause-none g c =
    err_weaker c.open_records.result _ _
    (λ e h. not_read g.D.Disk.model c.args.disk c.in-Ok.spool c.in-Ok.ensures.opened e.disk e.stop
    (subst (λ d. IsRefusedFrom g.D.Disk.model d e.disk e.stop) c.end.ensures h))
    c.open_records.ensures.refused

pub returns-clause-none : goal.returns-clause-none
returns-clause-none g c =
    rw c.stop_of_spool.ensures
    (no_spool g.D.Disk.model c.args.disk c.in-Err.field-0.disk c.in-Err.field-0.why c.in-Err.ensures.refused)
