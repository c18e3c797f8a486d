use Rattle.std.proofs.Common.{List, length, subst, ℕ}
use Rattle.std.proofs.lemmas.Result.{err_from_is_err_and}
use Rattle.mta_follow_units.specs.Units.{record_head}
use Rattle.mta_follow_run.specs.Talks.{HasPut}
use Rattle.mta_follow_run.proofs.Carrying.{put_cut, put_then}
use Rattle.mta_follow_run.proofs.put.put_record.Goals as goal

pub returns-in_err-put_all : goal.returns-in_err-put_all
returns-in_err-put_all g c =
    let p = err_from_is_err_and c.from_residual.result c.from_residual.ensures.1 in
    put_cut g.L.Link.model (record_head (length c.args.body.now)) c.args.body.now c.args.link.now c.put_all.new.link
    c.put_all.result c.from_residual.result c.in_err-put_all.field-0.0 p.0 c.in_err-put_all.was p.1
    (subst (λ (l : List ℕ). HasPut g.L.Link.model l c.args.link.now c.put_all.new.link c.put_all.result)
    c.record_head.ensures c.put_all.ensures)

pub returns : goal.returns
returns g c =
    put_then g.L.Link.model (record_head (length c.args.body.now)) c.args.body.now c.args.link.now c.put_all.new.link
    c.put_all-2.new.link c.put_all.result c.put_all-2.result c.in_ok-put_all.field-0 c.in_ok-put_all.was
    (subst (λ (l : List ℕ). HasPut g.L.Link.model l c.args.link.now c.put_all.new.link c.put_all.result)
    c.record_head.ensures c.put_all.ensures)
    c.put_all-2.ensures
