use Rattle.mta_session_run.proofs.Running.{put_undone, read_undone, on_err}
use Rattle.mta_session_run.proofs.link.exchange.Goals as goal

pub returns-in_err-put-in-Put-clause-short : goal.returns-in_err-put-in-Put-clause-short
returns-in_err-put-in-Put-clause-short g c =
    on_err _ _ (put_undone g.L.Link.model c.args.action c.in-Put.unit c.args.link.now c.args.frames.now c.put.new.link
    c.in-Put.is c.in_err-put-in-Put.ensures.none)

pub returns-in_err-get-in-Read-clause-short : goal.returns-in_err-get-in-Read-clause-short
returns-in_err-get-in-Read-clause-short g c =
    on_err _ _ (read_undone g.L.Link.model c.args.action c.args.link.now c.args.frames.now c.get.new.link
    c.get.new.frames c.in-Read.is c.in_err-get-in-Read.ensures.kept)
