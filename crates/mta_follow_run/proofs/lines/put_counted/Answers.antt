use Rattle.std.proofs.Common.{[], ◌∷◌}
use Rattle.std.specs.Fmt.{decimal}
use Rattle.std.proofs.lemmas.Result.{err_from_is_err_and}
use Rattle.mta_output.specs.Output.{output}
use Rattle.mta_follow_run.specs.Stops.{last_number}
use Rattle.mta_follow_run.proofs.Printing.{as_put, put_cut, put_then}
use Rattle.mta_follow_run.proofs.lines.put_counted.Goals as goal

pub returns-in_err-put_all : goal.returns-in_err-put_all
returns-in_err-put_all g c =
    let p = err_from_is_err_and c.from_residual.result c.from_residual.ensures.1 in
    put_cut c.args.text.now (last_number c.args.number) (output g.O.Sink.model c.args.out.now c.put_all.new.out)
    c.put_all.result c.from_residual.result c.in_err-put_all.field-0.0 p.0 c.in_err-put_all.was p.1
    (as_put g.O.Sink.model c.args.out.now c.put_all.new.out c.args.text.now c.put_all.result c.put_all.ensures.whole
    c.put_all.ensures.front c.put_all.ensures.cause)

pub returns-in_err-put_number : goal.returns-in_err-put_number
returns-in_err-put_number g c =
    let p =
    err_from_is_err_and c.from_residual-in_err-put_number.result c.from_residual-in_err-put_number.ensures.1 in
    put_then g.O.Sink.model c.args.out.now c.put_all.new.out c.put_number.new.out c.args.text.now
    (last_number c.args.number) c.put_all.result c.from_residual-in_err-put_number.result c.in_ok-put_all.field-0
    c.in_ok-put_all.was
    (as_put g.O.Sink.model c.args.out.now c.put_all.new.out c.args.text.now c.put_all.result c.put_all.ensures.whole
    c.put_all.ensures.front c.put_all.ensures.cause)
    (put_cut (decimal c.args.number) (10 ∷ []) (output g.O.Sink.model c.put_all.new.out c.put_number.new.out)
    c.put_number.result c.from_residual-in_err-put_number.result c.in_err-put_number.field-0.0 p.0
    c.in_err-put_number.was p.1 c.put_number.ensures)
