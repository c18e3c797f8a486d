use Rattle.std.proofs.Common.{refl, sym, ◌∙◌}
use Rattle.mta_output.specs.Output.{output, cut as printed_cut}
use Rattle.mta_follow_run.proofs.Printing.{kept_cut, kept_told}
use Rattle.mta_follow_run.proofs.lines.tell_kept.Goals as goal

pub returns-then-is_err-clause-printed : goal.returns-then-is_err-clause-printed
returns-then-is_err-clause-printed g c =
    printed_cut refl (kept_cut c.args.kept c.args.ended (output g.O.Sink.model c.args.out.now c.put_counted.new.out)
    c.put_counted.result (sym c.is_err.ensures.value ∙ c.if-is_err.true) c.put_counted.ensures)

pub returns-in-Err-clause-printed : goal.returns-in-Err-clause-printed
returns-in-Err-clause-printed g c =
    kept_told g.O.Sink.model c.args.out.now c.put_counted.new.out c.tell.new.out c.args.kept c.tell.result c.in-Err.stop
    c.args.ended c.put_counted.result c.in-Err.is (sym c.is_err.ensures.value ∙ c.if-is_err.false)
    c.put_counted.ensures c.tell.ensures.printed
