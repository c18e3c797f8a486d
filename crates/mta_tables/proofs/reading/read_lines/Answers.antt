-- Each turn of the loop takes one line; the last octets have no line feed behind them.
use Rattle.std.proofs.Common.{◌<◌, [], length, Err, sym, ap, subst, ◌∙◌, arith}
use Rattle.std.specs.Option.{option_copied}
use Rattle.mta_tables.specs.Reading.{unended, Reads}
use Rattle.mta_tables.proofs.LineCuts.{line_ends, line_taken, line_fault}
use Rattle.mta_tables.proofs.reading.read_lines.Goals as goal

pub returns-in-None : goal.returns-in-None
returns-in-None c =
    let l = c.loop-draft in
    let none = sym c.cut_at.ensures.behind ∙ ap option_copied c.in-None.is in
    subst (Reads c.last.result)
    (ap (unended l.number l.draft) c.cut_at.ensures.front ∙ sym (line_ends l.rest.now [] l.number l.draft none)
    ∙ l.invariant.0)
    c.last.ensures

pub returns-in-Err : goal.returns-in-Err
returns-in-Err c =
    let l = c.loop-draft in
    let some = sym c.cut_at.ensures.behind ∙ ap option_copied c.in-Some.is in
    subst (Reads (Err c.in-Err.fault)) l.invariant.0
    (line_fault l.rest.now c.cut_at.result.0.now c.in-Some.behind.now l.number l.draft c.take_line.new.self
    c.in-Err.fault c.cut_at.ensures.front some c.in-Err.ensures)

pub loop-draft-preserved : goal.loop-draft-preserved
loop-draft-preserved c =
    let l = c.loop-draft in
    let some = sym c.cut_at.ensures.behind ∙ ap option_copied c.in-Some.is in
    let shorter : length c.in-Some.behind.now < length l.rest.now = rw c.in-Some.is at c.cut_at.ensures.shorter in
    let bound = l.invariant.1 in (
      sym (line_taken l.rest.now c.cut_at.result.0.now c.in-Some.behind.now l.number l.draft c.take_line.new.self
          c.cut_at.ensures.front some c.in-Ok.ensures) ∙ l.invariant.0,
      omega arith,
    )
