use Rattle.std.proofs.Common.{List, ℕ, subst}
use Rattle.mta_audit_run.specs.declared.stop.Spool.TheVariants.{First, Second}
use Rattle.mta_audit_run.specs.Outcome.{lines_of_side, lines_of_sides}
use Rattle.mta_audit_run.specs.Texts.{Puts}
use Rattle.mta_audit_run.proofs.Texts.{puts_more}
use Rattle.mta_audit_run.proofs.audit.report_of.Goals as goal

pub returns : goal.returns
returns c =
    subst
    (λ (t : List ℕ). Puts (lines_of_sides c.args.first.now c.args.second.now) t c.put_side-2.new.text c.both.result)
    c.new-text.ensures
    (puts_more (lines_of_side First c.args.first.now c.args.second.now)
    (lines_of_side Second c.args.second.now c.args.first.now) c.new-text.result c.put_side.new.text
    c.put_side-2.new.text c.in_ok-first_agrees.first_agrees c.in_ok-second_agrees.second_agrees c.both.result
    c.in_ok-first_agrees.ensures c.in_ok-second_agrees.ensures c.both.ensures)
