use Rattle.std.proofs.Common.{refl}
use Rattle.mta_words.specs.declared.words.Words.TheVariants as Say
use Rattle.mta_output.specs.Output.{output}
use Rattle.mta_commands.proofs.ShownSpool.{shown_not_opened, mailbox_left}
use Rattle.mta_commands.proofs.mailbox.mailbox.Goals as goal

pub returns-in-Err-clause-done : goal.returns-in-Err-clause-done
returns-in-Err-clause-done g c =
    rw (c.refused.ensures.0, c.refused.ensures.1)
    (shown_not_opened g.D.Disk.model g.met.D.Disk.laws (Say.Mailbox c.args.name)
    (output g.O.Sink.model c.args.out.now c.args.out.now) c.args.disk c.in-Err.why.disk c.in-Err.why.why refl
    c.in-Err.ensures.refused)

pub returns-in-Ok-clause-done : goal.returns-in-Ok-clause-done
returns-in-Ok-clause-done g c =
    rw c.end.ensures (mailbox_left g.D.Disk.model g.met.D.Disk.laws c.args.disk c.in-Ok.spool c.in-Ok.ensures.opened
    (output g.O.Sink.model c.args.out.now c.print.new.out) c.args.name c.mailbox_of-text.result c.print.result
    c.mailbox_of-text.ensures c.print.ensures.printed)
