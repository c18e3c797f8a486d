use Rattle.std.proofs.Common.{ap, sym, ◌∙◌}
use Rattle.mta_records.specs.Outgoing.{Carried}
use Rattle.mta_spool.proofs.Started.{carried_on, nothing_idle}
use Rattle.mta_spool.proofs.starting.resumed_on.Goals as goal

pub returns-in_default : goal.returns-in_default
returns-in_default c =
    absurd
    (nothing_idle c.args.opened.now c.requires c.in_default.ensures (sym c.may_close.ensures ∙ c.if-may_close.false))

pub returns : goal.returns
returns c =
    carried_on c.args.opened.now c.in-Some.transfer.now c.in_ok-outgoing.outgoing c.in-Some.ensures
    (sym c.may_close.ensures ∙ c.if-may_close.false)
    (ap (λ (o : Carried). o.activity) c.in_ok-outgoing.ensures ∙ c.activity.ensures)
    (ap (λ (o : Carried). o.octets) c.in_ok-outgoing.ensures)
