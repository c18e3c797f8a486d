use Rattle.std.proofs.Common.{inl, inr, rules}
use Rattle.mta_follow_run.proofs.Ports.{not_port, not_read}
use Rattle.mta_follow_run.proofs.words.port_of.Goals.{then-port-eq0-via-then-port-eq0}
use Rattle.mta_follow_run.proofs.words.port_of.Goals.{then-port-eq0-via-else-port-eq0+then-ne}
use Rattle.mta_follow_run.proofs.words.port_of.Goals as goal

pub returns-in_default : goal.returns-in_default
returns-in_default c = not_read c.args.text.now c.parse.result c.parse.ensures.value.0 (λ n is. search rules)

pub returns-then-port-eq0 : goal.returns-then-port-eq0
returns-then-port-eq0 c =
    not_port c.args.text.now c.parse.result c.in-Ok.port c.parse.ensures.value.0 c.in-Ok.is
    (elim c.then-port-eq0.branch [
      | then-port-eq0-via-then-port-eq0 w ↦ inl w.if-port-eq0.true
      | then-port-eq0-via-else-port-eq0+then-ne w ↦ inr (λ same. search rules)
    ])
