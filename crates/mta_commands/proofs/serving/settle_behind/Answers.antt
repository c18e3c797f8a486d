use Rattle.std.proofs.Common.{refl, sym, ◌∙◌}
use Rattle.mta_commands.specs.Serving.{Had_ended, Settled}
use Rattle.mta_commands.proofs.serving.settle_behind.Goals as goal

pub returns-then-is_ended-clause-settled : goal.returns-then-is_ended-clause-settled
returns-then-is_ended-clause-settled g c = Had_ended (sym c.is_ended.ensures ∙ c.if-is_ended.true) refl

pub returns-clause-settled : goal.returns-clause-settled
returns-clause-settled g c =
    Settled c.settle.result (sym c.is_ended.ensures ∙ c.if-is_ended.false) c.settle.ensures.settled
