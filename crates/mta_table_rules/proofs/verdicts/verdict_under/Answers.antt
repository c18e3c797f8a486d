use Rattle.std.proofs.Common.{subst}
use Rattle.mta_apdu.specs.declared.apdu.Apdu.{Apdu}
use Rattle.mta_state.specs.Readings.{IsCounted}
use Rattle.mta_table_rules.proofs.verdicts.verdict_under.Goals as goal

pub of_message-requires-clause-back : goal.of_message-requires-clause-back
of_message-requires-clause-back c =
    subst (λ (a : Apdu). IsCounted a c.args.back) c.in-Message.is c.requires.back

pub of_probe-requires-clause-back : goal.of_probe-requires-clause-back
of_probe-requires-clause-back c = subst (λ (a : Apdu). IsCounted a c.args.back) c.in-Probe.is c.requires.back
