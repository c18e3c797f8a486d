use Rattle.mta_state.specs.Kept.{state_of}
use Rattle.mta_replay.proofs.RulesMade.{format_not, format_ready}
use Rattle.mta_replay.proofs.replay.Replay.prepare_at_hand.Goals as goal

pub returns-in-Format-clause-ready : goal.returns-in-Format-clause-ready
returns-in-Format-clause-ready g c =
    format_ready g.R.Rules.format g.R.Rules.text (state_of c.args.self.now.kept) c.in-Format.version c.args.step
    c.in-Format.is c.ready_format.result c.ready_format.ensures.ready

pub returns-in-Format-clause-none : goal.returns-in-Format-clause-none
returns-in-Format-clause-none g c =
    format_not g.R.Rules.format g.R.Rules.text (state_of c.args.self.now.kept) c.in-Format.version c.args.step
    c.in-Format.is c.ready_format.result c.ready_format.ensures.none
