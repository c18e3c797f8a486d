use Rattle.std.proofs.Common.{ℕ, subst}
use Rattle.mta_dues.proofs.Indexed.{of_hand}
use Rattle.mta_replay.specs.Ready.{IsReadAt}
use Rattle.mta_replay.proofs.prepare.change_at_hand.Goals as goal

pub take_at-requires : goal.take_at-requires
take_at-requires g c = λ item is.
    of_hand (g.R.Rules.format c.args.force.now.rules) (g.R.Rules.text c.args.force.now.rules)
    c.args.kept.now.parts.items.items c.args.force.now.index
    c.settled_by-number.result item c.requires.indexed is

pub prepare_under-change-requires-clause-reading : goal.prepare_under-change-requires-clause-reading
prepare_under-change-requires-clause-reading g c =
    subst (λ (n : ℕ). IsReadAt c.args.kept.now.parts.items.items n c.in_ok-reading.reading)
    c.settled_by-number.ensures c.in_ok-reading.ensures.reading

pub returns-in_err-reading-clause-indexed : goal.returns-in_err-reading-clause-indexed
returns-in_err-reading-clause-indexed g c =
    c.take_at.ensures.indexed (g.R.Rules.format c.args.force.now.rules) (g.R.Rules.text c.args.force.now.rules)
    c.args.kept.now.parts.items.items c.requires.indexed

pub returns-clause-indexed : goal.returns-clause-indexed
returns-clause-indexed g c =
    c.keep_at.ensures (g.R.Rules.format c.args.force.now.rules) (g.R.Rules.text c.args.force.now.rules)
    (c.take_at.ensures.indexed (g.R.Rules.format c.args.force.now.rules) (g.R.Rules.text c.args.force.now.rules)
    c.args.kept.now.parts.items.items c.requires.indexed)
