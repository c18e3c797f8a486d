use Rattle.std.proofs.Common.{Option, subst}
use Rattle.mta_replay.specs.declared.replay.InForce.{InForce}
use Rattle.mta_replay.specs.Expected.{IsReadUnder}
use Rattle.mta_replay.specs.Sound.{IsSound}
use Rattle.mta_replay.proofs.Sounds.{sound_with}
use Rattle.mta_replay.proofs.replay.keep_in.Goals as goal

pub returns-in-Some : goal.returns-in-Some
returns-in-Some g c = λ read sound.
    let kept = c.args.kept.now in
    let items = kept.parts.items.items in
    let force : InForce g.row.R.Denot = c.in-Some.force in
    let under = subst (λ (o : Option (InForce g.row.R.Denot)). IsReadUnder items o) c.in-Some.is read in
    let now = subst (λ (o : Option (InForce g.row.R.Denot)). IsSound g.R.Rules.format g.R.Rules.text kept o)
    c.in-Some.is sound in
    sound_with g.R.Rules.format g.R.Rules.text kept force c.keep_read.new.self c.keep_read.ensures.rules
    c.keep_read.ensures.queues
    (c.keep_read.ensures.indexed (g.R.Rules.format force.rules) (g.R.Rules.text force.rules) under now.indexed) now
