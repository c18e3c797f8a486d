use Rattle.mta_state.specs.Kept.{state_of}
use Rattle.mta_replay.proofs.Following.{may_follow, read_under}
use Rattle.mta_replay.proofs.Sounds.{sound_new, sound_old}
use Rattle.mta_replay.proofs.replay.Replay.commit.Goals as goal

pub follow_in-requires : goal.follow_in-requires
follow_in-requires g c = record {
  follows = may_follow g.R.Rules.text (state_of c.args.self.now.kept) (state_of c.commit.new.self)
      c.args.ready.change c.touched_by-touched.result c.args.self.now.rules c.requires.sound.queued
      c.requires.expected c.requires.can c.commit.ensures c.touched_by-touched.ensures;
}

pub returns-in-None-clause-sound : goal.returns-in-None-clause-sound
returns-in-None-clause-sound g c = λ step fields is.
    c.keep_in.ensures
    (read_under g.R.Rules.text (state_of c.args.self.now.kept) (state_of c.commit.new.self) c.args.ready.change
    c.args.self.now.rules c.follow_in.new.rules c.requires.expected c.commit.ensures c.follow_in.ensures.same)
    (sound_old g.R.Rules.format g.R.Rules.text c.args.self.now.kept c.commit.new.self c.args.self.now.rules
    c.args.ready.rules c.follow_in.new.rules step c.args.ready.change c.requires.sound fields is c.commit.ensures
    c.in-None.is c.follow_in.ensures.same c.follow_in.ensures.queued)

pub returns-in-Some-clause-sound : goal.returns-in-Some-clause-sound
returns-in-Some-clause-sound g c = λ step fields is.
    sound_new g.R.Rules.format g.R.Rules.text c.args.self.now.kept c.commit.new.self c.args.self.now.rules
    c.args.ready.rules c.in-Some.force step c.args.ready.change c.requires.sound fields is c.commit.ensures
    c.in-Some.is
