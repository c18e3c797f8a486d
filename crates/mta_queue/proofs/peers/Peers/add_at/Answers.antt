use Rattle.mta_queue.proofs.Places.{kept_count, kept_places, kept_words, more_waits}
use Rattle.mta_queue.proofs.peers.Peers.add_at.Goals as goal

pub returns-clause-words : goal.returns-clause-words
returns-clause-words c =
    kept_words (λ k. k.items) c.self.inside.by_word c.args.self.now c.args.place c.index_mut.result.now
    c.add.new.self c.self.view_is c.index_mut.ensures.value

pub returns-clause-count : goal.returns-clause-count
returns-clause-count c =
    kept_count (λ k. k.items) c.self.inside.by_word c.args.self.now c.args.place c.index_mut.result.now
    c.add.new.self c.self.view_is c.index_mut.ensures.value

pub returns-clause-waits : goal.returns-clause-waits
returns-clause-waits c =
    more_waits (λ k. k.items) c.self.inside.by_word c.args.self.now c.args.place c.index_mut.result.now
    c.add.new.self c.self.view_is c.index_mut.ensures.value c.args.item
    c.add.ensures.waits

pub returns-clause-room : goal.returns-clause-room
returns-clause-room c =
    kept_places (λ k. k.items) c.self.inside.by_word c.args.self.now c.args.place c.index_mut.result.now
    c.add.new.self c.self.view_is c.index_mut.ensures.value c.args.item
    c.add.ensures.room
