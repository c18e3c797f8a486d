use Rattle.std.proofs.Common.{ap, ◌∙◌}
use Rattle.std.specs.Map.{keys_of}
use Rattle.mta_queue.specs.Queues.{PeersValue, place_of}
use Rattle.mta_queue.proofs.Places.{place_in}
use Rattle.mta_queue.proofs.peers.Peers.place_of.Goals as goal

pub returns-clause-exact : goal.returns-clause-exact
returns-clause-exact c =
    c.get_index_of.ensures.index
    ∙ (place_in (λ k. k.items) c.args.word.now (keys_of c.self.inside.by_word.entries)
    ∙ ap (λ (v : PeersValue). place_of v.words c.args.word.now) c.self.view_is)
