use Rattle.std.proofs.Common.{◌≤◌, ℕ, OnOk, sym, subst}
use Rattle.mta_queue.proofs.Places.{kept_count, kept_room, kept_waits, kept_words, new_room}
use Rattle.mta_queue.proofs.peers.Peers.reserve_at.Goals as goal

pub returns-clause-words : goal.returns-clause-words
returns-clause-words c =
    kept_words (λ k. k.items) c.self.inside.by_word c.args.self.now c.args.place c.index_mut.result.now
    c.reserve.new.self c.self.view_is c.index_mut.ensures.value

pub returns-clause-count : goal.returns-clause-count
returns-clause-count c =
    kept_count (λ k. k.items) c.self.inside.by_word c.args.self.now c.args.place c.index_mut.result.now
    c.reserve.new.self c.self.view_is c.index_mut.ensures.value

pub returns-clause-waits : goal.returns-clause-waits
returns-clause-waits c =
    kept_waits (λ k. k.items) c.self.inside.by_word c.args.self.now c.args.place c.index_mut.result.now
    c.reserve.new.self c.self.view_is c.index_mut.ensures.value c.reserve.ensures.waits

pub returns-clause-room : goal.returns-clause-room
returns-clause-room c =
    kept_room (λ k. k.items) c.self.inside.by_word c.args.self.now c.args.place c.index_mut.result.now
    c.reserve.new.self c.self.view_is c.index_mut.ensures.value c.reserve.ensures.room

pub returns-clause-here : goal.returns-clause-here
returns-clause-here c =
    subst (λ (n : ℕ). OnOk c.reserve.result (c.args.count ≤ n))
    (sym (new_room (λ k. k.items) c.self.inside.by_word c.args.self.now c.args.place c.index_mut.result.now
    c.reserve.new.self c.self.view_is c.index_mut.ensures.value))
    c.reserve.ensures.places
