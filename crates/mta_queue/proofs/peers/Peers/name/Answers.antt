use Rattle.std.proofs.Common.{◌≡◌, ◌++◌, ℕ, List, None, map, is_some, sym, ap, subst, ◌∙◌}
use Rattle.std.specs.Cmp.Lexicographic.{pointwise}
use Rattle.std.specs.Prelude.{nat_eq}
use Rattle.std.specs.Map.{keys_of, lookup}
use Rattle.indexmap.proofs.CallerLemmas.{insert_entry-new}
use Rattle.mta_queue.specs.Queues.{Names, PeersValue, place_of, waits_at}
use Rattle.mta_queue.proofs.Places.{names_again, names_new, none_by, place_in, waits_new}
use Rattle.mta_queue.proofs.peers.Peers.name.Goals as goal

pub returns-then-is_some-clause-words : goal.returns-then-is_some-clause-words
returns-then-is_some-clause-words c =
    let at = c.get_index_of.ensures.index
    ∙ (place_in (λ k. k.items) c.args.word.now (keys_of c.self.inside.by_word.entries)
    ∙ ap (λ (v : PeersValue). place_of v.words c.args.word.now) c.self.view_is) in
    names_again c.args.self.now.words c.args.word.now
    (sym (ap is_some at) ∙ (sym c.is_some.ensures ∙ c.if-is_some.true))

pub returns-clause-words : goal.returns-clause-words
returns-clause-words c =
    let octets = c.in_ok-extend_from_slice.ensures.items
    ∙ ap (λ (xs : List ℕ). xs ++ c.args.word.now) c.new-octets.ensures.items in
    let none = ap (λ (ws : List ℕ). lookup (λ k. pointwise nat_eq ws k.items) c.self.inside.by_word.entries) octets
    ∙ none_by _ (sym c.get_index_of.ensures.found ∙ (sym c.is_some.ensures ∙ c.if-is_some.false)) in
    let entries = c.in_ok-insert.ensures.entries
    ∙ insert_entry-new _ c.self.inside.by_word c.extend_from_slice.new.self c.new.result none in
    subst (λ (v : PeersValue). Names v.words (map (λ k. k.items) (keys_of c.insert.new.self.entries))
    c.args.word.now) c.self.view_is
    (names_new (λ k. k.items) c.self.inside.by_word.entries c.insert.new.self.entries c.extend_from_slice.new.self
    c.new.result entries c.args.word.now octets)

pub returns-clause-waits : goal.returns-clause-waits
returns-clause-waits c = λ p i.
    let octets = c.in_ok-extend_from_slice.ensures.items
    ∙ ap (λ (xs : List ℕ). xs ++ c.args.word.now) c.new-octets.ensures.items in
    let none = ap (λ (ws : List ℕ). lookup (λ k. pointwise nat_eq ws k.items) c.self.inside.by_word.entries) octets
    ∙ none_by _ (sym c.get_index_of.ensures.found ∙ (sym c.is_some.ensures ∙ c.if-is_some.false)) in
    let entries = c.in_ok-insert.ensures.entries
    ∙ insert_entry-new _ c.self.inside.by_word c.extend_from_slice.new.self c.new.result none in
    waits_new (λ k. k.items) c.self.inside.by_word.entries c.insert.new.self.entries c.extend_from_slice.new.self
    c.new.result entries c.new.ensures p i
    ∙ ap (λ (v : PeersValue). waits_at v.queues p i) c.self.view_is
