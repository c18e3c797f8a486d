-- The place that the index says is the one that a scan finds.
use Rattle.std.proofs.Common.{sym, ap, ◌∙◌}
use Rattle.mta_name_digest.specs.Places.{place_of}
use Rattle.mta_tables.specs.Indexes.{list_word, word_digest}
use Rattle.mta_tables.specs.Reading.{has_list_word}
use Rattle.mta_tables.proofs.Indexes.{found_by, same_word_digest}
use Rattle.mta_tables.proofs.lists.Lists.of_word.Goals as goal

pub returns-then-is_whole : goal.returns-then-is_whole
returns-then-is_whole c =
    let w = c.args.word.now in
    let places = c.self.inside.words in
    found_by (has_list_word w) list_word (word_digest w) c.self.inside.inner.items c.args.self.now places c.of.result
    c.checked_word.result
    c.self.view_is c.self.invariant.2 (sym c.is_whole.ensures ∙ c.if-is_whole.true) (λ l h. same_word_digest l.word w h)
    (c.of.ensures ∙ ap (place_of places) c.octets_digest.ensures) c.checked_word.ensures
