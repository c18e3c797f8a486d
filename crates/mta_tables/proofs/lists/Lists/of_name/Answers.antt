-- The place that the index says is the one that a scan finds.
use Rattle.std.proofs.Common.{sym, ap, ◌∙◌}
use Rattle.mta_name_digest.specs.Places.{place_of}
use Rattle.mta_tables.specs.Indexes.{list_name, digest_of_name}
use Rattle.mta_tables.specs.Reading.{is_of_list}
use Rattle.mta_tables.proofs.Indexes.{found_by, same_name_digest}
use Rattle.mta_tables.proofs.lists.Lists.of_name.Goals as goal

pub returns-then-is_whole : goal.returns-then-is_whole
returns-then-is_whole c =
    let n = c.args.name.now in
    let places = c.self.inside.names in
    found_by (is_of_list n) list_name (digest_of_name n) c.self.inside.inner.items c.args.self.now places c.of.result
    c.checked_name.result
    c.self.view_is c.self.invariant.3 (sym c.is_whole.ensures ∙ c.if-is_whole.true) (λ l h. same_name_digest l.name n h)
    (c.of.ensures ∙ ap (place_of places) c.name_digest.ensures) c.checked_name.ensures
