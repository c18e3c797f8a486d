-- The place that the index says is the one that a scan finds.
use Rattle.std.proofs.Common.{ℕ, List, sym, ap, ◌∙◌}
use Rattle.std.specs.Prelude.{is_some, map}
use Rattle.mta_names.specs.Normal.{normal_text}
use Rattle.mta_name_digest.specs.Digests.{texts_digest}
use Rattle.mta_name_digest.specs.Places.{place_of}
use Rattle.mta_tables.specs.Indexes.{route_pattern, pattern_digest}
use Rattle.mta_tables.specs.Reading.{has_pattern}
use Rattle.mta_tables.proofs.Indexes.{found_by, same_pattern_digest, position_any}
use Rattle.mta_tables.proofs.routes.Routes.has_pattern.Goals as goal

pub returns-then-is_whole : goal.returns-then-is_whole
returns-then-is_whole c =
    let p = c.args.pattern.now in
    let places = c.self.inside.patterns in
    let digest = c.texts_digest.ensures
    ∙ ap (λ (ps : List (List ℕ)). texts_digest 0 (map normal_text ps)) c.parts.ensures.exact in
    let found =
    found_by (has_pattern p) route_pattern (pattern_digest p) c.self.inside.inner.items c.args.self.now places
    c.of-said.result c.checked_pattern.result
    c.self.view_is c.self.invariant.2 (sym c.is_whole.ensures ∙ c.if-is_whole.true)
    (λ r h. same_pattern_digest r.pattern p h)
    (c.of-said.ensures ∙ ap (place_of places) digest) c.checked_pattern.ensures in
    c.is_some.ensures ∙ ap is_some found ∙ position_any (has_pattern p) c.args.self.now
