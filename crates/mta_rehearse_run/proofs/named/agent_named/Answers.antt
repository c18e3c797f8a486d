-- The place that the index says is the one that a scan finds.
use Rattle.std.proofs.Common.{refl, sym, ap, ◌∙◌}
use Rattle.mta_name_digest.specs.Places.{place_of}
use Rattle.mta_tables.specs.Indexes.{word_digest}
use Rattle.mta_tables.proofs.Indexes.{found_by, same_word_digest}
use Rattle.mta_rehearse_run.specs.Agents.{has_name, own_digest}
use Rattle.mta_rehearse_run.proofs.named.agent_named.Goals as goal

pub returns-then-is_whole : goal.returns-then-is_whole
returns-then-is_whole c =
    let w = c.args.word.now in
    let agents = c.args.agents.now in
    let places = c.args.names.now in
    found_by (has_name w) own_digest (word_digest w) agents agents places c.of.result c.checked_name.result
    refl c.requires.index (sym c.is_whole.ensures ∙ c.if-is_whole.true) (λ t h. same_word_digest t.own w h)
    (c.of.ensures ∙ ap (place_of places) c.octets_digest.ensures) c.checked_name.ensures
