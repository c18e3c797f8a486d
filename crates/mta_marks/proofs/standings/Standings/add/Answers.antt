use Rattle.std.proofs.Common.{List, ℕ, ap, ◌∙◌}
use Rattle.mta_marks.specs.Marks.{entry_octets}
use Rattle.mta_marks.proofs.Kept.{put_changes}
use Rattle.mta_marks.proofs.standings.Standings.add.Goals as goal

pub returns : goal.returns
returns c =
    put_changes (λ k. k.items) c.self.inside.by_entry.entries c.insert.new.self.entries c.args.self.now
    c.into_vec.result
    c.args.mark.now c.self.view_is
    (c.into_vec.ensures ∙ c.in_ok-octets.ensures
    ∙ ap (λ (w : List ℕ). entry_octets w c.args.mark.now.number) c.as_slice.ensures.exact)
    c.standing_by.result c.standing_by.ensures c.in_ok-insert.ensures.entries
