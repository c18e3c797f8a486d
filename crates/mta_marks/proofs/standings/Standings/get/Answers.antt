use Rattle.std.proofs.Common.{ap, sym, ◌∙◌, List, ℕ, Some, None}
use Rattle.mta_marks.specs.declared.mark.Standing.{Standing}
use Rattle.mta_marks.specs.Standings.{look}
use Rattle.mta_marks.proofs.Kept.{look_is}
use Rattle.mta_marks.proofs.standings.Standings.get.Goals as goal

pub returns-in-Some : goal.returns-in-Some
returns-in-Some c =
    look_is (λ k. k.items) c.as_slice.result.now c.self.inside.by_entry.entries c.args.self.now c.self.view_is
    (Some c.in-Some.standing.now) c.in-Some.ensures.value
    ∙ ap (look c.args.self.now) (c.as_slice.ensures ∙ c.in_ok-octets.ensures)

pub returns : goal.returns
returns c =
    look_is (λ k. k.items) c.as_slice.result.now c.self.inside.by_entry.entries c.args.self.now c.self.view_is
    None c.in-None.ensures.value
    ∙ ap (look c.args.self.now) (c.as_slice.ensures ∙ c.in_ok-octets.ensures)
