-- The first line between two texts is where the invariant says.
use Rattle.std.proofs.Common.{◌≡◌, ℕ, true, List, sym, subst, ◌∙◌}
use Rattle.std.specs.Prelude.{◌&&◌}
use Rattle.mta_rehearse_run.specs.Network.{begins_separator}
use Rattle.mta_rehearse_run.proofs.Parts.{octets_here, rest_all}
use Rattle.mta_rehearse_run.proofs.network.separator_at.Goals as goal

pub returns-then-ends_here-clause-cut : goal.returns-then-ends_here-clause-cut
returns-then-ends_here-clause-cut c =
    let octets = c.args.octets.now in
    let here = subst (λ (ys : List ℕ). (c.loop-i.fresh && begins_separator ys) ≡ true) (rest_all octets c.loop-i.i)
    (sym c.ends_here.ensures ∙ c.if-ends_here.true) in
    c.loop-i.invariant ∙ octets_here octets c.loop-i.i c.loop-i.fresh here
