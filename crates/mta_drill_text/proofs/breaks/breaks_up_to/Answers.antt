use Rattle.std.proofs.Common.{ap, ◌∙◌, ◌-◌, ◌/◌}
use Rattle.mta_drill_text.proofs.Breaking.{breaks_are}
use Rattle.mta_drill_text.proofs.breaks.breaks_up_to.Goals as goal

pub returns : goal.returns
returns c =
    let n = c.args.message in
    ap (λ x. n - n / 3 - x) c.from.ensures ∙ breaks_are n
