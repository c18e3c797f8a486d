use Rattle.std.proofs.Common.{◌≡◌, ◌∷◌, [], length, sym, ap, ◌∙◌, arith}
use Rattle.std.proofs.lemmas.List.{length-take}
use Rattle.mta_ber.proofs.TimeLaws.{kept_full}
use Rattle.mta_ber.proofs.utc.Line.push.Goals as goal

pub returns-else-self-lt18 : goal.returns-else-self-lt18
returns-else-self-lt18 c =
    let full : length c.args.self.now ≡ 18 = ap length (sym c.self.view_is)
    ∙ (omega (arith, length-take c.self.inside.count c.self.inside.octets, c.self.told, c.self.invariant)) in
    sym (kept_full c.args.self.now (c.args.octet ∷ []) full)
