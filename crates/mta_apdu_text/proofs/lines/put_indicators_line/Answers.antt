use Rattle.std.proofs.Common.{[], ◌∷◌}
use Rattle.std.specs.Prelude.{codes}
use Rattle.std.proofs.lemmas.Result.{on_ok_weaker}
use Rattle.mta_apdu_text.specs.Pieces.{bits_text}
use Rattle.mta_apdu_text.specs.Lines.{indicators_line}
use Rattle.mta_apdu_text.proofs.Chains.{three}
use Rattle.mta_apdu_text.proofs.lines.put_indicators_line.Goals as goal

pub returns : goal.returns
unfolding indicators_line
returns c =
    on_ok_weaker c.extend-2.result
    (three c.args.out.now (codes "indicators ") (bits_text c.args.indicators)
    (10 ∷ []) c.extend.new.self c.put_bits.new.out c.extend-2.new.self c.in_ok-extend.ensures.ok
    c.in_ok-put_bits.ensures)
    c.extend-2.ensures.ok
