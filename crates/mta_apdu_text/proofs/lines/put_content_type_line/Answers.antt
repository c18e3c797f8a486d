use Rattle.std.proofs.Common.{[], ◌∷◌}
use Rattle.std.specs.Prelude.{codes}
use Rattle.std.proofs.lemmas.Result.{on_ok_weaker}
use Rattle.mta_apdu_text.specs.Lines.{content_kind_text, content_type_line}
use Rattle.mta_apdu_text.proofs.Chains.{three}
use Rattle.mta_apdu_text.proofs.lines.put_content_type_line.Goals as goal

pub returns : goal.returns
unfolding content_type_line
returns c =
    on_ok_weaker c.extend-2.result
    (three c.args.out.now (codes "content-type ") (content_kind_text c.args.kind.now)
    (10 ∷ []) c.extend.new.self c.put_content_kind.new.out c.extend-2.new.self c.in_ok-extend.ensures.ok
    c.in_ok-put_content_kind.ensures)
    c.extend-2.ensures.ok
