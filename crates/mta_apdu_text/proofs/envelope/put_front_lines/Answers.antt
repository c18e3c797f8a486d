-- The lines, one behind the other.
use Rattle.std.specs.Prelude.{codes}
use Rattle.std.proofs.lemmas.Result.{on_ok_weaker}
use Rattle.mta_apdu_text.specs.Envelopes.{front_lines}
use Rattle.mta_apdu_text.specs.Lines.{line_if, id_line, name_line, content_type_line, content_id_line}
use Rattle.mta_apdu_text.proofs.Chains.{four}
use Rattle.mta_apdu_text.proofs.envelope.put_front_lines.Goals as goal

pub returns : goal.returns
unfolding front_lines
returns c =
    let e = c.args.envelope.now in
    on_ok_weaker c.put_content_id_line.result
    (four c.args.out.now (id_line c.args.word.now e.id) (name_line (codes "originator ") e.originator)
    (content_type_line e.content_kind) (line_if content_id_line e.content_id)
    c.put_id_line.new.out c.put_name_line.new.out c.put_content_type_line.new.out c.put_content_id_line.new.out
    c.in_ok-put_id_line.ensures c.in_ok-put_name_line.ensures c.in_ok-put_content_type_line.ensures)
    c.put_content_id_line.ensures
