-- The parts, one behind another, are the text form.
use Rattle.std.proofs.Common.{ap, ◌∙◌}
use Rattle.mta_name_text.specs.Forms.{followed_all, units_keyed, pairs_keyed, text_form}
use Rattle.mta_name_text.proofs.Texts.{whole}
use Rattle.mta_name_text.proofs.form.name_text.Goals as goal

pub returns : goal.returns
returns c =
    c.from_octets.ensures
    ∙ whole c.attributes-n.result.now c.new-out.result c.put_label.new.out c.put_label-2.new.out c.put_label-3.new.out
    c.put_text.new.out c.put_units.new.out c.put_person.new.out c.put_text-2.new.out c.put_text-3.new.out
    c.put_text-4.new.out
    c.put_text-5.new.out c.put_pairs.new.out c.new-out.ensures c.in_ok-put_label.ensures c.in_ok-put_label-2.ensures
    c.in_ok-put_label-3.ensures c.in_ok-put_text.ensures
    (c.in_ok-put_units.ensures ∙ ap (λ us. followed_all c.put_text.new.out (units_keyed us)) c.as_slice.ensures)
    c.in_ok-put_person.ensures c.in_ok-put_text-2.ensures c.in_ok-put_text-3.ensures c.in_ok-put_text-4.ensures
    c.in_ok-put_text-5.ensures
    (c.in_ok-put_pairs.ensures ∙ ap (λ ps. followed_all c.put_text-5.new.out (pairs_keyed ps)) c.as_slice-2.ensures)
    ∙ ap text_form c.attributes-n.ensures.exact
