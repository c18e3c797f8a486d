use Rattle.mta_name_text.specs.Forms.{pair_keyed}
use Rattle.mta_name_text.proofs.Texts.{Left}
use Rattle.mta_name_text.proofs.form.put_pairs.Given as goal

abbrev pub invariant-loop-pair : goal.invariant-loop-pair
invariant-loop-pair l = Left pair_keyed l.fn.out l.pairs l.pair-index l.out
