use Rattle.mta_name_text.specs.Forms.{keyed}
use Rattle.mta_name_text.specs.declared.key.Key.TheVariants.{Unit}
use Rattle.mta_name_text.proofs.Texts.{Left}
use Rattle.mta_name_text.proofs.form.put_units.Given as goal

abbrev pub invariant-loop-unit : goal.invariant-loop-unit
invariant-loop-unit l = Left (keyed Unit) l.fn.out l.units l.unit-index l.out
