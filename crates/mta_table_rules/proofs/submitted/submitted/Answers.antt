use Rattle.std.proofs.Common.{Err, ℕ, List, subst, sym, ◌∙◌}
use Rattle.mta_ber.specs.declared.fault.ReadFault.{ReadFault}
use Rattle.mta_envelope.specs.Contents.{IsSeenAs}
use Rattle.mta_apdu.specs.Apdus.{apdu_value, SpellsApdu}
use Rattle.mta_table_rules.proofs.submitted.submitted.Goals as goal

pub returns-in-Err-Bad-clause-item : goal.returns-in-Err-Bad-clause-item
returns-in-Err-Bad-clause-item c = λ s.
    subst (λ (e : ReadFault). IsSeenAs apdu_value (Err e) s.0) c.in-Err-Bad.field-0-is
    (c.in-Err-Bad.ensures.only s.0
    (subst (λ (o : List ℕ). SpellsApdu o s.0) (sym (c.as_slice.ensures ∙ c.deref.ensures ∙ c.in_ok-shared.ensures.ok))
    s.1))
