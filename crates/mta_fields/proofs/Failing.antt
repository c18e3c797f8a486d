-- The fault of a step is the fault of all that follows it.
use Rattle.std.proofs.Common.{◌≡◌, true, cond, Result, Ok, refl, sym, ap, subst, ◌∙◌}
use Rattle.mta_ber.specs.declared.fault.Fault.{Fault}
use Rattle.mta_ber.specs.declared.fault.Kind.TheVariants.{BadTag}
use Rattle.mta_ber.specs.declared.fault.ReadFault.{ReadFault}
use Rattle.mta_ber.specs.declared.fault.ReadFault.TheVariants as faults
use Rattle.mta_ber.specs.Element.{Part}
use Rattle.mta_ber.specs.Forms.{is_constructed_tag, components_under}
use Rattle.mta_ber.specs.Head.{◌>>=◌, fault}
use Rattle.mta_ber.specs.Parts.{parts_of, required, Fails}
use Rattle.mta_ber.proofs.FormLaws.{parts_under}
use Rattle.mta_names.specs.declared.attributes.Attributes.{Attributes}
use Rattle.mta_fields.specs.declared.expansion.ExpansionParts.{ExpansionParts}
use Rattle.mta_fields.specs.Expansions.{expansion_step, no_expansion, expansion, expansion_in}

fails_on : {A B : Type 0} (e : ReadFault) (r : Result A Fault) (f : A → Result B Fault) → Fails e r → Fails e (r >>= f)
fails_on faults.Memory r f h = tt
fails_on (faults.Bad d) r f h = rw h refl

pub parts_fail : (e : ReadFault) (p : Part) → is_constructed_tag 0 16 p.tag ≡ true
    → Fails e (parts_of expansion_step no_expansion p) → Fails e (expansion_in p)
unfolding expansion_in
parts_fail e p is h = fails_on e (components_under 0 16 expansion_step no_expansion p) _
    (subst (λ r. Fails e r) (sym (parts_under 0 16 expansion_step no_expansion p is)) h)

pub moment_fails : (e : ReadFault) (p : Part) (s : ExpansionParts) (n : Attributes)
    → is_constructed_tag 0 16 p.tag ≡ true → parts_of expansion_step no_expansion p ≡ Ok s → required s.name p.at ≡ Ok n
    → Fails e (required s.moment p.at) → Fails e (expansion_in p)
unfolding expansion_in
moment_fails e p s n is parts name h =
    subst (λ r. Fails e (r >>= λ s. required s.name p.at >>= λ n. required s.moment p.at >>= λ m. Ok (expansion n m)))
    (sym (parts_under 0 16 expansion_step no_expansion p is ∙ parts))
    (subst (λ r. Fails e (r >>= λ n. required s.moment p.at >>= λ m. Ok (expansion n m))) (sym name)
    (fails_on e (required s.moment p.at) (λ m. Ok (expansion n m)) h))
