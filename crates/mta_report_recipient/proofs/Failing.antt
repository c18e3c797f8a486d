-- The fault of a component is the fault of the whole.
use Rattle.std.proofs.Common.{ℕ, ◌≡◌, true, cond, Result, refl, ap, subst, sym}
use Rattle.mta_ber.specs.declared.fault.Fault.{Fault}
use Rattle.mta_ber.specs.declared.fault.Kind.TheVariants.{BadTag}
use Rattle.mta_ber.specs.declared.fault.ReadFault.{ReadFault}
use Rattle.mta_ber.specs.declared.fault.ReadFault.TheVariants as faults
use Rattle.mta_ber.specs.Element.{Part}
use Rattle.mta_ber.specs.Forms.{is_constructed_tag, components_under}
use Rattle.mta_ber.proofs.FormLaws.{parts_under}
use Rattle.mta_ber.specs.Head.{◌>>=◌, fault}
use Rattle.mta_ber.specs.Parts.{components, parts_of, Fails}

fails_on : {A B : Type 0} (e : ReadFault) (r : Result A Fault) (f : A → Result B Fault) → Fails e r → Fails e (r >>= f)
fails_on faults.Memory r f h = tt
fails_on (faults.Bad d) r f h = rw h refl

pub parts_fail : {S V : Type 0} (step : S → Part → Result S Fault) (s : S) (next : S → Result V Fault) (e : ReadFault)
    (p : Part) → p.tag.constructed ≡ true → Fails e (parts_of step s p) → Fails e (components step s p >>= next)
parts_fail step s next e p is h =
    let same : components step s p ≡ parts_of step s p = ap (λ b. cond b (parts_of step s p) (fault p.at BadTag)) is in
    fails_on e (components step s p) next (subst (λ r. Fails e r) (sym same) h)

pub parts_under_fail : {S V : Type 0} (class number : ℕ) (step : S → Part → Result S Fault) (s : S)
    (next : S → Result V Fault) (e : ReadFault) (p : Part) → is_constructed_tag class number p.tag ≡ true
    → Fails e (parts_of step s p) → Fails e (components_under class number step s p >>= next)
parts_under_fail class number step s next e p is h =
    fails_on e (components_under class number step s p) next
    (subst (λ r. Fails e r) (sym (parts_under class number step s p is)) h)
