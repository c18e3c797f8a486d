-- The fault of a step is the fault of all that follows it.
use Rattle.std.proofs.Common.{◌≡◌, ℕ, true, cond, Result, Ok, refl, sym, subst}
use Rattle.mta_ber.specs.declared.fault.Fault.{Fault}
use Rattle.mta_ber.specs.declared.fault.Kind.TheVariants.{BadTag}
use Rattle.mta_ber.specs.declared.fault.ReadFault.{ReadFault}
use Rattle.mta_ber.specs.declared.fault.ReadFault.TheVariants as faults
use Rattle.mta_ber.specs.Element.{Part}
use Rattle.mta_ber.specs.Forms.{is_constructed_tag, components_under}
use Rattle.mta_ber.proofs.FormLaws.{parts_under}
use Rattle.mta_ber.specs.Head.{◌>>=◌, fault}
use Rattle.mta_ber.specs.Parts.{components, parts_of, required, Fails}
use Rattle.mta_names.specs.declared.attributes.Attributes.{Attributes}
use Rattle.mta_envelope_recipient.specs.declared.parts.RecipientParts.{RecipientParts}
use Rattle.mta_envelope_recipient.specs.Recipients.{recipient_step, no_recipient, recipient, finished, recipient_in}

pub fails_on : {A B : Type 0} (e : ReadFault) (r : Result A Fault) (f : A → Result B Fault) → Fails e r
    → Fails e (r >>= f)
fails_on faults.Memory r f h = tt
fails_on (faults.Bad d) r f h = rw h refl

pub fails_after : {A B : Type 0} (e : ReadFault) (r : Result A Fault) (x : A) (f : A → Result B Fault) → r ≡ Ok x
    → Fails e (f x) → Fails e (r >>= f)
fails_after e r x f is h = subst (λ q. Fails e (q >>= f)) (sym is) h

-- where the components of a SET have a fault
pub parts_fail : (e : ReadFault) (p : Part) → is_constructed_tag 0 17 p.tag ≡ true
    → Fails e (parts_of recipient_step no_recipient p) → Fails e (recipient_in p)
unfolding recipient_in
parts_fail e p is h =
    fails_on e (components_under 0 17 recipient_step no_recipient p) (finished p.at)
    (subst (λ r. Fails e r) (sym (parts_under 0 17 recipient_step no_recipient p is)) h)

pub number_fails : (e : ReadFault) (at : ℕ) (s : RecipientParts) (n : Attributes) → required s.name at ≡ Ok n
    → Fails e (required s.number at) → Fails e (finished at s)
number_fails e at s n name h =
    fails_after e (required s.name at) n
    (λ n. required s.number at >>= λ k. required s.indicators at >>= λ b. Ok (recipient n k b s)) name
    (fails_on e (required s.number at) (λ k. required s.indicators at >>= λ b. Ok (recipient n k b s)) h)

pub indicators_fail : (e : ReadFault) (at : ℕ) (s : RecipientParts) (n : Attributes) (k : ℕ) → required s.name at ≡ Ok n
    → required s.number at ≡ Ok k → Fails e (required s.indicators at) → Fails e (finished at s)
indicators_fail e at s n k name number h =
    fails_after e (required s.name at) n
    (λ n. required s.number at >>= λ k. required s.indicators at >>= λ b. Ok (recipient n k b s)) name
    (fails_after e (required s.number at) k (λ k. required s.indicators at >>= λ b. Ok (recipient n k b s)) number
    (fails_on e (required s.indicators at) (λ b. Ok (recipient n k b s)) h))
