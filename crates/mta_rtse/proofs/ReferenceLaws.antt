-- References are read exactly where they are spelled.
use Rattle.std.proofs.Common.{◌≡◌, ℕ, List, Option, Result, Ok, refl, ap, subst, ◌∙◌, inl, inr}
use Rattle.mta_ber.specs.declared.fault.Fault.{Fault}
use Rattle.mta_ber.specs.Head.{◌>>=◌}
use Rattle.mta_ber.specs.Octet.{IsOctets}
use Rattle.mta_ber.specs.Element.{Part}
use Rattle.mta_ber.specs.Parts.{components, is_tag, required}
use Rattle.mta_ber.proofs.Steps.{bind_ok, chosen, ok_is, required_so}
use Rattle.mta_ber.proofs.ComponentLaws.{StepSound, StepFull}
use Rattle.mta_ber.proofs.ExplicitLaws.{ReadSound, ReadFull}
use Rattle.mta_ber.specs.Times.{utc_in}
use Rattle.mta_records.specs.Reference.{Identifier, identifier, longest_reference}
use Rattle.mta_rtse.specs.declared.identifier.ReferenceParts.{ReferenceParts}
use Rattle.mta_rtse.specs.Values.{octets_in}
use Rattle.mta_rtse.specs.Identifier.{reference_step, no_reference, reference_in}
use Rattle.mta_rtse.specs.Spelling.{MakesReference, SpellsReference}
use Rattle.mta_rtse.proofs.Slots.{not_tag, pick, pass, follows_sound, follows_full, components_sound, components_full}
use Rattle.mta_rtse.proofs.ValueLaws.{short_sound, short_full, time_sound, time_full}

step_sound : StepSound reference_step MakesReference
unfolding reference_step
step_sound s t p shallow octets own e =
    elim (chosen (is_tag 0 4 p.tag) _ _ _ e) [
      | inl y ↦ inl (follows_sound (octets_in longest_reference)
          (short_sound longest_reference) s t p shallow octets own y.0 y.1)
      | inr n ↦ elim (chosen (is_tag 0 23 p.tag) _ _ _ n.1) [
        | inl y ↦ inr (inl (follows_sound utc_in time_sound s t p shallow octets own y.0 y.1))
        | inr n ↦ elim (chosen (is_tag 2 0 p.tag) _ _ _ n.1) [
          | inl y ↦ inr (inr (follows_sound (octets_in longest_reference)
              (short_sound longest_reference) s t p shallow octets own y.0 y.1))
          | inr n ↦ absurd (cc n.1)
        ]
      ]
    ]

step_full : StepFull reference_step MakesReference
unfolding reference_step
step_full s t p shallow (inl a) =
    pick _ a.is_tag_of (follows_full (octets_in longest_reference) (short_full longest_reference) s t p shallow a)
step_full s t p shallow (inr (inl a)) =
    pass _ (not_tag 0 23 0 4 p.tag a.is_tag_of refl)
    (pick _ a.is_tag_of (follows_full utc_in time_full s t p shallow a))
step_full s t p shallow (inr (inr a)) =
    pass _ (not_tag 2 0 0 4 p.tag a.is_tag_of refl)
    (pass _ (not_tag 2 0 0 23 p.tag a.is_tag_of refl)
    (pick _ a.is_tag_of (follows_full (octets_in longest_reference)
    (short_full longest_reference) s t p shallow a)))

abbrev with_common : ℕ → List ℕ → Option (List ℕ) → Option ℕ → Result Identifier Fault
with_common at c additional common = required common at >>= λ m. Ok (identifier c m additional)

abbrev finished : ℕ → ReferenceParts → Result Identifier Fault
finished at s = required s.calling at >>= λ c. with_common at c s.additional s.common

pub reference_found : (v : Identifier) (p : Part) → IsOctets p.content → reference_in p ≡ Ok v
    → SpellsReference p.depth p.tag p.content p.octets v
unfolding reference_in
reference_found v p octets e =
    let a = bind_ok (components reference_step no_reference p) (finished p.at) v e in
    let c = components_sound reference_step MakesReference step_sound no_reference a.0 p octets a.1 in
    let b = bind_ok (required a.0.calling p.at) (λ c. with_common p.at c a.0.additional a.0.common) v a.2 in
    let d = bind_ok (required a.0.common p.at) (λ m. Ok (identifier b.0 m a.0.additional)) v b.2 in
    subst (SpellsReference p.depth p.tag p.content p.octets) (ok_is (identifier b.0 d.0 a.0.additional) v d.2) (record {
      is_constructed = c.0;
      parts = a.0;
      spelled = c.1;
      calling = required_so a.0.calling p.at b.0 b.1;
      common = required_so a.0.common p.at d.0 d.1;
      additional = refl;
    })

pub reference_sound : ReadSound reference_in SpellsReference
reference_sound v p shallow octets own e = reference_found v p octets e

pub reference_full : ReadFull reference_in SpellsReference
unfolding reference_in
reference_full v p shallow h =
    ap (λ r. r >>= finished p.at) (components_full reference_step MakesReference step_full no_reference h.parts p
    h.is_constructed h.spelled)
    ∙ ap (λ o. required o p.at >>= λ c. with_common p.at c h.parts.additional h.parts.common) h.calling
    ∙ ap (λ o. with_common p.at v.calling h.parts.additional o) h.common
    ∙ ap (λ o. Ok (identifier v.calling v.common o)) h.additional
