-- Non-deliveries are read exactly where they are spelled.
use Rattle.std.proofs.Common.{◌≡◌, ℕ, ◌≤◌, Bool, true, cond, List, Option, Some, None, Ok, refl, sym, ap, subst, ◌∙◌}
use Rattle.std.specs.Prelude.{IfSome}
use Rattle.mta_ber.specs.declared.fault.Kind.TheVariants.{Twice}
use Rattle.mta_ber.specs.declared.tag.Tag.{Tag}
use Rattle.mta_ber.specs.Element.{Part}
use Rattle.mta_ber.specs.Forms.{is_primitive_tag, is_constructed_tag}
use Rattle.mta_ber.specs.Head.{◌>>=◌, fault}
use Rattle.mta_ber.specs.Octet.{IsOctets}
use Rattle.mta_ber.specs.Parts.{components, is_tag, required}
use Rattle.mta_ber.specs.Spelling.{Stands}
use Rattle.mta_ber.proofs.ComponentLaws.{StepSound, StepFull}
use Rattle.mta_ber.proofs.FormLaws.{primitive_is, constructed_is}
use Rattle.mta_ber.proofs.Steps.{bind_ok, ok_is, passed, required_so}
use Rattle.mta_names.specs.Strings.{number_in, SpellsNumber}
use Rattle.mta_names.proofs.ExtensionLaws.{number_sound, number_full, number_small}
use Rattle.mta_names.proofs.Tools.{puts_sound, puts_full, tag_is, picked, not_none, components_sound, components_full}
use Rattle.mta_names.proofs.Tools.{Keeps, spelled_keep}
use Rattle.mta_report_recipient.specs.declared.outcome.Outcome.{Outcome}
use Rattle.mta_report_recipient.specs.declared.failure.FailurePart.{FailurePart}
use Rattle.mta_report_recipient.specs.declared.failure.FailurePart.TheVariants.{Reason, Diagnostic}
use Rattle.mta_report_recipient.specs.declared.failure.FailureParts.{FailureParts}
use Rattle.mta_report_recipient.specs.Failures.{failure_part_of, is_failure_tag, failure_held, with_reason}
use Rattle.mta_report_recipient.specs.Failures.{with_diagnostic, failure_part_in, failure_step_of, failure_step}
use Rattle.mta_report_recipient.specs.Failures.{no_failure, failure, failure_from, failure_in, MakesFailurePart}
use Rattle.mta_report_recipient.specs.Failures.{MakesFailure, SpellsFailure}
use Rattle.mta_names.specs.Bounded.{IsCode}
use Rattle.mta_report_recipient.specs.Values.{IsOutcome}

abbrev HasTag : Tag → FailurePart → Type 0
HasTag t k = is_failure_tag k t ≡ true

tagged : (t : Tag) (k : FailurePart) → failure_part_of t ≡ Some k → HasTag t k
tagged t = picked (HasTag t) (is_primitive_tag 2 0 t) Reason _ (λ e. e)
    (picked (HasTag t) (is_primitive_tag 2 1 t) Diagnostic _ (λ e. e) (not_none (HasTag t)))

found : (k : FailurePart) (t : Tag) → HasTag t k → failure_part_of t ≡ Some k
found Reason t h = let e = primitive_is 2 0 t h in rw (e.0, e.1, e.2) refl
found Diagnostic t h = let e = primitive_is 2 1 t h in rw (e.0, e.1, e.2) refl

part_sound : (k : FailurePart) (s t : FailureParts) (p : Part) → p.depth ≤ 16 → IsOctets p.content
    → failure_part_in k s p ≡ Ok t → MakesFailurePart k p.depth s p.tag p.content p.octets t
part_sound Reason s t p d o e =
    puts_sound (number_in 0 32767 p) (with_reason s) t (SpellsNumber 0 32767 p.tag.constructed p.content)
    (λ x r. number_sound 0 32767 x p r) e
part_sound Diagnostic s t p d o e =
    puts_sound (number_in 0 32767 p) (with_diagnostic s) t (SpellsNumber 0 32767 p.tag.constructed p.content)
    (λ x r. number_sound 0 32767 x p r) e

part_full : (k : FailurePart) (s t : FailureParts) (p : Part) → p.depth ≤ 16
    → MakesFailurePart k p.depth s p.tag p.content p.octets t → failure_part_in k s p ≡ Ok t
part_full Reason s t p d h = puts_full (number_in 0 32767 p) (with_reason s) t
    (SpellsNumber 0 32767 p.tag.constructed p.content) (λ x r. number_full 0 32767 x p r) h
part_full Diagnostic s t p d h =
    puts_full (number_in 0 32767 p) (with_diagnostic s) t (SpellsNumber 0 32767 p.tag.constructed p.content)
    (λ x r. number_full 0 32767 x p r) h

step_sound : StepSound failure_step MakesFailure
unfolding failure_step
step_sound s t p shallow content octets e = go (failure_part_of p.tag) refl e
  where
    go : (o : Option FailurePart) → failure_part_of p.tag ≡ o → failure_step_of o s p ≡ Ok t
        → MakesFailure p.depth s p.tag p.content p.octets t
    go None is e = absurd cc
    go (Some k) is e =
        let q = passed (failure_held k s) (record { at = p.at; kind = Twice }) (failure_part_in k s p) t e in
        record { part = k; is_tag_of = tagged p.tag k is; absent = q.0; made = part_sound k s t p shallow content q.1 }

step_full : StepFull failure_step MakesFailure
unfolding failure_step
step_full s t p shallow h =
    ap (λ o. failure_step_of o s p) (found h.part p.tag h.is_tag_of)
    ∙ ap (λ b. cond b (fault p.at Twice) (failure_part_in h.part s p)) h.absent
    ∙ part_full h.part s t p shallow h.made

pub failure_sound : (v : Outcome) (p : Part) → IsOctets p.content → failure_in p ≡ Ok v
    → SpellsFailure p.depth p.tag.constructed p.content v
unfolding failure_in
failure_sound v p octets e =
    let a = bind_ok (components failure_step no_failure p) (λ s. failure_from s p.at) v e in
    let c = components_sound failure_step MakesFailure step_sound no_failure a.0 p octets a.1 in
    let r0 = bind_ok (required a.0.reason p.at) (λ reason. Ok (failure reason a.0)) v a.2 in
    let made = failure r0.0 a.0 in
    subst (λ (x : Outcome). SpellsFailure p.depth p.tag.constructed p.content x) {x = made} (ok_is made v r0.2)
    (record {
      is_constructed = c.0;
      parts = a.0;
      spelled = c.1;
      reason = r0.0;
      reason_is = required_so a.0.reason p.at r0.0 r0.1;
      value = refl {a = made};
    })

pub failure_full : (v : Outcome) (p : Part) → SpellsFailure p.depth p.tag.constructed p.content v → failure_in p ≡ Ok v
unfolding failure_in
failure_full v p h =
    ap (λ r. r >>= λ s. failure_from s p.at)
    (components_full failure_step MakesFailure step_full no_failure h.parts p h.is_constructed h.spelled)
    ∙ ap (λ o. required o p.at >>= λ reason. Ok (failure reason h.parts)) h.reason_is
    ∙ ap (λ (x : Outcome). Ok x) (sym h.value)

-- ---- what each component is

pub record FailureHolds (s : FailureParts) : Type 0 where
  pub reason : IfSome s.reason IsCode
  pub diagnostic : IfSome s.diagnostic IsCode

keeps_part : (k : FailurePart) (depth : ℕ) (s t : FailureParts) (tag : Tag) (content octets : List ℕ) → HasTag tag k
    → Stands depth tag content octets → MakesFailurePart k depth s tag content octets t → FailureHolds s
    → FailureHolds t
keeps_part Reason depth s t tag content octets is stands m h =
    (let w : IsCode m.value = number_small 0 32767 m.value tag.constructed content m.value_spelled in
    subst FailureHolds (sym m.after_is) (record { reason = w; diagnostic = h.diagnostic }))
keeps_part Diagnostic depth s t tag content octets is stands m h =
    (let w : IsCode m.value = number_small 0 32767 m.value tag.constructed content m.value_spelled in
    subst FailureHolds (sym m.after_is) (record { reason = h.reason; diagnostic = w }))

keeps : Keeps MakesFailure FailureHolds
keeps depth s t tag content octets stands m h =
    keeps_part m.part depth s t tag content octets m.is_tag_of stands m.made h

held : (depth : ℕ) (c : Bool) (content : List ℕ) (v : Outcome) (h : SpellsFailure depth c content v)
    → FailureHolds h.parts
held depth c content v h = spelled_keep MakesFailure FailureHolds keeps depth no_failure h.parts content h.spelled
    (record { reason = tt; diagnostic = tt })

-- what is spelled is a non-delivery
pub failure_is : (depth : ℕ) (c : Bool) (content : List ℕ) (v : Outcome) → SpellsFailure depth c content v → IsOutcome v
failure_is depth c content v h =
    let k = held depth c content v h in
    let reason : IsCode h.reason = subst (λ o. IfSome o IsCode) h.reason_is k.reason in
    subst IsOutcome (sym h.value) (reason, k.diagnostic)
