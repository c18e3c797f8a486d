-- Deliveries are read exactly where they are spelled.
use Rattle.std.proofs.Common.{◌≡◌, ℕ, ◌≤◌, Bool, true, cond, List, Option, Some, None, Ok, refl, sym, ap, subst, ◌∙◌}
use Rattle.std.proofs.Common.{arith}
use Rattle.std.specs.Prelude.{IfSome, unwrap_or}
use Rattle.mta_ber.specs.declared.fault.Kind.TheVariants.{Twice}
use Rattle.mta_ber.specs.declared.tag.Tag.{Tag}
use Rattle.mta_ber.specs.Element.{Part}
use Rattle.mta_ber.specs.Forms.{is_primitive_tag, is_constructed_tag}
use Rattle.mta_ber.specs.Head.{◌>>=◌, fault}
use Rattle.mta_ber.specs.Moments.{SpellsMoment}
use Rattle.mta_ber.specs.Octet.{IsOctets}
use Rattle.mta_ber.specs.Parts.{components, is_tag, required}
use Rattle.mta_ber.specs.Spelling.{Stands}
use Rattle.mta_ber.specs.Times.{utc_in}
use Rattle.mta_ber.proofs.ComponentLaws.{StepSound, StepFull}
use Rattle.mta_ber.proofs.MomentLaws.{utc_sound, utc_full}
use Rattle.mta_ber.proofs.FormLaws.{primitive_is, constructed_is}
use Rattle.mta_ber.proofs.Steps.{bind_ok, ok_is, passed, required_so}
use Rattle.mta_names.specs.Strings.{number_in, SpellsNumber}
use Rattle.mta_names.proofs.ExtensionLaws.{number_sound, number_full, number_small}
use Rattle.mta_names.proofs.Tools.{puts_sound, puts_full, tag_is, picked, not_none, components_sound, components_full}
use Rattle.mta_names.proofs.Tools.{Keeps, spelled_keep}
use Rattle.mta_report_recipient.specs.declared.outcome.Outcome.{Outcome}
use Rattle.mta_report_recipient.specs.declared.delivery.DeliveryPart.{DeliveryPart}
use Rattle.mta_report_recipient.specs.declared.delivery.DeliveryPart.TheVariants.{Moment, User}
use Rattle.mta_report_recipient.specs.declared.delivery.DeliveryParts.{DeliveryParts}
use Rattle.mta_report_recipient.specs.Deliveries.{delivery_part_of, is_delivery_tag, delivery_held, with_moment}
use Rattle.mta_report_recipient.specs.Deliveries.{with_user, delivery_part_in, delivery_step_of, delivery_step}
use Rattle.mta_report_recipient.specs.Deliveries.{no_delivery, delivery, delivery_from, delivery_in, MakesDeliveryPart}
use Rattle.mta_report_recipient.specs.Deliveries.{MakesDelivery, SpellsDelivery}
use Rattle.mta_names.specs.Bounded.{IsCode}
use Rattle.mta_report_recipient.specs.Values.{IsMoment, IsOutcome}

abbrev HasTag : Tag → DeliveryPart → Type 0
HasTag t k = is_delivery_tag k t ≡ true

tagged : (t : Tag) (k : DeliveryPart) → delivery_part_of t ≡ Some k → HasTag t k
tagged t = picked (HasTag t) (is_tag 2 0 t) Moment _ (λ e. e)
    (picked (HasTag t) (is_primitive_tag 2 1 t) User _ (λ e. e) (not_none (HasTag t)))

found : (k : DeliveryPart) (t : Tag) → HasTag t k → delivery_part_of t ≡ Some k
found Moment t h = let e = tag_is 2 0 t h in rw (e.0, e.1) refl
found User t h = let e = primitive_is 2 1 t h in rw (e.0, e.1, e.2) refl

part_sound : (k : DeliveryPart) (s t : DeliveryParts) (p : Part) → p.depth ≤ 16 → IsOctets p.content
    → delivery_part_in k s p ≡ Ok t → MakesDeliveryPart k p.depth s p.tag p.content p.octets t
part_sound Moment s t p d o e =
    puts_sound (utc_in p) (with_moment s) t (SpellsMoment p.depth p.tag.constructed p.content)
    (λ x r. utc_sound p x d o r) e
part_sound User s t p d o e = puts_sound (number_in 0 32767 p) (with_user s) t
    (SpellsNumber 0 32767 p.tag.constructed p.content) (λ x r. number_sound 0 32767 x p r) e

part_full : (k : DeliveryPart) (s t : DeliveryParts) (p : Part) → p.depth ≤ 16
    → MakesDeliveryPart k p.depth s p.tag p.content p.octets t → delivery_part_in k s p ≡ Ok t
part_full Moment s t p d h = puts_full (utc_in p) (with_moment s) t (SpellsMoment p.depth p.tag.constructed p.content)
    (λ x r. utc_full p x d r) h
part_full User s t p d h = puts_full (number_in 0 32767 p) (with_user s) t
    (SpellsNumber 0 32767 p.tag.constructed p.content) (λ x r. number_full 0 32767 x p r) h

step_sound : StepSound delivery_step MakesDelivery
unfolding delivery_step
step_sound s t p shallow content octets e = go (delivery_part_of p.tag) refl e
  where
    go : (o : Option DeliveryPart) → delivery_part_of p.tag ≡ o → delivery_step_of o s p ≡ Ok t
        → MakesDelivery p.depth s p.tag p.content p.octets t
    go None is e = absurd cc
    go (Some k) is e =
        let q = passed (delivery_held k s) (record { at = p.at; kind = Twice }) (delivery_part_in k s p) t e in
        record { part = k; is_tag_of = tagged p.tag k is; absent = q.0; made = part_sound k s t p shallow content q.1 }

step_full : StepFull delivery_step MakesDelivery
unfolding delivery_step
step_full s t p shallow h =
    ap (λ o. delivery_step_of o s p) (found h.part p.tag h.is_tag_of)
    ∙ ap (λ b. cond b (fault p.at Twice) (delivery_part_in h.part s p)) h.absent
    ∙ part_full h.part s t p shallow h.made

pub delivery_sound : (v : Outcome) (p : Part) → IsOctets p.content → delivery_in p ≡ Ok v
    → SpellsDelivery p.depth p.tag.constructed p.content v
unfolding delivery_in
delivery_sound v p octets e =
    let a = bind_ok (components delivery_step no_delivery p) (λ s. delivery_from s p.at) v e in
    let c = components_sound delivery_step MakesDelivery step_sound no_delivery a.0 p octets a.1 in
    let r0 = bind_ok (required a.0.moment p.at) (λ moment. Ok (delivery moment a.0)) v a.2 in
    let made = delivery r0.0 a.0 in
    subst (λ (x : Outcome). SpellsDelivery p.depth p.tag.constructed p.content x) {x = made} (ok_is made v r0.2)
    (record {
      is_constructed = c.0;
      parts = a.0;
      spelled = c.1;
      moment = r0.0;
      moment_is = required_so a.0.moment p.at r0.0 r0.1;
      value = refl {a = made};
    })

pub delivery_full : (v : Outcome) (p : Part) → SpellsDelivery p.depth p.tag.constructed p.content v
    → delivery_in p ≡ Ok v
unfolding delivery_in
delivery_full v p h =
    ap (λ r. r >>= λ s. delivery_from s p.at)
    (components_full delivery_step MakesDelivery step_full no_delivery h.parts p h.is_constructed h.spelled)
    ∙ ap (λ o. required o p.at >>= λ moment. Ok (delivery moment h.parts)) h.moment_is
    ∙ ap (λ (x : Outcome). Ok x) (sym h.value)

-- ---- what each component is

pub record DeliveryHolds (s : DeliveryParts) : Type 0 where
  pub moment : IfSome s.moment IsMoment
  pub user : IfSome s.user IsCode

keeps_part : (k : DeliveryPart) (depth : ℕ) (s t : DeliveryParts) (tag : Tag) (content octets : List ℕ) → HasTag tag k
    → Stands depth tag content octets → MakesDeliveryPart k depth s tag content octets t → DeliveryHolds s
    → DeliveryHolds t
keeps_part Moment depth s t tag content octets is stands m h =
    (let w : IsMoment m.value = m.value_spelled.is_text.in_range in
    subst DeliveryHolds (sym m.after_is) (record { moment = w; user = h.user }))
keeps_part User depth s t tag content octets is stands m h =
    (let w : IsCode m.value = number_small 0 32767 m.value tag.constructed content m.value_spelled in
    subst DeliveryHolds (sym m.after_is) (record { moment = h.moment; user = w }))

keeps : Keeps MakesDelivery DeliveryHolds
keeps depth s t tag content octets stands m h =
    keeps_part m.part depth s t tag content octets m.is_tag_of stands m.made h

held : (depth : ℕ) (c : Bool) (content : List ℕ) (v : Outcome) (h : SpellsDelivery depth c content v)
    → DeliveryHolds h.parts
held depth c content v h = spelled_keep MakesDelivery DeliveryHolds keeps depth no_delivery h.parts content h.spelled
    (record { moment = tt; user = tt })

code_or_0 : (o : Option ℕ) → IfSome o IsCode → unwrap_or o 0 ≤ 32767
code_or_0 None h = omega arith
code_or_0 (Some n) h = h

-- what is spelled is a delivery
pub delivery_is : (depth : ℕ) (c : Bool) (content : List ℕ) (v : Outcome) → SpellsDelivery depth c content v
    → IsOutcome v
delivery_is depth c content v h =
    let k = held depth c content v h in
    let moment : IsMoment h.moment = subst (λ o. IfSome o IsMoment) h.moment_is k.moment in
    subst IsOutcome (sym h.value) (moment, code_or_0 h.parts.user k.user)
