-- Last traces are read exactly where they are spelled.
use Rattle.std.proofs.Common.{◌≡◌, ℕ, ◌+◌, ◌≤◌, Bool, true, cond, List, Option, Some, None, Ok, refl, sym, ap, subst}
use Rattle.std.proofs.Common.{◌∙◌}
use Rattle.std.specs.Prelude.{IfSome}
use Rattle.mta_ber.specs.declared.fault.Kind.TheVariants.{Twice}
use Rattle.mta_ber.specs.declared.tag.Tag.{Tag}
use Rattle.mta_ber.specs.Element.{Part, explicit}
use Rattle.mta_ber.specs.Explicit.{SpellsExplicit}
use Rattle.mta_ber.specs.Forms.{is_primitive_tag, is_constructed_tag}
use Rattle.mta_ber.specs.Head.{◌>>=◌, fault}
use Rattle.mta_ber.specs.Moments.{SpellsMoment}
use Rattle.mta_ber.specs.Octet.{IsOctets}
use Rattle.mta_ber.specs.Parts.{components, is_tag, required}
use Rattle.mta_ber.specs.Spelling.{Stands}
use Rattle.mta_ber.specs.Times.{utc_in}
use Rattle.mta_ber.proofs.ComponentLaws.{StepSound, StepFull}
use Rattle.mta_ber.proofs.ExplicitLaws.{explicit_sound, explicit_full}
use Rattle.mta_ber.proofs.MomentLaws.{utc_sound, utc_full}
use Rattle.mta_ber.proofs.FormLaws.{primitive_is, constructed_is}
use Rattle.mta_ber.proofs.Steps.{bind_ok, ok_is, passed, required_so}
use Rattle.mta_names.specs.Values.{IsRaw}
use Rattle.mta_names.proofs.Tools.{puts_sound, puts_full, tag_is, picked, not_none, components_sound, components_full}
use Rattle.mta_names.proofs.Tools.{Keeps, spelled_keep}
use Rattle.mta_fields.specs.Traces.{raw_in}
use Rattle.mta_report_recipient.specs.declared.last.LastPart.{LastPart}
use Rattle.mta_report_recipient.specs.declared.last.LastPart.TheVariants.{Arrival, ReportType, Converted}
use Rattle.mta_report_recipient.specs.declared.last.LastParts.{LastParts}
use Rattle.mta_report_recipient.specs.LastTraces.{last_part_of, is_last_tag, last_held, with_arrival, with_outcome}
use Rattle.mta_report_recipient.specs.LastTraces.{with_converted, last_part_in, last_step_of, last_step, no_last}
use Rattle.mta_report_recipient.specs.LastTraces.{last_trace, last_from, last_in, MakesLastPart, MakesLast, SpellsLast}
use Rattle.mta_report_recipient.specs.Values.{IsMoment, IsOutcome, IsLast}
use Rattle.mta_report_recipient.specs.declared.last.LastTrace.{LastTrace}
use Rattle.mta_report_recipient.specs.Outcomes.{outcome_choice, SpellsOutcome}
use Rattle.mta_report_recipient.proofs.OutcomeLaws.{outcome_sound, outcome_full, outcome_is}

abbrev HasTag : Tag → LastPart → Type 0
HasTag t k = is_last_tag k t ≡ true

tagged : (t : Tag) (k : LastPart) → last_part_of t ≡ Some k → HasTag t k
tagged t = picked (HasTag t) (is_tag 2 0 t) Arrival _ (λ e. e)
    (picked (HasTag t) (is_constructed_tag 2 1 t) ReportType _ (λ e. e)
    (picked (HasTag t) (is_tag 1 5 t) Converted _ (λ e. e) (not_none (HasTag t))))

found : (k : LastPart) (t : Tag) → HasTag t k → last_part_of t ≡ Some k
found Arrival t h = let e = tag_is 2 0 t h in rw (e.0, e.1) refl
found ReportType t h = let e = constructed_is 2 1 t h in rw (e.0, e.1, e.2) refl
found Converted t h = let e = tag_is 1 5 t h in rw (e.0, e.1) refl

part_sound : (k : LastPart) (s t : LastParts) (p : Part) → p.depth ≤ 16 → IsOctets p.content → last_part_in k s p ≡ Ok t
    → MakesLastPart k p.depth s p.tag p.content p.octets t
part_sound Arrival s t p d o e =
    puts_sound (utc_in p) (with_arrival s) t (SpellsMoment p.depth p.tag.constructed p.content)
    (λ x r. utc_sound p x d o r) e
part_sound ReportType s t p d o e =
    puts_sound (explicit outcome_choice p) (with_outcome s) t
    (SpellsExplicit SpellsOutcome p.depth p.tag.constructed p.content)
    (λ x r. explicit_sound outcome_choice SpellsOutcome outcome_sound x p o r) e
part_sound Converted s t p d o e = puts_sound (raw_in p) (with_converted s) t (λ x. x ≡ p.octets)
    (λ x r. sym (ok_is p.octets x r)) e

part_full : (k : LastPart) (s t : LastParts) (p : Part) → p.depth ≤ 16
    → MakesLastPart k p.depth s p.tag p.content p.octets t → last_part_in k s p ≡ Ok t
part_full Arrival s t p d h = puts_full (utc_in p) (with_arrival s) t (SpellsMoment p.depth p.tag.constructed p.content)
    (λ x r. utc_full p x d r) h
part_full ReportType s t p d h =
    puts_full (explicit outcome_choice p) (with_outcome s) t
    (SpellsExplicit SpellsOutcome p.depth p.tag.constructed p.content)
    (λ x r. explicit_full outcome_choice SpellsOutcome outcome_full x p r) h
part_full Converted s t p d h = puts_full (raw_in p) (with_converted s) t (λ x. x ≡ p.octets)
    (λ x r. ap (λ (o : List ℕ). Ok o) (sym r)) h

step_sound : StepSound last_step MakesLast
unfolding last_step
step_sound s t p shallow content octets e = go (last_part_of p.tag) refl e
  where
    go : (o : Option LastPart) → last_part_of p.tag ≡ o → last_step_of o s p ≡ Ok t
        → MakesLast p.depth s p.tag p.content p.octets t
    go None is e = absurd cc
    go (Some k) is e =
        let q = passed (last_held k s) (record { at = p.at; kind = Twice }) (last_part_in k s p) t e in
        record { part = k; is_tag_of = tagged p.tag k is; absent = q.0; made = part_sound k s t p shallow content q.1 }

step_full : StepFull last_step MakesLast
unfolding last_step
step_full s t p shallow h =
    ap (λ o. last_step_of o s p) (found h.part p.tag h.is_tag_of)
    ∙ ap (λ b. cond b (fault p.at Twice) (last_part_in h.part s p)) h.absent
    ∙ part_full h.part s t p shallow h.made

pub last_sound : (v : LastTrace) (p : Part) → IsOctets p.content → last_in p ≡ Ok v
    → SpellsLast p.depth p.tag.constructed p.content v
unfolding last_in
last_sound v p octets e =
    let a = bind_ok (components last_step no_last p) (λ s. last_from s p.at) v e in
    let c = components_sound last_step MakesLast step_sound no_last a.0 p octets a.1 in
    let r0 = bind_ok (required a.0.arrival p.at)
    (λ arrival. required a.0.outcome p.at >>= λ outcome. Ok (last_trace arrival outcome a.0)) v a.2 in
    let r1 = bind_ok (required a.0.outcome p.at) (λ outcome. Ok (last_trace r0.0 outcome a.0)) v r0.2 in
    let made = last_trace r0.0 r1.0 a.0 in
    subst (λ (x : LastTrace). SpellsLast p.depth p.tag.constructed p.content x) {x = made} (ok_is made v r1.2) (record {
      is_constructed = c.0;
      parts = a.0;
      spelled = c.1;
      arrival = r0.0;
      arrival_is = required_so a.0.arrival p.at r0.0 r0.1;
      outcome = r1.0;
      outcome_is = required_so a.0.outcome p.at r1.0 r1.1;
      value = refl {a = made};
    })

pub last_full : (v : LastTrace) (p : Part) → SpellsLast p.depth p.tag.constructed p.content v → last_in p ≡ Ok v
unfolding last_in
last_full v p h =
    ap (λ r. r >>= λ s. last_from s p.at)
    (components_full last_step MakesLast step_full no_last h.parts p h.is_constructed h.spelled)
    ∙ ap (λ o. required o p.at >>= λ arrival. required h.parts.outcome p.at >>= λ outcome. Ok
    (last_trace arrival outcome h.parts)) h.arrival_is
    ∙ ap (λ o. required o p.at >>= λ outcome. Ok (last_trace h.arrival outcome h.parts)) h.outcome_is
    ∙ ap (λ (x : LastTrace). Ok x) (sym h.value)

-- ---- what each component is

pub record LastHolds (s : LastParts) : Type 0 where
  pub arrival : IfSome s.arrival IsMoment
  pub outcome : IfSome s.outcome IsOutcome
  pub converted : IfSome s.converted (IsRaw 1 5)

keeps_part : (k : LastPart) (depth : ℕ) (s t : LastParts) (tag : Tag) (content octets : List ℕ) → HasTag tag k
    → Stands depth tag content octets → MakesLastPart k depth s tag content octets t → LastHolds s → LastHolds t
keeps_part Arrival depth s t tag content octets is stands m h =
    (let w : IsMoment m.value = m.value_spelled.is_text.in_range in
    subst LastHolds (sym m.after_is) (record { arrival = w; outcome = h.outcome; converted = h.converted }))
keeps_part ReportType depth s t tag content octets is stands m h =
    (let w : IsOutcome m.value = outcome_is (depth + 1) m.value_spelled.tag m.value_spelled.inside content m.value
    m.value_spelled.spelled in subst LastHolds (sym m.after_is)
    (record { arrival = h.arrival; outcome = w; converted = h.converted }))
keeps_part Converted depth s t tag content octets is stands m h =
    (let w : (IsRaw 1 5) m.value = subst (IsRaw 1 5) (sym m.value_spelled)
    (record { depth = depth; tag = tag; content = content; is_tag_of = is; stands = stands }) in
    subst LastHolds (sym m.after_is) (record { arrival = h.arrival; outcome = h.outcome; converted = w }))

keeps : Keeps MakesLast LastHolds
keeps depth s t tag content octets stands m h =
    keeps_part m.part depth s t tag content octets m.is_tag_of stands m.made h

held : (depth : ℕ) (c : Bool) (content : List ℕ) (v : LastTrace) (h : SpellsLast depth c content v) → LastHolds h.parts
held depth c content v h = spelled_keep MakesLast LastHolds keeps depth no_last h.parts content h.spelled
    (record { arrival = tt; outcome = tt; converted = tt })

-- what is spelled is a last trace
pub last_is : (depth : ℕ) (c : Bool) (content : List ℕ) (v : LastTrace) → SpellsLast depth c content v → IsLast v
last_is depth c content v h =
    let k = held depth c content v h in
    let arrival : IsMoment h.arrival = subst (λ o. IfSome o IsMoment) h.arrival_is k.arrival in
    let outcome : IsOutcome h.outcome = subst (λ o. IfSome o IsOutcome) h.outcome_is k.outcome in
    subst IsLast (sym h.value) (record { arrival = arrival; converted = k.converted; outcome = outcome })
