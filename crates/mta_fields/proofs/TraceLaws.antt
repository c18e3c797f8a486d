-- Trace elements are read exactly where they are spelled.
use Rattle.std.proofs.Common.{◌≡◌, ℕ, ◌≤◌, Bool, true, List, Option, Some, None, Ok, refl, sym, ap, subst, ◌∙◌}
use Rattle.std.specs.Prelude.{IfSome}
use Rattle.mta_ber.specs.declared.tag.Tag.{Tag}
use Rattle.mta_ber.specs.Element.{Part}
use Rattle.mta_ber.specs.Forms.{components_under}
use Rattle.mta_ber.specs.Head.{◌>>=◌}
use Rattle.mta_ber.specs.Octet.{IsOctets}
use Rattle.mta_ber.specs.Parts.{is_tag, required}
use Rattle.mta_ber.proofs.ComponentLaws.{StepSound, StepFull}
use Rattle.mta_ber.proofs.ExplicitLaws.{in_order_full}
use Rattle.mta_ber.proofs.FormLaws.{components_under_sound, components_under_full}
use Rattle.mta_ber.proofs.Steps.{bind_ok, ok_is, required_so}
use Rattle.mta_names.proofs.Tools.{puts_sound, puts_full, tag_is, picked, not_none, Keeps, spelled_keep}
use Rattle.mta_names.proofs.StandardLaws.{ordered}
use Rattle.mta_fields.specs.declared.trace.TraceFields.{TraceFields}
use Rattle.mta_fields.specs.declared.trace.TracePart.{TracePart}
use Rattle.mta_fields.specs.declared.trace.TracePart.TheVariants.{Place, Information}
use Rattle.mta_fields.specs.declared.trace.TraceParts.{TraceParts}
use Rattle.mta_fields.specs.Domains.{domain_in, SpellsDomain}
use Rattle.mta_fields.specs.Traces.{IsSupplied, supplied_in, SpellsSupplied}
use Rattle.mta_fields.specs.TraceElements.{IsTrace, trace_part_of, trace_class, trace_number, trace_place, trace_needed}
use Rattle.mta_fields.specs.TraceElements.{with_domain, with_supplied, trace_part_in, trace_step_of, trace_step}
use Rattle.mta_fields.specs.TraceElements.{no_trace, trace, trace_in, MakesTracePart, MakesTrace, SpellsTrace}
use Rattle.mta_fields.proofs.DomainLaws.{domain_sound, domain_full}
use Rattle.mta_fields.proofs.SuppliedLaws.{supplied_sound, supplied_full, supplied_is}

abbrev HasTag : Tag → TracePart → Type 0
HasTag t k = is_tag (trace_class k) (trace_number k) t ≡ true

tagged : (t : Tag) (k : TracePart) → trace_part_of t ≡ Some k → HasTag t k
tagged t = picked (HasTag t) (is_tag 1 3 t) Place _ (λ e. e)
    (picked (HasTag t) (is_tag 0 17 t) Information _ (λ e. e) (not_none (HasTag t)))

found : (k : TracePart) (t : Tag) → HasTag t k → trace_part_of t ≡ Some k
found Place t h = let e = tag_is 1 3 t h in rw (e.0, e.1) refl
found Information t h = let e = tag_is 0 17 t h in rw (e.0, e.1) refl

part_sound : (k : TracePart) (s t : TraceParts) (p : Part) → p.depth ≤ 16 → IsOctets p.content
    → trace_part_in k s p ≡ Ok t → MakesTracePart k p.depth s p.tag p.content t
part_sound Place s t p d o e = puts_sound (domain_in p) (with_domain s) t (SpellsDomain p.depth p.tag p.content)
    (λ x r. domain_sound x p o r) e
part_sound Information s t p d o e =
    puts_sound (supplied_in p) (with_supplied s) t (SpellsSupplied p.depth p.tag.constructed p.content)
    (λ x r. supplied_sound x p o r) e

part_full : (k : TracePart) (s t : TraceParts) (p : Part) → p.depth ≤ 16 → MakesTracePart k p.depth s p.tag p.content t
    → trace_part_in k s p ≡ Ok t
part_full Place s t p d h = puts_full (domain_in p) (with_domain s) t (SpellsDomain p.depth p.tag p.content)
    (λ x r. domain_full x p r) h
part_full Information s t p d h =
    puts_full (supplied_in p) (with_supplied s) t (SpellsSupplied p.depth p.tag.constructed p.content)
    (λ x r. supplied_full x p r) h

step_sound : StepSound trace_step MakesTrace
unfolding trace_step
step_sound s t p shallow content octets e = go (trace_part_of p.tag) refl e
  where
    go : (o : Option TracePart) → trace_part_of p.tag ≡ o → trace_step_of o s p ≡ Ok t
        → MakesTrace p.depth s p.tag p.content p.octets t
    go None is e = absurd cc
    go (Some k) is e =
        let q = ordered s.last (trace_needed k) (trace_place k) p.at (trace_part_in k s p) t e in
        record {
          part = k;
          is_tag_of = tagged p.tag k is;
          needed = q.1;
          behind = q.0;
          made =
              part_sound k s t p shallow content q.2;
        }

step_full : StepFull trace_step MakesTrace
unfolding trace_step
step_full s t p shallow h =
    let k = h.part in
    ap (λ o. trace_step_of o s p) (found k p.tag h.is_tag_of)
    ∙ in_order_full s.last (trace_needed k) (trace_place k) p.at (trace_part_in k s p) h.behind h.needed
    ∙ part_full k s t p shallow h.made

pub trace_sound : (v : TraceFields) (p : Part) → IsOctets p.content → trace_in p ≡ Ok v
    → SpellsTrace p.depth p.tag p.content v
unfolding trace_in
trace_sound v p octets e =
    let a = bind_ok (components_under 0 16 trace_step no_trace p)
    (λ s. required s.domain p.at >>= λ d. required s.supplied p.at >>= λ l. Ok (trace d l)) v e in
    let c = components_under_sound 0 16 trace_step MakesTrace step_sound no_trace a.0 p octets a.1 in
    let b = bind_ok (required a.0.domain p.at) (λ d. required a.0.supplied p.at >>= λ l. Ok (trace d l)) v a.2 in
    let d = bind_ok (required a.0.supplied p.at) (λ l. Ok (trace b.0 l)) v b.2 in
    subst (λ (x : TraceFields). SpellsTrace p.depth p.tag p.content x) {x = trace b.0 d.0} (ok_is (trace b.0 d.0) v d.2)
    (record {
      is_tag_of = c.0;
      parts = a.0;
      spelled = c.1;
      domain = required_so a.0.domain p.at b.0 b.1;
      supplied = required_so a.0.supplied p.at d.0 d.1;
    })

pub trace_full : (v : TraceFields) (p : Part) → SpellsTrace p.depth p.tag p.content v → trace_in p ≡ Ok v
unfolding trace_in
trace_full v p h =
    ap (λ r. r >>= λ s. required s.domain p.at >>= λ d. required s.supplied p.at >>= λ l. Ok (trace d l))
    (components_under_full 0 16 trace_step MakesTrace step_full no_trace h.parts p h.is_tag_of h.spelled)
    ∙ ap (λ o. required o p.at >>= λ d. required h.parts.supplied p.at >>= λ l. Ok (trace d l)) h.domain
    ∙ ap (λ o. required o p.at >>= λ l. Ok (trace v.domain l)) h.supplied

-- ---- what is spelled is a trace element

abbrev Holds : TraceParts → Type 0
Holds s = IfSome s.supplied IsSupplied

keeps_part : (k : TracePart) (depth : ℕ) (s t : TraceParts) (tag : Tag) (content : List ℕ)
    → MakesTracePart k depth s tag content t → Holds s → Holds t
keeps_part Place depth s t tag content m h = subst Holds (sym m.after_is) h
keeps_part Information depth s t tag content m h =
    (let w = supplied_is depth tag.constructed content m.value m.value_spelled in subst Holds (sym m.after_is) w)

keeps : Keeps MakesTrace Holds
keeps depth s t tag content octets stands m h = keeps_part m.part depth s t tag content m.made h

pub trace_is : (depth : ℕ) (tag : Tag) (content : List ℕ) (v : TraceFields) → SpellsTrace depth tag content v
    → IsTrace v
trace_is depth c content v h = subst (λ o. IfSome o IsSupplied) h.supplied
    (spelled_keep MakesTrace Holds keeps depth no_trace h.parts content h.spelled tt)
