-- Reports are read exactly where they are spelled.
use Rattle.std.proofs.Common.{◌≡◌, ℕ, ◌≤◌, ◌<◌, Bool, true, false, cond, eqb, List, Option, Some, None, Ok, refl, sym}
use Rattle.std.proofs.Common.{ap, subst, ◌∙◌, arith}
use Rattle.std.specs.Prelude.{IfSome}
use Rattle.mta_ber.specs.declared.tag.Tag.{Tag}
use Rattle.mta_ber.specs.Element.{Part}
use Rattle.mta_ber.specs.Forms.{components_under}
use Rattle.mta_ber.specs.Head.{◌>>=◌}
use Rattle.mta_ber.specs.Octet.{IsOctets}
use Rattle.mta_ber.specs.Parts.{required}
use Rattle.mta_ber.proofs.ComponentLaws.{StepSound, StepFull}
use Rattle.mta_ber.proofs.ExplicitLaws.{in_order_full}
use Rattle.mta_ber.proofs.FormLaws.{components_under_sound, components_under_full}
use Rattle.mta_ber.proofs.Steps.{bind_ok, ok_is, required_so}
use Rattle.mta_names.proofs.StandardLaws.{ordered}
use Rattle.mta_names.proofs.Tools.{puts_sound, puts_full, Keeps, spelled_keep}
use Rattle.std.proofs.lemmas.Bool.Decides.{nat_tests}
use Rattle.mta_report.specs.declared.fields.ReportFields.{ReportFields}
use Rattle.mta_report.specs.declared.reading.ReportPart.{ReportPart}
use Rattle.mta_report.specs.declared.reading.ReportPart.TheVariants.{Envelope, Content}
use Rattle.mta_report.specs.declared.reading.ReportParts.{ReportParts}
use Rattle.mta_report.specs.ReportEnvelopes.{envelope_in, SpellsEnvelope}
use Rattle.mta_report.specs.ReportContents.{content_in, SpellsContent}
use Rattle.mta_report_recipient.specs.ReportedRecipients.{is_set}
use Rattle.mta_report.specs.ReportValues.{IsTraceRow, IsReport}
use Rattle.mta_report.specs.Reports.{report_part_of, report_place, report_needed, with_envelope, with_content}
use Rattle.mta_report.specs.Reports.{report_part_in, report_step_of, report_step, no_report, report, report_from}
use Rattle.mta_report.specs.Reports.{report_in, MakesReportPart, MakesReport, SpellsReport}
use Rattle.mta_report.proofs.EnvelopeLaws.{envelope_sound, envelope_full, envelope_trace_is}
use Rattle.mta_report.proofs.ContentLaws.{IsContent, content_sound, content_full, content_is}

-- ---- tags

tagged : (last : ℕ) (t : Tag) (k : ReportPart) → report_part_of last t ≡ Some k → is_set t ≡ true
tagged last t k e = go (is_set t) refl e
  where
    go : (b : Bool) → is_set t ≡ b → cond b (cond (eqb last 0) (Some Envelope) (Some Content)) None ≡ Some k
        → is_set t ≡ true
    go true is e = is
    go false is e = absurd cc

first_place : (last : ℕ) → last < 1 → eqb last 0 ≡ true
first_place last h = grind (arith, nat_tests)

later_place : (last : ℕ) → 1 ≤ last → eqb last 0 ≡ false
later_place last h = grind (arith, nat_tests)

found : (k : ReportPart) (last : ℕ) (t : Tag) → is_set t ≡ true → report_needed k ≤ last → last < report_place k
    → report_part_of last t ≡ Some k
found Envelope last t h needed behind = let e = first_place last behind in rw (h, e) refl
found Content last t h needed behind = let e = later_place last needed in rw (h, e) refl

-- ---- components

part_sound : (k : ReportPart) (s t : ReportParts) (p : Part) → IsOctets p.content → report_part_in k s p ≡ Ok t
    → MakesReportPart k p.depth s p.tag p.content t
part_sound Envelope s t p o e =
    puts_sound (envelope_in p) (with_envelope s) t (SpellsEnvelope p.depth p.tag.constructed p.content)
    (λ x r. envelope_sound x p o r) e
part_sound Content s t p o e = puts_sound (content_in p) (with_content s) t
    (SpellsContent p.depth p.tag.constructed p.content) (λ x r. content_sound x p o r) e

part_full : (k : ReportPart) (s t : ReportParts) (p : Part) → MakesReportPart k p.depth s p.tag p.content t
    → report_part_in k s p ≡ Ok t
part_full Envelope s t p h = puts_full (envelope_in p) (with_envelope s) t
    (SpellsEnvelope p.depth p.tag.constructed p.content) (λ x r. envelope_full x p r) h
part_full Content s t p h = puts_full (content_in p) (with_content s) t
    (SpellsContent p.depth p.tag.constructed p.content) (λ x r. content_full x p r) h

step_sound : StepSound report_step MakesReport
unfolding report_step
step_sound s t p shallow content octets e = go (report_part_of s.last p.tag) refl e
  where
    go : (o : Option ReportPart) → report_part_of s.last p.tag ≡ o → report_step_of o s p ≡ Ok t
        → MakesReport p.depth s p.tag p.content p.octets t
    go None is e = absurd cc
    go (Some k) is e =
        let q = ordered s.last (report_needed k) (report_place k) p.at (report_part_in k s p) t e in
        record {
          is_set_tag = tagged s.last p.tag k is;
          part = k;
          needed = q.1;
          behind = q.0;
          made =
              part_sound k s t p content q.2;
        }

step_full : StepFull report_step MakesReport
unfolding report_step
step_full s t p shallow h =
    let k = h.part in
    ap (λ o. report_step_of o s p) (found k s.last p.tag h.is_set_tag h.needed h.behind)
    ∙ in_order_full s.last (report_needed k) (report_place k) p.at (report_part_in k s p) h.behind h.needed
    ∙ part_full k s t p h.made

pub report_sound : (v : ReportFields) (p : Part) → IsOctets p.content → report_in p ≡ Ok v
    → SpellsReport p.depth p.tag p.content v
unfolding report_in
report_sound v p octets e =
    let a = bind_ok (components_under 2 1 report_step no_report p) (λ s. report_from s p.at) v e in
    let c = components_under_sound 2 1 report_step MakesReport step_sound no_report a.0 p octets a.1 in
    let b = bind_ok (required a.0.envelope p.at) (λ x. required a.0.content p.at >>= λ y. Ok (report x y)) v a.2 in
    let d = bind_ok (required a.0.content p.at) (λ y. Ok (report b.0 y)) v b.2 in
    let made = report b.0 d.0 in
    subst (λ (x : ReportFields). SpellsReport p.depth p.tag p.content x) {x = made} (ok_is made v d.2) (record {
      is_tag_of = c.0;
      parts = a.0;
      spelled = c.1;
      the_envelope = b.0;
      envelope_is = required_so a.0.envelope p.at b.0 b.1;
      the_content = d.0;
      content_is = required_so a.0.content p.at d.0 d.1;
      value = refl {a = made};
    })

pub report_full : (v : ReportFields) (p : Part) → SpellsReport p.depth p.tag p.content v → report_in p ≡ Ok v
unfolding report_in
report_full v p h =
    ap (λ r. r >>= λ s. report_from s p.at)
    (components_under_full 2 1 report_step MakesReport step_full no_report h.parts p h.is_tag_of h.spelled)
    ∙ ap (λ o. required o p.at >>= λ x. required h.parts.content p.at >>= λ y. Ok (report x y)) h.envelope_is
    ∙ ap (λ o. required o p.at >>= λ y. Ok (report h.the_envelope y)) h.content_is
    ∙ ap (λ (x : ReportFields). Ok x) (sym h.value)

-- ---- what is spelled is a report

record Holds (s : ReportParts) : Type 0 where
  envelope : IfSome s.envelope (λ x. IsTraceRow x.trace)
  content : IfSome s.content IsContent

keeps_part : (k : ReportPart) (depth : ℕ) (s t : ReportParts) (tag : Tag) (content : List ℕ)
    → MakesReportPart k depth s tag content t → Holds s → Holds t
keeps_part Envelope depth s t tag content m h =
    (let w : IsTraceRow (m.value).trace = envelope_trace_is depth tag.constructed content m.value m.value_spelled in
    subst Holds (sym m.after_is) (record { envelope = w; content = h.content }))
keeps_part Content depth s t tag content m h =
    (let w : IsContent m.value = content_is depth tag.constructed content m.value m.value_spelled in
    subst Holds (sym m.after_is) (record { envelope = h.envelope; content = w }))

keeps : Keeps MakesReport Holds
keeps depth s t tag content octets stands m h = keeps_part m.part depth s t tag content m.made h

pub report_is : (depth : ℕ) (tag : Tag) (content : List ℕ) (v : ReportFields) → SpellsReport depth tag content v
    → IsReport v
report_is depth c content v h =
    let k = spelled_keep MakesReport Holds keeps depth no_report h.parts content h.spelled
    (record { envelope = tt; content = tt }) in
    let trace : IsTraceRow h.the_envelope.trace =
    subst (λ o. IfSome o (λ x. IsTraceRow x.trace)) h.envelope_is k.envelope in
    let inside : IsContent h.the_content = subst (λ o. IfSome o IsContent) h.content_is k.content in
    subst IsReport (sym h.value) (record {
      trace = trace;
      subject_trace = inside.subject_trace;
      eits = inside.eits;
      content_kind = inside.content_kind;
      content_id = inside.content_id;
      returned = inside.returned;
      additional = inside.additional;
      recipients = inside.recipients;
    })
