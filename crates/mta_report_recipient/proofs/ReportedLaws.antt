-- Recipients of whom is reported are read exactly where they are spelled, and lists of them.
use Rattle.std.proofs.Common.{◌≡◌, ℕ, ◌≤◌, Bool, true, cond, List, Option, Some, None, Ok, refl, sym, ap, subst, ◌∙◌}
use Rattle.std.proofs.Common.{arith}
use Rattle.std.specs.Prelude.{IfSome}
use Rattle.mta_ber.specs.declared.fault.Kind.TheVariants.{Twice}
use Rattle.mta_ber.specs.declared.tag.Tag.{Tag}
use Rattle.mta_ber.specs.Element.{Part}
use Rattle.mta_ber.specs.Forms.{is_primitive_tag, is_constructed_tag, components_under}
use Rattle.mta_ber.specs.Head.{◌>>=◌, fault}
use Rattle.mta_ber.specs.Octet.{IsOctets}
use Rattle.mta_ber.specs.Parts.{is_tag, required}
use Rattle.mta_ber.specs.Spelling.{Stands}
use Rattle.mta_ber.proofs.ComponentLaws.{StepSound, StepFull}
use Rattle.mta_ber.proofs.ExplicitLaws.{ReadSound, ReadFull}
use Rattle.mta_ber.proofs.FormLaws.{primitive_is, constructed_is, components_under_sound, components_under_full}
use Rattle.mta_ber.proofs.Steps.{bind_ok, ok_is, passed, required_so}
use Rattle.mta_names.specs.Names.{name_in, SpellsName}
use Rattle.mta_names.specs.Strings.{number_in, SpellsNumber}
use Rattle.mta_names.specs.Values.{IsRaw}
use Rattle.mta_names.proofs.ExtensionLaws.{number_sound, number_full}
use Rattle.mta_names.proofs.NameLaws.{name_sound, name_full}
use Rattle.mta_names.proofs.Tools.{puts_sound, puts_full, tag_is, picked, not_none, list_sound, list_full, Keeps}
use Rattle.mta_names.proofs.Tools.{spelled_keep}
use Rattle.mta_fields.specs.Traces.{raw_in}
use Rattle.mta_envelope_common.specs.ExtensionLists.{ext_list_in, SpellsExtList}
use Rattle.mta_envelope_common.specs.Indicators.{IsIndicators, indicators_in, SpellsIndicators}
use Rattle.mta_envelope_common.proofs.ExtListLaws.{ext_list_sound, ext_list_full}
use Rattle.mta_envelope_common.proofs.IndicatorLaws.{indicators_sound, indicators_full, indicators_are}
use Rattle.std.specs.Prelude.{pos}
use Rattle.std.proofs.lemmas.Bool.Decides.{nat_tests}
use Rattle.mta_ber.specs.Int.{in_range}
use Rattle.mta_report_recipient.specs.declared.reported.ReportedPart.{ReportedPart}
use Rattle.mta_report_recipient.specs.declared.reported.ReportedPart.TheVariants.{Actual, Number, Indicators, Last}
use Rattle.mta_report_recipient.specs.declared.reported.ReportedPart.TheVariants.{Intended, Supplementary, Extensions}
use Rattle.mta_report_recipient.specs.declared.reported.ReportedParts.{ReportedParts}
use Rattle.mta_report_recipient.specs.ReportedRecipients.{reported_part_of, is_reported_tag, reported_held, with_name}
use Rattle.mta_report_recipient.specs.ReportedRecipients.{with_number, with_indicators, with_last, with_intended}
use Rattle.mta_report_recipient.specs.ReportedRecipients.{with_supplementary, with_extensions, reported_part_in}
use Rattle.mta_report_recipient.specs.ReportedRecipients.{reported_step_of, reported_step, no_reported, reported}
use Rattle.mta_report_recipient.specs.ReportedRecipients.{reported_from, reported_in, MakesReportedPart, MakesReported}
use Rattle.mta_report_recipient.specs.ReportedRecipients.{SpellsReported}
use Rattle.mta_report_recipient.specs.Values.{IsNumber, IsLast, IsReported}
use Rattle.mta_report_recipient.specs.declared.reported.ReportedFields.{ReportedFields}
use Rattle.mta_report_recipient.specs.LastTraces.{last_in, SpellsLast}
use Rattle.mta_report_recipient.specs.ReportedRecipients.{is_set, reported_list_in, SpellsReportedItem}
use Rattle.mta_report_recipient.specs.ReportedRecipients.{SpellsReportedList}
use Rattle.mta_report_recipient.proofs.LastLaws.{last_sound, last_full, last_is}

number_ranged : (low high n : ℕ) (c : Bool) (content : List ℕ) → SpellsNumber low high c content n → (low ≤ n)
    × (n ≤ high)
number_ranged low high n c content h = go n h.range
  where
    go : (n : ℕ) → in_range (pos low) (pos high) (pos n) ≡ true → (low ≤ n) × (n ≤ high)
    go n e = (grind (arith, nat_tests), grind (arith, nat_tests))

abbrev HasTag : Tag → ReportedPart → Type 0
HasTag t k = is_reported_tag k t ≡ true

tagged : (t : Tag) (k : ReportedPart) → reported_part_of t ≡ Some k → HasTag t k
tagged t = picked (HasTag t) (is_constructed_tag 2 0 t) Actual _ (λ e. e)
    (picked (HasTag t) (is_primitive_tag 2 1 t) Number _ (λ e. e)
    (picked (HasTag t) (is_tag 2 2 t) Indicators _ (λ e. e)
    (picked (HasTag t) (is_constructed_tag 2 3 t) Last _ (λ e. e)
    (picked (HasTag t) (is_constructed_tag 2 4 t) Intended _ (λ e. e)
    (picked (HasTag t) (is_tag 2 5 t) Supplementary _ (λ e. e)
    (picked (HasTag t) (is_constructed_tag 2 6 t) Extensions _ (λ e. e) (not_none (HasTag t))))))))

found : (k : ReportedPart) (t : Tag) → HasTag t k → reported_part_of t ≡ Some k
found Actual t h = let e = constructed_is 2 0 t h in rw (e.0, e.1, e.2) refl
found Number t h = let e = primitive_is 2 1 t h in rw (e.0, e.1, e.2) refl
found Indicators t h = let e = tag_is 2 2 t h in rw (e.0, e.1) refl
found Last t h = let e = constructed_is 2 3 t h in rw (e.0, e.1, e.2) refl
found Intended t h = let e = constructed_is 2 4 t h in rw (e.0, e.1, e.2) refl
found Supplementary t h = let e = tag_is 2 5 t h in rw (e.0, e.1) refl
found Extensions t h = let e = constructed_is 2 6 t h in rw (e.0, e.1, e.2) refl

part_sound : (k : ReportedPart) (s t : ReportedParts) (p : Part) → p.depth ≤ 16 → IsOctets p.content
    → reported_part_in k s p ≡ Ok t → MakesReportedPart k p.depth s p.tag p.content p.octets t
part_sound Actual s t p d o e = puts_sound (name_in p) (with_name s) t (SpellsName p.depth p.tag.constructed p.content)
    (λ x r. name_sound x p o r) e
part_sound Number s t p d o e =
    puts_sound (number_in 1 32767 p) (with_number s) t (SpellsNumber 1 32767 p.tag.constructed p.content)
    (λ x r. number_sound 1 32767 x p r) e
part_sound Indicators s t p d o e =
    puts_sound (indicators_in p) (with_indicators s) t (SpellsIndicators p.depth p.tag.constructed p.content)
    (λ x r. indicators_sound x p d o r) e
part_sound Last s t p d o e = puts_sound (last_in p) (with_last s) t (SpellsLast p.depth p.tag.constructed p.content)
    (λ x r. last_sound x p o r) e
part_sound Intended s t p d o e =
    puts_sound (name_in p) (with_intended s) t (SpellsName p.depth p.tag.constructed p.content)
    (λ x r. name_sound x p o r) e
part_sound Supplementary s t p d o e = puts_sound (raw_in p) (with_supplementary s) t (λ x. x ≡ p.octets)
    (λ x r. sym (ok_is p.octets x r)) e
part_sound Extensions s t p d o e =
    puts_sound (ext_list_in p) (with_extensions s) t (SpellsExtList p.depth p.tag.constructed p.content)
    (λ x r. ext_list_sound x p o r) e

part_full : (k : ReportedPart) (s t : ReportedParts) (p : Part) → p.depth ≤ 16
    → MakesReportedPart k p.depth s p.tag p.content p.octets t → reported_part_in k s p ≡ Ok t
part_full Actual s t p d h = puts_full (name_in p) (with_name s) t (SpellsName p.depth p.tag.constructed p.content)
    (λ x r. name_full x p r) h
part_full Number s t p d h = puts_full (number_in 1 32767 p) (with_number s) t
    (SpellsNumber 1 32767 p.tag.constructed p.content) (λ x r. number_full 1 32767 x p r) h
part_full Indicators s t p d h =
    puts_full (indicators_in p) (with_indicators s) t (SpellsIndicators p.depth p.tag.constructed p.content)
    (λ x r. indicators_full x p d r) h
part_full Last s t p d h = puts_full (last_in p) (with_last s) t (SpellsLast p.depth p.tag.constructed p.content)
    (λ x r. last_full x p r) h
part_full Intended s t p d h = puts_full (name_in p) (with_intended s) t
    (SpellsName p.depth p.tag.constructed p.content) (λ x r. name_full x p r) h
part_full Supplementary s t p d h = puts_full (raw_in p) (with_supplementary s) t (λ x. x ≡ p.octets)
    (λ x r. ap (λ (o : List ℕ). Ok o) (sym r)) h
part_full Extensions s t p d h =
    puts_full (ext_list_in p) (with_extensions s) t (SpellsExtList p.depth p.tag.constructed p.content)
    (λ x r. ext_list_full x p r) h

step_sound : StepSound reported_step MakesReported
unfolding reported_step
step_sound s t p shallow content octets e = go (reported_part_of p.tag) refl e
  where
    go : (o : Option ReportedPart) → reported_part_of p.tag ≡ o → reported_step_of o s p ≡ Ok t
        → MakesReported p.depth s p.tag p.content p.octets t
    go None is e = absurd cc
    go (Some k) is e =
        let q = passed (reported_held k s) (record { at = p.at; kind = Twice }) (reported_part_in k s p) t e in
        record { part = k; is_tag_of = tagged p.tag k is; absent = q.0; made = part_sound k s t p shallow content q.1 }

step_full : StepFull reported_step MakesReported
unfolding reported_step
step_full s t p shallow h =
    ap (λ o. reported_step_of o s p) (found h.part p.tag h.is_tag_of)
    ∙ ap (λ b. cond b (fault p.at Twice) (reported_part_in h.part s p)) h.absent
    ∙ part_full h.part s t p shallow h.made

pub reported_sound : (v : ReportedFields) (p : Part) → IsOctets p.content → reported_in p ≡ Ok v
    → SpellsReported p.depth p.tag p.content v
unfolding reported_in
reported_sound v p octets e =
    let a = bind_ok (components_under 0 17 reported_step no_reported p) (λ s. reported_from s p.at) v e in
    let c = components_under_sound 0 17 reported_step MakesReported step_sound no_reported a.0 p octets a.1 in
    let r0 = bind_ok (required a.0.name p.at)
    (λ name. required a.0.number p.at >>= λ number. required a.0.indicators p.at >>= λ indicators. required a.0.last
    p.at >>= λ last. Ok (reported name number indicators last a.0)) v a.2 in
    let r1 = bind_ok (required a.0.number p.at)
    (λ number. required a.0.indicators p.at >>= λ indicators. required a.0.last p.at >>= λ last. Ok
    (reported r0.0 number indicators last a.0)) v r0.2 in
    let r2 = bind_ok (required a.0.indicators p.at)
    (λ indicators. required a.0.last p.at >>= λ last. Ok (reported r0.0 r1.0 indicators last a.0)) v r1.2 in
    let r3 = bind_ok (required a.0.last p.at) (λ last. Ok (reported r0.0 r1.0 r2.0 last a.0)) v r2.2 in
    let made = reported r0.0 r1.0 r2.0 r3.0 a.0 in
    subst (λ (x : ReportedFields). SpellsReported p.depth p.tag p.content x) {x = made} (ok_is made v r3.2) (record {
      is_tag_of = c.0;
      parts = a.0;
      spelled = c.1;
      name = r0.0;
      name_is = required_so a.0.name p.at r0.0 r0.1;
      number = r1.0;
      number_is = required_so a.0.number p.at r1.0 r1.1;
      indicators = r2.0;
      indicators_is = required_so a.0.indicators p.at r2.0 r2.1;
      last = r3.0;
      last_is = required_so a.0.last p.at r3.0 r3.1;
      value = refl {a = made};
    })

pub reported_full : (v : ReportedFields) (p : Part) → SpellsReported p.depth p.tag p.content v → reported_in p ≡ Ok v
unfolding reported_in
reported_full v p h =
    ap (λ r. r >>= λ s. reported_from s p.at)
    (components_under_full 0 17 reported_step MakesReported step_full no_reported h.parts p h.is_tag_of h.spelled)
    ∙ ap (λ o. required o p.at >>= λ name. required h.parts.number p.at >>= λ number. required h.parts.indicators p.at
    >>= λ indicators. required h.parts.last p.at >>= λ last. Ok (reported name number indicators last h.parts))
    h.name_is
    ∙ ap (λ o. required o p.at >>= λ number. required h.parts.indicators p.at >>= λ indicators. required h.parts.last
    p.at >>= λ last. Ok (reported h.name number indicators last h.parts)) h.number_is
    ∙ ap (λ o. required o p.at >>= λ indicators. required h.parts.last p.at >>= λ last. Ok
    (reported h.name h.number indicators last h.parts)) h.indicators_is
    ∙ ap (λ o. required o p.at >>= λ last. Ok (reported h.name h.number h.indicators last h.parts)) h.last_is
    ∙ ap (λ (x : ReportedFields). Ok x) (sym h.value)

-- ---- what each component is

pub record ReportedHolds (s : ReportedParts) : Type 0 where
  pub number : IfSome s.number IsNumber
  pub indicators : IfSome s.indicators IsIndicators
  pub last : IfSome s.last IsLast
  pub supplementary : IfSome s.supplementary (IsRaw 2 5)

keeps_part : (k : ReportedPart) (depth : ℕ) (s t : ReportedParts) (tag : Tag) (content octets : List ℕ) → HasTag tag k
    → Stands depth tag content octets → MakesReportedPart k depth s tag content octets t → ReportedHolds s
    → ReportedHolds t
keeps_part Actual depth s t tag content octets is stands m h =
    subst ReportedHolds (sym m.after_is)
    (record { number = h.number; indicators = h.indicators; last = h.last; supplementary = h.supplementary })
keeps_part Number depth s t tag content octets is stands m h =
    (let w : IsNumber m.value = number_ranged 1 32767 m.value tag.constructed content m.value_spelled in
    subst ReportedHolds (sym m.after_is)
    (record { number = w; indicators = h.indicators; last = h.last; supplementary = h.supplementary }))
keeps_part Indicators depth s t tag content octets is stands m h =
    (let w : IsIndicators m.value = indicators_are depth tag.constructed content m.value m.value_spelled in
    subst ReportedHolds (sym m.after_is)
    (record { number = h.number; indicators = w; last = h.last; supplementary = h.supplementary }))
keeps_part Last depth s t tag content octets is stands m h =
    (let w : IsLast m.value = last_is depth tag.constructed content m.value m.value_spelled in
    subst ReportedHolds (sym m.after_is)
    (record { number = h.number; indicators = h.indicators; last = w; supplementary = h.supplementary }))
keeps_part Intended depth s t tag content octets is stands m h =
    subst ReportedHolds (sym m.after_is)
    (record { number = h.number; indicators = h.indicators; last = h.last; supplementary = h.supplementary })
keeps_part Supplementary depth s t tag content octets is stands m h =
    (let w : (IsRaw 2 5) m.value = subst (IsRaw 2 5) (sym m.value_spelled)
    (record { depth = depth; tag = tag; content = content; is_tag_of = is; stands = stands }) in
    subst ReportedHolds (sym m.after_is)
    (record { number = h.number; indicators = h.indicators; last = h.last; supplementary = w }))
keeps_part Extensions depth s t tag content octets is stands m h =
    subst ReportedHolds (sym m.after_is)
    (record { number = h.number; indicators = h.indicators; last = h.last; supplementary = h.supplementary })

keeps : Keeps MakesReported ReportedHolds
keeps depth s t tag content octets stands m h =
    keeps_part m.part depth s t tag content octets m.is_tag_of stands m.made h

held : (depth : ℕ) (tag : Tag) (content : List ℕ) (v : ReportedFields) (h : SpellsReported depth tag content v)
    → ReportedHolds h.parts
held depth c content v h = spelled_keep MakesReported ReportedHolds keeps depth no_reported h.parts content h.spelled
    (record { number = tt; indicators = tt; last = tt; supplementary = tt })

-- what is spelled is such a recipient
pub reported_is : (depth : ℕ) (tag : Tag) (content : List ℕ) (v : ReportedFields) → SpellsReported depth tag content v
    → IsReported v
reported_is depth c content v h =
    let k = held depth c content v h in
    let number : IsNumber h.number = subst (λ o. IfSome o IsNumber) h.number_is k.number in
    let indicators : IsIndicators h.indicators = subst (λ o. IfSome o IsIndicators) h.indicators_is k.indicators in
    let last : IsLast h.last = subst (λ o. IfSome o IsLast) h.last_is k.last in
    subst IsReported (sym h.value) (record {
      number = number;
      indicators = indicators;
      arrival = last.arrival;
      converted = last.converted;
      outcome = last.outcome;
      supplementary = k.supplementary;
    })

-- ---- lists

item_sound : ReadSound reported_in SpellsReportedItem
item_sound v p shallow content octets e = reported_sound v p content e

item_full : ReadFull reported_in SpellsReportedItem
item_full v p shallow h = reported_full v p h

pub reported_list_sound : (vs : List ReportedFields) (p : Part) → IsOctets p.content → reported_list_in p ≡ Ok vs
    → SpellsReportedList p.depth p.tag.constructed p.content vs
unfolding reported_list_in
reported_list_sound vs p octets e = list_sound is_set reported_in SpellsReportedItem item_sound 1 32767 p vs octets e

pub reported_list_full : (vs : List ReportedFields) (p : Part)
    → SpellsReportedList p.depth p.tag.constructed p.content vs → reported_list_in p ≡ Ok vs
unfolding reported_list_in
reported_list_full vs p h = list_full is_set reported_in SpellsReportedItem item_full 1 32767 p vs h
