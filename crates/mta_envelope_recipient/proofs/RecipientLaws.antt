-- Recipients are read exactly where they are spelled.
use Rattle.std.proofs.Common.{◌≡◌, ℕ, pos, ◌≤◌, Bool, true, List, Option, Some, None, Result, Ok, refl, sym, ap, subst}
use Rattle.std.proofs.Common.{◌∙◌, arith}
use Rattle.std.specs.Prelude.{IfSome}
use Rattle.std.proofs.lemmas.Bool.Decides.{nat_tests}
use Rattle.mta_ber.specs.declared.fault.Fault.{Fault}
use Rattle.mta_ber.specs.declared.tag.Tag.{Tag}
use Rattle.mta_ber.specs.Element.{Part}
use Rattle.mta_ber.specs.Forms.{is_primitive_tag, is_constructed_tag, components_under}
use Rattle.mta_ber.specs.Head.{◌>>=◌}
use Rattle.mta_ber.specs.Int.{in_range}
use Rattle.mta_ber.specs.Octet.{IsOctets}
use Rattle.mta_ber.specs.Parts.{is_tag, once, required}
use Rattle.mta_ber.specs.Spelling.{Stands}
use Rattle.mta_ber.proofs.ComponentLaws.{StepSound, StepFull}
use Rattle.mta_ber.proofs.FormLaws.{primitive_is, constructed_is, components_under_sound, components_under_full}
use Rattle.mta_ber.proofs.Steps.{bind_ok, ok_is, placed, required_so}
use Rattle.mta_names.specs.Names.{name_in, SpellsName}
use Rattle.mta_names.specs.Strings.{Puts, number_in, SpellsNumber}
use Rattle.mta_names.specs.Values.{IsRaw}
use Rattle.mta_names.proofs.ExtensionLaws.{number_sound, number_full, number_small}
use Rattle.mta_names.proofs.NameLaws.{name_sound, name_full}
use Rattle.mta_names.proofs.Tools.{puts_full, tag_is, picked, not_none, Keeps, spelled_keep}
use Rattle.mta_fields.specs.Traces.{raw_in}
use Rattle.mta_envelope_common.specs.ExtensionLists.{ext_list_in, SpellsExtList}
use Rattle.mta_envelope_common.specs.Indicators.{IsIndicators, indicators_in, SpellsIndicators}
use Rattle.mta_envelope_common.proofs.ExtListLaws.{ext_list_sound, ext_list_full}
use Rattle.mta_envelope_common.proofs.IndicatorLaws.{indicators_sound, indicators_full, indicators_are}
use Rattle.mta_envelope_recipient.specs.declared.recipient.RecipientFields.{RecipientFields}
use Rattle.mta_envelope_recipient.specs.declared.parts.RecipientPart.{RecipientPart}
use Rattle.mta_envelope_recipient.specs.declared.parts.RecipientPart.TheVariants.{Addressee, Number, Indicators}
use Rattle.mta_envelope_recipient.specs.declared.parts.RecipientPart.TheVariants.{Conversion, Extensions}
use Rattle.mta_envelope_recipient.specs.declared.parts.RecipientParts.{RecipientParts}
use Rattle.mta_envelope_recipient.specs.Recipients.{IsRecipient, recipient_part_of, is_recipient_tag, with_name}
use Rattle.mta_envelope_recipient.specs.Recipients.{with_number, with_indicators, with_conversion, with_extensions}
use Rattle.mta_envelope_recipient.specs.Recipients.{recipient_part_in, recipient_step_of, recipient_step, no_recipient}
use Rattle.mta_envelope_recipient.specs.Recipients.{recipient, finished, recipient_in, MakesRecipientPart}
use Rattle.mta_envelope_recipient.specs.Recipients.{MakesRecipient, SpellsRecipient}

-- ---- tags

abbrev HasTag : Tag → RecipientPart → Type 0
HasTag t k = is_recipient_tag k t ≡ true

tagged : (t : Tag) (k : RecipientPart) → recipient_part_of t ≡ Some k → HasTag t k
tagged t =
    picked (HasTag t) (is_constructed_tag 1 0 t) Addressee _ (λ e. e)
    (picked (HasTag t) (is_primitive_tag 2 0 t) Number _ (λ e. e)
    (picked (HasTag t) (is_tag 2 1 t) Indicators _ (λ e. e)
    (picked (HasTag t) (is_tag 2 2 t) Conversion _ (λ e. e)
    (picked (HasTag t) (is_constructed_tag 2 3 t) Extensions _ (λ e. e) (not_none (HasTag t))))))

found : (k : RecipientPart) (t : Tag) → HasTag t k → recipient_part_of t ≡ Some k
found Addressee t h = let e = constructed_is 1 0 t h in rw (e.0, e.1, e.2) refl
found Number t h = let e = primitive_is 2 0 t h in rw (e.0, e.1, e.2) refl
found Indicators t h = let e = tag_is 2 1 t h in rw (e.0, e.1) refl
found Conversion t h = let e = tag_is 2 2 t h in rw (e.0, e.1) refl
found Extensions t h = let e = constructed_is 2 3 t h in rw (e.0, e.1, e.2) refl

-- ---- one component

pub once_sound : {S A : Type 0} (held : Option A) (at : ℕ) (read : Result A Fault) (put : A → S) (t : S)
    (spelled : A → Type 0) → ((x : A) → read ≡ Ok x → spelled x) → (once held at read >>= λ x. Ok (put x)) ≡ Ok t
    → (held ≡ None) × Puts spelled put t
once_sound held at read put t spelled f e = let q = placed held at read put t e in
    (q.1, record { value = q.0; value_spelled = f q.0 q.2; after_is = sym q.3 })

pub once_full : {S A : Type 0} (held : Option A) (at : ℕ) (read : Result A Fault) (put : A → S) (t : S)
    (spelled : A → Type 0) → ((x : A) → spelled x → read ≡ Ok x) → (held ≡ None) × Puts spelled put t
    → (once held at read >>= λ x. Ok (put x)) ≡ Ok t
once_full held at read put t spelled f h = ap (λ o. once o at read >>= λ x. Ok (put x)) h.0
    ∙ puts_full read put t spelled f h.1

part_sound : (k : RecipientPart) (s t : RecipientParts) (p : Part) → p.depth ≤ 16 → IsOctets p.content
    → recipient_part_in k s p ≡ Ok t → MakesRecipientPart k p.depth s p.tag p.content p.octets t
part_sound Addressee s t p d o e =
    once_sound s.name p.at (name_in p) (with_name s) t (SpellsName p.depth p.tag.constructed p.content)
    (λ x r. name_sound x p o r) e
part_sound Number s t p d o e = once_sound s.number p.at (number_in 1 32767 p) (with_number s) t
    (SpellsNumber 1 32767 p.tag.constructed p.content) (λ x r. number_sound 1 32767 x p r) e
part_sound Indicators s t p d o e = once_sound s.indicators p.at (indicators_in p) (with_indicators s) t
    (SpellsIndicators p.depth p.tag.constructed p.content) (λ x r. indicators_sound x p d o r) e
part_sound Conversion s t p d o e = once_sound s.conversion p.at (raw_in p) (with_conversion s) t (λ x. x ≡ p.octets)
    (λ x r. sym (ok_is p.octets x r)) e
part_sound Extensions s t p d o e = once_sound s.extensions p.at (ext_list_in p) (with_extensions s) t
    (SpellsExtList p.depth p.tag.constructed p.content) (λ x r. ext_list_sound x p o r) e

part_full : (k : RecipientPart) (s t : RecipientParts) (p : Part) → p.depth ≤ 16
    → MakesRecipientPart k p.depth s p.tag p.content p.octets t → recipient_part_in k s p ≡ Ok t
part_full Addressee s t p d h =
    once_full s.name p.at (name_in p) (with_name s) t (SpellsName p.depth p.tag.constructed p.content)
    (λ x r. name_full x p r) h
part_full Number s t p d h = once_full s.number p.at (number_in 1 32767 p) (with_number s) t
    (SpellsNumber 1 32767 p.tag.constructed p.content) (λ x r. number_full 1 32767 x p r) h
part_full Indicators s t p d h = once_full s.indicators p.at (indicators_in p) (with_indicators s) t
    (SpellsIndicators p.depth p.tag.constructed p.content) (λ x r. indicators_full x p d r) h
part_full Conversion s t p d h = once_full s.conversion p.at (raw_in p) (with_conversion s) t (λ x. x ≡ p.octets)
    (λ x r. ap (λ (o : List ℕ). Ok o) (sym r)) h
part_full Extensions s t p d h = once_full s.extensions p.at (ext_list_in p) (with_extensions s) t
    (SpellsExtList p.depth p.tag.constructed p.content) (λ x r. ext_list_full x p r) h

step_sound : StepSound recipient_step MakesRecipient
unfolding recipient_step
step_sound s t p shallow content octets e = go (recipient_part_of p.tag) refl e
  where
    go : (o : Option RecipientPart) → recipient_part_of p.tag ≡ o → recipient_step_of o s p ≡ Ok t
        → MakesRecipient p.depth s p.tag p.content p.octets t
    go None is e = absurd cc
    go (Some k) is e = record { part = k; is_tag_of = tagged p.tag k is; made = part_sound k s t p shallow content e }

step_full : StepFull recipient_step MakesRecipient
unfolding recipient_step
step_full s t p shallow h = ap (λ o. recipient_step_of o s p) (found h.part p.tag h.is_tag_of)
    ∙ part_full h.part s t p shallow h.made

pub recipient_sound : (v : RecipientFields) (p : Part) → IsOctets p.content → recipient_in p ≡ Ok v
    → SpellsRecipient p.depth p.tag p.content v
unfolding recipient_in
recipient_sound v p octets e =
    let a = bind_ok (components_under 0 17 recipient_step no_recipient p) (finished p.at) v e in
    let c = components_under_sound 0 17 recipient_step MakesRecipient step_sound no_recipient a.0 p octets a.1 in
    let n = bind_ok (required a.0.name p.at)
    (λ n. required a.0.number p.at >>= λ k. required a.0.indicators p.at >>= λ b. Ok (recipient n k b a.0)) v a.2 in
    let k = bind_ok (required a.0.number p.at) (λ k. required a.0.indicators p.at >>= λ b. Ok (recipient n.0 k b a.0)) v
    n.2 in
    let b = bind_ok (required a.0.indicators p.at) (λ b. Ok (recipient n.0 k.0 b a.0)) v k.2 in
    subst (λ (x : RecipientFields). SpellsRecipient p.depth p.tag p.content x) {x = recipient n.0 k.0 b.0 a.0}
    (ok_is (recipient n.0 k.0 b.0 a.0) v b.2) (record {
      is_tag_of = c.0;
      parts = a.0;
      spelled = c.1;
      name = required_so a.0.name p.at n.0 n.1;
      number = required_so a.0.number p.at k.0 k.1;
      indicators = required_so a.0.indicators p.at b.0 b.1;
      value = refl;
    })

pub recipient_full : (v : RecipientFields) (p : Part) → SpellsRecipient p.depth p.tag p.content v
    → recipient_in p ≡ Ok v
unfolding recipient_in
recipient_full v p h =
    let s = h.parts in
    ap (λ r. r >>= finished p.at) (components_under_full 0 17 recipient_step MakesRecipient step_full no_recipient
    h.parts p h.is_tag_of h.spelled)
    ∙ ap (λ o. required o p.at >>= λ n. required s.number p.at >>= λ k. required s.indicators p.at >>= λ b. Ok
    (recipient n k b s)) h.name
    ∙ ap (λ o. required o p.at >>= λ k. required s.indicators p.at >>= λ b. Ok (recipient v.name k b s)) h.number
    ∙ ap (λ o. required o p.at >>= λ b. Ok (recipient v.name v.number b s)) h.indicators
    ∙ ap (λ (x : RecipientFields). Ok x) (sym h.value)

-- ---- what is spelled is a recipient

record IsNumber (n : ℕ) : Type 0 where
  some : 1 ≤ n
  small : n ≤ 32767

number_is : (n : ℕ) (c : Bool) (content : List ℕ) → SpellsNumber 1 32767 c content n → IsNumber n
number_is n c content h = record { some = some n h.range; small = number_small 1 32767 n c content h }
  where
    some : (n : ℕ) → in_range (pos 1) (pos 32767) (pos n) ≡ true → 1 ≤ n
    some n e = grind (arith, nat_tests)

record Holds (s : RecipientParts) : Type 0 where
  number : IfSome s.number IsNumber
  indicators : IfSome s.indicators IsIndicators
  conversion : IfSome s.conversion (IsRaw 2 2)

keeps_part : (k : RecipientPart) (depth : ℕ) (s t : RecipientParts) (tag : Tag) (content octets : List ℕ) → HasTag tag k
    → Stands depth tag content octets → MakesRecipientPart k depth s tag content octets t → Holds s → Holds t
keeps_part Addressee depth s t tag content octets is stands m h =
    subst Holds (sym m.1.after_is) (record { number = h.number; indicators = h.indicators; conversion = h.conversion })
keeps_part Number depth s t tag content octets is stands m h =
    subst Holds (sym m.1.after_is) (record {
      number = number_is m.1.value tag.constructed content m.1.value_spelled;
      indicators = h.indicators;
      conversion = h.conversion;
    })
keeps_part Indicators depth s t tag content octets is stands m h =
    subst Holds (sym m.1.after_is) (record {
      number = h.number;
      indicators =
          indicators_are depth tag.constructed content m.1.value m.1.value_spelled;
      conversion = h.conversion;
    })
keeps_part Conversion depth s t tag content octets is stands m h =
    subst Holds (sym m.1.after_is) (record {
      number = h.number;
      indicators = h.indicators;
      conversion =
          subst (IsRaw 2 2) (sym m.1.value_spelled)
          (record { depth = depth; tag = tag; content = content; is_tag_of = is; stands = stands });
    })
keeps_part Extensions depth s t tag content octets is stands m h =
    subst Holds (sym m.1.after_is) (record { number = h.number; indicators = h.indicators; conversion = h.conversion })

keeps : Keeps MakesRecipient Holds
keeps depth s t tag content octets stands m h =
    keeps_part m.part depth s t tag content octets m.is_tag_of stands m.made h

pub recipient_is : (depth : ℕ) (tag : Tag) (content : List ℕ) (v : RecipientFields)
    → SpellsRecipient depth tag content v → IsRecipient v
recipient_is depth c content v h =
    let k = spelled_keep MakesRecipient Holds keeps depth no_recipient h.parts content h.spelled
    (record { number = tt; indicators = tt; conversion = tt }) in
    let number : IsNumber v.number = subst (λ o. IfSome o IsNumber) h.number k.number in
    let indicators : IsIndicators v.indicators = subst (λ o. IfSome o IsIndicators) h.indicators k.indicators in
    subst IsRecipient (sym h.value)
    (record { some = number.some; small = number.small; indicators = indicators; conversion = k.conversion })
