-- Domains are read exactly where they are spelled, and when two are the same.
use Rattle.std.proofs.Common.{◌≡◌, ℕ, ◌≤◌, Bool, true, List, Option, Some, None, Ok, refl, sym, ap, subst, ◌∙◌, ◌↔◌}
use Rattle.std.specs.Prelude.{IfSome, ◌&&◌, ◌||◌}
use Rattle.std.specs.Option.{option_map}
use Rattle.std.proofs.lemmas.Bool.{and_parts, and_from}
use Rattle.mta_ber.specs.declared.tag.Tag.{Tag}
use Rattle.mta_ber.specs.Element.{Part}
use Rattle.mta_ber.specs.Forms.{components_under}
use Rattle.mta_ber.specs.Head.{◌>>=◌}
use Rattle.mta_ber.specs.Octet.{IsOctets}
use Rattle.mta_ber.specs.Parts.{is_tag, required}
use Rattle.mta_ber.proofs.ComponentLaws.{StepSound, StepFull}
use Rattle.mta_ber.proofs.ExplicitLaws.{in_order_full}
use Rattle.mta_ber.proofs.FormLaws.{components_under_sound, components_under_full}
use Rattle.mta_ber.proofs.Steps.{bind_ok, ok_is, required_so}
use Rattle.mta_names.specs.declared.attributes.Label.{Label}
use Rattle.mta_names.specs.Labels.{country_in, label_in, label_choice, SpellsLabel, SpellsChoice}
use Rattle.mta_names.specs.Normal.{normal_label, is_same_labels, is_same_option}
use Rattle.mta_names.specs.Values.{IsCountry, IsLabel}
use Rattle.mta_names.proofs.Tools.{puts_sound, puts_full, tag_is, picked, not_none, Keeps, spelled_keep}
use Rattle.mta_names.proofs.LabelLaws.{country_sound, country_full, label_sound, label_full, label_choice_sound}
use Rattle.mta_names.proofs.LabelLaws.{label_choice_full, label_fits}
use Rattle.mta_names.proofs.NormalLaws.{Decides, text_decides, option_decides}
use Rattle.mta_names.proofs.StandardLaws.{ordered}
use Rattle.mta_fields.specs.declared.domain.DomainFields.{DomainFields}
use Rattle.mta_fields.specs.declared.domain.DomainPart.{DomainPart}
use Rattle.mta_fields.specs.declared.domain.DomainPart.TheVariants.{Country, Admd, Prmd}
use Rattle.mta_fields.specs.declared.domain.DomainParts.{DomainParts}
use Rattle.mta_fields.specs.Domains.{IsDomain, domain_part_of, is_domain_tag, domain_place, domain_needed, with_country}
use Rattle.mta_fields.specs.Domains.{with_admd, with_prmd, domain_part_in, domain_step_of, domain_step, no_domain}
use Rattle.mta_fields.specs.Domains.{domain, domain_in, MakesDomainPart, MakesDomain, SpellsDomain, NormalDomain}
use Rattle.mta_fields.specs.Domains.{IsSameDomain, is_same_domain}

abbrev HasTag : Tag → DomainPart → Type 0
HasTag t k = is_domain_tag k t ≡ true

tagged : (t : Tag) (k : DomainPart) → domain_part_of t ≡ Some k → HasTag t k
tagged t = picked (HasTag t) (is_tag 1 1 t) Country _ (λ e. e)
    (picked (HasTag t) (is_tag 1 2 t) Admd _ (λ e. e)
    (picked (HasTag t) (is_tag 0 18 t || is_tag 0 19 t) Prmd _ (λ e. e) (not_none (HasTag t))))

string_tag : (t : Tag) (b : Bool) → is_tag 0 18 t ≡ b → (b || is_tag 0 19 t) ≡ true → domain_part_of t ≡ Some Prmd
string_tag t true is h = let e = tag_is 0 18 t is in rw (e.0, e.1) refl
string_tag t b is h = let e = tag_is 0 19 t (let g : is_tag 0 19 t ≡ true = h in g) in rw (e.0, e.1) refl

found : (k : DomainPart) (t : Tag) → HasTag t k → domain_part_of t ≡ Some k
found Country t h = let e = tag_is 1 1 t h in rw (e.0, e.1) refl
found Admd t h = let e = tag_is 1 2 t h in rw (e.0, e.1) refl
found Prmd t h = string_tag t (is_tag 0 18 t) refl h

part_sound : (k : DomainPart) (s t : DomainParts) (p : Part) → p.depth ≤ 16 → IsOctets p.content → IsOctets p.octets
    → domain_part_in k s p ≡ Ok t → MakesDomainPart k p.depth s p.tag p.content p.octets t
part_sound Country s t p d o w e =
    puts_sound (country_in p) (with_country s) t (SpellsLabel IsCountry p.depth p.tag.constructed p.content)
    (λ x r. country_sound x p o r) e
part_sound Admd s t p d o w e =
    puts_sound (label_in 0 16 p) (with_admd s) t (SpellsLabel (IsLabel 0 16) p.depth p.tag.constructed p.content)
    (λ x r. label_sound 0 16 x p o r) e
part_sound Prmd s t p d o w e =
    puts_sound (label_choice 1 16 p) (with_prmd s) t (SpellsChoice (IsLabel 1 16) p.depth p.tag p.content p.octets)
    (λ x r. label_choice_sound 1 16 x p d o w r) e

part_full : (k : DomainPart) (s t : DomainParts) (p : Part) → p.depth ≤ 16
    → MakesDomainPart k p.depth s p.tag p.content p.octets t → domain_part_in k s p ≡ Ok t
part_full Country s t p d h = puts_full (country_in p) (with_country s) t
    (SpellsLabel IsCountry p.depth p.tag.constructed p.content) (λ x r. country_full x p r) h
part_full Admd s t p d h = puts_full (label_in 0 16 p) (with_admd s) t
    (SpellsLabel (IsLabel 0 16) p.depth p.tag.constructed p.content) (λ x r. label_full 0 16 x p r) h
part_full Prmd s t p d h = puts_full (label_choice 1 16 p) (with_prmd s) t
    (SpellsChoice (IsLabel 1 16) p.depth p.tag p.content p.octets) (λ x r. label_choice_full 1 16 x p d r) h

step_sound : StepSound domain_step MakesDomain
unfolding domain_step
step_sound s t p shallow content octets e = go (domain_part_of p.tag) refl e
  where
    go : (o : Option DomainPart) → domain_part_of p.tag ≡ o → domain_step_of o s p ≡ Ok t
        → MakesDomain p.depth s p.tag p.content p.octets t
    go None is e = absurd cc
    go (Some k) is e =
        let q = ordered s.last (domain_needed k) (domain_place k) p.at (domain_part_in k s p) t e in
        record {
          part = k;
          is_tag_of = tagged p.tag k is;
          needed = q.1;
          behind = q.0;
          made =
              part_sound k s t p shallow content octets q.2;
        }

step_full : StepFull domain_step MakesDomain
unfolding domain_step
step_full s t p shallow h =
    let k = h.part in
    ap (λ o. domain_step_of o s p) (found k p.tag h.is_tag_of)
    ∙ in_order_full s.last (domain_needed k) (domain_place k) p.at (domain_part_in k s p) h.behind h.needed
    ∙ part_full k s t p shallow h.made

pub domain_sound : (v : DomainFields) (p : Part) → IsOctets p.content → domain_in p ≡ Ok v
    → SpellsDomain p.depth p.tag p.content v
unfolding domain_in
domain_sound v p octets e =
    let a = bind_ok (components_under 1 3 domain_step no_domain p)
    (λ s. required s.country p.at >>= λ c. required s.admd p.at >>= λ a. Ok (domain c a s.prmd)) v e in
    let c = components_under_sound 1 3 domain_step MakesDomain step_sound no_domain a.0 p octets a.1 in
    let b = bind_ok (required a.0.country p.at) (λ c. required a.0.admd p.at >>= λ d. Ok (domain c d a.0.prmd)) v a.2 in
    let d = bind_ok (required a.0.admd p.at) (λ d. Ok (domain b.0 d a.0.prmd)) v b.2 in
    subst (λ (x : DomainFields). SpellsDomain p.depth p.tag p.content x) {x = domain b.0 d.0 a.0.prmd}
    (ok_is (domain b.0 d.0 a.0.prmd) v d.2) (record {
      is_tag_of = c.0;
      parts = a.0;
      spelled = c.1;
      country = required_so a.0.country p.at b.0 b.1;
      admd = required_so a.0.admd p.at d.0 d.1;
      prmd = refl;
    })

pub domain_full : (v : DomainFields) (p : Part) → SpellsDomain p.depth p.tag p.content v → domain_in p ≡ Ok v
unfolding domain_in
domain_full v p h =
    ap (λ r. r >>= λ s. required s.country p.at >>= λ c. required s.admd p.at >>= λ a. Ok (domain c a s.prmd))
    (components_under_full 1 3 domain_step MakesDomain step_full no_domain h.parts p h.is_tag_of h.spelled)
    ∙ ap (λ o. required o p.at >>= λ c. required h.parts.admd p.at >>= λ a. Ok (domain c a h.parts.prmd)) h.country
    ∙ ap (λ o. required o p.at >>= λ a. Ok (domain v.country a h.parts.prmd)) h.admd
    ∙ ap (λ (o : Option Label). Ok (domain v.country v.admd o)) h.prmd

-- ---- what is spelled is a domain

record Holds (s : DomainParts) : Type 0 where
  country : IfSome s.country IsCountry
  admd : IfSome s.admd (IsLabel 0 16)
  prmd : IfSome s.prmd (IsLabel 1 16)

keeps_part : (k : DomainPart) (depth : ℕ) (s t : DomainParts) (tag : Tag) (content octets : List ℕ)
    → MakesDomainPart k depth s tag content octets t → Holds s → Holds t
keeps_part Country depth s t tag content octets m h = let w =
    label_fits IsCountry depth tag.constructed content m.value m.value_spelled in
    subst Holds (sym m.after_is) (record { country = w; admd = h.admd; prmd = h.prmd })
keeps_part Admd depth s t tag content octets m h = let w =
    label_fits (IsLabel 0 16) depth tag.constructed content m.value m.value_spelled in
    subst Holds (sym m.after_is) (record { country = h.country; admd = w; prmd = h.prmd })
keeps_part Prmd depth s t tag content octets m h =
    subst Holds (sym m.after_is) (record { country = h.country; admd = h.admd; prmd = m.value_spelled.fits_so })

keeps : Keeps MakesDomain Holds
keeps depth s t tag content octets stands m h = keeps_part m.part depth s t tag content octets m.made h

pub domain_is : (depth : ℕ) (tag : Tag) (content : List ℕ) (v : DomainFields) → SpellsDomain depth tag content v
    → IsDomain v
domain_is depth c content v h =
    let k = spelled_keep MakesDomain Holds keeps depth no_domain h.parts content h.spelled
    (record { country = tt; admd = tt; prmd = tt }) in
    record {
      country = subst (λ o. IfSome o IsCountry) h.country k.country;
      admd = subst (λ o. IfSome o (IsLabel 0 16)) h.admd k.admd;
      prmd = subst (λ o. IfSome o (IsLabel 1 16)) h.prmd k.prmd;
    }

-- ---- when two domains are the same

label_decides : Decides is_same_labels normal_label
label_decides l m = text_decides l.text m.text

abbrev made : List ℕ → List ℕ → Option (List ℕ) → NormalDomain
made a b c = record { country = a; admd = b; prmd = c }

made_is : (a b c d : List ℕ) (e f : Option (List ℕ)) → a ≡ b → c ≡ d → e ≡ f → made a c e ≡ made b d f
made_is a b c d e f p q r = cc

pub same_decides : (v w : DomainFields) (r : Bool) → r ≡ is_same_domain v w → (r ≡ true) ↔ IsSameDomain v w
same_decides v w r is =
    let a = label_decides v.country w.country in
    let b = label_decides v.admd w.admd in
    let c = option_decides is_same_labels normal_label label_decides v.prmd w.prmd in (
      λ e.
          let z = and_parts (is_same_labels v.country w.country && is_same_labels v.admd w.admd)
          (is_same_option is_same_labels v.prmd w.prmd) (sym is ∙ e) in
          let y = and_parts (is_same_labels v.country w.country) (is_same_labels v.admd w.admd) z.0 in
          made_is (normal_label v.country) (normal_label w.country) (normal_label v.admd) (normal_label w.admd)
          (option_map normal_label v.prmd) (option_map normal_label w.prmd) (a.0 y.0) (b.0 y.1) (c.0 z.1),
      λ e. is ∙ and_from _ _ (and_from _ _ (a.1 (ap (λ (n : NormalDomain). n.country) e))
          (b.1 (ap (λ (n : NormalDomain). n.admd) e))) (c.1 (ap (λ (n : NormalDomain). n.prmd) e)),
    )
