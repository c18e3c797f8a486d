-- Names are read exactly where they are spelled.
use Rattle.std.proofs.Common.{◌≡◌, ℕ, ◌+◌, ◌≤◌, ◌<◌, Bool, true, false, cond, eqb, List, length, Option, Some, None, Ok}
use Rattle.std.proofs.Common.{refl, sym, ap, subst, ◌∙◌, arith}
use Rattle.std.specs.Prelude.{IfSome}
use Rattle.std.proofs.lemmas.Bool.Decides.{nat_tests}
use Rattle.mta_ber.specs.declared.fault.Kind.TheVariants.{Missing}
use Rattle.mta_ber.specs.declared.tag.Tag.{Tag}
use Rattle.mta_ber.specs.declared.text.TextClass.TheVariants.{Printable}
use Rattle.mta_ber.specs.Element.{Part}
use Rattle.mta_ber.specs.Head.{◌>>=◌, fault}
use Rattle.mta_ber.specs.Octet.{IsOctets}
use Rattle.mta_ber.specs.Parts.{components, is_tag}
use Rattle.mta_ber.specs.Spelling.{Stands}
use Rattle.mta_ber.specs.Strings.{IsText}
use Rattle.mta_ber.proofs.ComponentLaws.{StepSound, StepFull}
use Rattle.mta_ber.proofs.ExplicitLaws.{in_order_full}
use Rattle.mta_ber.proofs.Steps.{bind_ok, ok_is, passed}
use Rattle.mta_names.specs.declared.attributes.Attributes.{Attributes}
use Rattle.mta_names.specs.declared.reading.NameParts.{NameParts}
use Rattle.mta_names.specs.declared.reading.NamePart.{NamePart}
use Rattle.mta_names.specs.declared.reading.NamePart.TheVariants.{Standard, Pairs, Extensions, Directory}
use Rattle.mta_names.specs.Extensions.{extensions_in, SpellsExtensions}
use Rattle.mta_names.specs.Lists.{pairs_in, SpellsPairs}
use Rattle.mta_names.specs.Names.{name_part_of, name_class, name_number, name_place, name_needed, name_parts}
use Rattle.mta_names.specs.Names.{with_pairs, with_extensions, with_directory, name_part_in, name_step_of, name_step}
use Rattle.mta_names.specs.Names.{ended, name_in, MakesNamePart, MakesName, SpellsName}
use Rattle.mta_names.specs.Standard.{standard_in, SpellsStandard}
use Rattle.mta_names.specs.Values.{Each, IsPair, IsExtra, IsRaw, IsName, count_of, nothing}
use Rattle.mta_names.proofs.Tools.{puts_sound, puts_full, tag_is, picked, not_none, components_sound, components_full}
use Rattle.mta_names.proofs.Tools.{Keeps, spelled_keep}
use Rattle.mta_names.proofs.ExtensionLaws.{extensions_sound, extensions_full, extensions_are}
use Rattle.mta_names.proofs.ListLaws.{pairs_sound, pairs_full, pairs_are}
use Rattle.mta_names.proofs.StandardLaws.{ordered, standard_sound, standard_full, standard_is, Standardly, standing}

-- ---- tags

abbrev HasTag : Tag → NamePart → Type 0
HasTag t k = is_tag (name_class k) (name_number k) t ≡ true

sequence_tag : (b : Bool) (t : Tag) (k : NamePart) → is_tag 0 16 t ≡ true → cond b (Some Standard) (Some Pairs) ≡ Some k
    → HasTag t k
sequence_tag true t k h e = subst (HasTag t) (let f : Standard ≡ k = cc in f) h
sequence_tag false t k h e = subst (HasTag t) (let f : Pairs ≡ k = cc in f) h

tagged : (last : ℕ) (t : Tag) (k : NamePart) → name_part_of last t ≡ Some k → HasTag t k
tagged last t k e = go (is_tag 0 16 t) refl e
  where
    go : (b : Bool) → is_tag 0 16 t ≡ b
        → cond b (cond (eqb last 0) (Some Standard) (Some Pairs))
        (cond (is_tag 0 17 t) (Some Extensions) (cond (is_tag 2 0 t) (Some Directory) None)) ≡ Some k → HasTag t k
    go true is e = sequence_tag (eqb last 0) t k is e
    go false is e = picked (HasTag t) (is_tag 0 17 t) Extensions _ (λ e. e)
        (picked (HasTag t) (is_tag 2 0 t) Directory _ (λ e. e) (not_none (HasTag t))) k e

first_place : (last : ℕ) → last < 1 → eqb last 0 ≡ true
first_place last h = grind (arith, nat_tests)

later_place : (last : ℕ) → 1 ≤ last → eqb last 0 ≡ false
later_place last h = grind (arith, nat_tests)

found : (k : NamePart) (last : ℕ) (t : Tag) → HasTag t k → name_needed k ≤ last → last < name_place k
    → name_part_of last t ≡ Some k
found Standard last t h needed behind = let e = first_place last behind in rw (h, e) refl
found Pairs last t h needed behind = let e = later_place last needed in rw (h, e) refl
found Extensions last t h needed behind = let e = tag_is 0 17 t h in rw (e.0, e.1) refl
found Directory last t h needed behind = let e = tag_is 2 0 t h in rw (e.0, e.1) refl

-- ---- one component

part_sound : (k : NamePart) (n : Attributes) (t : NameParts) (p : Part) → IsOctets p.content → name_part_in k n p ≡ Ok t
    → MakesNamePart k p.depth n p.tag p.content p.octets t
part_sound Standard n t p o e =
    puts_sound (standard_in p) (name_parts 1) t (SpellsStandard p.depth p.tag.constructed p.content)
    (λ x r. standard_sound x p o r) e
part_sound Pairs n t p o e = puts_sound (pairs_in p) (with_pairs n) t (SpellsPairs p.depth p.tag.constructed p.content)
    (λ x r. pairs_sound x p o r) e
part_sound Extensions n t p o e =
    puts_sound (extensions_in p) (with_extensions n) t (SpellsExtensions p.depth p.tag.constructed p.content)
    (λ x r. extensions_sound x p o r) e
part_sound Directory n t p o e = sym (ok_is (with_directory n p.octets) t e)

part_full : (k : NamePart) (n : Attributes) (t : NameParts) (p : Part)
    → MakesNamePart k p.depth n p.tag p.content p.octets t → name_part_in k n p ≡ Ok t
part_full Standard n t p h = puts_full (standard_in p) (name_parts 1) t
    (SpellsStandard p.depth p.tag.constructed p.content) (λ x r. standard_full x p r) h
part_full Pairs n t p h = puts_full (pairs_in p) (with_pairs n) t (SpellsPairs p.depth p.tag.constructed p.content)
    (λ x r. pairs_full x p r) h
part_full Extensions n t p h = puts_full (extensions_in p) (with_extensions n) t
    (SpellsExtensions p.depth p.tag.constructed p.content) (λ x r. extensions_full x p r) h
part_full Directory n t p h = ap (λ (x : NameParts). Ok x) (sym h)

-- ---- all of them

step_sound : StepSound name_step MakesName
unfolding name_step
step_sound s t p shallow content octets e = go (name_part_of s.last p.tag) refl e
  where
    go : (o : Option NamePart) → name_part_of s.last p.tag ≡ o → name_step_of o s p ≡ Ok t
        → MakesName p.depth s p.tag p.content p.octets t
    go None is e = absurd cc
    go (Some k) is e =
        let q = ordered s.last (name_needed k) (name_place k) p.at (name_part_in k s.attributes p) t e in
        record {
          part = k;
          is_tag_of = tagged s.last p.tag k is;
          needed = q.1;
          behind = q.0;
          made =
              part_sound k s.attributes t p content q.2;
        }

step_full : StepFull name_step MakesName
unfolding name_step
step_full s t p shallow h =
    let k = h.part in
    ap (λ o. name_step_of o s p) (found k s.last p.tag h.is_tag_of h.needed h.behind)
    ∙ in_order_full s.last (name_needed k) (name_place k) p.at (name_part_in k s.attributes p) h.behind h.needed
    ∙ part_full k s.attributes t p h.made

some_last : (n : ℕ) → eqb n 0 ≡ false → 1 ≤ n
some_last n e = grind (arith, nat_tests)

pub name_sound : (n : Attributes) (p : Part) → IsOctets p.content → name_in p ≡ Ok n
    → SpellsName p.depth p.tag.constructed p.content n
unfolding name_in
name_sound n p octets e =
    let none = name_parts 0 nothing in
    let b = bind_ok (components name_step none p) (ended p.at) n e in
    let c = components_sound name_step MakesName step_sound none b.0 p octets b.1 in
    let d = passed (eqb b.0.last 0) (record { at = p.at; kind = Missing }) (Ok b.0.attributes) n b.2 in
    subst (λ (m : Attributes). SpellsName p.depth p.tag.constructed p.content m) {x = b.0.attributes}
    (ok_is b.0.attributes n d.1) (record {
      is_constructed = c.0;
      last = b.0.last;
      some = some_last b.0.last d.0;
      spelled = c.1;
    })

pub name_full : (n : Attributes) (p : Part) → SpellsName p.depth p.tag.constructed p.content n → name_in p ≡ Ok n
unfolding name_in
name_full n p h =
    ap (λ r. r >>= ended p.at) (components_full name_step MakesName step_full (name_parts 0 nothing)
    (name_parts h.last n) p h.is_constructed h.spelled)
    ∙ ap (λ b. cond b (fault p.at Missing) (Ok n)) (later_place h.last h.some)

-- ---- what is spelled is a name

record Named (n : Attributes) : Type 0 where
  parts : Standardly n
  pairs : Each IsPair n.pairs
  few_pairs : length n.pairs ≤ 4
  common : IfSome n.common (IsText Printable 1 64)
  extras : Each IsExtra n.extras
  few_extensions : count_of n.common + length n.extras ≤ 256
  directory : IfSome n.directory (IsRaw 2 0)

keeps_part : (k : NamePart) (depth : ℕ) (n : Attributes) (tag : Tag) (content octets : List ℕ) (t : NameParts)
    → HasTag tag k → Stands depth tag content octets → MakesNamePart k depth n tag content octets t → Named n
    → Named t.attributes
keeps_part Standard depth n tag content octets t is stands m h =
    let w = standard_is depth tag.constructed content m.value m.value_spelled in
    let a = w.alone in
    subst (λ (s : NameParts). Named s.attributes) (sym m.after_is) (record {
      parts = w.parts;
      pairs = subst (Each IsPair) (sym a.no_pairs) tt;
      few_pairs = omega (arith, ap length a.no_pairs);
      common = subst (λ o. IfSome o (IsText Printable 1 64)) (sym a.no_common) tt;
      extras = subst (Each IsExtra) (sym a.no_extras) tt;
      few_extensions = omega (arith, ap count_of a.no_common, ap length a.no_extras);
      directory = subst (λ o. IfSome o (IsRaw 2 0)) (sym a.no_directory) tt;
    })
keeps_part Pairs depth n tag content octets t is stands m h =
    subst (λ (s : NameParts). Named s.attributes) (sym m.after_is) (record {
      parts = record {
        country = h.parts.country;
        admd = h.parts.admd;
        network = h.parts.network;
        terminal =
            h.parts.terminal;
        prmd = h.parts.prmd;
        organization = h.parts.organization;
        user = h.parts.user;
        person =
            h.parts.person;
        units = h.parts.units;
        few_units = h.parts.few_units;
      };
      pairs = pairs_are depth tag.constructed content m.value m.value_spelled;
      few_pairs = m.value_spelled.at_most;
      common = h.common;
      extras = h.extras;
      few_extensions = h.few_extensions;
      directory = h.directory;
    })
keeps_part Extensions depth n tag content octets t is stands m h =
    let w = extensions_are depth tag.constructed content m.value m.value_spelled in
    subst (λ (s : NameParts). Named s.attributes) (sym m.after_is) (record {
      parts = record {
        country = h.parts.country;
        admd = h.parts.admd;
        network = h.parts.network;
        terminal =
            h.parts.terminal;
        prmd = h.parts.prmd;
        organization = h.parts.organization;
        user = h.parts.user;
        person =
            h.parts.person;
        units = h.parts.units;
        few_units = h.parts.few_units;
      };
      pairs = h.pairs;
      few_pairs = h.few_pairs;
      common = w.common;
      extras = w.extras;
      few_extensions = m.value_spelled.at_most;
      directory = h.directory;
    })
keeps_part Directory depth n tag content octets t is stands m h =
    subst (λ (s : NameParts). Named s.attributes) (sym m) (record {
      parts = record {
        country = h.parts.country;
        admd = h.parts.admd;
        network = h.parts.network;
        terminal =
            h.parts.terminal;
        prmd = h.parts.prmd;
        organization = h.parts.organization;
        user = h.parts.user;
        person =
            h.parts.person;
        units = h.parts.units;
        few_units = h.parts.few_units;
      };
      pairs = h.pairs;
      few_pairs = h.few_pairs;
      common = h.common;
      extras = h.extras;
      few_extensions = h.few_extensions;
      directory = record { depth = depth; tag = tag; content = content; is_tag_of = is; stands = stands };
    })

keeps : Keeps MakesName (λ s. Named s.attributes)
keeps depth s t tag content octets stands m k =
    keeps_part m.part depth s.attributes tag content octets t m.is_tag_of stands m.made k

pub name_is : (depth : ℕ) (c : Bool) (content : List ℕ) (n : Attributes) → SpellsName depth c content n → IsName n
name_is depth c content n h =
    let k = spelled_keep MakesName (λ s. Named s.attributes) keeps depth (name_parts 0 nothing)
    (name_parts h.last n) content h.spelled
    (record {
      parts = standing.parts;
      pairs = tt;
      few_pairs = omega arith;
      common = tt;
      extras = tt;
      few_extensions = omega arith;
      directory = tt;
    }) in
    record {
      country = k.parts.country;
      admd = k.parts.admd;
      network = k.parts.network;
      terminal = k.parts.terminal;
      prmd = k.parts.prmd;
      organization = k.parts.organization;
      user = k.parts.user;
      person = k.parts.person;
      units = k.parts.units;
      few_units = k.parts.few_units;
      pairs = k.pairs;
      few_pairs = k.few_pairs;
      common = k.common;
      extras = k.extras;
      few_extensions = k.few_extensions;
      directory = k.directory;
    }
