-- Standard attributes are read exactly where they are spelled.
use Rattle.std.proofs.Common.{◌≡◌, ℕ, ◌≤◌, ◌<◌, Bool, true, List, length, Option, Some, None, Result, Ok, refl, sym, ap}
use Rattle.std.proofs.Common.{subst, ◌∙◌, arith}
use Rattle.std.specs.Prelude.{IfSome}
use Rattle.mta_ber.specs.declared.fault.Fault.{Fault}
use Rattle.mta_ber.specs.declared.tag.Tag.{Tag}
use Rattle.mta_ber.specs.declared.text.TextClass.TheVariants.{Numeric, Printable}
use Rattle.mta_ber.specs.Element.{Part}
use Rattle.mta_ber.specs.Head.{◌>>=◌}
use Rattle.mta_ber.specs.Octet.{IsOctets}
use Rattle.mta_ber.specs.Parts.{components, is_tag, in_order}
use Rattle.mta_ber.specs.Segmented.{SpellsText}
use Rattle.mta_ber.specs.Strings.{text_in, IsText}
use Rattle.mta_ber.proofs.ComponentLaws.{StepSound, StepFull}
use Rattle.mta_ber.proofs.ExplicitLaws.{placed_in_order, in_order_full}
use Rattle.mta_ber.proofs.Steps.{bind_ok, ok_is}
use Rattle.mta_ber.proofs.StringLaws.{text_sound, text_full}
use Rattle.mta_names.specs.declared.attributes.Attributes.{Attributes}
use Rattle.mta_names.specs.declared.standard.StandardParts.{StandardParts}
use Rattle.mta_names.specs.declared.standard.StandardPart.{StandardPart}
use Rattle.mta_names.specs.declared.standard.StandardPart.TheVariants.{Country, Admd, Network, Terminal, Prmd}
use Rattle.mta_names.specs.declared.standard.StandardPart.TheVariants.{Organization, User, Name, Units}
use Rattle.mta_names.specs.Labels.{country_in, label_in, SpellsLabel}
use Rattle.mta_names.specs.Lists.{units_in, SpellsUnits}
use Rattle.mta_names.specs.Persons.{person_in, SpellsPerson}
use Rattle.mta_names.specs.Standard.{standard_part_of, standard_class, standard_number, standard_place, standard_parts}
use Rattle.mta_names.specs.Standard.{with_country, with_admd, with_network, with_terminal, with_prmd, with_organization}
use Rattle.mta_names.specs.Standard.{with_user, with_person, with_units, standard_part_in, standard_step_of}
use Rattle.mta_names.specs.Standard.{standard_step, standard_in, MakesStandardPart, MakesStandard, SpellsStandard}
use Rattle.mta_names.specs.Values.{Each, IsCountry, IsLabel, IsPerson, nothing}
use Rattle.mta_names.proofs.Tools.{puts_sound, puts_full, tag_is, picked, not_none, components_sound, components_full}
use Rattle.mta_names.proofs.Tools.{Keeps, spelled_keep}
use Rattle.mta_names.proofs.LabelLaws.{country_sound, country_full, label_sound, label_full, label_fits}
use Rattle.mta_names.proofs.ListLaws.{units_sound, units_full, units_are}
use Rattle.mta_names.proofs.PersonLaws.{person_sound, person_full, person_is}

-- ---- tags

abbrev HasTag : Tag → StandardPart → Type 0
HasTag t k = is_tag (standard_class k) (standard_number k) t ≡ true

tagged : (t : Tag) (k : StandardPart) → standard_part_of t ≡ Some k → HasTag t k
tagged t =
    picked (HasTag t) (is_tag 1 1 t) Country _ (λ e. e)
    (picked (HasTag t) (is_tag 1 2 t) Admd _ (λ e. e) (picked (HasTag t) (is_tag 2 0 t) Network _ (λ e. e)
    (picked (HasTag t) (is_tag 2 1 t) Terminal _ (λ e. e)
    (picked (HasTag t) (is_tag 2 2 t) Prmd _ (λ e. e) (picked (HasTag t) (is_tag 2 3 t) Organization _ (λ e. e)
    (picked (HasTag t) (is_tag 2 4 t) User _ (λ e. e)
    (picked (HasTag t) (is_tag 2 5 t) Name _ (λ e. e)
    (picked (HasTag t) (is_tag 2 6 t) Units _ (λ e. e) (not_none (HasTag t))))))))))

found : (k : StandardPart) (t : Tag) → HasTag t k → standard_part_of t ≡ Some k
found Country t h = let e = tag_is 1 1 t h in rw (e.0, e.1) refl
found Admd t h = let e = tag_is 1 2 t h in rw (e.0, e.1) refl
found Network t h = let e = tag_is 2 0 t h in rw (e.0, e.1) refl
found Terminal t h = let e = tag_is 2 1 t h in rw (e.0, e.1) refl
found Prmd t h = let e = tag_is 2 2 t h in rw (e.0, e.1) refl
found Organization t h = let e = tag_is 2 3 t h in rw (e.0, e.1) refl
found User t h = let e = tag_is 2 4 t h in rw (e.0, e.1) refl
found Name t h = let e = tag_is 2 5 t h in rw (e.0, e.1) refl
found Units t h = let e = tag_is 2 6 t h in rw (e.0, e.1) refl

-- ---- one attribute

part_sound : (k : StandardPart) (n : Attributes) (t : StandardParts) (p : Part) → p.depth ≤ 16 → IsOctets p.content
    → standard_part_in k n p ≡ Ok t → MakesStandardPart k p.depth n p.tag p.content t
part_sound Country n t p d o e =
    puts_sound (country_in p) (with_country n) t (SpellsLabel IsCountry p.depth p.tag.constructed p.content)
    (λ x r. country_sound x p o r) e
part_sound Admd n t p d o e = puts_sound (label_in 0 16 p) (with_admd n) t
    (SpellsLabel (IsLabel 0 16) p.depth p.tag.constructed p.content) (λ x r. label_sound 0 16 x p o r) e
part_sound Network n t p d o e =
    puts_sound (text_in Numeric 1 16 p) (with_network n) t (SpellsText Numeric 1 16 p.depth p.tag.constructed p.content)
    (λ x r. text_sound Numeric 1 16 p x d o r) e
part_sound Terminal n t p d o e =
    puts_sound (text_in Printable 1 24 p) (with_terminal n) t
    (SpellsText Printable 1 24 p.depth p.tag.constructed p.content) (λ x r. text_sound Printable 1 24 p x d o r) e
part_sound Prmd n t p d o e = puts_sound (label_in 1 16 p) (with_prmd n) t
    (SpellsLabel (IsLabel 1 16) p.depth p.tag.constructed p.content) (λ x r. label_sound 1 16 x p o r) e
part_sound Organization n t p d o e = puts_sound (text_in Printable 1 64 p) (with_organization n) t
    (SpellsText Printable 1 64 p.depth p.tag.constructed p.content) (λ x r. text_sound Printable 1 64 p x d o r) e
part_sound User n t p d o e = puts_sound (text_in Numeric 1 32 p) (with_user n) t
    (SpellsText Numeric 1 32 p.depth p.tag.constructed p.content) (λ x r. text_sound Numeric 1 32 p x d o r) e
part_sound Name n t p d o e = puts_sound (person_in p) (with_person n) t
    (SpellsPerson p.depth p.tag.constructed p.content) (λ x r. person_sound x p o r) e
part_sound Units n t p d o e = puts_sound (units_in p) (with_units n) t
    (SpellsUnits p.depth p.tag.constructed p.content) (λ x r. units_sound x p o r) e

part_full : (k : StandardPart) (n : Attributes) (t : StandardParts) (p : Part) → p.depth ≤ 16
    → MakesStandardPart k p.depth n p.tag p.content t → standard_part_in k n p ≡ Ok t
part_full Country n t p d h = puts_full (country_in p) (with_country n) t
    (SpellsLabel IsCountry p.depth p.tag.constructed p.content) (λ x r. country_full x p r) h
part_full Admd n t p d h = puts_full (label_in 0 16 p) (with_admd n) t
    (SpellsLabel (IsLabel 0 16) p.depth p.tag.constructed p.content) (λ x r. label_full 0 16 x p r) h
part_full Network n t p d h = puts_full (text_in Numeric 1 16 p) (with_network n) t
    (SpellsText Numeric 1 16 p.depth p.tag.constructed p.content) (λ x r. text_full Numeric 1 16 p x d r) h
part_full Terminal n t p d h = puts_full (text_in Printable 1 24 p) (with_terminal n) t
    (SpellsText Printable 1 24 p.depth p.tag.constructed p.content) (λ x r. text_full Printable 1 24 p x d r) h
part_full Prmd n t p d h = puts_full (label_in 1 16 p) (with_prmd n) t
    (SpellsLabel (IsLabel 1 16) p.depth p.tag.constructed p.content) (λ x r. label_full 1 16 x p r) h
part_full Organization n t p d h = puts_full (text_in Printable 1 64 p) (with_organization n) t
    (SpellsText Printable 1 64 p.depth p.tag.constructed p.content) (λ x r. text_full Printable 1 64 p x d r) h
part_full User n t p d h = puts_full (text_in Numeric 1 32 p) (with_user n) t
    (SpellsText Numeric 1 32 p.depth p.tag.constructed p.content) (λ x r. text_full Numeric 1 32 p x d r) h
part_full Name n t p d h = puts_full (person_in p) (with_person n) t (SpellsPerson p.depth p.tag.constructed p.content)
    (λ x r. person_full x p r) h
part_full Units n t p d h = puts_full (units_in p) (with_units n) t (SpellsUnits p.depth p.tag.constructed p.content)
    (λ x r. units_full x p r) h

-- ---- all of them

-- a step of a SEQUENCE, taken apart
pub ordered : {S : Type 0} (last needed place at : ℕ) (read : Result S Fault) (t : S)
    → in_order last needed place at read ≡ Ok t → (last < place) × (needed ≤ last) × (read ≡ Ok t)
ordered {S} last needed place at read t e =
    let same : (in_order last needed place at read >>= λ x. Ok x) ≡ Ok t = ap (λ r. r >>= λ x. Ok x) e in
    let q = placed_in_order last needed place at read (λ (x : S). x) t same in
    (q.1, q.2, q.3 ∙ ap (λ (x : S). Ok x) q.4)

step_sound : StepSound standard_step MakesStandard
unfolding standard_step
step_sound s t p shallow content octets e = go (standard_part_of p.tag) refl e
  where
    go : (o : Option StandardPart) → standard_part_of p.tag ≡ o → standard_step_of o s p ≡ Ok t
        → MakesStandard p.depth s p.tag p.content p.octets t
    go None is e = absurd cc
    go (Some k) is e =
        let q = ordered s.last 0 (standard_place k) p.at (standard_part_in k s.attributes p) t e in
        record {
          part = k;
          is_tag_of = tagged p.tag k is;
          behind = q.0;
          made =
              part_sound k s.attributes t p shallow content q.2;
        }

step_full : StepFull standard_step MakesStandard
unfolding standard_step
step_full s t p shallow h =
    let k = h.part in
    ap (λ o. standard_step_of o s p) (found k p.tag h.is_tag_of)
    ∙ in_order_full s.last 0 (standard_place k) p.at (standard_part_in k s.attributes p) h.behind (omega arith)
    ∙ part_full k s.attributes t p shallow h.made

pub standard_sound : (n : Attributes) (p : Part) → IsOctets p.content → standard_in p ≡ Ok n
    → SpellsStandard p.depth p.tag.constructed p.content n
unfolding standard_in
standard_sound n p octets e =
    let none = standard_parts 0 nothing in
    let b = bind_ok (components standard_step none p) (λ s. Ok s.attributes) n e in
    let c = components_sound standard_step MakesStandard step_sound none b.0 p octets b.1 in
    subst (λ (m : Attributes). SpellsStandard p.depth p.tag.constructed p.content m) {x = b.0.attributes}
    (ok_is b.0.attributes n b.2) (record { is_constructed = c.0; last = b.0.last; spelled = c.1 })

pub standard_full : (n : Attributes) (p : Part) → SpellsStandard p.depth p.tag.constructed p.content n
    → standard_in p ≡ Ok n
unfolding standard_in
standard_full n p h =
    ap (λ r. r >>= λ s. Ok s.attributes)
    (components_full standard_step MakesStandard step_full (standard_parts 0 nothing)
    (standard_parts h.last n) p h.is_constructed h.spelled)

-- ---- what is spelled is such as it may be

pub record Standardly (n : Attributes) : Type 0 where
  pub country : IfSome n.country IsCountry
  pub admd : IfSome n.admd (IsLabel 0 16)
  pub network : IfSome n.network (IsText Numeric 1 16)
  pub terminal : IfSome n.terminal (IsText Printable 1 24)
  pub prmd : IfSome n.prmd (IsLabel 1 16)
  pub organization : IfSome n.organization (IsText Printable 1 64)
  pub user : IfSome n.user (IsText Numeric 1 32)
  pub person : IfSome n.person IsPerson
  pub units : Each (IsText Printable 1 32) n.units
  pub few_units : length n.units ≤ 4

-- and nothing else is there
pub record Alone (n : Attributes) : Type 0 where
  pub no_pairs : n.pairs ≡ nothing.pairs
  pub no_common : n.common ≡ nothing.common
  pub no_extras : n.extras ≡ nothing.extras
  pub no_directory : n.directory ≡ nothing.directory

pub record Stood (n : Attributes) : Type 0 where
  pub parts : Standardly n
  pub alone : Alone n

none_else : (n m : Attributes) → Alone n → m.pairs ≡ n.pairs → m.common ≡ n.common → m.extras ≡ n.extras
    → m.directory ≡ n.directory → Alone m
none_else n m h a b c d = record {
  no_pairs = a ∙ h.no_pairs;
  no_common = b ∙ h.no_common;
  no_extras = c ∙ h.no_extras;
  no_directory = d ∙ h.no_directory;
}

-- a name is such where each of its components is, and nothing else is there
stood : {n : Attributes} → IfSome n.country IsCountry → IfSome n.admd (IsLabel 0 16)
    → IfSome n.network (IsText Numeric 1 16) → IfSome n.terminal (IsText Printable 1 24)
    → IfSome n.prmd (IsLabel 1 16) → IfSome n.organization (IsText Printable 1 64)
    → IfSome n.user (IsText Numeric 1 32) → IfSome n.person IsPerson → Each (IsText Printable 1 32) n.units
    → length n.units ≤ 4 → Alone n → Stood n
stood country admd network terminal prmd organization user person units few_units alone = record {
  parts = record {
    country = country;
    admd = admd;
    network = network;
    terminal = terminal;
    prmd = prmd;
    organization = organization;
    user = user;
    person = person;
    units = units;
    few_units = few_units;
  };
  alone = alone;
}

keeps_part : (k : StandardPart) (depth : ℕ) (n : Attributes) (tag : Tag) (content : List ℕ) (t : StandardParts)
    → MakesStandardPart k depth n tag content t → Stood n → Stood t.attributes
keeps_part Country depth n tag content t m k =
    let h = k.parts in
    let w = label_fits IsCountry depth tag.constructed content m.value m.value_spelled in
    subst (λ (s : StandardParts). Stood s.attributes) (sym m.after_is)
    (stood w h.admd h.network h.terminal h.prmd h.organization h.user h.person h.units h.few_units
    (none_else n (with_country n m.value).attributes k.alone refl refl refl refl))
keeps_part Admd depth n tag content t m k =
    let h = k.parts in
    let w = label_fits (IsLabel 0 16) depth tag.constructed content m.value m.value_spelled in
    subst (λ (s : StandardParts). Stood s.attributes) (sym m.after_is)
    (stood h.country w h.network h.terminal h.prmd h.organization h.user h.person h.units h.few_units
    (none_else n (with_admd n m.value).attributes k.alone refl refl refl refl))
keeps_part Network depth n tag content t m k =
    let h = k.parts in
    subst (λ (s : StandardParts). Stood s.attributes) (sym m.after_is)
    (stood h.country h.admd m.value_spelled.is_text h.terminal h.prmd h.organization h.user h.person h.units
    h.few_units (none_else n (with_network n m.value).attributes k.alone refl refl refl refl))
keeps_part Terminal depth n tag content t m k =
    let h = k.parts in
    subst (λ (s : StandardParts). Stood s.attributes) (sym m.after_is)
    (stood h.country h.admd h.network m.value_spelled.is_text h.prmd h.organization h.user h.person h.units
    h.few_units (none_else n (with_terminal n m.value).attributes k.alone refl refl refl refl))
keeps_part Prmd depth n tag content t m k =
    let h = k.parts in
    let w = label_fits (IsLabel 1 16) depth tag.constructed content m.value m.value_spelled in
    subst (λ (s : StandardParts). Stood s.attributes) (sym m.after_is)
    (stood h.country h.admd h.network h.terminal w h.organization h.user h.person h.units h.few_units
    (none_else n (with_prmd n m.value).attributes k.alone refl refl refl refl))
keeps_part Organization depth n tag content t m k =
    let h = k.parts in
    subst (λ (s : StandardParts). Stood s.attributes) (sym m.after_is)
    (stood h.country h.admd h.network h.terminal h.prmd m.value_spelled.is_text h.user h.person h.units h.few_units
    (none_else n (with_organization n m.value).attributes k.alone refl refl refl refl))
keeps_part User depth n tag content t m k =
    let h = k.parts in
    subst (λ (s : StandardParts). Stood s.attributes) (sym m.after_is)
    (stood h.country h.admd h.network h.terminal h.prmd h.organization m.value_spelled.is_text h.person h.units
    h.few_units (none_else n (with_user n m.value).attributes k.alone refl refl refl refl))
keeps_part Name depth n tag content t m k =
    let h = k.parts in
    let w = person_is depth tag.constructed content m.value m.value_spelled in
    subst (λ (s : StandardParts). Stood s.attributes) (sym m.after_is)
    (stood h.country h.admd h.network h.terminal h.prmd h.organization h.user w h.units h.few_units
    (none_else n (with_person n m.value).attributes k.alone refl refl refl refl))
keeps_part Units depth n tag content t m k =
    let h = k.parts in
    let w = units_are depth tag.constructed content m.value m.value_spelled in
    subst (λ (s : StandardParts). Stood s.attributes) (sym m.after_is)
    (stood h.country h.admd h.network h.terminal h.prmd h.organization h.user h.person w m.value_spelled.at_most
    (none_else n (with_units n m.value).attributes k.alone refl refl refl refl))

keeps : Keeps MakesStandard (λ s. Stood s.attributes)
keeps depth s t tag content octets stands m k = keeps_part m.part depth s.attributes tag content t m.made k

pub standing : Stood nothing
standing = record {
  parts = record {
    country = tt;
    admd = tt;
    network = tt;
    terminal = tt;
    prmd = tt;
    organization = tt;
    user = tt;
    person = tt;
    units = tt;
    few_units = omega arith;
  };
  alone = record { no_pairs = refl; no_common = refl; no_extras = refl; no_directory = refl };
}

pub standard_is : (depth : ℕ) (c : Bool) (content : List ℕ) (n : Attributes) → SpellsStandard depth c content n
    → Stood n
standard_is depth c content n h = spelled_keep MakesStandard (λ s. Stood s.attributes) keeps depth
    (standard_parts 0 nothing) (standard_parts h.last n) content h.spelled standing
