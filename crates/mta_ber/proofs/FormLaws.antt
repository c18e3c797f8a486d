-- Tags in one form, and components under one tag: they are read exactly where they are spelled.
use Rattle.std.proofs.Common.{◌≡◌, ℕ, Bool, true, false, cond, eqb, Result, Ok, refl, sym, ap, ◌∙◌}
use Rattle.std.specs.Prelude.{not}
use Rattle.std.proofs.lemmas.Bool.{eqb-true}
use Rattle.mta_ber.specs.declared.fault.Fault.{Fault}
use Rattle.mta_ber.specs.declared.fault.Kind.TheVariants.{BadTag}
use Rattle.mta_ber.specs.declared.tag.Tag.{Tag}
use Rattle.mta_ber.specs.Components.{Makes, SpellsComponents}
use Rattle.mta_ber.specs.Element.{Part}
use Rattle.mta_ber.specs.Forms.{is_primitive_tag, is_constructed_tag, components_under}
use Rattle.mta_ber.specs.Head.{fault}
use Rattle.mta_ber.specs.Octet.{IsOctets}
use Rattle.mta_ber.specs.Parts.{is_tag, parts_of}
use Rattle.mta_ber.proofs.ComponentLaws.{StepSound, StepFull, parts_sound, parts_full}
use Rattle.mta_ber.proofs.HeadLaws.{and_true}
use Rattle.mta_ber.proofs.Steps.{taken}

not_so : (b : Bool) → not b ≡ true → b ≡ false
not_so true e = sym e
not_so false e = refl

pub primitive_is : (class number : ℕ) (t : Tag) → is_primitive_tag class number t ≡ true → (t.class ≡ class)
    × (t.number ≡ number) × (t.constructed ≡ false)
primitive_is class number t h =
    let a = and_true (is_tag class number t) (not t.constructed) h in
    let b = and_true (eqb t.class class) (eqb t.number number) a.0 in
    (eqb-true t.class class b.0, eqb-true t.number number b.1, not_so t.constructed a.1)

pub constructed_is : (class number : ℕ) (t : Tag) → is_constructed_tag class number t ≡ true → (t.class ≡ class)
    × (t.number ≡ number) × (t.constructed ≡ true)
constructed_is class number t h =
    let a = and_true (is_tag class number t) t.constructed h in
    let b = and_true (eqb t.class class) (eqb t.number number) a.0 in
    (eqb-true t.class class b.0, eqb-true t.number number b.1, a.1)

pub components_under_sound : {S : Type 0} (class number : ℕ) (step : S → Part → Result S Fault) (makes : Makes S)
    → StepSound step makes → (s t : S) (p : Part) → IsOctets p.content
    → components_under class number step s p ≡ Ok t → (is_constructed_tag class number p.tag ≡ true)
    × SpellsComponents makes p.depth s p.content t
components_under_sound class number step makes sound s t p octets e =
    let c = taken (is_constructed_tag class number p.tag) (parts_of step s p) _ t e in
    (c.0, parts_sound step makes sound s t p octets c.1)

pub components_under_full : {S : Type 0} (class number : ℕ) (step : S → Part → Result S Fault) (makes : Makes S)
    → StepFull step makes → (s t : S) (p : Part)
    → is_constructed_tag class number p.tag ≡ true → SpellsComponents makes p.depth s p.content t
    → components_under class number step s p ≡ Ok t
components_under_full class number step makes full s t p is h =
    ap (λ b. cond b (parts_of step s p) (fault p.at BadTag)) is ∙ parts_full step makes full s t p h

-- an element of the tag has its components' parts
pub parts_under : {S : Type 0} (class number : ℕ) (step : S → Part → Result S Fault) (s : S) (p : Part)
    → is_constructed_tag class number p.tag ≡ true → components_under class number step s p ≡ parts_of step s p
parts_under class number step s p is = ap (λ b. cond b (parts_of step s p) (fault p.at BadTag)) is
