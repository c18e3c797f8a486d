-- Content types are read exactly where they are spelled.
use Rattle.std.proofs.Common.{◌≡◌, ℕ, true, false, List, Ok, refl, sym, subst, inl, inr}
use Rattle.mta_ber.specs.declared.tag.Tag.{Tag}
use Rattle.mta_ber.specs.Element.{Part}
use Rattle.mta_ber.specs.Oid.{oid_in, IsOid}
use Rattle.mta_ber.specs.Parts.{is_tag}
use Rattle.mta_ber.proofs.OidLaws.{oid_sound, oid_full}
use Rattle.mta_ber.proofs.Steps.{bind_ok, chosen, ok_is}
use Rattle.mta_names.specs.Strings.{number_in}
use Rattle.mta_names.proofs.ExtensionLaws.{number_sound, number_full, number_small}
use Rattle.mta_names.proofs.Tools.{tag_is}
use Rattle.mta_envelope_common.specs.declared.kind.ContentKind.{ContentKind}
use Rattle.mta_envelope_common.specs.declared.kind.ContentKind.TheVariants.{Number, Oid}
use Rattle.mta_envelope_common.specs.ContentKinds.{IsContentKind, content_kind_in, SpellsContentKind}

abbrev number : ℕ → ContentKind
number n = Number n

abbrev oid : List ℕ → ContentKind
oid o = Oid o

other_tag : (t : Tag) → is_tag 0 6 t ≡ true → is_tag 1 6 t ≡ false
other_tag t h = let e = tag_is 0 6 t h in rw e.0 refl

pub kind_sound : (k : ContentKind) (p : Part) → content_kind_in p ≡ Ok k
    → SpellsContentKind p.depth p.tag p.content p.octets k
unfolding content_kind_in
kind_sound k p e =
    elim (chosen (is_tag 1 6 p.tag) _ _ _ e) [
      | inl y ↦ (let b = bind_ok (number_in 0 32767 p) (λ n. Ok (number n)) k y.1 in
          subst (λ x. SpellsContentKind p.depth p.tag p.content p.octets x) {x = number b.0} (ok_is (number b.0) k b.2)
          (y.0, number_sound 0 32767 b.0 p b.1))
      | inr n ↦ elim (chosen (is_tag 0 6 p.tag) _ _ _ n.1) [
        | inl y ↦ (let b = bind_ok (oid_in p) (λ o. Ok (oid o)) k y.1 in
            subst (λ x. SpellsContentKind p.depth p.tag p.content p.octets x) {x = oid b.0} (ok_is (oid b.0) k b.2)
            (y.0, oid_sound p b.0 b.1))
        | inr n ↦ absurd (cc n.1)
      ]
    ]

pub kind_full : (k : ContentKind) (p : Part) → SpellsContentKind p.depth p.tag p.content p.octets k
    → content_kind_in p ≡ Ok k
unfolding content_kind_in
kind_full (Number n) p h = (let r = number_full 0 32767 n p h.1 in rw (h.0, r) refl)
kind_full (Oid o) p h = (let r = oid_full p o h.1 in rw (other_tag p.tag h.0, h.0, r) refl)

-- what is spelled is a content type
pub kind_is : (depth : ℕ) (tag : Tag) (content octets : List ℕ) (k : ContentKind)
    → SpellsContentKind depth tag content octets k → IsContentKind k
kind_is depth tag content octets (Number n) h = number_small 0 32767 n tag.constructed content h.1
kind_is depth tag content octets (Oid o) h = subst IsOid (sym h.1.kept) h.1.is_oid_of
