-- Unit names and domain-defined attributes are read exactly where they are spelled.
use Rattle.std.proofs.Common.{◌≡◌, ℕ, Bool, false, List, Option, Some, None, Ok, refl, sym, ap, subst, ◌∙◌, inl, inr}
use Rattle.std.specs.Prelude.{IfSome, is_some}
use Rattle.mta_ber.specs.declared.tag.Tag.{Tag}
use Rattle.mta_ber.specs.declared.text.TextClass.TheVariants.{Printable}
use Rattle.mta_ber.specs.Element.{Part}
use Rattle.mta_ber.specs.Head.{◌>>=◌}
use Rattle.mta_ber.specs.Octet.{IsOctets}
use Rattle.mta_ber.specs.Parts.{components, required}
use Rattle.mta_ber.specs.Segmented.{SpellsText}
use Rattle.mta_ber.specs.Strings.{text_in, IsText}
use Rattle.mta_ber.proofs.ComponentLaws.{StepSound, StepFull}
use Rattle.mta_ber.proofs.ExplicitLaws.{ReadSound, ReadFull}
use Rattle.mta_ber.proofs.Steps.{bind_ok, chosen, ok_is, passed, taken, required_so}
use Rattle.mta_ber.proofs.StringLaws.{text_sound, text_full}
use Rattle.mta_names.specs.declared.attributes.PairFields.{PairFields}
use Rattle.mta_names.specs.declared.pair.PairParts.{PairParts}
use Rattle.mta_names.specs.Lists.{is_printable, is_sequence, units_in, SpellsUnit, SpellsUnits, pair_text, pair_step}
use Rattle.mta_names.specs.Lists.{no_pair, pair, pair_in, pairs_in, MakesPair, SpellsPair, SpellsPairs}
use Rattle.mta_names.specs.Values.{Each, IsPair}
use Rattle.mta_names.proofs.Tools.{puts_sound, puts_full, components_sound, components_full, list_sound, list_full}
use Rattle.mta_names.proofs.Tools.{list_each, Keeps, spelled_keep}

-- ---- unit names

unit_sound : ReadSound (text_in Printable 1 32) SpellsUnit
unit_sound u p shallow content octets e = text_sound Printable 1 32 p u shallow content e

unit_full : ReadFull (text_in Printable 1 32) SpellsUnit
unit_full u p shallow h = text_full Printable 1 32 p u shallow h

pub units_sound : (us : List (List ℕ)) (p : Part) → IsOctets p.content → units_in p ≡ Ok us
    → SpellsUnits p.depth p.tag.constructed p.content us
unfolding units_in
units_sound us p octets e = list_sound is_printable (text_in Printable 1 32) SpellsUnit unit_sound 1 4 p us octets e

pub units_full : (us : List (List ℕ)) (p : Part) → SpellsUnits p.depth p.tag.constructed p.content us
    → units_in p ≡ Ok us
unfolding units_in
units_full us p h = list_full is_printable (text_in Printable 1 32) SpellsUnit unit_full 1 4 p us h

pub units_are : (depth : ℕ) (c : Bool) (content : List ℕ) (us : List (List ℕ)) → SpellsUnits depth c content us
    → Each (IsText Printable 1 32) us
units_are depth c content us h = list_each is_printable (text_in Printable 1 32) SpellsUnit (IsText Printable 1 32)
    (λ depth tag content octets u w. w.is_text) 1 4 depth c content us h

-- ---- domain-defined attributes

none_so : {A : Type 0} (o : Option A) → is_some o ≡ false → o ≡ None
none_so None e = refl
none_so (Some x) e = absurd cc

none_is : {A : Type 0} (o : Option A) → o ≡ None → is_some o ≡ false
none_is o e = rw e refl

step_sound : StepSound pair_step MakesPair
unfolding pair_step
step_sound s t p shallow content octets e =
    let c = taken (is_printable p.tag) (pair_text s p) _ t e in
    let v = passed (is_some s.value) _ _ t c.1 in (
      c.0,
      elim (chosen (is_some s.kind) _ _ _ v.1) [
        | inl y ↦ inr (record {
          some_kind = y.0;
          no_value = none_so s.value v.0;
          puts = puts_sound (text_in Printable 1 128 p) (λ x. record s { value = Some x }) t
              (SpellsText Printable 1 128 p.depth p.tag.constructed p.content)
              (λ x r. text_sound Printable 1 128 p x shallow content r) y.1;
        })
        | inr n ↦ inl (record {
          no_kind = none_so s.kind n.0;
          no_value = none_so s.value v.0;
          puts = puts_sound (text_in Printable 1 8 p) (λ x. record s { kind = Some x }) t
              (SpellsText Printable 1 8 p.depth p.tag.constructed p.content)
              (λ x r. text_sound Printable 1 8 p x shallow content r) n.1;
        })
      ],
    )

step_full : StepFull pair_step MakesPair
unfolding pair_step
step_full s t p shallow h =
    rw h.0 (elim h.1 [
      | inl m ↦ rw (none_is s.value m.no_value, none_is s.kind m.no_kind)
          (puts_full (text_in Printable 1 8 p) (λ x. record s { kind = Some x }) t
          (SpellsText Printable 1 8 p.depth p.tag.constructed p.content)
          (λ x r. text_full Printable 1 8 p x shallow r) m.puts)
      | inr m ↦ rw (none_is s.value m.no_value, m.some_kind)
          (puts_full (text_in Printable 1 128 p) (λ x. record s { value = Some x }) t
          (SpellsText Printable 1 128 p.depth p.tag.constructed p.content)
          (λ x r. text_full Printable 1 128 p x shallow r) m.puts)
    ])

pair_is : (k v k' v' : List ℕ) → k ≡ k' → v ≡ v' → pair k v ≡ pair k' v'
pair_is k v k' v' a b = cc

pub pair_sound : (v : PairFields) (p : Part) → IsOctets p.content → pair_in p ≡ Ok v
    → SpellsPair p.depth p.tag p.content p.octets v
unfolding pair_in
pair_sound v p content e =
    let a = bind_ok (components pair_step no_pair p)
    (λ s. required s.kind p.at >>= λ kind. required s.value p.at >>= λ value. Ok (pair kind value)) v e in
    let c = components_sound pair_step MakesPair step_sound no_pair a.0 p content a.1 in
    let b = bind_ok (required a.0.kind p.at) (λ kind. required a.0.value p.at >>= λ value. Ok (pair kind value)) v a.2
    in
    let d = bind_ok (required a.0.value p.at) (λ value. Ok (pair b.0 value)) v b.2 in
    subst (λ (x : PairFields). SpellsPair p.depth p.tag p.content p.octets x) {x = pair b.0 d.0}
    (ok_is (pair b.0 d.0) v d.2) (record {
      is_constructed = c.0;
      parts = a.0;
      spelled = c.1;
      kind = required_so a.0.kind p.at b.0 b.1;
      value = required_so a.0.value p.at d.0 d.1;
    })

pair_full : ReadFull pair_in SpellsPair
unfolding pair_in
pair_full v p shallow h =
    ap (λ r. r >>= λ s. required s.kind p.at >>= λ kind. required s.value p.at >>= λ value. Ok (pair kind value))
    (components_full pair_step MakesPair step_full no_pair h.parts p h.is_constructed h.spelled)
    ∙ ap (λ o. required o p.at >>= λ kind. required h.parts.value p.at >>= λ value. Ok (pair kind value)) h.kind
    ∙ ap (λ o. required o p.at >>= λ value. Ok (pair v.kind value)) h.value

record Holds (s : PairParts) : Type 0 where
  kind : IfSome s.kind (IsText Printable 1 8)
  value : IfSome s.value (IsText Printable 1 128)

keeps : Keeps MakesPair Holds
keeps depth s t tag content octets stands m h =
    elim m.1 [
      | inl m ↦ subst Holds (sym m.puts.after_is) (record { kind = m.puts.value_spelled.is_text; value = h.value })
      | inr m ↦ subst Holds (sym m.puts.after_is) (record { kind = h.kind; value = m.puts.value_spelled.is_text })
    ]

pub pair_fits : (depth : ℕ) (tag : Tag) (content octets : List ℕ) (v : PairFields)
    → SpellsPair depth tag content octets v → IsPair v
pair_fits depth tag content octets v h =
    let k = spelled_keep MakesPair Holds keeps depth no_pair h.parts content h.spelled
    (record { kind = tt; value = tt }) in
    record {
      kind = subst (λ o. IfSome o (IsText Printable 1 8)) h.kind k.kind;
      value =
          subst (λ o. IfSome o (IsText Printable 1 128)) h.value k.value;
    }

pub pairs_sound : (ps : List PairFields) (p : Part) → IsOctets p.content → pairs_in p ≡ Ok ps
    → SpellsPairs p.depth p.tag.constructed p.content ps
unfolding pairs_in
pairs_sound ps p octets e = list_sound is_sequence pair_in SpellsPair
    (λ v q shallow content own. pair_sound v q content) 1 4 p ps octets e

pub pairs_full : (ps : List PairFields) (p : Part) → SpellsPairs p.depth p.tag.constructed p.content ps
    → pairs_in p ≡ Ok ps
unfolding pairs_in
pairs_full ps p h = list_full is_sequence pair_in SpellsPair pair_full 1 4 p ps h

pub pairs_are : (depth : ℕ) (c : Bool) (content : List ℕ) (ps : List PairFields) → SpellsPairs depth c content ps
    → Each IsPair ps
pairs_are depth c content ps h = list_each is_sequence pair_in SpellsPair IsPair pair_fits 1 4 depth c content ps h
