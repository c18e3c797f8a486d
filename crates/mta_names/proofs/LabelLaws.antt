-- Labels are read exactly where they are spelled.
use Rattle.std.proofs.Common.{◌≡◌, ℕ, ◌≤◌, Bool, true, false, List, length, Result, Ok, refl, sym, subst, arith, inl}
use Rattle.std.proofs.Common.{inr}
use Rattle.std.specs.Prelude.{not}
use Rattle.std.specs.List.{list_all}
use Rattle.std.proofs.lemmas.Bool.{not-false}
use Rattle.mta_ber.specs.declared.fault.Fault.{Fault}
use Rattle.mta_ber.specs.declared.tag.Tag.{Tag}
use Rattle.mta_ber.specs.Element.{Part}
use Rattle.mta_ber.specs.Head.{◌>>=◌}
use Rattle.mta_ber.specs.Octet.{IsOctets}
use Rattle.mta_ber.specs.Parts.{is_tag}
use Rattle.mta_ber.specs.Segmented.{SpellsOctets}
use Rattle.mta_ber.specs.Strings.{joined, own_number, in_class, between}
use Rattle.mta_ber.proofs.ExplicitLaws.{ReadSound, ReadFull, explicit_sound, explicit_full}
use Rattle.mta_ber.proofs.Steps.{bind_ok, chosen, ok_is, passed}
use Rattle.mta_ber.proofs.StringLaws.{joined_sound, joined_full}
use Rattle.mta_names.specs.declared.attributes.Label.{Label}
use Rattle.mta_names.specs.Labels.{label, label_number, choice, country_choice, label_choice, country_in, label_in}
use Rattle.mta_names.specs.Labels.{SpellsChoice, SpellsLabel}
use Rattle.mta_names.specs.Strings.{string_in}
use Rattle.mta_names.specs.Values.{country_character, country_size, label_class, IsCountry, IsLabel}
use Rattle.mta_names.proofs.Tools.{tag_is, so_between, between_so}

own_is : (n : ℕ) (t : Tag) → is_tag 0 n t ≡ true → own_number t ≡ n
own_is n t h = let e = tag_is 0 n t h in rw e.0 e.1

pub record IsString (good : List ℕ → Bool) (low high : ℕ) (t : List ℕ) : Type 0 where
  pub passes : good t ≡ true
  pub at_least : low ≤ length t
  pub at_most : length t ≤ high

string_sound : (good : List ℕ → Bool) (low high n : ℕ) (p : Part) (t : List ℕ) → is_tag 0 n p.tag ≡ true → p.depth ≤ 16
    → IsOctets p.content → string_in good low high p ≡ Ok t
    → SpellsOctets n p.depth p.tag.constructed p.content t × IsString good low high t
unfolding string_in
string_sound good low high n p t is shallow octets e =
    let j = bind_ok (joined p) _ t e in
    let a = passed (not (good j.0)) _ _ t j.2 in
    let b = passed (not (between low high (length j.0))) _ _ t a.1 in
    let same = ok_is j.0 t b.1 in
    let size = between_so low high (length j.0) (not-false (between low high (length j.0)) b.0) in
    let spelled = joined_sound (own_number p.tag) p j.0 shallow octets j.1 in
    subst (λ x. SpellsOctets n p.depth p.tag.constructed p.content x × IsString good low high x) same (
      subst (λ own. SpellsOctets own p.depth p.tag.constructed p.content j.0) (own_is n p.tag is) spelled,
      record { passes = not-false (good j.0) a.0; at_least = size.0; at_most = size.1 },
    )

string_full : (good : List ℕ → Bool) (low high n : ℕ) (p : Part) (t : List ℕ) → is_tag 0 n p.tag ≡ true → p.depth ≤ 16
    → SpellsOctets n p.depth p.tag.constructed p.content t → IsString good low high t → string_in good low high p ≡ Ok t
unfolding string_in
string_full good low high n p t is shallow h s =
    let g : joined p ≡ Ok t = joined_full (own_number p.tag) p t shallow
    (subst (λ own. SpellsOctets own p.depth p.tag.constructed p.content t) (sym (own_is n p.tag is)) h) in
    let size = so_between low high (length t) s.at_least s.at_most in
    rw (g, s.passes, size) refl

-- a numeric tag has not the number of a printable one
other_number : (t : Tag) → is_tag 0 19 t ≡ true → is_tag 0 18 t ≡ false
other_number t h = let e = tag_is 0 19 t h in rw (e.0, e.1) refl

module _ (good : Bool → List ℕ → Bool) (low high : Bool → ℕ) (fits : Label → Type 0)
    (right : (b : Bool) (t : List ℕ) → IsString (good b) (low b) (high b) t → fits (label b t))
    (back : (b : Bool) (t : List ℕ) → fits (label b t) → IsString (good b) (low b) (high b) t) where
  abbrev reader : Part → Result Label Fault
  reader p = choice (λ b. string_in (good b) (low b) (high b)) p

  one_sound : (b : Bool) (l : Label) (p : Part) → is_tag 0 (label_number b) p.tag ≡ true → p.depth ≤ 16
      → IsOctets p.content → (string_in (good b) (low b) (high b) p >>= λ t. Ok (label b t)) ≡ Ok l
      → SpellsChoice fits p.depth p.tag p.content p.octets l
  one_sound b l p is shallow octets e =
      let r = bind_ok (string_in (good b) (low b) (high b) p) (λ t. Ok (label b t)) l e in
      let s = string_sound (good b) (low b) (high b) (label_number b) p r.0 is shallow octets r.1 in
      subst (λ x. SpellsChoice fits p.depth p.tag p.content p.octets x) (ok_is (label b r.0) l r.2)
      (record { is_tag_of = is; spelled = s.0; fits_so = right b r.0 s.1 })

  pub choice_sound : (l : Label) (p : Part) → p.depth ≤ 16 → IsOctets p.content → IsOctets p.octets → reader p ≡ Ok l
      → SpellsChoice fits p.depth p.tag p.content p.octets l
  choice_sound l p shallow octets own e =
      elim (chosen (is_tag 0 18 p.tag) _ _ _ e) [
        | inl y ↦ one_sound true l p y.0 shallow octets y.1
        | inr n ↦ elim (chosen (is_tag 0 19 p.tag) _ _ _ n.1) [
          | inl y ↦ one_sound false l p y.0 shallow octets y.1
          | inr n ↦ absurd (cc n.1)
        ]
      ]

  at_numeric : (b : Bool) (t : List ℕ) (p : Part) → p.depth ≤ 16
      → SpellsChoice fits p.depth p.tag p.content p.octets (label b t) → reader p ≡ Ok (label b t)
  at_numeric true t p shallow h =
      let r = string_full (good true) (low true) (high true) 18 p t h.is_tag_of shallow h.spelled
      (back true t h.fits_so) in
      rw (h.is_tag_of, r) refl
  at_numeric false t p shallow h =
      let r = string_full (good false) (low false) (high false) 19 p t h.is_tag_of shallow h.spelled
      (back false t h.fits_so) in
      rw (other_number p.tag h.is_tag_of, h.is_tag_of, r) refl

  pub choice_full : (l : Label) (p : Part) → p.depth ≤ 16 → SpellsChoice fits p.depth p.tag p.content p.octets l
      → reader p ≡ Ok l
  choice_full l p shallow h = at_numeric l.numeric l.text p shallow h

-- ---- countries

country_right : (b : Bool) (t : List ℕ) → IsString (list_all (country_character b)) (country_size b) (country_size b) t
    → IsCountry (label b t)
country_right b t h = record { characters = h.passes; size = let a = h.at_least in let z = h.at_most in omega arith }

country_back : (b : Bool) (t : List ℕ) → IsCountry (label b t)
    → IsString (list_all (country_character b)) (country_size b) (country_size b) t
country_back b t h = record {
  passes = h.characters;
  at_least = let s = h.size in omega arith;
  at_most = let s =
      h.size in omega arith;
}

abbrev country_good : Bool → List ℕ → Bool
country_good b t = list_all (country_character b) t

country_choice_sound : ReadSound country_choice (SpellsChoice IsCountry)
unfolding country_choice
country_choice_sound l p shallow content octets e =
    choice_sound country_good country_size country_size IsCountry country_right country_back l p shallow content octets
    e

country_choice_full : ReadFull country_choice (SpellsChoice IsCountry)
unfolding country_choice
country_choice_full l p shallow h =
    choice_full country_good country_size country_size IsCountry country_right country_back l p shallow h

pub country_sound : (l : Label) (p : Part) → IsOctets p.content → country_in p ≡ Ok l
    → SpellsLabel IsCountry p.depth p.tag.constructed p.content l
country_sound l p octets e = explicit_sound country_choice (SpellsChoice IsCountry) country_choice_sound l p octets e

pub country_full : (l : Label) (p : Part) → SpellsLabel IsCountry p.depth p.tag.constructed p.content l
    → country_in p ≡ Ok l
country_full l p h = explicit_full country_choice (SpellsChoice IsCountry) country_choice_full l p h

-- ---- labels of domains

abbrev label_good : Bool → List ℕ → Bool
label_good b t = list_all (in_class (label_class b)) t

module _ (low high : ℕ) where
  label_right : (b : Bool) (t : List ℕ) → IsString (label_good b) low high t → IsLabel low high (label b t)
  label_right b t h = record { characters = h.passes; at_least = h.at_least; at_most = h.at_most }

  label_back : (b : Bool) (t : List ℕ) → IsLabel low high (label b t) → IsString (label_good b) low high t
  label_back b t h = record { passes = h.characters; at_least = h.at_least; at_most = h.at_most }

  pub label_choice_sound : ReadSound (label_choice low high) (SpellsChoice (IsLabel low high))
  unfolding label_choice
  label_choice_sound l p shallow content octets e =
      choice_sound label_good (λ _. low) (λ _. high) (IsLabel low high) label_right label_back l p shallow content
      octets e

  pub label_choice_full : ReadFull (label_choice low high) (SpellsChoice (IsLabel low high))
  unfolding label_choice
  label_choice_full l p shallow h =
      choice_full label_good (λ _. low) (λ _. high) (IsLabel low high) label_right label_back l p shallow h

  pub label_sound : (l : Label) (p : Part) → IsOctets p.content → label_in low high p ≡ Ok l
      → SpellsLabel (IsLabel low high) p.depth p.tag.constructed p.content l
  label_sound l p octets e = explicit_sound (label_choice low high)
      (SpellsChoice (IsLabel low high)) label_choice_sound l p octets e

  pub label_full : (l : Label) (p : Part) → SpellsLabel (IsLabel low high) p.depth p.tag.constructed p.content l
      → label_in low high p ≡ Ok l
  label_full l p h = explicit_full (label_choice low high) (SpellsChoice (IsLabel low high)) label_choice_full l p h

-- what is spelled is such as it may be
pub label_fits : (fits : Label → Type 0) (depth : ℕ) (c : Bool) (content : List ℕ) (l : Label)
    → SpellsLabel fits depth c content l → fits l
label_fits fits depth c content l h = h.spelled.fits_so
