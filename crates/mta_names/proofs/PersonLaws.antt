-- Personal names are read exactly where they are spelled.
use Rattle.std.proofs.Common.{◌≡◌, ℕ, Bool, true, List, Option, Some, None, Ok, refl, sym, ap, subst, ◌∙◌}
use Rattle.std.specs.Prelude.{IfSome}
use Rattle.mta_ber.specs.declared.tag.Tag.{Tag}
use Rattle.mta_ber.specs.declared.text.TextClass.TheVariants.{Printable}
use Rattle.mta_ber.specs.Element.{Part}
use Rattle.mta_ber.specs.Head.{◌>>=◌}
use Rattle.mta_ber.specs.Octet.{IsOctets}
use Rattle.mta_ber.specs.Parts.{components, is_tag, once, required}
use Rattle.mta_ber.specs.Segmented.{SpellsText}
use Rattle.mta_ber.specs.Strings.{text_in, IsText}
use Rattle.mta_ber.proofs.ComponentLaws.{StepSound, StepFull}
use Rattle.mta_ber.proofs.Steps.{bind_ok, ok_is, placed, required_so}
use Rattle.mta_ber.proofs.StringLaws.{text_sound, text_full}
use Rattle.mta_names.specs.declared.attributes.PersonFields.{PersonFields}
use Rattle.mta_names.specs.declared.person.PersonParts.{PersonParts}
use Rattle.mta_names.specs.declared.person.PersonPart.{PersonPart}
use Rattle.mta_names.specs.declared.person.PersonPart.TheVariants.{Surname, Given, Initials, Generation}
use Rattle.mta_names.specs.Persons.{person_number, person_size, person_part_of, person_slot, with_person_part}
use Rattle.mta_names.specs.Persons.{person_step_of, person_step, no_person, person, person_in, MakesPersonPart}
use Rattle.mta_names.specs.Persons.{MakesPerson, SpellsPerson}
use Rattle.mta_names.specs.Values.{IsPerson}
use Rattle.mta_names.proofs.Tools.{puts_full, tag_is, picked, not_none, components_sound, components_full, Keeps}
use Rattle.mta_names.proofs.Tools.{spelled_keep}

tagged : (t : Tag) (k : PersonPart) → person_part_of t ≡ Some k → is_tag 2 (person_number k) t ≡ true
tagged t =
    let P : PersonPart → Type 0 = λ k. is_tag 2 (person_number k) t ≡ true in
    picked P (is_tag 2 0 t) Surname _ (λ e. e)
    (picked P (is_tag 2 1 t) Given _ (λ e. e)
    (picked P (is_tag 2 2 t) Initials _ (λ e. e) (picked P (is_tag 2 3 t) Generation _ (λ e. e) (not_none P))))

found : (k : PersonPart) (t : Tag) → is_tag 2 (person_number k) t ≡ true → person_part_of t ≡ Some k
found Surname t h = let e = tag_is 2 0 t h in rw (e.0, e.1) refl
found Given t h = let e = tag_is 2 1 t h in rw (e.0, e.1) refl
found Initials t h = let e = tag_is 2 2 t h in rw (e.0, e.1) refl
found Generation t h = let e = tag_is 2 3 t h in rw (e.0, e.1) refl

step_sound : StepSound person_step MakesPerson
unfolding person_step
step_sound s t p shallow content octets e = go (person_part_of p.tag) refl e
  where
    go : (o : Option PersonPart) → person_part_of p.tag ≡ o → person_step_of o s p ≡ Ok t
        → MakesPersonPart p.depth s p.tag p.content t
    go None is e = absurd cc
    go (Some k) is e =
        let q = placed (person_slot k s) p.at (text_in Printable 1 (person_size k) p) (with_person_part k s) t e in
        record {
          part = k;
          is_tag_of = tagged p.tag k is;
          absent = q.1;
          puts = record {
            value = q.0;
            value_spelled = text_sound Printable 1 (person_size k) p q.0 shallow content q.2;
            after_is = sym q.3;
          };
        }

step_full : StepFull person_step MakesPerson
unfolding person_step
step_full s t p shallow h =
    let k = h.part in
    let read = text_in Printable 1 (person_size k) p in
    ap (λ o. person_step_of o s p) (found k p.tag h.is_tag_of)
    ∙ ap (λ held. once held p.at read >>= λ t. Ok (with_person_part k s t)) h.absent
    ∙ puts_full read (with_person_part k s) t
    (SpellsText Printable 1 (person_size k) p.depth p.tag.constructed p.content)
    (λ x w. text_full Printable 1 (person_size k) p x shallow w) h.puts

pub person_sound : (v : PersonFields) (p : Part) → IsOctets p.content → person_in p ≡ Ok v
    → SpellsPerson p.depth p.tag.constructed p.content v
unfolding person_in
person_sound v p octets e =
    let a = bind_ok (components person_step no_person p) (λ s. required s.surname p.at >>= λ t. Ok (person t s)) v e in
    let c = components_sound person_step MakesPerson step_sound no_person a.0 p octets a.1 in
    let b = bind_ok (required a.0.surname p.at) (λ t. Ok (person t a.0)) v a.2 in
    let same = ok_is (person b.0 a.0) v b.2 in
    subst (λ (x : PersonFields). SpellsPerson p.depth p.tag.constructed p.content x) same (record {
      is_constructed = c.0;
      parts = a.0;
      spelled = c.1;
      surname = required_so a.0.surname p.at b.0 b.1;
      value = refl;
    })

pub person_full : (v : PersonFields) (p : Part) → SpellsPerson p.depth p.tag.constructed p.content v
    → person_in p ≡ Ok v
unfolding person_in
person_full v p h =
    ap (λ r. r >>= λ s. required s.surname p.at >>= λ t. Ok (person t s))
    (components_full person_step MakesPerson step_full no_person h.parts p h.is_constructed h.spelled)
    ∙ ap (λ o. required o p.at >>= λ t. Ok (person t h.parts)) h.surname
    ∙ ap (λ (x : PersonFields). Ok x) (sym h.value)

-- ---- what is spelled is a personal name

record Holds (s : PersonParts) : Type 0 where
  surname : IfSome s.surname (IsText Printable 1 40)
  given : IfSome s.given (IsText Printable 1 16)
  initials : IfSome s.initials (IsText Printable 1 5)
  generation : IfSome s.generation (IsText Printable 1 3)

holds_more : (k : PersonPart) (s : PersonParts) (t : List ℕ) → Holds s → IsText Printable 1 (person_size k) t
    → Holds (with_person_part k s t)
holds_more Surname s t h w = record { surname = w; given = h.given; initials = h.initials; generation = h.generation }
holds_more Given s t h w = record { surname = h.surname; given = w; initials = h.initials; generation = h.generation }
holds_more Initials s t h w = record { surname = h.surname; given = h.given; initials = w; generation = h.generation }
holds_more Generation s t h w = record { surname = h.surname; given = h.given; initials = h.initials; generation = w }

keeps : Keeps MakesPerson Holds
keeps depth s t tag content octets stands m h =
    subst Holds (sym m.puts.after_is) (holds_more m.part s m.puts.value h m.puts.value_spelled.is_text)

pub person_is : (depth : ℕ) (c : Bool) (content : List ℕ) (v : PersonFields) → SpellsPerson depth c content v
    → IsPerson v
person_is depth c content v h =
    let k = spelled_keep MakesPerson Holds keeps depth no_person h.parts content h.spelled
    (record { surname = tt; given = tt; initials = tt; generation = tt }) in
    let surname : IsText Printable 1 40 v.surname = subst (λ o. IfSome o (IsText Printable 1 40)) h.surname k.surname in
    subst IsPerson (sym h.value) (record {
      surname = surname;
      given = k.given;
      initials = k.initials;
      generation =
          k.generation;
    })
