-- Components of personal names that are neighbours may change places.
use Rattle.std.proofs.Common.{◌≡◌, ℕ, List, None, refl, ap, subst, ◌∙◌}
use Rattle.mta_names.specs.declared.person.PersonPart.{PersonPart}
use Rattle.mta_names.specs.declared.person.PersonPart.TheVariants.{Surname, Given, Initials, Generation}
use Rattle.mta_names.specs.declared.person.PersonParts.{PersonParts}
use Rattle.mta_names.specs.Persons.{person_slot, with_person_part, MakesPerson}
use Rattle.mta_set_laws.specs.Orders.{ChangePlaces}

apart : (j k : PersonPart) (s : PersonParts) (x y : List ℕ) → person_slot k (with_person_part j s x) ≡ None
    → (person_slot k s ≡ None) × (person_slot j (with_person_part k s y) ≡ person_slot j s)
    × (with_person_part k (with_person_part j s x) y ≡ with_person_part j (with_person_part k s y) x)
apart Surname Surname s x y h = absurd (cc h)
apart Surname Given s x y h = (h, refl, refl)
apart Surname Initials s x y h = (h, refl, refl)
apart Surname Generation s x y h = (h, refl, refl)
apart Given Surname s x y h = (h, refl, refl)
apart Given Given s x y h = absurd (cc h)
apart Given Initials s x y h = (h, refl, refl)
apart Given Generation s x y h = (h, refl, refl)
apart Initials Surname s x y h = (h, refl, refl)
apart Initials Given s x y h = (h, refl, refl)
apart Initials Initials s x y h = absurd (cc h)
apart Initials Generation s x y h = (h, refl, refl)
apart Generation Surname s x y h = (h, refl, refl)
apart Generation Given s x y h = (h, refl, refl)
apart Generation Initials s x y h = (h, refl, refl)
apart Generation Generation s x y h = absurd (cc h)

pub persons_change : ChangePlaces MakesPerson
persons_change depth s t u a b h k =
    let m = h.made in
    let n = k.made in
    let x = m.puts.value in
    let y = n.puts.value in
    let w = apart m.part n.part s x y (subst (λ r. person_slot n.part r ≡ None) m.puts.after_is n.absent) in (
      with_person_part n.part s y,
      record {
        tag = k.tag;
        content = k.content;
        stands = k.stands;
        made = record {
          part = n.part;
          is_tag_of = n.is_tag_of;
          absent = w.0;
          puts = record { value = y; value_spelled = n.puts.value_spelled; after_is = refl };
        };
      },
      record {
        tag = h.tag;
        content = h.content;
        stands = h.stands;
        made = record {
          part = m.part;
          is_tag_of = m.is_tag_of;
          absent = w.1 ∙ m.absent;
          puts = record {
            value = x;
            value_spelled = m.puts.value_spelled;
            after_is = n.puts.after_is ∙ ap (λ r. with_person_part n.part r y) m.puts.after_is ∙ w.2;
          };
        };
      },
    )
