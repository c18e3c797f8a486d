-- O/R names of a country, an administration domain and a surname alone (X.402, 18.3).
use Rattle.std.specs.Prelude.{false, List, ℕ, Some, None}
use Rattle.mta_names.specs.declared.attributes.Attributes.{Attributes}
use Rattle.mta_names.specs.declared.attributes.Label.{Label}
use Rattle.mta_names.specs.declared.attributes.Person.{Person}
use Rattle.mta_names.specs.Values.{nothing}

abbrev pub label_of : List ℕ → Label
label_of text = record { numeric = false; text = text }

abbrev pub person_of : List ℕ → Person
person_of surname = record { surname = surname; given = None; initials = None; generation = None }

-- the name that has these three and nothing else
abbrev pub name_of_surname : List ℕ → List ℕ → List ℕ → Attributes
name_of_surname country admd surname = record nothing {
  country = Some (label_of country);
  admd = Some (label_of admd);
  person = Some (person_of surname);
}
