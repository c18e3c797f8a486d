-- Text forms of names and of patterns: parts KEY=value that follow one another in the order of the keys, joined by
-- semicolons.
use Rattle.std.specs.Prelude.{◌≡◌, ℕ, suc, ◌+◌, ◌-◌, ◌≤◌, ◌<◌, Bool, true, false, IsTrue, List, [], ◌∷◌, ◌++◌}
use Rattle.std.specs.Prelude.{length, map, take, nat_lt, nat_le, ◌==◌, ◌&&◌, ◌||◌, not, if◌then◌else◌}
use Rattle.mta_ber.specs.Strings.{is_empty}
use Rattle.mta_name_text.specs.declared.key.Key.{Key}
use Rattle.mta_name_text.specs.declared.part.Part.{Part}
use Rattle.mta_name_text.specs.declared.place.Grammar.{Grammar}
use Rattle.mta_name_text.specs.declared.place.Grammar.TheVariants.{Names, Patterns}
use Rattle.mta_name_text.specs.declared.place.Place.{Place}
use Rattle.mta_name_text.specs.declared.shape.Shape.TheVariants.{Kind}
use Rattle.mta_name_text.specs.Forms.{part_text, joined}
use Rattle.mta_name_text.specs.Keys.{place_of, repeats, is_surname, needs_surname, has_kind, shape_of}
use Rattle.mta_name_text.specs.Shapes.{is_value}

-- ---- which part may stand behind which

-- behind no part
abbrev pub start : Place
start = record { last = 0; left = 0; surname = false }

-- behind a part of this key
abbrev pub behind : Place → Key → Place
behind p k = record {
  last = place_of k;
  left = (if p.last == place_of k then p.left - 1 else repeats k);
  surname =
      p.surname || is_surname k;
}

-- one more part of the last key
abbrev pub is_again : Place → Key → Bool
is_again p k = (p.last == place_of k) && nat_lt 0 p.left

-- a name has its parts in the order of the keys, with given name, initials and generation only behind a surname; a
-- pattern has country, administration domain, private domain, organization and units, and leaves out none before its
-- last part
abbrev pub follows : Grammar → Place → Key → Bool
follows Names p k = (nat_lt p.last (place_of k) || is_again p k) && (p.surname || not (needs_surname k))
follows Patterns p k = ((p.last + 1 == place_of k) || is_again p k) && nat_le (place_of k) 5

-- ---- what a part may have

-- only a domain-defined attribute has a type
abbrev pub is_kind : Bool → List ℕ → Bool
is_kind true t = is_value Kind t
is_kind false t = is_empty t

pub record IsPart (p : Part) : Type 0 where
  pub kind : IsTrue (is_kind (has_kind p.key) p.kind)
  pub value : IsTrue (is_value (shape_of p.key) p.value)

-- ---- text forms

-- parts each of which may stand behind those before it, from one place to another
abbrev pub Follow : Grammar → Place → List Part → Place → Type 0
Follow g p [] q = p ≡ q
Follow g p (x ∷ xs) q = IsTrue (follows g p x.key) × IsPart x × Follow g (behind p x.key) xs q

-- the text is the text form of these parts, of which there is at least one
pub record IsForm (g : Grammar) (text : List ℕ) (parts : List Part) : Type 0 where
  pub last : Place
  pub follow : Follow g start parts last
  pub some : 1 ≤ length parts
  pub text_is : text ≡ joined (map part_text parts)

-- some text form begins so
pub record IsBegun (g : Grammar) (front : List ℕ) : Type 0 where
  pub rest : List ℕ
  pub parts : List Part
  pub form : IsForm g (front ++ rest) parts

-- the text is no text form, and this is the offset of the first octet at which none goes on
pub record IsFirstFault (g : Grammar) (text : List ℕ) (at : ℕ) : Type 0 where
  pub none : (parts : List Part) → IsForm g text parts → ⊥
  pub within : at ≤ length text
  pub begun : IsBegun g (take at text)
  pub stops : at < length text → IsBegun g (take (suc at) text) → ⊥
