-- A name that is read from a text is one of which the text form says all.
use Rattle.std.proofs.Common.{◌≡◌, ℕ, ◌≤◌, true, false, leb, List, [], ◌∷◌, length, None, refl, sym, subst, ◌↔◌, ◌&&◌}
use Rattle.std.specs.Prelude.{IfSome, IsTrue}
use Rattle.std.specs.List.{list_all}
use Rattle.std.proofs.lemmas.Bool.{and_parts}
use Rattle.mta_ber.specs.Strings.{in_class}
use Rattle.mta_ber.specs.declared.text.TextClass.TheVariants.{Printable}
use Rattle.mta_names.specs.declared.attributes.Attributes.{Attributes}
use Rattle.mta_names.specs.declared.attributes.PairFields.{PairFields}
use Rattle.mta_names.specs.Values.{Each, nothing}
use Rattle.mta_name_text.specs.declared.key.Key.{Key}
use Rattle.mta_name_text.specs.declared.key.Key.TheVariants as Keys
use Rattle.mta_name_text.specs.declared.part.Part.{Part}
use Rattle.mta_name_text.specs.declared.place.Grammar.TheVariants.{Names}
use Rattle.mta_name_text.specs.declared.place.Place.{Place}
use Rattle.mta_name_text.specs.declared.shape.Shape.TheVariants as Shapes
use Rattle.mta_name_text.specs.Forms.{text_form}
use Rattle.mta_name_text.specs.Grammar.{start, behind, IsPart, Follow}
use Rattle.mta_name_text.specs.Made.{pair_of, put, put_at, put_all, IsTextForm, IsTold}
use Rattle.mta_name_text.specs.Reading.{part}
use Rattle.mta_name_text.specs.Shapes.{is_no_equals, is_value}
use Rattle.mta_name_text.proofs.FormsWritten.{form_written, name_parts}
use Rattle.mta_name_text.proofs.NameFits.{each_more, name_fits}
use Rattle.mta_name_text.proofs.NamesAgain.{told_form}

abbrev HasNoEquals : PairFields → Type 0
HasNoEquals p = IsTrue (list_all is_no_equals p.kind)

record IsPlain (n : Attributes) : Type 0 where
  admd : IfSome n.admd (λ l. l.numeric ≡ false)
  prmd : IfSome n.prmd (λ l. l.numeric ≡ false)
  pairs : Each HasNoEquals n.pairs
  extras : n.extras ≡ []
  directory : n.directory ≡ None

no_equals_in : (t : List ℕ) → is_value Shapes.Kind t ≡ true → list_all is_no_equals t ≡ true
unfolding is_value
no_equals_in t h =
    let a = and_parts (list_all is_no_equals t && list_all (in_class Printable) t && leb 1 (length t))
    (leb (length t) 8) h in
    let b = and_parts (list_all is_no_equals t && list_all (in_class Printable) t) (leb 1 (length t)) a.0 in
    (and_parts (list_all is_no_equals t) (list_all (in_class Printable) t) b.0).0

put_plain : (k : Key) (t v : List ℕ) (n : Attributes) → IsPlain n → IsPart (part k t v) → IsPlain (put_at k t v n)
put_plain Keys.Country t v n h i =
    record { admd = h.admd; prmd = h.prmd; pairs = h.pairs; extras = h.extras; directory = h.directory }
put_plain Keys.Admd t v n h i =
    record { admd = refl; prmd = h.prmd; pairs = h.pairs; extras = h.extras; directory = h.directory }
put_plain Keys.Prmd t v n h i =
    record { admd = h.admd; prmd = refl; pairs = h.pairs; extras = h.extras; directory = h.directory }
put_plain Keys.Organization t v n h i =
    record { admd = h.admd; prmd = h.prmd; pairs = h.pairs; extras = h.extras; directory = h.directory }
put_plain Keys.Unit t v n h i =
    record { admd = h.admd; prmd = h.prmd; pairs = h.pairs; extras = h.extras; directory = h.directory }
put_plain Keys.Surname t v n h i =
    record { admd = h.admd; prmd = h.prmd; pairs = h.pairs; extras = h.extras; directory = h.directory }
put_plain Keys.Given t v n h i =
    record { admd = h.admd; prmd = h.prmd; pairs = h.pairs; extras = h.extras; directory = h.directory }
put_plain Keys.Initials t v n h i =
    record { admd = h.admd; prmd = h.prmd; pairs = h.pairs; extras = h.extras; directory = h.directory }
put_plain Keys.Generation t v n h i =
    record { admd = h.admd; prmd = h.prmd; pairs = h.pairs; extras = h.extras; directory = h.directory }
put_plain Keys.Common t v n h i =
    record { admd = h.admd; prmd = h.prmd; pairs = h.pairs; extras = h.extras; directory = h.directory }
put_plain Keys.Network t v n h i =
    record { admd = h.admd; prmd = h.prmd; pairs = h.pairs; extras = h.extras; directory = h.directory }
put_plain Keys.Terminal t v n h i =
    record { admd = h.admd; prmd = h.prmd; pairs = h.pairs; extras = h.extras; directory = h.directory }
put_plain Keys.User t v n h i =
    record { admd = h.admd; prmd = h.prmd; pairs = h.pairs; extras = h.extras; directory = h.directory }
put_plain Keys.Pair t v n h i =
    record {
      admd = h.admd;
      prmd = h.prmd;
      pairs =
          each_more HasNoEquals n.pairs (pair_of t v) h.pairs (no_equals_in t i.kind);
      extras = h.extras;
      directory =
          h.directory;
    }

all_plain : (xs : List Part) (p q : Place) (n : Attributes) → IsPlain n → Follow Names p xs q → IsPlain (put_all n xs)
all_plain [] p q n h f = h
all_plain (x ∷ xs) p q n h f = all_plain xs (behind p x.key) q (put n x) (put_plain x.key x.kind x.value n h f.1) f.2

form_told : (text : List ℕ) (n : Attributes) → IsTextForm text n → IsTold n
form_told text n h =
    let plain : IsPlain n = subst IsPlain (sym h.name_is)
    (all_plain h.parts start h.form.last nothing
    (record { admd = tt; prmd = tt; pairs = tt; extras = refl; directory = refl }) h.form.follow) in
    record {
      name = name_fits text n h;
      some = subst (λ ps. 1 ≤ length ps) (sym (name_parts text n h)) h.form.some;
      admd = plain.admd;
      prmd = plain.prmd;
      pairs = plain.pairs;
      extras = plain.extras;
      directory = plain.directory;
    }

pub forms_told : (text : List ℕ) (n : Attributes) → IsTextForm text n ↔ (IsTold n × (text ≡ text_form n))
forms_told text n = (
  λ h. (form_told text n h, form_written text n h),
  λ h. subst (λ t. IsTextForm t n) (sym h.1) (told_form n h.0),
)
