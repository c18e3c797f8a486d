-- What is kept unread stands in the level of its place, where what has an indefinite length does.
use Rattle.std.proofs.Common.{◌≡◌, ℕ, ◌+◌, ◌≤◌, List, [], ◌∷◌, Option, Some, None, refl, arith}
use Rattle.std.specs.Prelude.{IfSome}
use Rattle.mta_names.specs.declared.attributes.ExtraFields.{ExtraFields}
use Rattle.mta_names.specs.Definite.{DefinitePartsStandEverywhere, FitsAt, NamesThatFitAreKept}
use Rattle.mta_names.specs.Definite.{NamesThatFitAreReadAgain}
use Rattle.mta_names.specs.Laws.{IsRawAt, AreKeptAt}
use Rattle.mta_names.specs.Values.{Each, IsRaw, IsExtra}
use Rattle.mta_names.proofs.Levels.{stands_everywhere}
use Rattle.mta_names.proofs.NameAgain.{names_again}

pub definite_everywhere : DefinitePartsStandEverywhere
definite_everywhere depth class number size octets h is le = record {
  tag = h.tag;
  content = h.content;
  is_tag_of = h.is_tag_of;
  stands = stands_everywhere h.depth depth size h.tag h.content octets h.stands is le;
}

-- a part has a definite length or an indefinite one
pub raw_fits : (depth class number : ℕ) (octets : List ℕ) → IsRaw class number octets → FitsAt depth class number octets
    → depth ≤ 16 → IsRawAt depth class number octets
raw_fits depth class number octets h fits le = go h.stands.count refl
  where
    go : (count : Option ℕ) → h.stands.count ≡ count → IsRawAt depth class number octets
    go None is = fits h is
    go (Some size) is = definite_everywhere depth class number size octets h is le

pub some_fits : (depth class number : ℕ) (o : Option (List ℕ)) → IfSome o (IsRaw class number)
    → IfSome o (FitsAt depth class number) → depth ≤ 16 → IfSome o (IsRawAt depth class number)
some_fits depth class number None h fits le = tt
some_fits depth class number (Some octets) h fits le = raw_fits depth class number octets h fits le

extras_fit : (depth : ℕ) (xs : List ExtraFields) → Each IsExtra xs → Each (λ x. FitsAt depth 2 1 x.raw) xs → depth ≤ 16
    → AreKeptAt depth xs
extras_fit depth [] h fits le = tt
extras_fit depth (x ∷ xs) h fits le = (raw_fits depth 2 1 x.raw h.0.raw fits.0 le, extras_fit depth xs h.1 fits.1 le)

pub name_fits : NamesThatFitAreKept
name_fits depth n h fits le = record {
  extras = extras_fit (depth + 3) n.extras h.extras fits.extras le;
  directory = some_fits (depth + 1) 2 0 n.directory h.directory fits.directory (omega arith);
}

pub fitting_names_again : NamesThatFitAreReadAgain
fitting_names_again tag depth n low is h fits le =
    names_again tag depth n low is h (name_fits depth n h fits (omega arith)) le
