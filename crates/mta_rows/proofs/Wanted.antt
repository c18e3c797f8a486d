-- What is wanted of an answer, by the first of the fields and what stands behind it.
use Rattle.std.proofs.Common.{◌≡◌, ℕ, ◌<◌, ◌==◌, ◌||◌, ◌&&◌, not, Bool, true, false, List, ◌∷◌}
use Rattle.std.proofs.Common.{length, refl, sym, ap, ◌∙◌}
use Rattle.std.specs.List.{list_any, position_or_len, before_first, after_first}
use Rattle.std.specs.Str.{bytes_eq}
use Rattle.std.proofs.lemmas.List.Splits.{slice_split_first}
use Rattle.mta_rows.specs.Texts.{fields_of, is_wanted}
use Rattle.mta_rows.proofs.Parts.{part_alone}

abbrev pub is_tab : ℕ → Bool
is_tab c = c == 9

pub wanted_alone : (text field : List ℕ) (is_last result : Bool) → position_or_len is_tab field ≡ length field
    → result ≡ bytes_eq text field → result ≡ is_wanted text is_last (fields_of field)
wanted_alone text field is_last result e r =
    r ∙ by (bytes_eq text field) is_last ∙ ap (is_wanted text is_last) (sym (part_alone is_tab field e))
  where
    by : (b l : Bool) → b ≡ (b || (not l && false))
    by true l = refl
    by false true = refl
    by false false = refl

module _ (text fields last others : List ℕ) (is_last same : Bool) (is : same ≡ bytes_eq text last)
    (first : last ≡ before_first is_tab fields) (behind : others ≡ after_first is_tab fields)
    (some : position_or_len is_tab fields < length fields) where
  cut : fields_of fields ≡ last ∷ fields_of others
  cut = slice_split_first is_tab fields 0 some
      ∙ ap (λ (x : List ℕ). x ∷ fields_of (after_first is_tab fields)) (sym first)
      ∙ ap (λ (x : List ℕ). last ∷ fields_of x) (sym behind)

  whole : (result : Bool) → result ≡ (same || (not is_last && list_any (bytes_eq text) (fields_of others)))
      → result ≡ is_wanted text is_last (fields_of fields)
  whole result r =
      r ∙ ap (λ (b : Bool). b || (not is_last && list_any (bytes_eq text) (fields_of others))) is
      ∙ ap (is_wanted text is_last) (sym cut)

  pub wanted_first : same ≡ true → same ≡ is_wanted text is_last (fields_of fields)
  wanted_first e = whole same (by same e)
    where
      by : (b : Bool) → b ≡ true → b ≡ (b || (not is_last && list_any (bytes_eq text) (fields_of others)))
      by true e = refl
      by false e = absurd cc

  pub wanted_behind : (said : Bool) → same ≡ false → is_last ≡ false
      → said ≡ list_any (bytes_eq text) (fields_of others) → said ≡ is_wanted text is_last (fields_of fields)
  wanted_behind said e l r = whole said (by same is_last e l)
    where
      by : (b n : Bool) → b ≡ false → n ≡ false
          → said ≡ (b || (not n && list_any (bytes_eq text) (fields_of others)))
      by false false e l = r
      by true n e l = absurd cc
      by false true e l = absurd cc

  pub wanted_none : same ≡ false → is_last ≡ true → not is_last ≡ is_wanted text is_last (fields_of fields)
  wanted_none e l = whole (not is_last) (by same is_last e l)
    where
      by : (b n : Bool) → b ≡ false → n ≡ true
          → not n ≡ (b || (not n && list_any (bytes_eq text) (fields_of others)))
      by false true e l = refl
      by true n e l = absurd cc
      by false false e l = absurd cc
