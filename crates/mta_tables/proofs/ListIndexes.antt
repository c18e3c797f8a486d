-- Lists with their indexes, where one of them is changed.
use Rattle.std.proofs.Common.{◌≡◌, ℕ, zero, suc, ◌<◌, ◌≤◌, List, [], ◌∷◌, length, get_or, set, Some, refl, sym, ap, ◌∙◌}
use Rattle.std.proofs.Common.{arith}
use Rattle.std.specs.Prelude.{slice_get}
use Rattle.std.specs.List.{AllPairs}
use Rattle.std.proofs.lemmas.List.{length-set}
use Rattle.mta_name_digest.specs.Places.{PlacesValue}
use Rattle.mta_tables.specs.declared.entry.MailList.{MailList}
use Rattle.mta_tables.specs.Indexes.{IsIndex, list_word, list_name, word_digest, digest_of_name}
use Rattle.mta_tables.specs.Sameness.{DifferInWord}
use Rattle.mta_tables.proofs.Indexes.{index_set}

-- few lists, no two of one word, with indexes of their words and of their names
abbrev pub AreIndexed : List MailList → PlacesValue → PlacesValue → Type 0
AreIndexed ls words names = (length ls ≤ 256) × AllPairs DifferInWord ls
    × IsIndex list_word ls words × IsIndex list_name ls names

same_list : (l m : MailList) → Some l ≡ Some m → l ≡ m
same_list l m e = cc

word_at : (ls : List MailList) (i : ℕ) (l m : MailList) → slice_get ls i ≡ Some l → m.word ≡ l.word
    → (j : ℕ) (d : MailList) → (get_or (set ls i m) j d).word ≡ (get_or ls j d).word
word_at [] i l m at w j d = absurd cc
word_at (x ∷ xs) zero l m at w zero d = w ∙ ap (λ (y : MailList). y.word) (same_list l x (sym at))
word_at (x ∷ xs) zero l m at w (suc j) d = refl
word_at (x ∷ xs) (suc i) l m at w zero d = refl
word_at (x ∷ xs) (suc i) l m at w (suc j) d = word_at xs i l m at w j d

apart_set : (ls : List MailList) (i : ℕ) (l m : MailList) → AllPairs DifferInWord ls → slice_get ls i ≡ Some l
    → m.word ≡ l.word → AllPairs DifferInWord (set ls i m)
apart_set ls i l m h at w j k d lt within same =
    let size = length-set ls i m in
    h j k d lt (omega (arith, within, size))
    (sym (word_at ls i l m at w j d) ∙ same ∙ word_at ls i l m at w k d)

-- a list in the place of another one of the same word and name
pub one_changed : (ls : List MailList) (i : ℕ) (l m : MailList) (words names : PlacesValue) → AreIndexed ls words names
    → slice_get ls i ≡ Some l → m.word ≡ l.word → m.name ≡ l.name → AreIndexed (set ls i m) words names
one_changed ls i l m words names h at w n =
    let size = length-set ls i m in
    let few = h.0 in (
      omega (arith, few, size),
      apart_set ls i l m h.1 at w,
      index_set list_word ls i l m words h.2 at (ap word_digest w),
      index_set list_name ls i l m names h.3 at (ap digest_of_name n),
    )
