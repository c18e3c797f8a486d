-- Words and passwords of tables are texts of IA5String.
use Rattle.std.proofs.Common.{◌≡◌, ℕ, ◌<◌, ◌&&◌, ◌||◌, ◌==◌, nat_le, Bool, true, List, [], ◌∷◌, length, refl, inl}
use Rattle.std.proofs.Common.{inr, arith}
use Rattle.std.specs.Prelude.{IsTrue}
use Rattle.std.specs.List.{list_all}
use Rattle.std.proofs.lemmas.Bool.{and_parts, and_from, or_cases, leb-true, eqb-true, lt-ltb}
use Rattle.mta_ber.specs.declared.text.TextClass.TheVariants.{Ia5}
use Rattle.mta_ber.specs.Strings.{IsText, in_class, between}
use Rattle.mta_tables.specs.Words.{is_word_octet, is_word, is_password_octet, is_password}
use Rattle.mta_worker.specs.Names.{IsName}

-- what passes one test passes a wider one
weaker : (p q : ℕ → Bool) → ((c : ℕ) → p c ≡ true → q c ≡ true) → (w : List ℕ) → list_all p w ≡ true →
    list_all q w ≡ true
weaker p q wide [] h = refl
weaker p q wide (c ∷ cs) h =
    let both = and_parts (p c) (list_all p cs) h in
    and_from (q c) (list_all q cs) (wide c both.0) (weaker p q wide cs both.1)

below : (low high c : ℕ) → high < 128 → between low high c ≡ true → c < 128
below low high c small h =
    let most = leb-true c high (and_parts (nat_le low c) (nat_le c high) h).1 in omega arith

word_octet : (c : ℕ) → is_word_octet c ≡ true → in_class Ia5 c ≡ true
word_octet c h =
    lt-ltb c 128 (elim (or_cases (between 65 90 c || between 97 122 c || between 48 57 c) (c == 45) h) [
      | inl h ↦ elim (or_cases (between 65 90 c || between 97 122 c) (between 48 57 c) h) [
        | inl h ↦ elim (or_cases (between 65 90 c) (between 97 122 c) h) [
          | inl h ↦ below 65 90 c (omega arith) h
          | inr h ↦ below 97 122 c (omega arith) h
        ]
        | inr h ↦ below 48 57 c (omega arith) h
      ]
      | inr h ↦ (let same = eqb-true c 45 h in omega arith)
    ])

password_octet : (c : ℕ) → is_password_octet c ≡ true → in_class Ia5 c ≡ true
password_octet c h = lt-ltb c 128 (below 33 126 c (omega arith) h)

pub word_is_name : (w : List ℕ) → IsTrue (is_word w) → IsName w
word_is_name w h =
    let both = and_parts (list_all is_word_octet w && nat_le 1 (length w)) (nat_le (length w) 32) h in
    let front = and_parts (list_all is_word_octet w) (nat_le 1 (length w)) both.0 in
    record {
      characters = weaker is_word_octet (in_class Ia5) word_octet w front.0;
      at_least = leb-true 1 (length w) front.1;
      at_most = leb-true (length w) 32 both.1;
    }

pub password_is_text : (w : List ℕ) → IsTrue (is_password w) → IsText Ia5 0 62 w
password_is_text w h =
    let both = and_parts (list_all is_password_octet w && nat_le 1 (length w)) (nat_le (length w) 62) h in
    let front = and_parts (list_all is_password_octet w) (nat_le 1 (length w)) both.0 in
    record {
      characters = weaker is_password_octet (in_class Ia5) password_octet w front.0;
      at_least = omega arith;
      at_most = leb-true (length w) 62 both.1;
    }
