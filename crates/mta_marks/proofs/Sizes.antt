-- How many octets the body of a mark has.
use Rattle.std.proofs.Common.{◌≡◌, ◌+◌, ◌≤◌, ℕ, leb, true, List, ◌∷◌, length, arith}
use Rattle.std.specs.Prelude.{◌&&◌}
use Rattle.std.specs.List.{list_all}
use Rattle.std.specs.Int.{w32}
use Rattle.std.proofs.lemmas.Bool.{and_parts, leb-true}
use Rattle.std.proofs.lemmas.List.{length-append}
use Rattle.mta_journal.specs.Bodies.{longest_body}
use Rattle.mta_records.specs.Fields.{string}
use Rattle.mta_records.specs.Form.{number_octets}
use Rattle.mta_records.specs.Words.{is_word, is_word_octet}
use Rattle.mta_records.proofs.Lengths.{number_length, string_length}
use Rattle.mta_marks.specs.declared.mark.Mark.{Mark}
use Rattle.mta_marks.specs.Marks.{IsMark, body_of, entry_octets}

pub word_length : (w : List ℕ) → is_word w ≡ true → length w ≤ 32
word_length w e = leb-true (length w) 32
    (and_parts (list_all is_word_octet w && leb 1 (length w)) (leb (length w) 32) e).1

entry_length : (mailbox : List ℕ) (number : ℕ) → length (entry_octets mailbox number) ≡ 8 + length mailbox
unfolding entry_octets
entry_length mailbox number =
    omega (
      arith,
      length-append (string mailbox) (number_octets w32 number),
      string_length mailbox,
      number_length number,
    )

pub body_short : (m : Mark) → IsMark m → length (body_of m) ≤ longest_body
body_short m mark =
    let entry = entry_length m.mailbox m.number in
    let word = word_length m.mailbox mark.0 in
    omega (arith, entry, word)
