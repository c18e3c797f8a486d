-- How long the bodies of the records are that open a lane and that start an activity.
use Rattle.std.proofs.Common.{◌≡◌, ◌≤◌, ℕ, ◌+◌, ◌*◌, Bool, true, List, [], ◌∷◌, ◌++◌, length, Option, None, Some, refl}
use Rattle.std.proofs.Common.{arith, w32, w64}
use Rattle.std.specs.Prelude.{◌&&◌, IfSome, flat_map, nat_le}
use Rattle.std.specs.List.{list_all}
use Rattle.std.proofs.lemmas.Bool.{and_parts, leb-true}
use Rattle.std.proofs.lemmas.List.{length-append}
use Rattle.mta_records.specs.declared.lane.LaneRole.{LaneRole}
use Rattle.mta_records.specs.declared.step.Step.TheVariants as steps
use Rattle.mta_records.specs.Body.{body_of, numbered_activity_octets, two_and_moment_octets}
use Rattle.mta_records.specs.LaneName.{lane_name_octets}
use Rattle.mta_records.specs.Fields.{additional, numbers, octet_of_truth, reference, string}
use Rattle.mta_records.specs.Form.{number_octets}
use Rattle.mta_records.specs.Reference.{Identifier, IsIdentifier}
use Rattle.mta_records.specs.Words.{is_word, is_word_octet}
use Rattle.mta_journal.specs.Bodies.{longest_body}
use Rattle.mta_spool.proofs.Lengths.{length-long, length-number, length-numbered, length-string, length-two}

-- ---- a lane that is opened

length-additional : (given : Option (List ℕ)) → IfSome given (λ octets. length octets ≤ 1024)
    → length (additional given) ≤ 1029
unfolding additional
length-additional None short = omega (arith, length-string [])
length-additional (Some octets) short = omega (arith, short, length-string octets)

length-reference : (name : Identifier) → IsIdentifier name → length (reference name) ≤ 2065
unfolding reference
length-reference name is =
    omega (
      arith,
      length-append (string name.calling) (number_octets w64 name.common ++ additional name.additional),
      length-append (number_octets w64 name.common) (additional name.additional),
      length-string name.calling,
      length-long name.common,
      length-additional name.additional is.additional_short,
      is.calling_short,
    )

length-name : (role : LaneRole) (peer : List ℕ) (name : Identifier) → length peer ≤ 32 → IsIdentifier name
    → length (lane_name_octets (role, (peer, name))) ≤ 2102
unfolding lane_name_octets
length-name role peer name short is =
    omega (
      arith,
      length-append (string peer) (reference name),
      length-string peer,
      length-reference name is,
      short,
    )

word-short : (word : List ℕ) → is_word word ≡ true → length word ≤ 32
word-short word is =
    leb-true (length word) 32
    (and_parts (list_all is_word_octet word && nat_le 1 (length word)) (nat_le (length word) 32) is).1

pub short_opening : (role : LaneRole) (peer : List ℕ) (name : Identifier) (twa : Bool) (size window moment : ℕ)
    → is_word peer ≡ true → IsIdentifier name
    → length (body_of (steps.LaneOpen role peer name twa size window moment)) ≤ longest_body
short_opening role peer name twa size window moment word is =
    omega (
      arith,
      length-append (lane_name_octets (role, (peer, name)))
          (octet_of_truth twa ∷ two_and_moment_octets (size, (window, moment))),
      length-two size window moment,
      length-name role peer name (word-short peer word) is,
    )

-- ---- an activity that is started

length-each : (rs : List ℕ) → length (flat_map (number_octets w32) rs) ≡ 4 * length rs
length-each [] = refl
length-each (r ∷ rs) =
    omega (
      arith,
      length-append (number_octets w32 r) (flat_map (number_octets w32) rs),
      length-number r,
      length-each rs,
    )

length-numbers : (rs : List ℕ) → length (numbers rs) ≡ 4 * length rs + 4
unfolding numbers
length-numbers rs =
    omega (
      arith,
      length-append (number_octets w32 (length rs)) (flat_map (number_octets w32) rs),
      length-number (length rs),
      length-each rs,
    )

pub short_start : (n g k i : ℕ) (rs : List ℕ) (moment : ℕ) → length rs ≤ 1000000
    → length (body_of (steps.Start n g k i rs moment)) ≤ longest_body
short_start n g k i rs moment few =
    omega (
      arith,
      length-append (numbered_activity_octets (((n, g), k), i)) (numbers rs ++ number_octets w64 moment),
      length-append (numbers rs) (number_octets w64 moment),
      length-numbered n g k i,
      length-numbers rs,
      length-long moment,
      few,
    )
