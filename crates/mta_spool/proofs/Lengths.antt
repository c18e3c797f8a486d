-- How long the bodies of records are.
use Rattle.std.proofs.Common.{◌≡◌, ◌≤◌, ℕ, ◌+◌, true, ltb, inl, inr, List, ◌∷◌, ◌++◌, length, Result, Ok, Err}
use Rattle.std.proofs.Common.{refl}
use Rattle.std.proofs.Common.{subst, arith, w32, w64}
use Rattle.std.proofs.lemmas.Bool.{cases_lt, lt-ltb}
use Rattle.std.proofs.lemmas.List.{length-append}
use Rattle.mta_records.specs.declared.step.Step.{Step}
use Rattle.mta_records.specs.declared.step.Step.TheVariants.{Tables, Accept, Deliver, Expand, Report, Affirm, Discard}
use Rattle.mta_records.specs.declared.step.Step.TheVariants.{Back, LaneAgree, Bind, Confirm, Ending}
use Rattle.mta_records.specs.declared.step.Step.TheVariants.{Sent, Refused, Denied, Dropped, Abandon}
use Rattle.mta_records.specs.declared.step.Step.TheVariants.{Drop, CloseLane}
use Rattle.mta_records.specs.Body.{body_of, two_and_moment_octets, lane_octets, activity_octets}
use Rattle.mta_records.specs.Body.{numbered_activity_octets}
use Rattle.mta_records.specs.Fields.{string}
use Rattle.mta_records.specs.Form.{number_octets}
use Rattle.mta_tables.specs.Reading.{Bad}
use Rattle.mta_tables.specs.Tables.{TablesValue, tables_of}
use Rattle.mta_journal.specs.Bodies.{longest_body}
use Rattle.mta_spool.specs.Due.{IsDueStep}
use Rattle.mta_spool.specs.OnLanes.{IsBrief}

pub length-long : (n : ℕ) → length (number_octets w64 n) ≡ 8
unfolding number_octets
length-long n = refl

pub length-string : (octets : List ℕ) → length (string octets) ≡ length octets + 4
unfolding string number_octets
length-string octets = omega arith

pub length-tables : (text : List ℕ) → length (body_of (Tables text)) ≡ length text + 5
length-tables text = omega (arith, length-string text)

pub length-accept : (moment : ℕ) (apdu : List ℕ) → length (body_of (Accept moment apdu)) ≡ length apdu + 13
length-accept moment apdu =
    omega (arith, length-append (number_octets w64 moment) (string apdu), length-long moment, length-string apdu)

pub length-two : (a b moment : ℕ) → length (two_and_moment_octets (a, (b, moment))) ≡ 16
unfolding two_and_moment_octets number_octets
length-two a b moment = refl

-- a due step has a short body
pub short-due : (step : Step) → IsDueStep step → length (body_of step) ≤ longest_body
short-due (Deliver item recipient moment) due = omega (arith, length-two item recipient moment)
short-due (Expand item recipient moment) due = omega (arith, length-two item recipient moment)
short-due (Report item recipient moment) due = omega (arith, length-two item recipient moment)
short-due (Affirm item recipient moment) due = omega (arith, length-two item recipient moment)
short-due (Discard item recipient moment) due = omega (arith, length-two item recipient moment)
short-due (Back item recipient moment) due = omega (arith, length-two item recipient moment)
short-due (Abandon lane activity moment) due = omega (arith, length-two lane activity moment)
short-due any0 due = absurd due

-- ---- a text of tables is short

short_text : (text : List ℕ) (tables : TablesValue) → tables_of text ≡ Ok tables → length text ≤ 1048576
unfolding tables_of
short_text text tables read =
    elim (cases_lt 1048576 (length text)) [
      | inl long ↦ (let test : ltb 1048576 (length text) ≡ true = lt-ltb _ _ long in absurd (bad_ok (rw test at read)))
      | inr short ↦ short
    ]
  where
    bad_ok : {b : Bad} → ◌≡◌ {A = Result TablesValue Bad} (Err b) (Ok tables) → ⊥
    bad_ok w = cc

pub short_tables : (tables : TablesValue) (text : List ℕ) → text ≡ tables.text → tables_of text ≡ Ok tables
    → length tables.text ≤ 1048576
short_tables tables text same read = subst (λ (t : List ℕ). length t ≤ 1048576) same (short_text text tables read)

-- ---- the records of lanes that tell numbers alone

length-lane : (n g : ℕ) → length (lane_octets (n, g)) ≡ 12
unfolding lane_octets number_octets
length-lane n g = refl

length-activity : (n g k : ℕ) → length (activity_octets ((n, g), k)) ≡ 16
unfolding activity_octets lane_octets number_octets
length-activity n g k = refl

pub length-numbered : (n g k m : ℕ) → length (numbered_activity_octets (((n, g), k), m)) ≡ 20
unfolding numbered_activity_octets activity_octets lane_octets number_octets
length-numbered n g k m = refl

pub length-number : (n : ℕ) → length (number_octets w32 n) ≡ 4
unfolding number_octets
length-number n = refl

-- such a record has a short body
pub short_brief : (step : Step) → IsBrief step → length (body_of step) ≤ longest_body
short_brief (LaneAgree lane generation checkpoint window) brief =
    omega (
      arith,
      length-append (lane_octets (lane, generation)) (number_octets w32 checkpoint ++ number_octets w32 window),
      length-append (number_octets w32 checkpoint) (number_octets w32 window),
      length-lane lane generation,
      length-number checkpoint,
      length-number window,
    )
short_brief (Bind lane generation) brief = omega (arith, length-lane lane generation)
short_brief (Confirm lane generation activity checkpoint) brief =
    omega (arith, length-numbered lane generation activity checkpoint)
short_brief (Ending lane generation activity) brief = omega (arith, length-activity lane generation activity)
short_brief (Sent lane generation activity moment) brief =
    omega (
      arith,
      length-append (activity_octets ((lane, generation), activity)) (number_octets w64 moment),
      length-activity lane generation activity,
      length-long moment,
    )
short_brief (Refused lane generation activity kind moment) brief =
    omega (
      arith,
      length-append (activity_octets ((lane, generation), activity)) (kind ∷ number_octets w64 moment),
      length-activity lane generation activity,
      length-long moment,
    )
short_brief (Denied lane generation activity moment) brief =
    omega (
      arith,
      length-append (activity_octets ((lane, generation), activity)) (number_octets w64 moment),
      length-activity lane generation activity,
      length-long moment,
    )
short_brief (Dropped lane generation activity) brief = omega (arith, length-activity lane generation activity)
short_brief (Drop lane generation activity) brief = omega (arith, length-activity lane generation activity)
short_brief (CloseLane lane generation) brief = omega (arith, length-lane lane generation)
short_brief any0 brief = absurd brief
