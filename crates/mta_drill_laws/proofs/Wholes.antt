-- The envelopes of a drill's messages, and of their copies, are whole.
use Rattle.std.proofs.Common.{◌≡◌, ℕ, zero, suc, ◌+◌, ◌/◌, ◌%◌, ◌<◌, true, [], ◌∷◌, length, refl, ap}
use Rattle.std.proofs.Common.{◌∙◌, arith}
use Rattle.std.specs.Prelude.{nat_lt}
use Rattle.std.specs.List.{list_all}
use Rattle.std.proofs.lemmas.Bool.{and_from, lt-ltb}
use Rattle.std.proofs.lemmas.List.{length-append}
use Rattle.std.proofs.lemmas.List.Folds.{list_all-append}
use Rattle.mta_ber.specs.declared.text.TextClass.TheVariants.{Ia5}
use Rattle.mta_ber.specs.Strings.{IsText, in_class}
use Rattle.mta_envelope.specs.Laws.{IsWholeEnvelope, KeepsEnvelope}
use Rattle.mta_procedures.specs.Copies.{outgoing_envelope}
use Rattle.mta_procedures.specs.Laws.{IsWritable}
use Rattle.mta_procedures.specs.Reports.{digits}
use Rattle.mta_procedures.specs.Situations.{Situation, situation}
use Rattle.mta_procedures.proofs.WholeLaws.{copies_whole}
use Rattle.mta_drill_laws.specs.Messages.{envelope_of, identifier_of}
use Rattle.mta_drill_laws.specs.Tables.{first_tables}
use Rattle.mta_drill_laws.proofs.Samples.{sample_keeps, sample_whole}

length-digits : (k n : ℕ) → length (digits k n) ≡ k
length-digits zero n = refl
length-digits (suc k) n = length-append (digits k (n / 10)) ((48 + n % 10) ∷ [])
    ∙ ap (λ x. x + 1) (length-digits k (n / 10)) ∙ (let e : k + 1 ≡ suc k = omega arith in e)

digits_are_ia5 : (k n : ℕ) → list_all (in_class Ia5) (digits k n) ≡ true
digits_are_ia5 zero n = refl
digits_are_ia5 (suc k) n =
    let small : 48 + n % 10 < 128 = omega arith in
    list_all-append (in_class Ia5) (digits k (n / 10)) ((48 + n % 10) ∷ [])
    ∙ and_from (list_all (in_class Ia5) (digits k (n / 10))) (list_all (in_class Ia5) ((48 + n % 10) ∷ []))
    (digits_are_ia5 k (n / 10)) (and_from (nat_lt (48 + n % 10) 128) true (lt-ltb (48 + n % 10) 128 small) refl)

local_fits : (i : ℕ) → IsText Ia5 1 32 (identifier_of i)
local_fits i = let e = length-digits 10 i in
    record { characters = digits_are_ia5 10 i; at_least = omega (arith, e); at_most = omega (arith, e) }

pub envelope_whole : (i : ℕ) → IsWholeEnvelope (envelope_of i)
envelope_whole i = record {
  envelope = record {
    eits = sample_whole.envelope.eits;
    content_kind = sample_whole.envelope.content_kind;
    content_id = sample_whole.envelope.content_id;
    indicators = sample_whole.envelope.indicators;
    deferral = sample_whole.envelope.deferral;
    length_fits = sample_whole.envelope.length_fits;
    bilateral = sample_whole.envelope.bilateral;
    some_recipients = sample_whole.envelope.some_recipients;
    few_recipients = sample_whole.envelope.few_recipients;
    few_elements = sample_whole.envelope.few_elements;
    said = sample_whole.envelope.said;
  };
  originator = sample_whole.originator;
  id = record { domain = sample_whole.id.domain; local = local_fits i };
  recipients = sample_whole.recipients;
  trace = sample_whole.trace;
}

pub envelope_keeps : (i : ℕ) → KeepsEnvelope 2 (envelope_of i)
envelope_keeps i = record {
  originator = sample_keeps.originator;
  eits = sample_keeps.eits;
  bilateral = sample_keeps.bilateral;
  recipients = sample_keeps.recipients;
  trace = sample_keeps.trace;
  prohibition = sample_keeps.prohibition;
  prohibited_is = sample_keeps.prohibited_is;
  told = sample_keeps.told;
}

-- where the copies are made
abbrev pub at_first : Situation
at_first = situation first_tables 0 0

at_first_writable : IsWritable at_first
at_first_writable = record { domain = sample_whole.id.domain; arrival = omega arith; moment = omega arith }

pub copy_whole : (i : ℕ) → IsWholeEnvelope (outgoing_envelope at_first (envelope_of i) (1 ∷ []))
    × KeepsEnvelope 2 (outgoing_envelope at_first (envelope_of i) (1 ∷ []))
copy_whole i = copies_whole at_first (envelope_of i) (1 ∷ []) at_first_writable (omega arith) (envelope_whole i)
    (envelope_keeps i)
