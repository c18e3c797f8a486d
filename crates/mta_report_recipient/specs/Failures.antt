-- A non-delivery that is reported (X.411, NonDeliveryReport): a SET of a reason and a diagnostic.
use Rattle.std.specs.Prelude.{◌≡◌, ℕ, pos, Bool, true, false, List, ◌++◌, Option}
use Rattle.std.specs.Prelude.{Some, None, is_some, Result, Ok, if◌then◌else◌}
use Rattle.mta_ber.specs.declared.fault.Fault.{Fault}
use Rattle.mta_ber.specs.declared.fault.Kind.TheVariants.{BadTag, Twice}
use Rattle.mta_ber.specs.declared.tag.Tag.{Tag}
use Rattle.mta_ber.specs.Canon.{element, constructed, primitive, optional}
use Rattle.mta_ber.specs.Components.{SpellsComponents}
use Rattle.mta_ber.specs.Contents.{canon_int}
use Rattle.mta_ber.specs.Element.{Part}
use Rattle.mta_ber.specs.Forms.{is_primitive_tag}
use Rattle.mta_ber.specs.Head.{◌>>=◌, fault}
use Rattle.mta_ber.specs.Parts.{components, is_tag, required}
use Rattle.mta_names.specs.Strings.{Puts, number_in, SpellsNumber}
use Rattle.mta_report_recipient.specs.declared.outcome.Outcome.{Outcome}
use Rattle.mta_report_recipient.specs.declared.outcome.Outcome.TheVariants.{NonDelivery}
use Rattle.mta_report_recipient.specs.declared.failure.FailurePart.{FailurePart}
use Rattle.mta_report_recipient.specs.declared.failure.FailurePart.TheVariants.{Reason, Diagnostic}
use Rattle.mta_report_recipient.specs.declared.failure.FailureParts.{FailureParts}

abbrev pub failure_part_of : Tag → Option FailurePart
failure_part_of t =
    if is_primitive_tag 2 0 t then Some Reason
    else if is_primitive_tag 2 1 t then Some Diagnostic
    else None

-- whether a tag is that of a component
abbrev pub is_failure_tag : FailurePart → Tag → Bool
is_failure_tag Reason t = is_primitive_tag 2 0 t
is_failure_tag Diagnostic t = is_primitive_tag 2 1 t

-- whether a component is there already
abbrev pub failure_held : FailurePart → FailureParts → Bool
failure_held Reason s = is_some s.reason
failure_held Diagnostic s = is_some s.diagnostic

abbrev pub with_reason : FailureParts → ℕ → FailureParts
with_reason s x = record s { reason = Some x }

abbrev pub with_diagnostic : FailureParts → ℕ → FailureParts
with_diagnostic s x = record s { diagnostic = Some x }

abbrev pub failure_part_in : FailurePart → FailureParts → Part → Result FailureParts Fault
failure_part_in Reason s p = number_in 0 32767 p >>= λ x. Ok (with_reason s x)
failure_part_in Diagnostic s p = number_in 0 32767 p >>= λ x. Ok (with_diagnostic s x)

-- each component may stand once
abbrev pub failure_step_of : Option FailurePart → FailureParts → Part → Result FailureParts Fault
failure_step_of None s p = fault p.at BadTag
failure_step_of (Some k) s p = if failure_held k s then fault p.at Twice else failure_part_in k s p

unfoldable pub failure_step : FailureParts → Part → Result FailureParts Fault
failure_step s p = failure_step_of (failure_part_of p.tag) s p

abbrev pub no_failure : FailureParts
no_failure = record { reason = None; diagnostic = None }

abbrev pub failure : ℕ → FailureParts → Outcome
failure reason s = NonDelivery reason s.diagnostic

-- the required components are there
abbrev pub failure_from : FailureParts → ℕ → Result Outcome Fault
failure_from s at = required s.reason at >>= λ reason. Ok (failure reason s)

unfoldable pub failure_in : Part → Result Outcome Fault
failure_in p = components failure_step no_failure p >>= λ s. failure_from s p.at

-- ---- what spells a non-delivery

abbrev pub MakesFailurePart : FailurePart → ℕ → FailureParts → Tag → List ℕ → List ℕ → FailureParts
    → Type 0
MakesFailurePart Reason depth s tag content octets after =
    Puts (SpellsNumber 0 32767 tag.constructed content) (with_reason s) after
MakesFailurePart Diagnostic depth s tag content octets after =
    Puts (SpellsNumber 0 32767 tag.constructed content) (with_diagnostic s) after

pub record MakesFailure (depth : ℕ) (before : FailureParts) (tag : Tag) (content octets : List ℕ)
    (after : FailureParts) : Type 0 where
  pub part : FailurePart
  pub is_tag_of : is_failure_tag part tag ≡ true
  pub absent : failure_held part before ≡ false
  pub made : MakesFailurePart part depth before tag content octets after

-- a SET of its components in any order, each at most once
pub record SpellsFailure (depth : ℕ) (constructed : Bool) (content : List ℕ) (v : Outcome) : Type 0 where
  pub is_constructed : constructed ≡ true
  pub parts : FailureParts
  pub spelled : SpellsComponents MakesFailure depth no_failure content parts
  pub reason : ℕ
  pub reason_is : parts.reason ≡ Some reason
  pub value : v ≡ failure reason parts

-- ---- the one spelling that is written

abbrev pub canonical_diagnostic : ℕ → List ℕ
canonical_diagnostic n = canon_int (primitive 2 1) (pos n)

abbrev pub canonical_failure : ℕ → Option ℕ → List ℕ
canonical_failure reason diagnostic =
    element (constructed 2 1) (canon_int (primitive 2 0) (pos reason) ++ optional canonical_diagnostic diagnostic)
