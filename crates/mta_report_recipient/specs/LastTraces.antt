-- The last trace of a recipient (X.411, LastTraceInformation): a SET of an arrival time, converted types and what came
-- of the message.
use Rattle.std.specs.Prelude.{◌≡◌, ℕ, Bool, true, false, List, ◌++◌, Option, Some}
use Rattle.std.specs.Prelude.{None, is_some, Result, Ok, if◌then◌else◌}
use Rattle.mta_ber.specs.declared.fault.Fault.{Fault}
use Rattle.mta_ber.specs.declared.fault.Kind.TheVariants.{BadTag, Twice}
use Rattle.mta_ber.specs.declared.tag.Tag.{Tag}
use Rattle.mta_ber.specs.Canon.{element, constructed, primitive, optional}
use Rattle.mta_ber.specs.Components.{SpellsComponents}
use Rattle.mta_ber.specs.Contents.{canon_utc}
use Rattle.mta_ber.specs.Element.{Part, explicit}
use Rattle.mta_ber.specs.Explicit.{SpellsExplicit}
use Rattle.mta_ber.specs.Forms.{is_constructed_tag}
use Rattle.mta_ber.specs.Head.{◌>>=◌, fault}
use Rattle.mta_ber.specs.Moments.{SpellsMoment}
use Rattle.mta_ber.specs.Parts.{components, is_tag, required}
use Rattle.mta_ber.specs.Times.{utc_in}
use Rattle.mta_names.specs.Names.{kept}
use Rattle.mta_names.specs.Strings.{Puts}
use Rattle.mta_fields.specs.Traces.{raw_in}
use Rattle.mta_report_recipient.specs.declared.outcome.Outcome.{Outcome}
use Rattle.mta_report_recipient.specs.declared.last.LastPart.{LastPart}
use Rattle.mta_report_recipient.specs.declared.last.LastPart.TheVariants.{Arrival, ReportType, Converted}
use Rattle.mta_report_recipient.specs.declared.last.LastParts.{LastParts}
use Rattle.mta_report_recipient.specs.declared.last.LastTrace.{LastTrace}
use Rattle.mta_report_recipient.specs.Outcomes.{outcome_choice, SpellsOutcome, canonical_outcome}

abbrev pub last_part_of : Tag → Option LastPart
last_part_of t =
    if is_tag 2 0 t then Some Arrival
    else if is_constructed_tag 2 1 t then Some ReportType
    else if is_tag 1 5 t then Some Converted
    else None

-- whether a tag is that of a component
abbrev pub is_last_tag : LastPart → Tag → Bool
is_last_tag Arrival t = is_tag 2 0 t
is_last_tag ReportType t = is_constructed_tag 2 1 t
is_last_tag Converted t = is_tag 1 5 t

-- whether a component is there already
abbrev pub last_held : LastPart → LastParts → Bool
last_held Arrival s = is_some s.arrival
last_held ReportType s = is_some s.outcome
last_held Converted s = is_some s.converted

abbrev pub with_arrival : LastParts → ℕ → LastParts
with_arrival s x = record s { arrival = Some x }

abbrev pub with_outcome : LastParts → Outcome → LastParts
with_outcome s x = record s { outcome = Some x }

abbrev pub with_converted : LastParts → List ℕ → LastParts
with_converted s x = record s { converted = Some x }

abbrev pub last_part_in : LastPart → LastParts → Part → Result LastParts Fault
last_part_in Arrival s p = utc_in p >>= λ x. Ok (with_arrival s x)
last_part_in ReportType s p = explicit outcome_choice p >>= λ x. Ok (with_outcome s x)
last_part_in Converted s p = raw_in p >>= λ x. Ok (with_converted s x)

-- each component may stand once
abbrev pub last_step_of : Option LastPart → LastParts → Part → Result LastParts Fault
last_step_of None s p = fault p.at BadTag
last_step_of (Some k) s p = if last_held k s then fault p.at Twice else last_part_in k s p

unfoldable pub last_step : LastParts → Part → Result LastParts Fault
last_step s p = last_step_of (last_part_of p.tag) s p

abbrev pub no_last : LastParts
no_last = record { arrival = None; outcome = None; converted = None }

abbrev pub last_trace : ℕ → Outcome → LastParts → LastTrace
last_trace arrival outcome s = record { arrival = arrival; converted = s.converted; outcome = outcome }

-- the required components are there
abbrev pub last_from : LastParts → ℕ → Result LastTrace Fault
last_from s at = required s.arrival at >>= λ arrival. required s.outcome at >>= λ outcome. Ok
    (last_trace arrival outcome s)

unfoldable pub last_in : Part → Result LastTrace Fault
last_in p = components last_step no_last p >>= λ s. last_from s p.at

-- ---- what spells a last trace

abbrev pub MakesLastPart : LastPart → ℕ → LastParts → Tag → List ℕ → List ℕ → LastParts → Type 0
MakesLastPart Arrival depth s tag content octets after =
    Puts (SpellsMoment depth tag.constructed content) (with_arrival s) after
MakesLastPart ReportType depth s tag content octets after =
    Puts (SpellsExplicit SpellsOutcome depth tag.constructed content) (with_outcome s) after
MakesLastPart Converted depth s tag content octets after = Puts (λ x. x ≡ octets) (with_converted s) after

pub record MakesLast (depth : ℕ) (before : LastParts) (tag : Tag) (content octets : List ℕ)
    (after : LastParts) : Type 0 where
  pub part : LastPart
  pub is_tag_of : is_last_tag part tag ≡ true
  pub absent : last_held part before ≡ false
  pub made : MakesLastPart part depth before tag content octets after

-- a SET of its components in any order, each at most once
pub record SpellsLast (depth : ℕ) (constructed : Bool) (content : List ℕ) (v : LastTrace) : Type 0 where
  pub is_constructed : constructed ≡ true
  pub parts : LastParts
  pub spelled : SpellsComponents MakesLast depth no_last content parts
  pub arrival : ℕ
  pub arrival_is : parts.arrival ≡ Some arrival
  pub outcome : Outcome
  pub outcome_is : parts.outcome ≡ Some outcome
  pub value : v ≡ last_trace arrival outcome parts

-- ---- the one spelling that is written, under [3]

abbrev pub last_content : ℕ → Option (List ℕ) → Outcome → List ℕ
last_content arrival converted outcome = optional kept converted ++ canon_utc (primitive 2 0) arrival
    ++ canonical_outcome outcome

unfoldable pub canonical_last : ℕ → Option (List ℕ) → Outcome → List ℕ
canonical_last arrival converted outcome = element (constructed 2 3) (last_content arrival converted outcome)
