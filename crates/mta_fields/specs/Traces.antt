-- Trace elements (X.411, TraceInformationElement): a SEQUENCE of a domain and a SET of what that domain did.
use Rattle.std.specs.Prelude.{◌≡◌, ℕ, pos, ◌+◌, ◌*◌, ◌≤◌, Bool, true, false, List, [], ◌++◌, Option}
use Rattle.std.specs.Prelude.{Some, None, IfSome, Result, Ok, ◌==◌, ◌||◌, if◌then◌else◌}
use Rattle.mta_ber.specs.declared.fault.Fault.{Fault}
use Rattle.mta_ber.specs.declared.fault.Kind.TheVariants.{BadTag}
use Rattle.mta_ber.specs.declared.tag.Tag.{Tag}
use Rattle.mta_ber.specs.Bits.{BitString, bit, bits_in}
use Rattle.mta_ber.specs.Canon.{element, constructed, primitive, optional}
use Rattle.mta_ber.specs.Components.{SpellsComponents}
use Rattle.mta_ber.specs.Contents.{canon_int, canon_bits, canon_utc}
use Rattle.mta_ber.specs.Element.{Part}
use Rattle.mta_ber.specs.Forms.{is_primitive_tag, is_constructed_tag}
use Rattle.mta_ber.specs.Head.{◌>>=◌, fault}
use Rattle.mta_ber.specs.Moments.{SpellsMoment}
use Rattle.mta_ber.specs.Parts.{components, is_tag, once, required}
use Rattle.mta_ber.specs.Segmented.{SpellsBits}
use Rattle.mta_ber.specs.Times.{utc_in, last_moment}
use Rattle.mta_names.specs.Names.{kept}
use Rattle.mta_names.specs.Strings.{Puts, number_in, SpellsNumber}
use Rattle.mta_names.specs.Values.{IsRaw}
use Rattle.mta_fields.specs.declared.domain.DomainFields.{DomainFields}
use Rattle.mta_fields.specs.declared.supplied.Action.{Action}
use Rattle.mta_fields.specs.declared.supplied.Action.TheVariants.{Relayed, Rerouted}
use Rattle.mta_fields.specs.declared.supplied.Supplied.{Supplied}
use Rattle.mta_fields.specs.declared.supplied.SuppliedPart.{SuppliedPart}
use Rattle.mta_fields.specs.declared.supplied.SuppliedPart.TheVariants.{Arrival, Deferred, Routing, Other}
use Rattle.mta_fields.specs.declared.supplied.SuppliedPart.TheVariants.{Attempted, Converted}
use Rattle.mta_fields.specs.declared.supplied.SuppliedParts.{SuppliedParts}
use Rattle.mta_fields.specs.Domains.{domain_in, SpellsDomain, canonical_domain}

pub record IsSupplied (v : Supplied) : Type 0 where
  pub arrival : v.arrival ≤ last_moment
  pub deferred : IfSome v.deferred (λ m. m ≤ last_moment)
  pub converted : IfSome v.converted (IsRaw 1 5)

abbrev pub action_number : Action → ℕ
action_number Relayed = 0
action_number Rerouted = 1

abbrev pub action_of : ℕ → Action
action_of n = if n == 0 then Relayed else Rerouted

abbrev pub action_in : Part → Result Action Fault
action_in p = number_in 0 1 p >>= λ n. Ok (action_of n)

abbrev pub supplied_part_of : Tag → Option SuppliedPart
supplied_part_of t =
    if is_tag 2 0 t then Some Arrival
    else if is_tag 2 1 t then Some Deferred
    else if is_primitive_tag 2 2 t then Some Routing
    else if is_tag 2 3 t then Some Other
    else if is_constructed_tag 1 3 t then Some Attempted
    else if is_tag 1 5 t then Some Converted
    else None

-- whether a tag is that of a component
abbrev pub is_supplied_tag : SuppliedPart → Tag → Bool
is_supplied_tag Arrival t = is_tag 2 0 t
is_supplied_tag Deferred t = is_tag 2 1 t
is_supplied_tag Routing t = is_primitive_tag 2 2 t
is_supplied_tag Other t = is_tag 2 3 t
is_supplied_tag Attempted t = is_constructed_tag 1 3 t
is_supplied_tag Converted t = is_tag 1 5 t

abbrev pub with_arrival : SuppliedParts → ℕ → SuppliedParts
with_arrival s x = record s { arrival = Some x }

abbrev pub with_deferred : SuppliedParts → ℕ → SuppliedParts
with_deferred s x = record s { deferred = Some x }

abbrev pub with_action : SuppliedParts → Action → SuppliedParts
with_action s x = record s { action = Some x }

abbrev pub with_other : SuppliedParts → BitString → SuppliedParts
with_other s x = record s { other = Some x }

abbrev pub with_attempted : SuppliedParts → DomainFields → SuppliedParts
with_attempted s x = record s { attempted = Some x }

abbrev pub with_converted : SuppliedParts → List ℕ → SuppliedParts
with_converted s x = record s { converted = Some x }

abbrev pub raw_in : Part → Result (List ℕ) Fault
raw_in p = Ok p.octets

abbrev pub supplied_part_in : SuppliedPart → SuppliedParts → Part → Result SuppliedParts Fault
supplied_part_in Arrival s p = once s.arrival p.at (utc_in p) >>= λ x. Ok (with_arrival s x)
supplied_part_in Deferred s p = once s.deferred p.at (utc_in p) >>= λ x. Ok (with_deferred s x)
supplied_part_in Routing s p = once s.action p.at (action_in p) >>= λ x. Ok (with_action s x)
supplied_part_in Other s p = once s.other p.at (bits_in p) >>= λ x. Ok (with_other s x)
supplied_part_in Attempted s p = once s.attempted p.at (domain_in p) >>= λ x. Ok (with_attempted s x)
supplied_part_in Converted s p = once s.converted p.at (raw_in p) >>= λ x. Ok (with_converted s x)

abbrev pub supplied_step_of : Option SuppliedPart → SuppliedParts → Part → Result SuppliedParts Fault
supplied_step_of None s p = fault p.at BadTag
supplied_step_of (Some k) s p = supplied_part_in k s p

unfoldable pub supplied_step : SuppliedParts → Part → Result SuppliedParts Fault
supplied_step s p = supplied_step_of (supplied_part_of p.tag) s p

abbrev pub no_supplied : SuppliedParts
no_supplied = record {
  arrival = None;
  deferred = None;
  action = None;
  other = None;
  attempted = None;
  converted =
      None;
}

-- a bit of a list of bits, which is 0 where the list is absent
abbrev pub bit_if : Option BitString → ℕ → Bool
bit_if None place = false
bit_if (Some b) place = bit b place

abbrev pub supplied : ℕ → Action → SuppliedParts → Supplied
supplied arrival action s = record {
  arrival = arrival;
  action = action;
  attempted = s.attempted;
  deferred = s.deferred;
  converted = s.converted;
  redirected = bit_if s.other 0;
  dl = bit_if s.other 1;
}

unfoldable pub supplied_in : Part → Result Supplied Fault
supplied_in p = components supplied_step no_supplied p >>= λ s. required s.arrival p.at >>= λ m. required s.action
    p.at
    >>= λ a. Ok (supplied m a s)

-- ---- what spells it

pub record SpellsAction (constructed : Bool) (content : List ℕ) (a : Action) : Type 0 where
  pub spelled : SpellsNumber 0 1 constructed content (action_number a)

abbrev pub MakesSuppliedPart : SuppliedPart → ℕ → SuppliedParts → Tag → List ℕ → List ℕ
    → SuppliedParts → Type 0
MakesSuppliedPart Arrival depth s tag content octets after = (s.arrival ≡ None)
    × Puts (SpellsMoment depth tag.constructed content) (with_arrival s) after
MakesSuppliedPart Deferred depth s tag content octets after = (s.deferred ≡ None)
    × Puts (SpellsMoment depth tag.constructed content) (with_deferred s) after
MakesSuppliedPart Routing depth s tag content octets after = (s.action ≡ None)
    × Puts (SpellsAction tag.constructed content) (with_action s) after
MakesSuppliedPart Other depth s tag content octets after = (s.other ≡ None)
    × Puts (SpellsBits depth tag.constructed content) (with_other s) after
MakesSuppliedPart Attempted depth s tag content octets after = (s.attempted ≡ None)
    × Puts (SpellsDomain depth tag content) (with_attempted s) after
MakesSuppliedPart Converted depth s tag content octets after = (s.converted ≡ None)
    × Puts (λ x. x ≡ octets) (with_converted s) after

pub record MakesSupplied (depth : ℕ) (before : SuppliedParts) (tag : Tag) (content octets : List ℕ)
    (after : SuppliedParts) : Type 0 where
  pub part : SuppliedPart
  pub is_tag_of : is_supplied_tag part tag ≡ true
  pub made : MakesSuppliedPart part depth before tag content octets after

-- a SET of its components in any order, each at most once
pub record SpellsSupplied (depth : ℕ) (constructed : Bool) (content : List ℕ) (v : Supplied) : Type 0 where
  pub is_constructed : constructed ≡ true
  pub parts : SuppliedParts
  pub spelled : SpellsComponents MakesSupplied depth no_supplied content parts
  pub arrival : parts.arrival ≡ Some v.arrival
  pub action : parts.action ≡ Some v.action
  pub value : v ≡ supplied v.arrival v.action parts

-- ---- the one spelling that is written: other actions in two bits, and none where none is set

abbrev pub digit : Bool → ℕ
digit true = 1
digit false = 0

abbrev pub two_bits : Bool → Bool → BitString
two_bits a b = record { count = 2; word = 2 * digit a + digit b }

abbrev pub canonical_other : Bool → Bool → List ℕ
canonical_other redirected dl = if redirected || dl then canon_bits (primitive 2 3) (two_bits redirected dl) else []

abbrev pub canonical_deferred : ℕ → List ℕ
canonical_deferred m = canon_utc (primitive 2 1) m

abbrev pub supplied_content : Supplied → List ℕ
supplied_content v =
    optional canonical_domain v.attempted ++ optional kept v.converted ++ canon_utc (primitive 2 0) v.arrival
    ++ optional canonical_deferred v.deferred ++ canon_int (primitive 2 2) (pos (action_number v.action))
    ++ canonical_other v.redirected v.dl

unfoldable pub canonical_supplied : Supplied → List ℕ
canonical_supplied v = element (constructed 0 17) (supplied_content v)
