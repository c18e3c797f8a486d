-- Trace elements: a domain, and what it supplied.
use Rattle.std.specs.Prelude.{◌≡◌, ℕ, ◌<◌, ◌≤◌, Bool, true, List, ◌++◌, Option, Some, None, Result, Ok, if◌then◌else◌}
use Rattle.mta_ber.specs.declared.fault.Fault.{Fault}
use Rattle.mta_ber.specs.declared.fault.Kind.TheVariants.{BadTag}
use Rattle.mta_ber.specs.declared.tag.Tag.{Tag}
use Rattle.mta_ber.specs.Canon.{element, constructed}
use Rattle.mta_ber.specs.Components.{SpellsComponents}
use Rattle.mta_ber.specs.Element.{Part}
use Rattle.mta_ber.specs.Forms.{is_constructed_tag, components_under}
use Rattle.mta_ber.specs.Head.{◌>>=◌, fault}
use Rattle.mta_ber.specs.Parts.{is_tag, in_order, required}
use Rattle.mta_names.specs.Strings.{Puts}
use Rattle.mta_fields.specs.declared.domain.DomainFields.{DomainFields}
use Rattle.mta_fields.specs.declared.supplied.Supplied.{Supplied}
use Rattle.mta_fields.specs.declared.trace.TraceFields.{TraceFields}
use Rattle.mta_fields.specs.declared.trace.TracePart.{TracePart}
use Rattle.mta_fields.specs.declared.trace.TracePart.TheVariants.{Place, Information}
use Rattle.mta_fields.specs.declared.trace.TraceParts.{TraceParts}
use Rattle.mta_fields.specs.Domains.{domain_in, SpellsDomain, canonical_domain}
use Rattle.mta_fields.specs.Traces.{IsSupplied, supplied_in, SpellsSupplied, canonical_supplied}

abbrev pub IsTrace : TraceFields → Type 0
IsTrace v = IsSupplied v.supplied

abbrev pub trace_part_of : Tag → Option TracePart
trace_part_of t = if is_tag 1 3 t then Some Place else if is_tag 0 17 t then Some Information else None

abbrev pub trace_class : TracePart → ℕ
trace_class Place = 1
trace_class Information = 0

abbrev pub trace_number : TracePart → ℕ
trace_number Place = 3
trace_number Information = 17

abbrev pub trace_place : TracePart → ℕ
trace_place Place = 1
trace_place Information = 2

-- the domain has to stand before what it supplied
abbrev pub trace_needed : TracePart → ℕ
trace_needed Place = 0
trace_needed Information = 1

abbrev pub with_domain : TraceParts → DomainFields → TraceParts
with_domain s x = record s { last = 1; domain = Some x }

abbrev pub with_supplied : TraceParts → Supplied → TraceParts
with_supplied s x = record s { last = 2; supplied = Some x }

abbrev pub trace_part_in : TracePart → TraceParts → Part → Result TraceParts Fault
trace_part_in Place s p = domain_in p >>= λ x. Ok (with_domain s x)
trace_part_in Information s p = supplied_in p >>= λ x. Ok (with_supplied s x)

abbrev pub trace_step_of : Option TracePart → TraceParts → Part → Result TraceParts Fault
trace_step_of None s p = fault p.at BadTag
trace_step_of (Some k) s p = in_order s.last (trace_needed k) (trace_place k) p.at (trace_part_in k s p)

unfoldable pub trace_step : TraceParts → Part → Result TraceParts Fault
trace_step s p = trace_step_of (trace_part_of p.tag) s p

abbrev pub no_trace : TraceParts
no_trace = record { last = 0; domain = None; supplied = None }

abbrev pub trace : DomainFields → Supplied → TraceFields
trace domain supplied = record { domain = domain; supplied = supplied }

unfoldable pub trace_in : Part → Result TraceFields Fault
trace_in p = components_under 0 16 trace_step no_trace p >>= λ s. required s.domain p.at
    >>= λ d. required s.supplied p.at >>= λ l. Ok (trace d l)

-- ---- what spells an element

abbrev pub MakesTracePart : TracePart → ℕ → TraceParts → Tag → List ℕ → TraceParts → Type 0
MakesTracePart Place depth s tag content after = Puts (SpellsDomain depth tag content) (with_domain s) after
MakesTracePart Information depth s tag content after =
    Puts (SpellsSupplied depth tag.constructed content) (with_supplied s) after

pub record MakesTrace (depth : ℕ) (before : TraceParts) (tag : Tag) (content octets : List ℕ)
    (after : TraceParts) : Type 0 where
  pub part : TracePart
  pub is_tag_of : is_tag (trace_class part) (trace_number part) tag ≡ true
  pub needed : trace_needed part ≤ before.last
  pub behind : before.last < trace_place part
  pub made : MakesTracePart part depth before tag content after

-- a SEQUENCE of its components in their order
pub record SpellsTrace (depth : ℕ) (tag : Tag) (content : List ℕ) (v : TraceFields) : Type 0 where
  pub is_tag_of : is_constructed_tag 0 16 tag ≡ true
  pub parts : TraceParts
  pub spelled : SpellsComponents MakesTrace depth no_trace content parts
  pub domain : parts.domain ≡ Some v.domain
  pub supplied : parts.supplied ≡ Some v.supplied

-- ---- the one spelling that is written

unfoldable pub canonical_trace : TraceFields → List ℕ
canonical_trace v = element (constructed 0 16) (canonical_domain v.domain ++ canonical_supplied v.supplied)
