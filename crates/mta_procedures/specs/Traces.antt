-- Trace information (X.411, clause 12, and clause 14: loop detection): what this agent adds, and how it finds a loop.
use Rattle.std.specs.Prelude.{ℕ, Bool, false, List, [], ◌∷◌, length, Option, None, nat_le, not, ◌&&◌}
use Rattle.std.specs.Prelude.{◌||◌}
use Rattle.std.specs.List.{list_any}
use Rattle.mta_fields.specs.declared.domain.DomainFields.{DomainFields}
use Rattle.mta_fields.specs.declared.supplied.Action.TheVariants.{Relayed}
use Rattle.mta_fields.specs.declared.trace.TraceFields.{TraceFields}
use Rattle.mta_fields.specs.Domains.{is_same_domain}
use Rattle.mta_procedures.specs.Situations.{Situation}

-- the most elements of a trace
abbrev pub longest_trace : ℕ
longest_trace = 512

abbrev pub is_expansion : TraceFields → Bool
is_expansion e = e.supplied.dl

abbrev pub is_of_domain : DomainFields → TraceFields → Bool
is_of_domain own e = is_same_domain own e.domain

-- an element of the own domain, where neither it nor one behind it carries dl-operation
abbrev pub comes_back : DomainFields → List TraceFields → Bool
comes_back own [] = false
comes_back own (e ∷ es) = (is_of_domain own e && not (list_any is_expansion (e ∷ es))) || comes_back own es

-- a loop: the item comes back to the own domain since it was expanded last, or its trace is full
abbrev pub has_looped : Situation → List TraceFields → Bool
has_looped s trace = comes_back s.tables.domain trace || nat_le longest_trace (length trace)

-- the element that this agent appends: relayed, since it arrived
abbrev pub own_trace : Situation → Option ℕ → Bool → TraceFields
own_trace s deferred dl = record {
  domain = s.tables.domain;
  supplied = record {
    arrival = s.arrival;
    action = Relayed;
    attempted = None;
    deferred = deferred;
    converted = None;
    redirected = false;
    dl = dl;
  };
}
