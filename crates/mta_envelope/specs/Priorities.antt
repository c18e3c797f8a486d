-- Priorities (X.411, Priority): an ENUMERATED, normal by default.
use Rattle.std.specs.Prelude.{ℕ, pos, Bool, List, [], Result, Ok, ◌==◌, if◌then◌else◌}
use Rattle.mta_ber.specs.declared.fault.Fault.{Fault}
use Rattle.mta_ber.specs.Canon.{primitive}
use Rattle.mta_ber.specs.Contents.{canon_int}
use Rattle.mta_ber.specs.Element.{Part}
use Rattle.mta_ber.specs.Head.{◌>>=◌}
use Rattle.mta_names.specs.Strings.{number_in, SpellsNumber}
use Rattle.mta_envelope.specs.declared.priority.Priority.{Priority}
use Rattle.mta_envelope.specs.declared.priority.Priority.TheVariants.{Normal, NonUrgent, Urgent}

abbrev pub priority_number : Priority → ℕ
priority_number Normal = 0
priority_number NonUrgent = 1
priority_number Urgent = 2

abbrev pub priority_of : ℕ → Priority
priority_of n = if n == 0 then Normal else if n == 1 then NonUrgent else Urgent

abbrev pub priority_in : Part → Result Priority Fault
priority_in p = number_in 0 2 p >>= λ n. Ok (priority_of n)

pub record SpellsPriority (constructed : Bool) (content : List ℕ) (v : Priority) : Type 0 where
  pub spelled : SpellsNumber 0 2 constructed content (priority_number v)

-- the one spelling that is written, under [APPLICATION 7], and nothing for the default
abbrev pub canonical_priority : Priority → List ℕ
canonical_priority Normal = []
canonical_priority NonUrgent = canon_int (primitive 1 7) (pos 1)
canonical_priority Urgent = canon_int (primitive 1 7) (pos 2)
