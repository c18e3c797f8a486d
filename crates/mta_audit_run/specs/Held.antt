-- The octets of an activity, as they are held.
use Rattle.std.specs.Prelude.{ℕ, List}
use Rattle.mta_audit_run.specs.declared.held.Held.{Held}
use Rattle.mta_audit_run.specs.declared.held.Held.TheVariants as Helds

abbrev pub octets_of : Held → List ℕ
octets_of (Helds.Whole octets) = octets.value
octets_of (Helds.Carried outgoing) = outgoing.value.octets
