use Rattle.std.proofs.Common.{◌≤◌, ◌+◌, ◌-◌, ◌^◌, ℕ, List, Option, length}
use Rattle.mta_units.specs.declared.unit.Unit.{Unit as AnyUnit}
use Rattle.mta_links.specs.Links.{Leads, Talk}
use Rattle.mta_session_run.specs.Carried.{Carried}
use Rattle.mta_session_run.proofs.get.get_unit.Given as goal

abbrev pub invariant-loop-unit : goal.invariant-loop-unit
invariant-loop-unit g l = record {
  carried : (since : Option Talk) (us : List AnyUnit) (octets : List ℕ)
      → Leads (Carried us octets l.fn.frames) since (g.L.Link.model.talk l.fn.link)
      → Leads (Carried us octets l.frames) since (g.L.Link.model.talk l.link);
  later : g.L.Link.model.faults l.fn.link ≤ g.L.Link.model.faults l.link;
}

abbrev pub decreases-loop-unit : goal.decreases-loop-unit
decreases-loop-unit g l = 2 ^ 64 - (l.frames.at + length l.frames.left)
