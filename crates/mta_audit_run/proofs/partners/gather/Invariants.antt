use Rattle.std.proofs.Common.{◌≡◌, take}
use Rattle.std.specs.List.{flat_map}
use Rattle.std.specs.Option.{option_copied}
use Rattle.mta_audit_run.specs.Partners.{part_of, partners}
use Rattle.mta_audit_run.proofs.partners.gather.Given as goal

abbrev pub invariant-loop-other : goal.invariant-loop-other
invariant-loop-other l =
    l.row ≡ flat_map (part_of l.part) (partners (option_copied l.name) l.reference (take l.other-index l.others))
