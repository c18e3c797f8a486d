use Rattle.std.proofs.Common.{◌≡◌, ◌-◌, ◌≤◌}
use Rattle.mta_tables.specs.Fronts.{AreFronts, best_upto}
use Rattle.mta_tables.proofs.routes.Routes.best.Given as goal

abbrev pub invariant-loop-place : goal.invariant-loop-place
invariant-loop-place l = (l.place ≤ 8) × AreFronts l.name l.place l.digest × (l.best ≡ best_upto l.self l.name l.place)

abbrev pub decreases-loop-place : goal.decreases-loop-place
decreases-loop-place l = 8 - l.place
