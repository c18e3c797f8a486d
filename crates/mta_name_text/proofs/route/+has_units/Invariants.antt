use Rattle.std.proofs.Common.{length}
use Rattle.mta_name_text.proofs.route.+has_units.Given as goal

abbrev pub decreases-has_units : goal.decreases-has_units
decreases-has_units l = length l.parts.now
