use Rattle.std.proofs.Common.{◌≡◌}
use Rattle.mta_drill_laws.specs.Messages.{content_up_to}
use Rattle.mta_drill.proofs.message.content_of.Given as goal

abbrev pub invariant-loop-place : goal.invariant-loop-place
invariant-loop-place l = l.octets.items ≡ content_up_to l.message l.place
