use Rattle.mta_drill.specs.Held.{AreSent}
use Rattle.mta_drill.proofs.counts.sent_in.Given as goal

abbrev pub invariant-loop-place : goal.invariant-loop-place
invariant-loop-place l = AreSent l.items l.before l.place
