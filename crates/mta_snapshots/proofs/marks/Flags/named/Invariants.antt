use Rattle.std.proofs.Common.{drop}
use Rattle.mta_snapshots.proofs.Naming.{AreNaming}
use Rattle.mta_snapshots.proofs.marks.Flags.named.Given as goal

abbrev pub invariant-loop-line : goal.invariant-loop-line
invariant-loop-line l = AreNaming l.count l.lines l.flags (drop l.line-index l.lines)
