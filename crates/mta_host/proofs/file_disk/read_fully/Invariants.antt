use Rattle.std.proofs.Common.{◌≤◌, length}
use Rattle.mta_host.proofs.file_disk.read_fully.Given as goal

abbrev pub invariant-loop : goal.invariant-loop
invariant-loop l = l.count ≤ length l.into
