use Rattle.std.proofs.Common.{◌≡◌}
use Rattle.mta_host.proofs.tcp_link.TcpLink.read.Given as goal

abbrev pub invariant-loop : goal.invariant-loop
invariant-loop g l = l.self.faults ≡ l.fn.self.faults
