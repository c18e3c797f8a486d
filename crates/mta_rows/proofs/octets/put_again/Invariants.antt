use Rattle.std.proofs.Common.{◌≡◌, ◌++◌}
use Rattle.std.specs.List.{repeat}
use Rattle.mta_rows.proofs.octets.put_again.Given as goal

abbrev pub invariant-loop : goal.invariant-loop
invariant-loop l = l.octets.items ≡ l.initial.octets.items ++ repeat l.counter l.piece
