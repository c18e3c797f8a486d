use Rattle.std.proofs.Common.{◌≡◌, ◌+◌, ◌++◌, drop}
use Rattle.mta_stations.specs.Lines.{lines_from, station_lines}
use Rattle.mta_stations.proofs.lines.station_lines.Given as goal

abbrev pub invariant-loop-i : goal.invariant-loop-i
invariant-loop-i l = l.text ++ lines_from (l.i + 1) (drop l.i l.ends) ≡ station_lines l.ends
