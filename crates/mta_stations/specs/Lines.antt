-- What is printed of the workers' ends.
use Rattle.std.specs.Prelude.{ℕ, ◌+◌, List, [], ◌∷◌, ◌++◌, codes, decimal}
use Rattle.mta_stations.specs.declared.end.WorkerEnd.{WorkerEnd}

-- the line of the station of this number
abbrev pub station_line : ℕ → WorkerEnd → List ℕ
station_line number e =
    codes "station " ++ (decimal number ++ (codes " sessions " ++ (decimal e.sessions
    ++ (codes " closed " ++ (decimal e.closed ++ 10 ∷ [])))))

abbrev pub lines_from : ℕ → List WorkerEnd → List ℕ
lines_from number [] = []
lines_from number (e ∷ ends) = station_line number e ++ lines_from (number + 1) ends

-- a line a station, in their order, which are counted from 1
abbrev pub station_lines : List WorkerEnd → List ℕ
station_lines ends = lines_from 1 ends
