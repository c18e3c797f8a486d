-- What is still to come of a normal text: nothing of it has been read, or something has and a space may wait.
use Rattle.std.specs.Prelude.{ℕ, Bool, true, false, List}
use Rattle.mta_names.specs.Normal.{unspaced, squeezed}

abbrev pub still : Bool → Bool → List ℕ → List ℕ
still true waits text = squeezed waits text
still false waits text = squeezed false (unspaced text)
