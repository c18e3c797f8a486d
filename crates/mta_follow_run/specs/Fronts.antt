-- Lists that begin others.
use Rattle.std.specs.Prelude.{◌≡◌, List, ◌++◌}

-- the one list begins the other
pub record IsFront {A : Type 0} (front whole : List A) : Type 0 where
  pub rest : List A
  pub whole_is : whole ≡ front ++ rest
