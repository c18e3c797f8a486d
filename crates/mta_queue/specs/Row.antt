-- Numbers in a row, with places for more, of which some are free at once.
use Rattle.std.specs.Prelude.{ℕ, List}

pub record RowValue : Type 0 where
  pub items : List ℕ
  pub room : ℕ
  pub free : ℕ
