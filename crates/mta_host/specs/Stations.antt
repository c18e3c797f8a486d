-- What a station over connections tells.
use Rattle.std.specs.Prelude.{ℕ}
use Rattle.mta_links.specs.declared.role.Role.{Role}

-- its role, how many links are out, and how often it has failed
pub record Stationed : Type 0 where
  pub role : Role
  pub out : ℕ
  pub faults : ℕ
