-- Which stations call a peer that the tables do not name.
use Rattle.std.specs.Prelude.{◌≡◌, ⊤, ℕ, Bool, false, List, ◌∷◌, ◌++◌, Option, None, Some, is_none, All}
use Rattle.std.specs.Prelude.{option_and_then}
use Rattle.std.specs.List.{find}
use Rattle.mta_links.specs.declared.role.Role.{Role}
use Rattle.mta_links.specs.declared.role.Role.TheVariants as Roles
use Rattle.mta_tables.specs.Hops.{HasPeerAt, IsPeerAt}
use Rattle.mta_tables.specs.Tables.{TablesValue, peer_of}

-- where a station of this role calls a peer, the tables name it
abbrev pub IsNamed : TablesValue → Role → Type 0
IsNamed tables Roles.In = ⊤
IsNamed tables (Roles.Out peer) = (place : ℕ) × HasPeerAt tables peer place

-- one calls this peer, whom the tables do not name, and they name whomever those before it call
pub record IsUnnamed (tables : TablesValue) (roles : List Role) (peer : List ℕ) : Type 0 where
  pub before : List Role
  pub behind : List Role
  pub stands : roles ≡ before ++ Roles.Out peer ∷ behind
  pub unnamed : IsPeerAt tables peer None
  pub named : All (IsNamed tables) before

-- ---- the same, as it is found

abbrev pub called : Role → Option (List ℕ)
called Roles.In = None
called (Roles.Out peer) = Some peer

abbrev pub is_unnamed : TablesValue → Role → Bool
is_unnamed tables Roles.In = false
is_unnamed tables (Roles.Out peer) = is_none (peer_of tables peer)

abbrev pub unnamed_peer : TablesValue → List Role → Option (List ℕ)
unnamed_peer tables roles = option_and_then called (find (is_unnamed tables) roles)
