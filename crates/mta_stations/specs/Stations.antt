-- What stations tell of themselves, one by one.
use Rattle.std.specs.Prelude.{List, map}
use Rattle.mta_links.specs.Links.{StationView}
use Rattle.mta_links.specs.declared.role.Role.{Role}

-- the roles of these stations, in their order
abbrev pub roles_in : {S : Type 0} → StationView S → List S → List Role
roles_in view stations = map view.role stations
