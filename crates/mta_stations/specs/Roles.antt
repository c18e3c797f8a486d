-- Which stations are those of the words of a command line.
use Rattle.std.specs.Prelude.{Bool, true, false, ◌&&◌, List, [], ◌∷◌, map}
use Rattle.std.specs.Str.{bytes_eq}
use Rattle.mta_links.specs.declared.role.Role.{Role}
use Rattle.mta_links.specs.declared.role.Role.TheVariants as Roles
use Rattle.mta_words.specs.declared.station.StationWord.{StationWord}
use Rattle.mta_words.specs.declared.station.StationWord.TheVariants as Station

-- the role that a word says
abbrev pub role_of : StationWord → Role
role_of (Station.In port) = Roles.In
role_of (Station.Out peer host port) = Roles.Out peer

abbrev pub roles_of : List StationWord → List Role
roles_of words = map role_of words

-- ---- the same, as it is found

abbrev pub is_role_of : StationWord → Role → Bool
is_role_of (Station.In port) Roles.In = true
is_role_of (Station.In port) (Roles.Out peer) = false
is_role_of (Station.Out peer host port) Roles.In = false
is_role_of (Station.Out peer host port) (Roles.Out other) = bytes_eq other peer

-- a role for each word, in their order
abbrev pub are_roles_of : List StationWord → List Role → Bool
are_roles_of [] [] = true
are_roles_of [] (role ∷ roles) = false
are_roles_of (word ∷ words) [] = false
are_roles_of (word ∷ words) (role ∷ roles) = is_role_of word role && are_roles_of words roles
