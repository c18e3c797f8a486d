-- What words mean where octets have names.
use Rattle.std.specs.Prelude.{◌≡◌, ℕ, List, Bool, Option, option_map, string_bytes}
use Rattle.std.specs.List.{find}
use Rattle.std.specs.Option.{MatchOption}
use Rattle.std.specs.Str.{bytes_eq}
use Rattle.mta_rows.specs.declared.names.Named.{Named}
use Rattle.mta_rows.specs.Texts.{Joined, SpellsOctets, words_between}

abbrev pub is_named : (name : List ℕ) → Named → Bool
is_named name named = bytes_eq (string_bytes named.name) name

-- the octets that were first given this name
abbrev pub octets_named : List Named → (name : List ℕ) → Option (List ℕ)
octets_named all name = option_map (λ named. named.octets.items) (find (is_named name) all)

-- a word means the octets that have its name, or those that it spells
abbrev pub MeansWord : List Named → (word octets : List ℕ) → Type 0
MeansWord all word octets =
    MatchOption (octets_named all word) (SpellsOctets word octets) (λ named. octets ≡ named)

-- the octets of the words of a text, which has a space between two
abbrev pub MeansOctets : List Named → (text octets : List ℕ) → Type 0
MeansOctets all text octets = Joined (MeansWord all) (words_between 32 text) octets
