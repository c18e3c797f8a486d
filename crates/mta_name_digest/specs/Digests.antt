-- Digests of normal texts and of normal lists, numbers below 2 ^ 64. The same names have the same digest.
use Rattle.std.specs.Prelude.{ℕ, ◌+◌, ◌*◌, ◌%◌, ◌^◌, List, [], ◌∷◌, Option, Some, None}
use Rattle.mta_names.specs.Normal.{NormalPerson, NormalPair, NormalList}

-- one octet more
abbrev pub digest_step : ℕ → ℕ → ℕ
digest_step d c = ((d * 1099511628211) % 2 ^ 64 + c) % 2 ^ 64

-- a text, and its end
abbrev pub text_digest : ℕ → List ℕ → ℕ
text_digest d [] = digest_step d 0
text_digest d (c ∷ cs) = text_digest (digest_step d c) cs

abbrev pub option_digest : ℕ → Option (List ℕ) → ℕ
option_digest d None = digest_step d 1
option_digest d (Some t) = text_digest d t

abbrev pub texts_digest : ℕ → List (List ℕ) → ℕ
texts_digest d [] = digest_step d 2
texts_digest d (t ∷ ts) = texts_digest (text_digest d t) ts

abbrev pub person_digest : ℕ → Option NormalPerson → ℕ
person_digest d None = digest_step d 1
person_digest d (Some p) =
    option_digest (option_digest (option_digest (text_digest d p.surname) p.given) p.initials) p.generation

abbrev pub pairs_digest : ℕ → List NormalPair → ℕ
pairs_digest d [] = digest_step d 2
pairs_digest d (p ∷ ps) = pairs_digest (text_digest (text_digest d p.kind) p.value) ps

abbrev pub domain_digest : NormalList → ℕ
domain_digest n = option_digest (option_digest (option_digest (option_digest 0 n.country) n.admd) n.prmd) n.organization

abbrev pub person_and_units_digest : ℕ → NormalList → ℕ
person_and_units_digest d n = option_digest (person_digest (texts_digest d n.units) n.person) n.common

unfoldable pub name_digest : NormalList → ℕ
name_digest n =
    pairs_digest (option_digest (option_digest (option_digest (person_and_units_digest (domain_digest n) n) n.network)
    n.terminal) n.user) n.pairs
