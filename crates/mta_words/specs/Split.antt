-- How the words behind a command are split.
use Rattle.std.specs.Prelude.{◌≡◌, ◌≢◌, ℕ, Bool, true, false, List, [], ◌∷◌, Option, None}
use Rattle.std.specs.Prelude.{Some}
use Rattle.std.specs.Prelude.{option_map, codes}
use Rattle.clap.specs.declared.parser.matches.ArgMatches.{ArgMatches}
use Rattle.clap.specs.Words.{App, fault_of, first_value, found_of, matched_of, matches_of, raw_values, rows_of}

-- it does not begin with -
abbrev pub Undashed : List ℕ → Type 0
Undashed [] = Unit {0}
Undashed (c ∷ cs) = c ≢ 45

-- the words behind the first
abbrev pub behind : List (List ℕ) → List (List ℕ)
behind [] = []
behind (word ∷ words) = words

abbrev pub is_nothing : List (List ℕ) → Bool
is_nothing [] = true
is_nothing (word ∷ words) = false

-- the word, where it is the only one
abbrev pub only_word : List (List ℕ) → Option (List ℕ)
only_word (word ∷ []) = Some word
only_word _ = None

-- the first word and the others, where there are two or more
abbrev pub first_and_others : List (List ℕ) → Option (List ℕ × List (List ℕ))
first_and_others (word ∷ next ∷ words) = Some (word, next ∷ words)
first_and_others _ = None

-- a command of clap takes the words and has these matches, or does not take them
abbrev pub IsMatched : App → List (List ℕ) → Option ArgMatches → Type 0
IsMatched app words None = fault_of app words ≢ []
IsMatched app words (Some m) = (fault_of app words ≡ []) × (rows_of (found_of m) ≡ matches_of app words)

abbrev pub both : Option (List ℕ) → Option (List (List ℕ)) → Option (List ℕ × List (List ℕ))
both None others = None
both (Some word) None = None
both (Some word) (Some others) = Some (word, others)

-- the matches of `sessions` and of `stations`
abbrev pub matched_parts : ArgMatches → Option (List ℕ × List (List ℕ))
matched_parts m = both (first_value (found_of m) (codes "sessions"))
    (option_map raw_values (matched_of (found_of m) (codes "stations")))

-- the matches have the first word as `sessions` and the others as `stations`
abbrev pub IsServed : List (List ℕ) → Option ArgMatches → Type 0
IsServed words None = first_and_others words ≡ None
IsServed words (Some m) = first_and_others words ≡ matched_parts m
