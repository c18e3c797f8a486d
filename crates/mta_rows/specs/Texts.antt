-- What rows spell, and what is told of them.
use Rattle.std.specs.Prelude.{◌≡◌, ℕ, List, [], ◌∷◌, ◌++◌, ◌==◌, ◌<◌, ◌^◌, ◌&&◌, ◌||◌, not, nat_le, nat_lt, Bool, false}
use Rattle.std.specs.Prelude.{if◌then◌else◌, length, Ok}
use Rattle.std.specs.Fmt.{decimal}
use Rattle.std.specs.List.{after_first, before_first, flat_map, list_any, position_or_len, repeat, slice_split}
use Rattle.std.specs.Str.{bytes_eq}
use Rattle.std.specs.Str.Parse.{IsNumeral, digits_value, without_leading_plus}
use Rattle.hex.specs.Hex.{decode_of, encode_lower, encode_upper}

-- the octet that a character of a row stands for where it spells lines: `|` is a line feed
abbrev pub line_feed_for : ℕ → ℕ
line_feed_for c = if c == 124 then 10 else c

-- a numeral in decimal, which a plus may stand before, of a number that 64 bits hold
abbrev pub IsNumber : List ℕ → Type 0
IsNumber field = IsNumeral 10 (without_leading_plus field) × (digits_value 10 (without_leading_plus field) < 2 ^ 64)

-- its number
abbrev pub number_of : List ℕ → ℕ
number_of field = digits_value 10 (without_leading_plus field)

-- the words of a text, which has this character between two
abbrev pub words_between : ℕ → List ℕ → List (List ℕ)
words_between between text = slice_split (λ c. c == between) text

-- a numeral in decimal, which a plus may stand before, of a number that 32 bits hold
abbrev pub IsCount : List ℕ → Type 0
IsCount digits = IsNumeral 10 (without_leading_plus digits) × (digits_value 10 (without_leading_plus digits) < 2 ^ 32)

abbrev pub is_star : ℕ → Bool
is_star c = c == 42

-- the text of how often the octets of a word come: what stands behind its `*`, or 1
abbrev pub count_text : List ℕ → List ℕ
count_text word = if nat_lt (position_or_len is_star word) (length word) then after_first is_star word else 49 ∷ []

-- the octets that a word spells: those of its digits, as often as it says
abbrev pub SpellsWord : (word octets : List ℕ) → Type 0
SpellsWord word octets =
    (piece : List ℕ) × (decode_of (before_first is_star word) ≡ Ok piece) × IsCount (count_text word)
    × (octets ≡ repeat (number_of (count_text word)) piece)

-- the octets of words, one behind another, where those of one are such
abbrev pub Joined : (List ℕ → List ℕ → Type 0) → (words : List (List ℕ)) → (octets : List ℕ) → Type 0
Joined Is [] octets = octets ≡ []
Joined Is (word ∷ words) octets =
    (first others : List ℕ) × Is word first × Joined Is words others × (octets ≡ first ++ others)

-- the octets that a text spells, which has a space between two words
abbrev pub SpellsOctets : (text octets : List ℕ) → Type 0
SpellsOctets text octets = Joined SpellsWord (words_between 32 text) octets

-- the fields of a text, which has a tab between two
abbrev pub fields_of : List ℕ → List (List ℕ)
fields_of text = words_between 9 text

-- the first of these fields is this text or, where calls are left, another one is
abbrev pub is_wanted : (text : List ℕ) → (is_last : Bool) → List (List ℕ) → Bool
is_wanted text is_last [] = false
is_wanted text is_last (last ∷ others) = bytes_eq text last || not is_last && list_any (bytes_eq text) others

-- an octet that is printed as it is
abbrev pub is_plain : ℕ → Bool
is_plain c = (nat_le 32 c && nat_le c 126) && not (c == 124 || (c == 60 || c == 62))

-- how a row has an octet: `|` for a line feed, and in hexadecimal between `<` and `>` one that is not plain
abbrev pub shown_octet : ℕ → List ℕ
shown_octet c =
    if c == 10 then 124 ∷ [] else (if is_plain c then c ∷ [] else 60 ∷ encode_lower (c ∷ []) ++ 62 ∷ [])

abbrev pub shown_text : List ℕ → List ℕ
shown_text octets = flat_map shown_octet octets

-- octets in hexadecimal, a space before each
abbrev pub spaced_pairs : List ℕ → List ℕ
spaced_pairs octets = flat_map (λ c. 32 ∷ encode_upper (c ∷ [])) octets

-- octets in hexadecimal, one space between two
abbrev pub pairs_text : List ℕ → List ℕ
pairs_text [] = []
pairs_text (c ∷ octets) = encode_upper (c ∷ []) ++ spaced_pairs octets

-- a status, and behind a space what was printed
abbrev pub said_text : ℕ → List ℕ → List ℕ
said_text status printed = decimal status ++ 32 ∷ shown_text printed
